-- Units with those of a drive that was replaced are those of an array of which no drive is lost.
use Rattle.std.proofs.Common.{◌≡◌, ◌≢◌, ◌<◌, ◌≤◌, inl, inr, ℕ, zero, suc, Bool, true, false, Option, Some, None, is_some, List, [], ◌∷◌, length, slice_get, refl, sym, ◌∙◌, ap, subst, arith, if◌then◌else◌}
use Rattle.std.specs.Prelude.{◌==◌, not, slice_index_or}
use Rattle.std.proofs.lemmas.Bool.{eqb-true, true≢false}
use Rattle.std.proofs.lemmas.List.{length-set}
use Rattle.std.proofs.lemmas.Option.{same_Some, slice_get_cases, slice_get_past, slice_get_within}
use Rattle.extent_groups.specs.declared.place.Place.{Place}
use Rattle.extent_groups.specs.Groups.{AreGroups, Groups}
use Rattle.extent_groups.specs.Cells.{Cells, cell, cells, held}
use Rattle.extent_groups.specs.Planned.{after}
use Rattle.extent_groups.specs.Stores.{AreDrives, AreSound}
use Rattle.extent_groups.proofs.Places.{same_or_not, get-set_other, get-set_same}
use Rattle.unit_store.specs.Views.{DriveView, drive_cells, drive_lost, drive_units}
use Rattle.tiered_array.specs.Views.{TiersView}
use Rattle.vault.specs.Images.{Image, Matches, is_lost, recovered}
use Rattle.vault.specs.declared.store.Stop.{Stop}
use Rattle.vault.proofs.Writes.{front_torn, torn_matches}
use Rattle.group_form.specs.Form.{HasGroups}
use Rattle.journaled_store.specs.Left.{IsLeftOf, IsLostIn}
use Rattle.journaled_store.specs.Outlasting.{OpensAs, OpensBut, parts_of}
use Rattle.journaled_store.specs.Steps.{IsPersisted, loss_mark, table_write}
use Rattle.journaled_store.proofs.Opening.{alone, opens_as, opens_on}
use Rattle.journaled_store.proofs.Settled.{groups_on}
use Rattle.array_recovery.specs.Found.{is_marked}
use Rattle.array_recovery.specs.Reopened.{EndsAt, marked}
use Rattle.array_recovery.proofs.Marking.{index_is}
use Rattle.array_recovery.proofs.Outlasting.{marked_is}
use Rattle.array_recovery.proofs.Reopening.{bool_cases}
use Rattle.array_recovery.proofs.Replaying.{write_else, write_here}
use Rattle.drive_rebuild.specs.Rebuilt.{AreMarkedLost, IsBeforeOrReplaced, IsReplaced, IsReplacedIn, HasAllDrives}
use Rattle.drive_rebuild.specs.Written.{unmarked}
use Rattle.drive_rebuild.proofs.Restated.{KeepsShown, ShowToo, with_drives}
use Rattle.drive_rebuild.proofs.Shown.{of_view, shows_whole, there}

-- a mark, and what it says
pub mark_says : (b : Bool) → not (loss_mark b == 0) ≡ b
mark_says true = refl
mark_says false = refl

no_mark : (m : ℕ) → not (m == 0) ≡ false → m ≡ 0
no_mark m e = elim (bool_cases (m == 0)) [ inl is ↦ eqb-true m 0 is | inr out ↦ absurd (true≢false (sym (ap not out) ∙ e)) ]

index_past : (xs : List ℕ) (i : ℕ) → length xs ≤ i → slice_index_or xs i 0 ≡ 0
index_past [] i high = refl
index_past (x ∷ xs) zero high = absurd (omega (arith, high))
index_past (x ∷ xs) (suc i) high = index_past xs i (omega (arith, high))

pub past_marks : (marks : List ℕ) (d : ℕ) → length marks ≤ d → is_marked marks d ≡ false
past_marks marks d high = ap (λ n. not (n == 0)) (index_past marks d high)

pub table_kept : (marks : List ℕ) → length marks ≡ 16 → is_lost (marked marks) 16 ≡ false
table_kept marks wide = marked_is marks 16 ∙ past_marks marks 16 (omega (arith, wide))

none_of : (o p : Option (List ℕ)) → is_some o ≡ is_some p → p ≡ None → o ≡ None
none_of None p same e = refl
none_of (Some u) p same e = absurd (true≢false (same ∙ ap (λ (q : Option (List ℕ)). is_some q) e))

abbrev at : ℕ → ℕ → Place
at d address = record { drive = d; address = address }

-- what is left of an array of which drives are lost
module _ {X : Type 0} (shows : TiersView → X → Type 0) (what : X) (groups : Groups) (drives : ℕ) (before : Cells) (left : IsLeftOf shows what groups drives [] before)
    (lost : List Bool) (lost_are : AreMarkedLost drives lost before) where
  abbrev olds : List DriveView
  olds = (parts_of left.tiers).drives

  -- a drive was lost if it is marked
  was_lost : (d : ℕ) (v : DriveView) → slice_get olds d ≡ Some v → is_lost lost d ≡ v.lost
  was_lost d v e = lost_are.each left.kept.marks left.kept.noted d (let low = slice_get_within olds d v e in let many = left.many in omega (arith, low, many)) ∙ ap (λ m. not (m == 0)) (index_is left.kept.marks d (loss_mark v.lost) (left.kept.reported.each d v e)) ∙ mark_says v.lost

  -- the vault has the units of one that wasn't
  sure : (d : ℕ) (v : DriveView) → slice_get olds d ≡ Some v → v.lost ≡ false → is_lost left.lost d ≡ false
  sure d v e alive = elim (bool_cases (is_lost left.lost d)) [
    | inr out ↦ out
    | inl one ↦ (elim (left.excused d (let low = slice_get_within olds d v e in let many = left.many in omega (arith, low, many)) one) [
      | inl away ↦ absurd (true≢false (sym away))
      | inr was ↦ absurd (true≢false (sym was.2 ∙ ap (λ (w : DriveView). w.lost) (same_Some _ _ (sym was.1 ∙ e)) ∙ alive))
    ])
  ]

  opens_before : OpensBut shows lost (what ∷ []) groups drives before
  opens_before = record {
    what = what;
    listed = alone what;
    tiers = left.tiers;
    shown = left.shown;
    groups_are = left.groups_are;
    many = left.many;
    table = left.table;
    one = left.one;
    kept = record {
      has = record { each = λ d a v e not. left.kept.has.each d a v e (sure d v e (sym (was_lost d v e) ∙ not)) };
      marks = left.kept.marks;
      noted = left.kept.noted;
      reported = left.kept.reported;
    };
    gone = λ d low one. let v = there olds d (let many = left.many in omega (arith, low, many)) in (v.0, v.1, sym (was_lost d v.0 v.1) ∙ one);
  }

  pub before_opens : (i : Image) → Matches lost before i → OpensAs shows (what ∷ []) groups drives (recovered i)
  before_opens i matches =
      opens_as shows lost lost_are.table groups drives (what ∷ []) (recovered i)
      (opens_on shows lost lost_are.table groups drives (what ∷ []) before (recovered i) matches opens_before)

  -- an image with the drive's new units
  module _ (keeps : KeepsShown shows) (units number : ℕ) (ends : EndsAt [] drives units before) (i : Image) (is : IsReplacedIn groups drives units number lost before i) where
    abbrev views : List DriveView
    views = is.verified.views

    abbrev marks_now : List ℕ
    marks_now = unmarked is.marks number

    abbrev counts : List Bool
    counts = marked marks_now

    few : drives ≤ 16
    few = let low = is.verified.few in let many = is.verified.many in omega (arith, low, many)

    many : length views ≡ length olds
    many = is.verified.many ∙ sym left.many

    is_mark : (d : ℕ) (v : DriveView) → slice_get olds d ≡ Some v → is_marked is.marks d ≡ v.lost
    is_mark d v e = sym (lost_are.each is.marks is.table d (let low = slice_get_within olds d v e in let many = left.many in omega (arith, low, many))) ∙ was_lost d v e

    past : (d a : ℕ) → d < drives → units ≤ a → is.ready d a ≡ None
    past d a low high = none_of (is.ready d a) (before d a) (is.there (at d a) low) (ends d a low refl high)

    lies : (d a : ℕ) (v : DriveView) → slice_get views d ≡ Some v → is.ready d a ≡ slice_get v.units a
    lies d a v e = elim (slice_get_cases v.units a).1 [
      | inl some ↦ is.verified.lies d a v e some.1
      | inr none ↦
          (let high = none.0 in let long = is.verified.long d v e in let low = slice_get_within views d v e in let all = is.verified.many in
          past d a (omega (arith, low, all)) (omega (arith, high, long)) ∙ sym none.1)
    ]

    same : (x : Place) → x.drive ≢ number → held (drive_cells (parts_of left.tiers)) x ≡ held (cells drive_units drive_lost views) x
    same x ne = elim (slice_get_cases views x.drive).1 [
      | inl some ↦
          (let below : x.drive < drives = (let low = some.1 in let all = is.verified.many in omega (arith, low, all)) in
          let old = there olds x.drive (let all = left.many in omega (arith, below, all)) in
          let out : is_marked is.marks x.drive ≡ false = is.only.others x.drive below ne in
          let alive : old.0.lost ≡ false = sym (is_mark x.drive old.0 old.1) ∙ out in
          of_view (slice_get olds x.drive) old.0 x.address old.1 alive
          ∙ sym (left.kept.has.each x.drive x.address old.0 old.1 (sure x.drive old.0 old.1 alive))
          ∙ sym (is.same x (lost_are.each is.marks is.table x.drive below ∙ out))
          ∙ lies x.drive x.address some.0 some.2
          ∙ sym (of_view (slice_get views x.drive) some.0 x.address some.2 (is.verified.alive x.drive some.0 some.2)))
      | inr none ↦
          ap (λ (o : Option DriveView). cell drive_units drive_lost o x.address) (slice_get_past olds x.drive (let high = none.0 in omega (arith, high, many)))
          ∙ sym (ap (λ (o : Option DriveView). cell drive_units drive_lost o x.address) none.1)
    ]

    none : (x : Place) → x.drive ≡ number → held (drive_cells (parts_of left.tiers)) x ≡ None
    none x e =
        let old = there olds x.drive (let low = is.only.inside in let all = left.many in omega (arith, low, all, e)) in
        let gone : old.0.lost ≡ true = sym (is_mark x.drive old.0 old.1) ∙ ap (λ d. is_marked is.marks d) e ∙ is.only.marked in
        ap (λ (o : Option DriveView). cell drive_units drive_lost o x.address) old.1 ∙ ap (λ b. if b then None else slice_get old.0.units x.address) gone

    show : ShowToo left.tiers views
    show T matches = shows_whole (parts_of left.tiers).groups (subst AreGroups (sym left.groups_are) is.verified.formed) views
        (subst (λ (g : Groups). AreDrives drive_units g views) (sym left.groups_are) is.verified.fit) is.verified.alive number (drive_cells (parts_of left.tiers)) same none T.flat.units
        (subst (λ (g : Groups). AreSound g (cells drive_units drive_lost views)) (sym left.groups_are) is.verified.sound) matches.world.array.units

    -- no drive is marked
    zero_at : (d : ℕ) → d < drives → slice_get marks_now d ≡ Some 0
    zero_at d low = elim (same_or_not d number) [
      | inl here ↦ ap (λ k. slice_get marks_now k) here ∙ get-set_same is.marks number 0 (let inside = is.only.inside in let wide = is.wide in omega (arith, inside, few, wide))
      | inr ne ↦
          (let m = there is.marks d (let wide = is.wide in omega (arith, low, few, wide)) in
          get-set_other is.marks number d 0 ne ∙ m.1 ∙ ap (λ n. Some n) (no_mark m.0 (ap (λ n. not (n == 0)) (sym (index_is is.marks d m.0 m.1)) ∙ is.only.others d low ne)))
    ]

    pub none_marked : (d : ℕ) → d < drives → is_marked marks_now d ≡ false
    none_marked d low = ap (λ n. not (n == 0)) (index_is marks_now d 0 (zero_at d low))

    wide_now : length marks_now ≡ 16
    wide_now = length-set is.marks number 0 ∙ is.wide

    table_now : is_lost counts 16 ≡ false
    table_now = table_kept marks_now wide_now

    found : after is.ready (table_write marks_now ∷ []) 16 0 ≡ Some marks_now
    found = write_here is.ready (at 16 0) marks_now is.marks 16 0 refl refl
        (is.same (at 16 0) lost_are.table ∙ is.table)

    beside : (d a : ℕ) → d < drives → after is.ready (table_write marks_now ∷ []) d a ≡ is.ready d a
    beside d a low = write_else is.ready (at 16 0) marks_now d a (inl (λ e. absurd (omega (arith, low, few, e))))

    below : (d : ℕ) (v : DriveView) → slice_get views d ≡ Some v → d < drives
    below d v e = let low = slice_get_within views d v e in let all = is.verified.many in omega (arith, low, all)

    abbrev persisted : IsPersisted counts views (recovered i)
    persisted = record {
      has = record { each = λ d a v e not. is.matches (at d a) not ∙ beside d a (below d v e) ∙ lies d a v e };
      marks = marks_now;
      noted = is.matches (at 16 0) table_now ∙ found;
      reported = record { each = λ d v e. zero_at d (below d v e) ∙ ap (λ b. Some (loss_mark b)) (sym (is.verified.alive d v e)) };
    }

    -- the table has the groups that it had
    groups_now : HasGroups groups drives (recovered i)
    groups_now = groups_on groups drives before (recovered i)
        (λ a. is.matches (at 16 (suc a)) table_now ∙ (write_else is.ready (at 16 0) marks_now 16 (suc a) (inr (λ e. absurd (omega (arith, e)))) ∙ is.same (at 16 (suc a)) lost_are.table))
        left.table

    not_lost : (d : ℕ) → IsLostIn views d → ⊥
    not_lost d (v, e, gone) = true≢false (sym gone ∙ is.verified.alive d v e)

    shown : shows (with_drives left.tiers views) what
    shown = keeps left.tiers views what many show left.shown

    uncounted : (d : ℕ) → d < drives → is_lost counts d ≡ true → ⊥
    uncounted d low one = true≢false (sym one ∙ marked_is marks_now d ∙ none_marked d low)

    opens : OpensBut shows counts (what ∷ []) groups drives (recovered i)
    opens = record {
      what = what;
      listed = alone what;
      tiers = with_drives left.tiers views;
      shown = shown;
      groups_are = left.groups_are;
      many = is.verified.many;
      table = groups_now;
      one = λ d e a b. absurd (not_lost d a);
      kept = persisted;
      gone = λ d low one. absurd (uncounted d low one);
    }

    pub replaced_opens : OpensAs shows (what ∷ []) groups drives (recovered i)
    replaced_opens = opens_as shows counts table_now groups drives (what ∷ []) (recovered i) opens

    abbrev left_now : IsLeftOf shows what groups drives [] (recovered i)
    left_now = record {
      tiers = with_drives left.tiers views;
      shown = shown;
      groups_are = left.groups_are;
      many = is.verified.many;
      table = groups_now;
      one = λ d e a b. absurd (not_lost d a);
      lost = counts;
      kept = persisted;
      excused = λ d low one. absurd (uncounted d low one);
    }

    ends_now : EndsAt counts drives units (recovered i)
    ends_now d a low not high = is.matches (at d a) not ∙ beside d a low ∙ past d a low high

    -- what a stop leaves is of the same units
    pub left_opens : (j : Image) → Matches counts (recovered i) j → OpensAs shows (what ∷ []) groups drives (recovered j)
    left_opens j matches =
        opens_as shows counts table_now groups drives (what ∷ []) (recovered j)
        (opens_on shows counts table_now groups drives (what ∷ []) (recovered i) (recovered j) matches opens)

  pub whole : {V : Type 0} (seen : V → Image) (may_leave : V → Stop → Image → Type 0) (keeps : KeepsShown shows) (units number : ℕ) (ends : EndsAt [] drives units before) (vault : V)
      → IsReplaced seen may_leave groups drives units number lost before vault → HasAllDrives shows seen may_leave what groups drives units vault
  whole seen may_leave keeps units number ends vault is = record {
    sound = record {
      left = left_now keeps units number ends (seen vault) is.inside;
      away = λ d low one. absurd (true≢false (sym one));
      ends = ends_now keeps units number ends (seen vault) is.inside;
      logged = is.durable;
    };
    none_marked = none_marked keeps units number ends (seen vault) is.inside;
    leaves = λ stop j now. left_opens keeps units number ends (seen vault) is.inside j
        (torn_matches (marked (unmarked is.inside.marks number)) (seen vault) j (front_torn (marked (unmarked is.inside.marks number)) (seen vault) j ((is.durable stop).leaves j now)));
  }

  -- what a stop leaves while a drive is replaced
  pub opens_either : (keeps : KeepsShown shows) (units number : ℕ) → EndsAt [] drives units before → (i : Image) → IsBeforeOrReplaced groups drives units number lost before i
      → OpensAs shows (what ∷ []) groups drives (recovered i)
  opens_either keeps units number ends i (inl was) = before_opens i was
  opens_either keeps units number ends i (inr is) = replaced_opens keeps units number ends i is
