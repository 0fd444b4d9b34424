-- A drive may be missing for the first time, and is marked as lost.
use Rattle.std.proofs.Common.{◌≡◌, ◌⊎◌, ℕ, zero, suc, ◌≤◌, Bool, true, false, Some, List, [], ◌∷◌, inl, inr, refl, sym, ◌∙◌, ap, subst, arith}
use Rattle.std.specs.Prelude.{◌||◌, ◌==◌, not, Contains, length, slice_get}
use Rattle.std.proofs.lemmas.Bool.{true≢false}
use Rattle.std.proofs.lemmas.List.{length-map, take_all}
use Rattle.std.proofs.lemmas.Option.{same_Some, slice_get_past, slice_get_within}
use Rattle.extent_groups.specs.Groups.{Groups}
use Rattle.extent_groups.specs.Cells.{Cells}
use Rattle.extent_groups.specs.Planned.{after}
use Rattle.unit_store.specs.Views.{DriveView, lost_of}
use Rattle.tiered_array.specs.Views.{TiersView}
use Rattle.vault.specs.Images.{Image, Matches, SameOn, flat, is_lost, is_some_true, recovered}
use Rattle.vault.specs.Moments.{AreLogged, IsFront, IsLogged, RepresentsSome}
use Rattle.vault.specs.declared.store.Stop.{Stop}
use Rattle.vault.specs.declared.store.Stop.TheVariants.{Killed}
use Rattle.vault.proofs.Writes.{front_matches}
use Rattle.byte_store.specs.Lasting.{Shown}
use Rattle.group_form.specs.Form.{HasGroups}
use Rattle.journaled_store.specs.Steps.{IsBeforeOrNow, IsPersisted, IsUpToDate, UnlessFailed, loss_mark}
use Rattle.journaled_store.specs.Left.{HasBoth, IsLeftOf, MissesOne}
use Rattle.journaled_store.specs.Outlasting.{OpensAs, OpensBut, Point, Works, allowed, parts_of}
use Rattle.journaled_store.proofs.Lasting.{Published, allowed_has, begun}
use Rattle.journaled_store.proofs.Opening.{alone, is_lost_in, opens_now}
use Rattle.journaled_store.proofs.Settled.{groups_on, kept_on, table_on}
use Rattle.array_recovery.specs.Found.{is_marked}
use Rattle.array_recovery.specs.Reopened.{CoversGone, EndsAt, IsSoundFor, marked}
use Rattle.array_recovery.proofs.Marking.{index_is}
use Rattle.array_recovery.proofs.Outlasting.{marked_is}
use Rattle.array_recovery.proofs.Reopening.{bool_cases, there}
use Rattle.vault_server.specs.Served.{HasBegun}
use Rattle.vault_server.specs.Missing.{IsOpenedBut, IsSoundBut, LeavesBut, OnceMarked, gone_of}
use Rattle.vault_server.proofs.Begun.{left_absent}

or_none : (b : Bool) → b ≡ (b || false)
or_none true = refl
or_none false = refl

neither : (a b : Bool) → (a || b) ≡ false → (a ≡ false) × (b ≡ false)
neither true b e = absurd (true≢false e)
neither false b e = (refl, e)

one_or_other : (a b : Bool) → (a || b) ≡ true → (a ≡ true) ⊎ (b ≡ true)
one_or_other true b e = inl refl
one_or_other false b e = inr e

none_of : (a b : Bool) → a ≡ false → b ≡ false → (a || b) ≡ false
none_of true b e f = e
none_of false b e f = f

mark_says : (lost : Bool) → not (loss_mark lost == 0) ≡ lost
mark_says true = refl
mark_says false = refl

-- the drives with a mark and the absent ones, one by one
gone_at : (marks : List ℕ) (absent : List Bool) (d : ℕ) → is_lost (gone_of marks absent) d ≡ (is_marked marks d || is_lost absent d)
gone_at [] absent d = refl
gone_at (mark ∷ marks) [] zero = or_none (not (mark == 0))
gone_at (mark ∷ marks) [] (suc d) = gone_at marks [] d
gone_at (mark ∷ marks) (away ∷ absent) zero = refl
gone_at (mark ∷ marks) (away ∷ absent) (suc d) = gone_at marks absent d

-- a drive that is neither isn't marked
no_mark : (marks : List ℕ) (absent : List Bool) (d : ℕ) → is_lost (gone_of marks absent) d ≡ false → is_lost (marked marks) d ≡ false
no_mark marks absent d on = marked_is marks d ∙ (neither (is_marked marks d) (is_lost absent d) (sym (gone_at marks absent d) ∙ on)).0

module _ {V : Type 0} (seen : V → Image) (may_leave : V → Stop → Image → Type 0) (groups : Groups) (drives units : ℕ) (absent : List Bool) (vault : V) where
  -- a vault whose absent drives are all marked
  pub sound_but : (what : Shown) → IsSoundFor HasBoth seen may_leave what groups drives units absent vault → IsSoundBut seen may_leave what groups drives units absent vault
  sound_but what is =
      let marks = is.left.kept.marks in record {
        left = left_absent what groups drives absent (recovered (seen vault)) is.left;
        ends = λ d at low on high. is.ends d at low (no_mark marks absent d on) high;
        logged = λ stop. let logged = is.logged stop in record {
          flushed = logged.flushed;
          leaves = λ i may. let front = logged.leaves i may in record {
            cells = record {
              there = λ x on. front.cells.there x (no_mark marks absent x.drive on);
              elsewhere = λ x on. front.cells.elsewhere x (no_mark marks absent x.drive on);
            };
            count = front.count;
            least = front.least;
            most = front.most;
            journal = front.journal;
          };
        };
      }

  -- what a stop leaves, opened as a vault of which each stop leaves all that calls find, whichever drives are absent
  pub sound_left : (list : List Shown) (o : OpensAs HasBoth list groups drives (recovered (seen vault))) → is_lost absent 16 ≡ false
      → ((lost : List Bool) → EndsAt lost drives units (recovered (seen vault))) → ((lost : List Bool) → AreLogged seen may_leave lost vault)
      → (what : Shown) × Contains list what × IsSoundBut seen may_leave what groups drives units absent vault
  sound_left list o table ends logged =
      let left = o.left absent (recovered (seen vault)) table (λ x on. refl) in
      (o.what, o.listed, record { left = left; ends = ends (gone_of left.kept.marks absent); logged = logged (gone_of left.kept.marks absent) })

-- what is left of an array, but for the drives with a mark and the absent ones
module _ (what : Shown) (groups : Groups) (drives : ℕ) (absent : List Bool) (c : Cells) (left : IsLeftOf HasBoth what groups drives absent c) where
  abbrev marks_were : List ℕ
  marks_were = left.kept.marks

  abbrev were_gone : List Bool
  were_gone = gone_of marks_were absent

  abbrev olds : List DriveView
  olds = left.tiers.world.array.parts.drives

  -- a drive of the array was lost if it has a mark
  mark_was : (d : ℕ) (v : DriveView) → slice_get olds d ≡ Some v → is_marked marks_were d ≡ v.lost
  mark_was d v e = ap (λ mark. not (mark == 0)) (index_is marks_were d (loss_mark v.lost) (left.kept.reported.each d v e)) ∙ mark_says v.lost

  -- the units of the others are there
  sure : (d : ℕ) (v : DriveView) → slice_get olds d ≡ Some v → is_lost were_gone d ≡ false → is_lost left.lost d ≡ false
  sure d v e on =
      let not_gone = neither (is_marked marks_were d) (is_lost absent d) (sym (gone_at marks_were absent d) ∙ on) in
      elim (bool_cases (is_lost left.lost d)) [
        | inr out ↦ out
        | inl one ↦ (elim (left.excused d (let low = slice_get_within olds d v e in let many = left.many in omega (arith, low, many)) one) [
          | inl away ↦ absurd (true≢false (sym away ∙ not_gone.1))
          | inr was ↦ absurd (true≢false (sym was.2 ∙ sym (mark_was d was.0 was.1) ∙ not_gone.0))
        ])
      ]

  -- so is what has the same units, but for those drives
  left_same : (d : Cells) → is_lost were_gone 16 ≡ false → SameOn were_gone d c → IsLeftOf HasBoth what groups drives absent d
  left_same d table same = record {
    tiers = left.tiers;
    shown = left.shown;
    groups_are = left.groups_are;
    many = left.many;
    table = groups_on groups drives c d (table_on were_gone c d table same) left.table;
    one = left.one;
    lost = were_gone;
    kept = kept_on were_gone olds c d table same (record {
      has = record { each = λ n at v e on. left.kept.has.each n at v e (sure n v e on) };
      marks = marks_were;
      noted = left.kept.noted;
      reported = left.kept.reported;
    });
    excused = λ n low is. elim (one_or_other (is_marked marks_were n) (is_lost absent n) (sym (gone_at marks_were absent n) ∙ is)) [
      | inr away ↦ inl away
      | inl one ↦ (let v = there olds n (let many = left.many in omega (arith, low, many)) in inr (v.0, v.1, sym (mark_was n v.0 v.1) ∙ one))
    ];
  }

module _ {V : Type 0} (known : V → Type 0) (seen : V → Image) (may_leave : V → Stop → Image → Type 0) (moment : V → ℕ) (left_since : V → Stop → ℕ → Image → Type 0)
    (counts_now : (vault : V) → known vault → (stop : Stop) (t : ℕ) (i : Image) → t ≤ moment vault → may_leave vault stop i → left_since vault stop t i)
    (only_now : (vault : V) → known vault → (stop : Stop) (i : Image) → left_since vault stop (moment vault) i → may_leave vault stop i)
    (what : Shown) (groups : Groups) (drives units : ℕ) (absent : List Bool) (vault : V) (p q : Point V)
    (o : IsOpenedBut known seen may_leave moment left_since what groups drives units absent vault p) (f : Published known seen may_leave moment left_since p q)
    (on : q.failed ≡ false) (one : MissesOne (parts_of q.tiers).drives)
    (kept : known p.vault → (lost : List Bool) → UnlessFailed p.failed (IsUpToDate lost p.keeper p.noted p.batch (recovered (seen p.vault)))
    → IsPersisted lost (parts_of q.tiers).drives (recovered (seen q.vault)))
    (durable : known p.vault → (lost : List Bool) (stop : Stop) (low : ℕ) → UnlessFailed p.failed (IsLogged seen may_leave lost stop p.vault low)
    → IsLogged seen may_leave lost stop q.vault (length (seen q.vault).journal)) where
  abbrev marks : List ℕ
  marks = o.sound.left.kept.marks

  abbrev missing : List Bool
  missing = gone_of marks absent

  noted_are : p.noted ≡ marks
  noted_are = same_Some _ _ (sym o.table ∙ o.sound.left.kept.noted)

  few : (d : ℕ) → 16 ≤ d → is_lost missing d ≡ false
  few d high =
      gone_at marks absent d ∙ none_of (is_marked marks d) (is_lost absent d)
      (sym (marked_is marks d) ∙ ap is_some_true (slice_get_past (marked marks) d
      (let many = length-map marks (λ mark. not (mark == 0)) in let same = ap length noted_are in let long = o.long in omega (arith, high, many, same, long))))
      (ap is_some_true (slice_get_past absent d (let wide = o.wide in omega (arith, high, wide))))

  table_there : is_lost missing 16 ≡ false
  table_there = few 16 (omega arith)

  losses : (d : ℕ) → is_lost missing d ≡ true → lost_of (parts_of p.tiers) d ≡ true
  losses d is = o.opened.gone d (subst (λ (l : List ℕ). (is_marked l d || is_lost absent d) ≡ true) (sym noted_are) (sym (gone_at marks absent d) ∙ is))

  covers : CoversGone drives p.noted absent missing
  covers d low is = gone_at marks absent d ∙ subst (λ (l : List ℕ). (is_marked l d || is_lost absent d) ≡ true) noted_are is

  live : IsUpToDate missing p.keeper p.noted p.batch (recovered (seen p.vault))
  live = subst (λ (i : Image). IsUpToDate missing p.keeper p.noted p.batch (recovered i)) (sym o.read.finds) (o.live missing covers o.sound.ends)

  logged : (stop : Stop) → IsLogged seen may_leave missing stop p.vault (length (seen p.vault).journal)
  logged stop = record {
    flushed = omega arith;
    leaves = λ i may. subst (λ (s : Image). IsFront missing s (length s.journal) i) (sym o.read.finds) ((o.sound.logged stop).leaves i ((o.read.time stop).ends i may));
  }

  -- the groups of the vault's table are the array's
  groups_was : HasGroups (parts_of p.tiers).groups (length (parts_of p.tiers).drives) (recovered (seen p.vault))
  groups_was = subst (λ (i : Image). HasGroups (parts_of p.tiers).groups (length (parts_of p.tiers).drives) (recovered i)) (sym o.read.finds)
      (subst (λ many. HasGroups (parts_of p.tiers).groups many (recovered (seen vault))) (sym o.opened.many)
      (subst (λ g. HasGroups g drives (recovered (seen vault))) (sym o.opened.groups_are) o.sound.left.table))

  groups_now : HasGroups (parts_of q.tiers).groups (length (parts_of q.tiers).drives) (recovered (seen q.vault))
  groups_now = subst (λ (t : TiersView). HasGroups (parts_of t).groups (length (parts_of t).drives) (recovered (seen q.vault))) (sym f.tiers)
      (groups_on (parts_of p.tiers).groups (length (parts_of p.tiers).drives) (recovered (seen p.vault)) (recovered (seen q.vault)) (f.rest o.is_known missing (λ is. live) on) groups_was)

  gone_now : (d : ℕ) → is_lost missing d ≡ true → lost_of (parts_of q.tiers) d ≡ true
  gone_now = subst (λ (t : TiersView). (d : ℕ) → is_lost missing d ≡ true → lost_of (parts_of t) d ≡ true) (sym f.tiers) losses

  -- the vault has all that the drives hold, durably
  works : Works HasBoth seen may_leave q (what ∷ []) (what ∷ [])
  works = record {
    lost = missing;
    few = few;
    gone = gone_now;
    live = f.step o.is_known missing (λ is. live) on;
    table = groups_now;
    low = λ stop. length (seen q.vault).journal;
    logged = λ stop. durable o.is_known missing stop (length (seen p.vault).journal) (λ is. logged stop);
    all = refl;
    opens = λ stop n least most. subst (λ b. OpensBut HasBoth missing (allowed stop (what ∷ []) (what ∷ [])) (parts_of q.tiers).groups (length (parts_of q.tiers).drives) (after (seen q.vault).cells (flat b)))
        (sym (take_all n (seen q.vault).journal least))
        (opens_now HasBoth missing table_there (parts_of q.tiers).groups (length (parts_of q.tiers).drives) (allowed stop (what ∷ []) (what ∷ [])) q.tiers what (recovered (seen q.vault)) refl refl gone_now one
        (subst (λ (t : TiersView). HasBoth t what) (sym f.tiers) o.shown) (allowed_has stop (what ∷ []) (what ∷ []) what (alone what) (alone what)) (kept o.is_known missing (λ is. live)) groups_now);
  }

  -- what a stop leaves that has all batches
  all_left : (i : Image) → RepresentsSome missing (seen vault).cells (length (seen vault).journal) (seen vault).journal i → IsLeftOf HasBoth what groups drives absent (recovered i)
  all_left i some = left_same what groups drives absent (recovered (seen vault)) o.sound.left (recovered i) table_there
      (subst (λ b. Matches missing (after (seen vault).cells (flat b)) i) (take_all some.count (seen vault).journal some.least) some.matches)

  -- what one leaves during the call
  during : (i : Image) → IsBeforeOrNow missing (seen p.vault) (length (seen p.vault).journal) (parts_of p.tiers).drives i → IsLeftOf HasBoth what groups drives absent (recovered i)
  during i (inl some) = all_left i (subst (λ (s : Image). RepresentsSome missing s.cells (length s.journal) s.journal i) o.read.finds some)
  during i (inr (c, matches, has, rest)) = record {
    tiers = p.tiers;
    shown = o.shown;
    groups_are = o.opened.groups_are;
    many = o.opened.many;
    table = groups_on groups drives c (recovered i) (table_on missing c (recovered i) table_there matches)
        (groups_on groups drives (recovered (seen p.vault)) c rest (subst (λ (i : Image). HasGroups groups drives (recovered i)) (sym o.read.finds) o.sound.left.table));
    one = subst (λ (t : TiersView). MissesOne (parts_of t).drives) f.tiers one;
    lost = missing;
    kept = kept_on missing (parts_of p.tiers).drives c (recovered i) table_there matches has;
    excused = λ n low is. inr (is_lost_in (parts_of p.tiers) n (let many = o.opened.many in omega (arith, low, many)) (losses n is));
  }

  before : LeavesBut left_since what groups drives absent q.vault (moment vault)
  before stop i left =
      elim ((f.any_moment o.is_known missing (λ is. live) stop (length (seen p.vault).journal) (logged stop)).before (moment vault) i (o.read.time stop).later left) [
        | inr is ↦ during i is
        | inl was ↦ (elim ((o.read.time stop).nothing_else (moment vault) i (omega arith) was) [
          | inl past ↦ all_left i (front_matches missing (seen vault) i (length (seen vault).journal) ((o.sound.logged stop).leaves i (only_now vault o.was_known stop i past)))
          | inr now ↦ all_left i (front_matches missing (seen vault) i (length (seen vault).journal) ((o.sound.logged stop).leaves i now))
        ])
      ]

  -- the marks of all lost drives are durable
  pub once_marked : OnceMarked known moment left_since what groups drives absent vault (λ t. HasBegun known seen may_leave moment left_since t what q)
  once_marked =
      let is_known = f.stays o.is_known in
      let out = begun HasBoth known seen may_leave moment left_since counts_now only_now q (what ∷ []) (what ∷ []) is_known works in
      let read = (o.read.time Killed).later in
      let published = (f.any_moment o.is_known missing (λ is. live) Killed (length (seen p.vault).journal) (logged Killed)).later in record {
        marked = q.vault;
        is_known = is_known;
        later = omega (arith, read, published);
        before = before;
        since = record { early = omega arith; now = out; then = λ stop i left. out.leaves stop i (only_now q.vault is_known stop i left) };
      }
