-- A store that was opened outlasts stops.
use Rattle.std.proofs.Common.{◌≡◌, ◌≤◌, inl, inr, ℕ, zero, suc, Bool, true, false, Some, List, [], ◌∷◌, length, take, slice_get, refl, sym, ◌∙◌, ap, subst, arith}
use Rattle.std.specs.Prelude.{◌==◌, ◌||◌, not}
use Rattle.std.proofs.lemmas.Bool.{true≢false}
use Rattle.std.proofs.lemmas.List.{length-map, take_all}
use Rattle.std.proofs.lemmas.Option.{same_Some, slice_get_past, slice_get_within}
use Rattle.extent_groups.specs.Groups.{Groups}
use Rattle.extent_groups.specs.Cells.{Cells}
use Rattle.extent_groups.specs.Planned.{after}
use Rattle.unit_store.specs.Views.{DriveView}
use Rattle.tiered_array.specs.Views.{TiersView}
use Rattle.vault.specs.Images.{Image, flat, is_lost, is_some_true, recovered}
use Rattle.vault.specs.Moments.{IsFront}
use Rattle.vault.specs.declared.store.Stop.{Stop}
use Rattle.vault.specs.declared.store.Stop.TheVariants.{Killed, PowerLost}
use Rattle.journaled_store.specs.Outlasting.{OpensBut, OutlastsSince, Point, Works, allowed, parts_of}
use Rattle.group_form.specs.Form.{HasGroups}
use Rattle.journaled_store.specs.Steps.{IsUpToDate, loss_mark}
use Rattle.journaled_store.proofs.Lasting.{begun}
use Rattle.journaled_store.proofs.Opening.{alone}
use Rattle.array_recovery.specs.Found.{IsTable, OnlyRead, is_marked}
use Rattle.array_recovery.specs.Reopened.{CoversGone, EndsAt, IsOpenedWith, IsSoundFor, marked}
use Rattle.array_recovery.proofs.Marking.{index_is}
use Rattle.array_recovery.proofs.Reopening.{there, bool_cases}

-- the marks, one by one
pub marked_is : (marks : List ℕ) (d : ℕ) → is_lost (marked marks) d ≡ is_marked marks d
marked_is [] d = refl
marked_is (m ∷ ms) zero = refl
marked_is (m ∷ ms) (suc d) = marked_is ms d

mark_says : (lost : Bool) → not (loss_mark lost == 0) ≡ lost
mark_says true = refl
mark_says false = refl

or_true : (a b : Bool) → a ≡ true → (a || b) ≡ true
or_true a b is = ap (λ x. x || b) is

-- a drive that is marked or absent, where each absent one is marked
one_of : (a b : Bool) → (b ≡ true → a ≡ true) → (a || b) ≡ true → a ≡ true
one_of true b back is = refl
one_of false b back is = back is

-- each stop may leave the same
one_list : {X : Type 0} (shows : TiersView → X → Type 0) (lost : List Bool) (list : List X) (groups : Groups) (count : ℕ) (c : Cells) (stop : Stop) → OpensBut shows lost list groups count c → OpensBut shows lost (allowed stop list list) groups count c
one_list shows lost list groups count c Killed o = o
one_list shows lost list groups count c PowerLost o = o

module _ {V X : Type 0} (shows : TiersView → X → Type 0) (seen : V → Image) (may_leave : V → Stop → Image → Type 0) (moment : V → ℕ) (left_since : V → Stop → ℕ → Image → Type 0)
    (what : X) (groups : Groups) (drives units : ℕ) (absent : List Bool) (vault : V) (is : IsSoundFor shows seen may_leave what groups drives units absent vault) where
  abbrev marks_were : List ℕ
  marks_were = is.left.kept.marks

  abbrev were_lost : List Bool
  were_lost = marked marks_were

  abbrev olds : List DriveView
  olds = is.left.tiers.world.array.parts.drives

  -- a drive of the old array was lost if it is marked
  mark_was : (d : ℕ) (v : DriveView) → slice_get olds d ≡ Some v → is_lost were_lost d ≡ v.lost
  mark_was d v e = marked_is marks_were d ∙ ap (λ mark. not (mark == 0)) (index_is marks_were d (loss_mark v.lost) (is.left.kept.reported.each d v e)) ∙ mark_says v.lost

  -- the vault has the units of one without a mark
  sure : (d : ℕ) (v : DriveView) → slice_get olds d ≡ Some v → is_lost were_lost d ≡ false → is_lost is.left.lost d ≡ false
  sure d v e not = elim (bool_cases (is_lost is.left.lost d)) [
    | inr out ↦ out
    | inl one ↦ (elim (is.left.excused d (let low = slice_get_within olds d v e in let many = is.left.many in omega (arith, low, many)) one) [
      | inl away ↦ absurd (true≢false (sym away))
      | inr was ↦ absurd (true≢false (sym was.2 ∙ sym (mark_was d was.0 was.1) ∙ not))
    ])
  ]

  opens_again : OpensBut shows were_lost (what ∷ []) groups drives (recovered (seen vault))
  opens_again = record {
    what = what;
    listed = alone what;
    tiers = is.left.tiers;
    shown = is.left.shown;
    groups_are = is.left.groups_are;
    many = is.left.many;
    table = is.left.table;
    one = is.left.one;
    kept = record {
      has = record { each = λ d at v e not. is.left.kept.has.each d at v e (sure d v e not) };
      marks = marks_were;
      noted = is.left.kept.noted;
      reported = is.left.kept.reported;
    };
    gone = λ d low one.
        let v = there olds d (let many = is.left.many in omega (arith, low, many)) in
        (v.0, v.1, sym (mark_was d v.0 v.1) ∙ one);
  }

  -- a store over a vault that was only read
  module _ (p : Point V) (read : OnlyRead seen may_leave moment left_since vault p.vault) (long : length p.noted ≡ 16) (table : IsTable p.noted (recovered (seen vault)))
      (opened : IsOpenedWith groups drives p.noted absent p.tiers)
      (live : (lost : List Bool) → CoversGone drives p.noted absent lost → EndsAt lost drives units (recovered (seen vault)) → IsUpToDate lost p.keeper p.noted p.batch (recovered (seen vault))) where
    noted_are : p.noted ≡ marks_were
    noted_are = same_Some _ _ (sym table ∙ is.left.kept.noted)

    covers : CoversGone drives p.noted absent were_lost
    covers d low one =
        marked_is marks_were d ∙ one_of (is_marked marks_were d) (is_lost absent d) (is.away d low) (subst (λ (l : List ℕ). (is_marked l d || is_lost absent d) ≡ true) noted_are one)

    all_opens : (n : ℕ) → length (seen p.vault).journal ≤ n
        → OpensBut shows were_lost (what ∷ []) (parts_of p.tiers).groups (length (parts_of p.tiers).drives) (after (seen p.vault).cells (flat (take n (seen p.vault).journal)))
    all_opens n least =
        subst (λ b. OpensBut shows were_lost (what ∷ []) (parts_of p.tiers).groups (length (parts_of p.tiers).drives) (after (seen p.vault).cells (flat b))) (sym (take_all n (seen p.vault).journal least))
        (subst (λ (i : Image). OpensBut shows were_lost (what ∷ []) (parts_of p.tiers).groups (length (parts_of p.tiers).drives) (recovered i)) (sym read.finds)
        (subst (λ many. OpensBut shows were_lost (what ∷ []) (parts_of p.tiers).groups many (recovered (seen vault))) (sym opened.many)
        (subst (λ g. OpensBut shows were_lost (what ∷ []) g drives (recovered (seen vault))) (sym opened.groups_are) opens_again)))

    pub works : Works shows seen may_leave p (what ∷ []) (what ∷ [])
    works = record {
      lost = were_lost;
      few = λ d high. ap is_some_true (slice_get_past were_lost d
          (let many = length-map marks_were (λ mark. not (mark == 0)) in let same = ap length noted_are in omega (arith, high, many, same, long)));
      gone = λ d one. opened.gone d (or_true (is_marked p.noted d) (is_lost absent d) (ap (λ (l : List ℕ). is_marked l d) noted_are ∙ sym (marked_is marks_were d) ∙ one));
      live = subst (λ (i : Image). IsUpToDate were_lost p.keeper p.noted p.batch (recovered i)) (sym read.finds) (live were_lost covers is.ends);
      table = subst (λ (i : Image). HasGroups (parts_of p.tiers).groups (length (parts_of p.tiers).drives) (recovered i)) (sym read.finds)
          (subst (λ many. HasGroups (parts_of p.tiers).groups many (recovered (seen vault))) (sym opened.many)
          (subst (λ g. HasGroups g drives (recovered (seen vault))) (sym opened.groups_are) is.left.table));
      low = λ stop. length (seen p.vault).journal;
      logged = λ stop. record {
        flushed = omega arith;
        leaves = λ i may. subst (λ (s : Image). IsFront were_lost s (length s.journal) i) (sym read.finds) ((is.logged stop).leaves i ((read.time stop).ends i may));
      };
      all = refl;
      opens = λ stop n least most. one_list shows were_lost (what ∷ []) (parts_of p.tiers).groups (length (parts_of p.tiers).drives) _ stop (all_opens n least);
    }

  -- what a stop leaves since before it was read
  pub opened_during : (known : V → Type 0) → ((v : V) → known v → (stop : Stop) (t : ℕ) (i : Image) → t ≤ moment v → may_leave v stop i → left_since v stop t i)
      → ((v : V) → known v → (stop : Stop) (i : Image) → left_since v stop (moment v) i → may_leave v stop i) → (p : Point V)
      → OnlyRead seen may_leave moment left_since vault p.vault → length p.noted ≡ 16 → IsTable p.noted (recovered (seen vault)) → IsOpenedWith groups drives p.noted absent p.tiers
      → ((lost : List Bool) → CoversGone drives p.noted absent lost → EndsAt lost drives units (recovered (seen vault)) → IsUpToDate lost p.keeper p.noted p.batch (recovered (seen vault)))
      → known vault → OutlastsSince shows left_since p (moment vault) (what ∷ []) (what ∷ [])
  opened_during known counts_now only_now p read long table opened live is_known stop i left =
      let was : Point V = record { keeper = p.keeper; noted = p.noted; batch = p.batch; failed = p.failed; tiers = p.tiers; vault = vault } in
      let same : OnlyRead seen may_leave moment left_since vault vault =
      record { finds = refl; time = λ s. record { later = omega arith; nothing_else = λ t j le then. inl then; keeps = λ t j le then. then; ends = λ j now. now } } in
      let out = begun shows known seen may_leave moment left_since counts_now only_now was (what ∷ []) (what ∷ []) is_known (works was same long table opened live) in
      elim ((read.time stop).nothing_else (moment vault) i (omega arith) left) [
        | inl past ↦ out.leaves stop i (only_now vault is_known stop i past)
        | inr now ↦ out.leaves stop i now
      ]
