-- A vault that gives up its array's last drive: what it has before and after, and what a stop leaves.
use Rattle.std.proofs.Common.{◌≡◌, ◌≢◌, ◌+◌, ◌-◌, ◌<◌, ◌≤◌, inl, inr, ℕ, suc, Bool, false, Some, List, [], slice_get, sym, ◌∙◌, ap, arith}
use Rattle.std.proofs.lemmas.Bool.{cases_lt, true≢false}
use Rattle.std.proofs.lemmas.Option.{same_Some}
use Rattle.extents.specs.declared.shape.Shape.{Shape}
use Rattle.extent_groups.specs.Cells.{Cells}
use Rattle.extent_groups.specs.Groups.{Groups}
use Rattle.unit_store.specs.Views.{DriveView}
use Rattle.tiered_array.specs.Views.{TiersView}
use Rattle.byte_store.specs.Lasting.{Shown}
use Rattle.vault.specs.Images.{Image, SameOn, is_lost, recovered}
use Rattle.vault.specs.declared.store.Stop.{Stop}
use Rattle.journaled_store.specs.Left.{HasBoth, IsLeftOf}
use Rattle.journaled_store.specs.Outlasting.{parts_of}
use Rattle.journaled_store.proofs.Settled.{groups_on}
use Rattle.array_recovery.specs.Found.{IsTable, is_marked}
use Rattle.array_recovery.proofs.Reopening.{bool_cases}
use Rattle.drive_rebuild.specs.Rebuilt.{AreMarkedLost, CanBeRebuilt}
use Rattle.drive_rebuild.proofs.Rebuilding.{before_opens}
use Rattle.drive_rebuild.proofs.Underway.{now_matches}
use Rattle.array_batch.proofs.Batching.{at}
use Rattle.array_batch.proofs.Opening.{array_on, left_now, opens_array, opens_same}
use Rattle.drive_removal.specs.Removed.{CanShrink, HasOthers, IsBeforeOrRemoved, IsRemoved, IsRemovedIn, IsWholeWithout, MarksOnly, OpensBeforeOrWithout}
use Rattle.drive_removal.proofs.Lists.{no_mark, past_marks, unlost}

-- which drives are out of use, where the table marks no drive but this one
module _ (number : ℕ) (counts : List Bool) (c : Cells) (marked : MarksOnly number counts c) where
  pub table_counts : is_lost counts 16 ≡ false
  table_counts = let wide = marked.wide in marked.counts_are 16 ∙ past_marks marked.marks 16 (omega (arith, wide))

  pub other_counts : (d : ℕ) → d ≢ number → d < 16 → is_lost counts d ≡ false
  other_counts d ne low = marked.counts_are d ∙ no_mark marked.marks d (marked.others d low ne)

-- the array that a vault has of which the table marks no drive but the last
module _ (what : Shown) (groups : Groups) (drives : ℕ) (before : Cells) (left : IsLeftOf HasBoth what groups drives [] before) (counts : List Bool) (marked : MarksOnly (drives - 1) counts before) where
  abbrev olds : List DriveView
  olds = (parts_of left.tiers).drives

  pub few : drives ≤ 16
  few =
      let most = left.shown.holds.matches.world.array.history.limits.most in
      let count = left.shown.holds.matches.world.array.tables.drives in
      let all = left.many in
      omega (arith, most, count, all)

  pub others_count : (d : ℕ) → d + 1 < drives → is_lost counts d ≡ false
  others_count d low = let most = few in other_counts (drives - 1) counts before marked d (λ e. omega (arith, low, e)) (omega (arith, low, most))

  was_there : (d : ℕ) (v : DriveView) → d + 1 < drives → slice_get olds d ≡ Some v → v.lost ≡ false
  was_there d v low is =
      let same : left.kept.marks ≡ marked.marks = same_Some _ _ (sym left.kept.noted ∙ marked.table) in
      let most = few in
      unlost v.lost (same_Some _ _ (sym (left.kept.reported.each d v is) ∙ ap (λ (l : List ℕ). slice_get l d) same ∙ marked.others d (omega (arith, low, most)) (λ e. omega (arith, low, e))))

  sure : (d : ℕ) (v : DriveView) → d + 1 < drives → slice_get olds d ≡ Some v → is_lost left.lost d ≡ false
  sure d v low is = elim (bool_cases (is_lost left.lost d)) [
    | inr out ↦ out
    | inl one ↦ (elim (left.excused d (omega (arith, low)) one) [
      | inl away ↦ absurd (true≢false (sym away))
      | inr was ↦ absurd (true≢false (sym was.2 ∙ was_there d was.0 low was.1))
    ])
  ]

  pub others_there : (c : Cells) → SameOn counts c before → HasOthers what groups drives c
  others_there c same = record {
    tiers = left.tiers;
    shows = left.shown;
    groups_are = left.groups_are;
    many = left.many;
    alive = was_there;
    units = λ d a v low is. same (at d a) (others_count d low) ∙ left.kept.has.each d a v is (sure d v low is);
    table = groups_on groups drives before c (λ a. same (at 16 (suc a)) (table_counts (drives - 1) counts before marked)) left.table;
    marks = marked.marks;
    marked = same (at 16 0) (table_counts (drives - 1) counts before marked) ∙ marked.table;
  }

-- the same units, but for those of drives that aren't the array's, have the same array
pub removed_on : (counts : List Bool) (what : Shown) (shape : Shape) (old : Groups) (drives units : ℕ) (c d : Cells) → is_lost counts 16 ≡ false → ((k : ℕ) → k < drives → is_lost counts k ≡ false)
    → SameOn counts d c → IsRemovedIn what shape old drives units c → IsRemovedIn what shape old drives units d
removed_on counts what shape old drives units c d few others same is = record {
  groups = is.groups;
  sizes = is.sizes;
  kept = is.kept;
  array = array_on counts what is.groups drives c d few others same is.array;
  wide = λ marks table. is.wide marks (sym (same (at 16 0) few) ∙ table);
  ends = λ k a low not high. same (at k a) (others k low) ∙ is.ends k a low not high;
}

-- an array that shows this, of which no drive is lost or marked
module _ {X : Type 0} (shows : TiersView → X → Type 0) (x : X) (what : Shown) (give : (t : TiersView) → HasBoth t what → shows t x) (shape : Shape) (old : Groups) (drives units : ℕ) where
  -- no number has a mark
  unmarked : (c : Cells) (is : IsRemovedIn what shape old drives units c) (marks : List ℕ) → IsTable marks c → (d : ℕ) → is_marked marks d ≡ false
  unmarked c is marks table d = elim (cases_lt d 16) [
    | inl low ↦
        no_mark marks d (ap (λ (l : List ℕ). slice_get l d) (same_Some marks is.array.unmarked.marks (sym table ∙ is.array.unmarked.table)) ∙ is.array.unmarked.clear d low)
    | inr high ↦ (let wide = is.wide marks table in past_marks marks d (omega (arith, wide, high)))
  ]

  pub whole_without : {V : Type 0} (seen : V → Image) (may_leave : V → Stop → Image → Type 0) (moment : V → ℕ) (left_since : V → Stop → ℕ → Image → Type 0) (vault : V)
      → IsRemoved seen may_leave what shape old drives units vault → IsWholeWithout shows seen may_leave x shape old drives units vault
  whole_without seen may_leave moment left_since vault removed = record {
    groups = removed.inside.groups;
    sizes = removed.inside.sizes;
    kept = removed.inside.kept;
    sound = record {
      left = left_now shows x what give removed.inside.groups drives (recovered (seen vault)) removed.inside.array;
      ends = removed.inside.ends;
      lost = removed.counts;
      lost_are = record {
        table = removed.few;
        each = λ marks table d low. removed.others d low ∙ sym (unmarked (recovered (seen vault)) removed.inside marks table d);
        rest = λ marks table d free. unmarked (recovered (seen vault)) removed.inside marks table d;
      };
      logged = removed.durable;
    };
    unmarked = removed.inside.array.unmarked;
    leaves = λ stop i now. opens_same shows x what give removed.inside.groups drives (recovered (seen vault)) removed.inside.array removed.counts removed.few removed.others i
        (now_matches seen may_leave moment left_since removed.counts vault stop i removed.durable now);
  }

-- what a stop leaves, by the array of before
pub opens_either : {X : Type 0} (shows : TiersView → X → Type 0) (x : X) (what : Shown) → ((t : TiersView) → HasBoth t what → shows t x) → (shape : Shape) (groups : Groups) (drives units : ℕ) (before : Cells)
    → IsLeftOf shows x groups drives [] before → (lost : List Bool) → AreMarkedLost drives lost before → (i : Image) → IsBeforeOrRemoved lost before what shape groups drives units i → OpensBeforeOrWithout shows x shape groups drives i
opens_either shows x what give shape groups drives units before left lost lost_are i (inl was) = inl (before_opens shows x groups drives before left lost lost_are i was)
opens_either shows x what give shape groups drives units before left lost lost_are i (inr is) =
    inr (is.groups, is.sizes, is.kept, opens_array shows x what give is.groups (drives - 1) (recovered i) is.array)

-- an array that shows bytes or keys has both
pub can_shrink : {V X : Type 0} (shows : TiersView → X → Type 0) (x : X) (what : Shown) (seen : V → Image) (may_leave : V → Stop → Image → Type 0) (groups : Groups) (drives units : ℕ) (vault : V)
    (can : CanBeRebuilt shows seen may_leave x groups drives units vault) → HasBoth can.left.tiers what → CanShrink seen may_leave what groups drives units can.lost vault
can_shrink shows x what seen may_leave groups drives units vault can both = record {
  left = record {
    tiers = can.left.tiers;
    shown = both;
    groups_are = can.left.groups_are;
    many = can.left.many;
    table = can.left.table;
    one = can.left.one;
    lost = can.left.lost;
    kept = can.left.kept;
    excused = can.left.excused;
  };
  ends = can.ends;
  lost_are = can.lost_are;
  logged = can.logged;
}
