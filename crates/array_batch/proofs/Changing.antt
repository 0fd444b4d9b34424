-- A vault whose array one batch changes: what it has before and after, and what a stop leaves.
use Rattle.std.proofs.Common.{◌≡◌, ◌≤◌, inl, inr, ℕ, suc, Bool, true, false, Some, List, [], ◌∷◌, slice_get, refl, sym, ◌∙◌, ap, arith}
use Rattle.std.proofs.lemmas.Bool.{true≢false}
use Rattle.std.proofs.lemmas.Option.{same_Some, slice_get_within}
use Rattle.extent_groups.specs.Cells.{Cells}
use Rattle.extent_groups.specs.Groups.{Groups}
use Rattle.unit_store.specs.Views.{DriveView}
use Rattle.tiered_array.specs.Views.{TiersView}
use Rattle.byte_store.specs.Lasting.{Shown}
use Rattle.vault.specs.Images.{Image, SameOn, is_lost, recovered}
use Rattle.vault.specs.declared.store.Stop.{Stop}
use Rattle.journaled_store.specs.Left.{HasBoth, IsLeftOf}
use Rattle.journaled_store.specs.Outlasting.{OpensAs, parts_of}
use Rattle.journaled_store.specs.Steps.{loss_mark}
use Rattle.journaled_store.proofs.Settled.{groups_on}
use Rattle.array_recovery.specs.Reopened.{EndsAt, marked}
use Rattle.array_recovery.proofs.Reopening.{bool_cases}
use Rattle.drive_rebuild.specs.Rebuilt.{AreMarkedLost, CanBeRebuilt}
use Rattle.drive_rebuild.proofs.Rebuilding.{before_opens}
use Rattle.drive_rebuild.proofs.Underway.{logged_less, now_matches}
use Rattle.array_batch.specs.Arrays.{HasArray, MarksNone}
use Rattle.array_batch.proofs.Batching.{at}
use Rattle.array_batch.proofs.Opening.{array_on, left_now, none_marked, opens_array, opens_same}
use Rattle.array_batch.specs.Changes.{CanChange, HasArrayWith, IsBeforeOrWith, KeepsArrayWith, OpensEither, OpensWith}

-- a drive whose mark is 0
unlost : (b : Bool) → loss_mark b ≡ 0 → b ≡ false
unlost false e = refl
unlost true e = absurd (omega (arith, e))

-- the array that a vault has of which the table marks no drive
module _ (what : Shown) (groups : Groups) (drives : ℕ) (before : Cells) (left : IsLeftOf HasBoth what groups drives [] before) (unmarked : MarksNone before) where
  abbrev olds : List DriveView
  olds = (parts_of left.tiers).drives

  few : drives ≤ 16
  few =
      let most = left.shown.holds.matches.world.array.history.limits.most in
      let count = left.shown.holds.matches.world.array.tables.drives in
      let all = left.many in
      omega (arith, most, count, all)

  was_there : (d : ℕ) (v : DriveView) → slice_get olds d ≡ Some v → v.lost ≡ false
  was_there d v is =
      let same : left.kept.marks ≡ unmarked.marks = same_Some _ _ (sym left.kept.noted ∙ unmarked.table) in
      let low = slice_get_within olds d v is in
      let all = left.many in
      let most = few in
      unlost v.lost (same_Some _ _ (sym (left.kept.reported.each d v is) ∙ ap (λ (l : List ℕ). slice_get l d) same ∙ unmarked.clear d (omega (arith, low, all, most))))

  sure : (d : ℕ) (v : DriveView) → slice_get olds d ≡ Some v → is_lost left.lost d ≡ false
  sure d v is = elim (bool_cases (is_lost left.lost d)) [
    | inr out ↦ out
    | inl one ↦ (elim (left.excused d (let low = slice_get_within olds d v is in let all = left.many in omega (arith, low, all)) one) [
      | inl away ↦ absurd (true≢false (sym away))
      | inr was ↦ absurd (true≢false (sym was.2 ∙ was_there d was.0 was.1))
    ])
  ]

  pub array_there : (c : Cells) → SameOn [] c before → HasArray what groups drives c
  array_there c same = record {
    tiers = left.tiers;
    shows = left.shown;
    groups_are = left.groups_are;
    many = left.many;
    few = few;
    alive = was_there;
    units = λ d a v is. same (at d a) refl ∙ left.kept.has.each d a v is (sure d v is);
    table = groups_on groups drives before c (λ a. same (at 16 (suc a)) refl) left.table;
    unmarked = record { marks = unmarked.marks; table = same (at 16 0) refl ∙ unmarked.table; clear = unmarked.clear };
  }

-- the same units have the same array
pub with_on : (such : Groups → Type 0) (what : Shown) (drives units : ℕ) (c d : Cells) → SameOn [] d c → HasArrayWith such what drives units c → HasArrayWith such what drives units d
with_on such what drives units c d same is = record {
  groups = is.groups;
  are = is.are;
  array = array_on [] what is.groups drives c d refl (λ k low. refl) same is.array;
  ends = λ k a low not high. same (at k a) refl ∙ is.ends k a low not high;
}

-- an array that shows this, of which no drive is lost or marked
module _ {X : Type 0} (shows : TiersView → X → Type 0) (x : X) (what : Shown) (give : (t : TiersView) → HasBoth t what → shows t x) (such : Groups → Type 0) (drives units : ℕ) where
  pub opens_with : (c : Cells) (is : HasArrayWith such what drives units c) → OpensAs shows (x ∷ []) is.groups drives c
  opens_with c is = opens_array shows x what give is.groups drives c is.array

  pub whole_with : {V : Type 0} (seen : V → Image) (may_leave : V → Stop → Image → Type 0) (moment : V → ℕ) (left_since : V → Stop → ℕ → Image → Type 0) (vault : V)
      → KeepsArrayWith seen may_leave such what drives units vault → OpensWith shows seen may_leave x such drives units vault
  whole_with seen may_leave moment left_since vault keeps =
      let left = left_now shows x what give keeps.inside.groups drives (recovered (seen vault)) keeps.inside.array in (
        keeps.inside.groups,
        keeps.inside.are,
        record {
          sound = record {
            left = left;
            away = λ d low absent. absurd (true≢false (sym absent));
            ends = λ d a low not high. keeps.inside.ends d a low refl high;
            logged = logged_less seen may_leave moment left_since (marked left.kept.marks) [] vault (λ d e. refl) keeps.durable;
          };
          none_marked = none_marked shows x what give keeps.inside.groups drives (recovered (seen vault)) keeps.inside.array left.kept.marks left.kept.noted;
          leaves = λ stop i now. opens_same shows x what give keeps.inside.groups drives (recovered (seen vault)) keeps.inside.array [] refl (λ d low. refl) i
              (now_matches seen may_leave moment left_since [] vault stop i keeps.durable now);
        },
      )

-- what a stop leaves, by the array of before
pub opens_either : {X : Type 0} (shows : TiersView → X → Type 0) (x : X) (what : Shown) → ((t : TiersView) → HasBoth t what → shows t x) → (groups : Groups) (drives : ℕ) (such : Groups → Type 0) (afterwards units : ℕ) (before : Cells)
    → IsLeftOf shows x groups drives [] before → (lost : List Bool) → AreMarkedLost drives lost before → (i : Image) → IsBeforeOrWith lost before such what afterwards units i → OpensEither shows x groups drives such afterwards i
opens_either shows x what give groups drives such afterwards units before left lost lost_are i (inl was) = inl (before_opens shows x groups drives before left lost lost_are i was)
opens_either shows x what give groups drives such afterwards units before left lost lost_are i (inr is) =
    inr (is.groups, is.are, opens_with shows x what give such afterwards units (recovered i) is)

-- an array that shows bytes or keys has both
pub can_change : {V X : Type 0} (shows : TiersView → X → Type 0) (x : X) (what : Shown) (seen : V → Image) (may_leave : V → Stop → Image → Type 0) (groups : Groups) (drives afterwards units : ℕ) (vault : V)
    (can : CanBeRebuilt shows seen may_leave x groups drives units vault) → HasBoth can.left.tiers what → EndsAt [] afterwards units (recovered (seen vault))
    → CanChange seen may_leave what groups drives afterwards units can.lost vault
can_change shows x what seen may_leave groups drives afterwards units vault can both ends = record {
  left = record {
    tiers = can.left.tiers;
    shown = both;
    groups_are = can.left.groups_are;
    many = can.left.many;
    table = can.left.table;
    one = can.left.one;
    lost = can.left.lost;
    kept = can.left.kept;
    excused = can.left.excused;
  };
  ends = ends;
  lost_are = can.lost_are;
  logged = can.logged;
}
