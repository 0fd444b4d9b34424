-- An array that a vault has, of which no drive is lost or marked, is opened from it, and from what a stop leaves.
use Rattle.std.proofs.Common.{◌≡◌, ◌<◌, ℕ, suc, Bool, false, Some, List, [], ◌∷◌, slice_get, refl, sym, ◌∙◌, ap, arith}
use Rattle.std.specs.Prelude.{◌==◌, not}
use Rattle.std.proofs.lemmas.Bool.{true≢false}
use Rattle.std.proofs.lemmas.Option.{same_Some, slice_get_within}
use Rattle.extent_groups.specs.Cells.{Cells}
use Rattle.extent_groups.specs.Groups.{Groups}
use Rattle.unit_store.specs.Views.{DriveView}
use Rattle.tiered_array.specs.Views.{TiersView}
use Rattle.byte_store.specs.Lasting.{Shown}
use Rattle.vault.specs.Images.{Image, Matches, SameOn, is_lost, recovered}
use Rattle.journaled_store.specs.Left.{HasBoth, IsLeftOf, IsLostIn}
use Rattle.journaled_store.specs.Outlasting.{OpensAs, OpensBut, parts_of}
use Rattle.journaled_store.specs.Steps.{IsPersisted, loss_mark}
use Rattle.journaled_store.proofs.Opening.{alone, opens_as, opens_on}
use Rattle.journaled_store.proofs.Settled.{groups_on}
use Rattle.array_recovery.specs.Found.{IsTable, is_marked}
use Rattle.array_recovery.proofs.Marking.{index_is}
use Rattle.array_batch.specs.Arrays.{HasArray}
use Rattle.array_batch.proofs.Batching.{at}

-- the same units, but for those of drives that aren't the array's, have the same array
pub array_on : (lost : List Bool) (what : Shown) (groups : Groups) (drives : ℕ) (c d : Cells) → is_lost lost 16 ≡ false → ((k : ℕ) → k < drives → is_lost lost k ≡ false)
    → SameOn lost d c → HasArray what groups drives c → HasArray what groups drives d
array_on lost what groups drives c d few none same is = record {
  tiers = is.tiers;
  shows = is.shows;
  groups_are = is.groups_are;
  many = is.many;
  few = is.few;
  alive = is.alive;
  units = λ k a v there.
      let low = slice_get_within (parts_of is.tiers).drives k v there in
      let all = is.many in
      same (at k a) (none k (omega (arith, low, all))) ∙ is.units k a v there;
  table = groups_on groups drives c d (λ a. same (at 16 (suc a)) few) is.table;
  unmarked = record { marks = is.unmarked.marks; table = same (at 16 0) few ∙ is.unmarked.table; clear = is.unmarked.clear };
}

module _ {X : Type 0} (shows : TiersView → X → Type 0) (x : X) (what : Shown) (give : (t : TiersView) → HasBoth t what → shows t x) (groups : Groups) (drives : ℕ) (c : Cells) (is : HasArray what groups drives c) where
  abbrev views : List DriveView
  views = (parts_of is.tiers).drives

  low16 : (d : ℕ) → d < drives → d < 16
  low16 d low = let few = is.few in omega (arith, low, few)

  below : (d : ℕ) (v : DriveView) → slice_get views d ≡ Some v → d < drives
  below d v there = let low = slice_get_within views d v there in let all = is.many in omega (arith, low, all)

  not_lost : (d : ℕ) → IsLostIn views d → ⊥
  not_lost d (v, there, gone) = true≢false (sym gone ∙ is.alive d v there)

  persisted : (lost : List Bool) → IsPersisted lost views c
  persisted lost = record {
    has = record { each = λ d a v there not. is.units d a v there };
    marks = is.unmarked.marks;
    noted = is.unmarked.table;
    reported = record { each = λ d v there. is.unmarked.clear d (low16 d (below d v there)) ∙ ap (λ b. Some (loss_mark b)) (sym (is.alive d v there)) };
  }

  opens_but : (lost : List Bool) → ((d : ℕ) → d < drives → is_lost lost d ≡ false) → OpensBut shows lost (x ∷ []) groups drives c
  opens_but lost none = record {
    what = x;
    listed = alone x;
    tiers = is.tiers;
    shown = give is.tiers is.shows;
    groups_are = is.groups_are;
    many = is.many;
    table = is.table;
    one = λ d e a b. absurd (not_lost d a);
    kept = persisted lost;
    gone = λ d low lost. absurd (true≢false (sym lost ∙ none d low));
  }

  pub opens_array : OpensAs shows (x ∷ []) groups drives c
  opens_array = opens_as shows [] refl groups drives (x ∷ []) c (opens_but [] (λ d low. refl))

  -- what a stop leaves, but for units of drives that aren't the array's
  pub opens_same : (lost : List Bool) → is_lost lost 16 ≡ false → ((d : ℕ) → d < drives → is_lost lost d ≡ false) → (i : Image) → Matches lost c i → OpensAs shows (x ∷ []) groups drives (recovered i)
  opens_same lost few none i matches = opens_as shows lost few groups drives (x ∷ []) (recovered i) (opens_on shows lost few groups drives (x ∷ []) c (recovered i) matches (opens_but lost none))

  pub left_now : IsLeftOf shows x groups drives [] c
  left_now = record {
    tiers = is.tiers;
    shown = give is.tiers is.shows;
    groups_are = is.groups_are;
    many = is.many;
    table = is.table;
    one = λ d e a b. absurd (not_lost d a);
    lost = [];
    kept = persisted [];
    excused = λ d low lost. absurd (true≢false (sym lost));
  }

  pub none_marked : (marks : List ℕ) → IsTable marks c → (d : ℕ) → d < drives → is_marked marks d ≡ false
  none_marked marks table d low =
      ap (λ (l : List ℕ). is_marked l d) (same_Some marks is.unmarked.marks (sym table ∙ is.unmarked.table)) ∙ ap (λ n. not (n == 0)) (index_is is.unmarked.marks d 0 (is.unmarked.clear d (low16 d low)))
