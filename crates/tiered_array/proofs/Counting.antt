-- More slots than blocks: a state is never full, if only blocks hold its slots and one of them is mirrored.
use Rattle.std.proofs.Common.{◌≡◌, ◌⊎◌, inl, inr, ℕ, ◌/◌, ◌^◌, ◌<◌, ◌≤◌, zero, suc, Bool, true, false, ◌||◌, eqb, List, [], ◌∷◌, length, map, get_or, Contains, refl, sym, ap, ◌∙◌, subst, arith, Option, Some, None}
use Rattle.std.specs.List.{IsDistinct, list_any}
use Rattle.std.proofs.lemmas.Map.Keys.{IsDistinct-from_apart}
use Rattle.std.proofs.lemmas.Map.Steps.{length-le_from_distinct_below}
use Rattle.std.proofs.lemmas.List.{get_or-map, length-map}
use Rattle.map_join.specs.Record.{record_of, record_at}
use Rattle.extent_groups.specs.declared.class.Class.TheVariants.{Mirrored, Parity}
use Rattle.extent_groups.specs.Groups.{group_at, class_in}
use Rattle.extent_groups.specs.Stores.{IsSlotOf}
use Rattle.flat_machine.specs.Flat.{Holder, Block, IsUnheld}
use Rattle.flat_machine.proofs.Newest.{newest_reported, newest_unique, reported_at, key_least}
use Rattle.flat_machine.proofs.Pairs.{equal_back, unequal}
use Rattle.slot_tables.specs.Views.{Kept, Nothing, Pending, Moving, Newest, Unmade, WorldView, newest_block_in, kept_at, hand_at, key_at, has_no_holder}
use Rattle.slot_tables.specs.Represents.{Represents, is_newest}
use Rattle.slot_tables.proofs.Hands.{free_iff, taken_case}
use Rattle.migrator.proofs.Oldest.{contains_head, contains_following}
use Rattle.migrator.specs.Slots.{class_of_record, IsMirrored}
use Rattle.migrator.specs.Ages.{IsOldest}
use Rattle.tiered_array.specs.Tiered.{Tiered}
use Rattle.tiered_array.specs.Room.{IsHole, IsFull, IsNowhere, HasSpareSlots}

abbrev or_zero : Option ℕ → ℕ
or_zero None = 0
or_zero (Some b) = b

-- a test that finds a number in a list of images finds it as one
image_below : (f : ℕ → ℕ) (n : ℕ) (xs : List ℕ) → ((s : ℕ) → Contains xs s → f s < n) → (q : ℕ) → list_any (eqb q) (map f xs) ≡ true → q < n
image_below f n [] all q found = absurd (cc)
image_below f n (x ∷ xs) all q found = go (eqb q (f x)) refl (image_below f n xs (λ s has. all s (contains_following x s xs has)) q)
  where
    go : (b : Bool) → eqb q (f x) ≡ b → (list_any (eqb q) (map f xs) ≡ true → q < n) → q < n
    go true e rest = let low = all x (contains_head x xs) in let same = equal_back q (f x) e in omega (arith, low, same)
    go false e rest = rest (sym (ap (λ b. b || list_any (eqb q) (map f xs)) e) ∙ found)

module _ (v : WorldView) (T : Tiered) (slots : List ℕ) (rep : Represents v T.flat) (each : (b : ℕ) → b < T.flat.groups.blocks → Contains T.order b) (has : HasSpareSlots T slots)
    (full : IsFull T) where
  -- a slot that isn't free has a holder, and that is a block
  owned : (s : ℕ) → Contains slots s → (IsUnheld T.flat s → ⊥) → (b : ℕ) × (T.flat.held s (Block b) ≡ true)
  owned s here busy =
      let k = taken (has_no_holder (kept_at v.array s) (hand_at v.hands s)) refl in
      let b = has.blocks_alone s k.0 here k.1 in
      (b.0, subst (λ h. T.flat.held s h ≡ true) b.1 k.1)
    where
      taken : (c : Bool) → has_no_holder (kept_at v.array s) (hand_at v.hands s) ≡ c → (k : Holder) × (T.flat.held s k ≡ true)
      taken true e = absurd (busy ((free_iff v T.flat s rep).0 e))
      taken false e = (taken_case v T.flat 0 s e rep).1

  -- it is one of the array's, and the slot is its newest place
  is_place : (s b : ℕ) → T.flat.held s (Block b) ≡ true → (b < T.flat.groups.blocks) × (2 ^ 32 ≤ key_at v.array b) × ((record_of b (key_at v.array b)).place ≡ s)
  is_place s b held =
      let at = (rep.array.history.holders s).block b held in
      let reported = rep.array.history.map.reported b at.0 in
      let low = rep.array.history.blocks reported.0 reported.1 in
      let large = key_least reported.0 (rep.array.history.records reported.0 reported.1) in
      let key = reported.3 in
      (subst (λ n. n < T.flat.groups.blocks) reported.2 low, omega (arith, large, key), at.1)

  -- the mirrored slot has a block in it, so one is due
  one_due : IsOldest T.order (IsMirrored T.flat.groups full.keys) None → ⊥
  one_due none =
      let s = has.mirror.0 in
      let b = owned s has.mirror.1 (λ free. full.mirrors s (has.mirror.2, free)) in
      let at = is_place s b.0 b.1 in
      let records = rep.array.history.records in
      let same : record_at b.0 (full.keys b.0) ≡ record_at b.0 (key_at v.array b.0) =
      newest_unique T.flat.emitted b.0 records _ _ (newest_reported T.flat.emitted full.keys b.0 records full.map_of) (newest_reported T.flat.emitted (key_at v.array) b.0 records rep.array.history.map)
      in
      let there = reported_at b.0 (key_at v.array b.0) at.1 in
      let class : class_of_record T.flat.groups (record_at b.0 (full.keys b.0)) ≡ Some Mirrored =
      ap (class_of_record T.flat.groups) (same ∙ there) ∙ ap (λ n. class_in (group_at T.flat.groups (n / 128))) at.2 ∙ has.mirror.2.made
      in
      none b.0 (each b.0 at.0) class

  -- the block that a slot's tables name
  abbrev named : ℕ → ℕ
  named s = or_zero (newest_block_in (kept_at v.array s))

  named_is : (s b : ℕ) → T.flat.held s (Block b) ≡ true → named s ≡ b
  named_is s b held = go (kept_at v.array s) (sym ((rep.array.tables.slots s).blocks b) ∙ held)
    where
      go : (k : Kept) → is_newest k b ≡ true → or_zero (newest_block_in k) ≡ b
      go (Newest a) e = equal_back a b e
      go Nothing e = absurd (cc)
      go (Pending k) e = absurd (cc)
      go (Moving r k) e = absurd (cc)
      go Unmade e = absurd (cc)

  -- where all slots have blocks in them, there are as many blocks as slots
  too_many : ((s : ℕ) → IsHole T s → ⊥) → ⊥
  too_many none = let most = length-le_from_distinct_below (map named slots) T.flat.groups.blocks distinct (image_below named T.flat.groups.blocks slots low) in
      let long = length-map slots named in
      let more = has.more in
      omega (arith, most, long, more)
    where
      not_free : (s : ℕ) → IsSlotOf Mirrored T.flat.groups s ⊎ IsSlotOf Parity T.flat.groups s → IsUnheld T.flat s → ⊥
      not_free s (inl is) free = full.mirrors s (is, free)
      not_free s (inr is) free = none s (is, free)

      block : (s : ℕ) → Contains slots s → (b : ℕ) × (T.flat.held s (Block b) ≡ true)
      block s here = owned s here (not_free s (has.made s here))

      place : (s : ℕ) → Contains slots s → (record_of (named s) (key_at v.array (named s))).place ≡ s
      place s here = let b = block s here in
          ap (λ n. (record_of n (key_at v.array n)).place) (named_is s b.0 b.1) ∙ (is_place s b.0 b.1).2

      low : (s : ℕ) → Contains slots s → named s < T.flat.groups.blocks
      low s here = let b = block s here in let at = is_place s b.0 b.1 in subst (λ n. n < T.flat.groups.blocks) (sym (named_is s b.0 b.1)) at.0

      apart : (i j d : ℕ) → i < j → j < length (map named slots) → eqb (get_or (map named slots) i d) (get_or (map named slots) j d) ≡ false
      apart i j d lt lj =
          let long = length-map slots named in
          let within : j < length slots = omega (arith, lj, long) in
          let first : i < length slots = omega (arith, lt, within) in
          let ei = get_or-map named slots i 0 d first in
          let ej = get_or-map named slots j 0 d within in
          unequal _ _ (λ same. has.apart i j 0 lt within
          (sym (place (get_or slots i 0) (i, first, at_index slots i first)) ∙ ap (λ n. (record_of n (key_at v.array n)).place) (sym ei ∙ same ∙ ej)
          ∙ place (get_or slots j 0) (j, within, at_index slots j within)))
        where
          at_index : (xs : List ℕ) (k : ℕ) → k < length xs → get_or xs k (get_or xs k 0) ≡ get_or xs k 0
          at_index [] k l = omega (arith, l)
          at_index (x ∷ xs) zero l = refl
          at_index (x ∷ xs) (suc k) l = at_index xs k (omega (arith, l))

      distinct : IsDistinct eqb (map named slots)
      distinct = IsDistinct-from_apart eqb (map named slots) apart

  pub never_full : ⊥
  never_full = go full.nowhere
    where
      go : IsNowhere T full.keys → ⊥
      go (inl none) = one_due none
      go (inr none) = too_many none
