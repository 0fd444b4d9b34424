-- What a map says of slots and claims, stated over its list of records and of the table of slots that are wanted.
use Rattle.std.proofs.Common.{◌≡◌, ◌≢◌, ℕ, ◌+◌, ◌^◌, ◌<◌, ◌≤◌, nat_lt, Bool, true, false, List, [], ◌∷◌, length, refl, sym, ap, ◌∙◌, subst, arith, ◌⊎◌, inl, inr, Option, Some, None}
use Rattle.std.specs.Prelude.{Contains}
use Rattle.std.proofs.lemmas.Bool.Decides.{nat_tests}
use Rattle.std.proofs.lemmas.Option.{same_Some}
use Rattle.map_join.specs.declared.records.Record.{Record}
use Rattle.map_join.specs.Record.{record_of, record_at}
use Rattle.map_join.specs.Maps.{IsListOf}
use Rattle.extent_groups.specs.Groups.{Groups}
use Rattle.flat_machine.specs.Groups.{class_at}
use Rattle.flat_machine.specs.Restarted.{HasDistinctSlots}
use Rattle.slot_tables.specs.Views.{Kept, Nothing, Pending, Moving, Newest, Unmade, ArrayView, kept_at}
use Rattle.slot_tables.specs.Adopted.{IsKeptByMap}
use Rattle.slot_tables.specs.Kept.{HavePlaces}
use Rattle.slot_tables.proofs.Placing.{placed_slot}
use Rattle.slot_tables.proofs.Seated.{some_here}
use Rattle.slot_tables.specs.Claims.{how_many, claims_in, AreKeys, AreShared, AreOfPlaces, IsKey, IsExpected, AreExpected, LieBelow, expected_at, kept_for, IsLowestUnclaimed, IsUnclaimed}

-- a map of an array's blocks has keys of records everywhere
pub all_keys : (groups : Groups) (M : ℕ → ℕ) (keys : List ℕ) → HasDistinctSlots groups M → AreKeys groups.blocks M keys → (b : ℕ) → IsKey (M b)
all_keys groups M keys places are b = go (either b)
  where
    either : (n : ℕ) → (n < groups.blocks) ⊎ (groups.blocks ≤ n)
    either n = grind (arith)

    no_key : (k : ℕ) → (0 < k → ⊥) → IsKey k
    no_key k never = record { least = λ some. absurd (never some); most = below (none k never) }
      where
        none : (n : ℕ) → (0 < n → ⊥) → n ≡ 0
        none n no_more = grind (arith)

        below : k ≡ 0 → k < 2 ^ 64
        below e = omega (arith, e)

    go : (b < groups.blocks) ⊎ (groups.blocks ≤ b) → IsKey (M b)
    go (inl h) = are.reported b h
    go (inr h) = no_key (M b) (λ some. let i = places.blocks b some in omega (arith, i, h))

-- the record of a block that has a key is in the map's list, and a record of the list is that of its block
at_reported : (block key : ℕ) → 2 ^ 32 ≤ key → record_at block key ≡ Some (record_of block key)
at_reported block key h = grind (arith, nat_tests)

pub in_list : (M : ℕ → ℕ) (records : List Record) → IsListOf M records → (b : ℕ) → IsKey (M b) → 0 < M b → Contains records (record_of b (M b))
in_list M records list b key some = (list.each (record_of b (M b))).1 (at_reported b (M b) (key.least some))

pub of_list : (M : ℕ → ℕ) (records : List Record) → IsListOf M records → (r : Record) → Contains records r → (0 < M r.block) × (record_of r.block (M r.block) ≡ r)
of_list M records list r has = go (nat_lt (M r.block) (2 ^ 32)) refl ((list.each r).0 has)
  where
    go : (q : Bool) → nat_lt (M r.block) (2 ^ 32) ≡ q → record_at r.block (M r.block) ≡ Some r → (0 < M r.block) × (record_of r.block (M r.block) ≡ r)
    go true is at = absurd (let n : record_at r.block (M r.block) ≡ None = grind (arith, nat_tests) in cc)
    go false is at =
        let many : 2 ^ 32 ≤ M r.block = grind (arith, nat_tests) in
        (omega (arith, many), same_Some _ _ (sym (at_reported r.block (M r.block) many) ∙ at))

-- what is wanted of a slot is what the map has there
pub needs_placed : (M : ℕ → ℕ) (records : List Record) (slots : ℕ) (expected : List (Option ℕ)) → IsListOf M records → ((b : ℕ) → IsKey (M b)) → AreExpected records slots expected
    → (s : ℕ) → IsKeptByMap M s (kept_for (expected_at expected s))
needs_placed M records slots expected list keys are s = go (expected_at expected s) (are.each s)
  where
    go : (o : Option ℕ) → IsExpected records s o → IsKeptByMap M s (kept_for o)
    go None none = λ b some at. none (record_of b (M b)) (in_list M records list b (keys b) some) at
    go (Some b) some =
        let reported = of_list M records list some.0 some.1 in
        subst (λ n. (0 < M n) × ((record_of n (M n)).place ≡ s)) some.2 (reported.0, ap (λ (r : Record). r.place) reported.1 ∙ some.3)

-- a record's place is of a group that is made, and so one of the slots that have places
pub listed_low : (groups : Groups) (M : ℕ → ℕ) (records : List Record) (n : ℕ) → IsListOf M records → HasDistinctSlots groups M → HavePlaces groups n → LieBelow n records
listed_low groups M records n list places have r has =
    let reported = of_list M records list r has in
    placed_slot groups r.place n (subst (λ (q : Record). class_at groups q.place ≢ None) reported.1 (places.slots r.block reported.0)) have

-- the place of a block that has a key is wanted
pub place_expected : (M : ℕ → ℕ) (records : List Record) (slots : ℕ) (expected : List (Option ℕ)) → IsListOf M records → ((b : ℕ) → IsKey (M b)) → AreExpected records slots expected
    → (b : ℕ) → 0 < M b → (c : ℕ) × (expected_at expected (record_of b (M b)).place ≡ Some c)
place_expected M records slots expected list keys are b some = go (expected_at expected (record_of b (M b)).place) refl (are.each (record_of b (M b)).place)
  where
    go : (o : Option ℕ) → expected_at expected (record_of b (M b)).place ≡ o → IsExpected records (record_of b (M b)).place o → (c : ℕ) × (expected_at expected (record_of b (M b)).place ≡ Some c)
    go None at none = absurd (none (record_of b (M b)) (in_list M records list b (keys b) some) refl)
    go (Some c) at here = (c, at)

-- so the lowest slot that is wanted and not claimed is the lowest place without a claim
pub unclaimed : {C : Type 0} (names : C → ℕ) (claims : List C) (M : ℕ → ℕ) (records : List Record) (slots : ℕ) (expected : List (Option ℕ)) (slot : ℕ)
    → IsListOf M records → ((b : ℕ) → IsKey (M b)) → AreExpected records slots expected → IsLowestUnclaimed names claims expected slot → IsUnclaimed names claims M slot
unclaimed {C} names claims M records slots expected slot list keys are low =
    let placed = subst (λ o. IsKeptByMap M slot (kept_for o)) low.needs (needs_placed M records slots expected list keys are slot) in
    record {
      block = low.block;
      there = placed.0;
      place = placed.1;
      none = low.none;
      lowest = λ b some below.
          let c = place_expected M records slots expected list keys are b some in
          low.lowest (record_of b (M b)).place below c.0 c.1;
    }

-- where the claims are those of the map's places, one of each, none is left over
pub none_left : {C : Type 0} (names : C → ℕ) (claims : List C) (M : ℕ → ℕ) (a : ArrayView) (left : List C) → AreOfPlaces names M claims → ((s : ℕ) → IsKeptByMap M s (kept_at a s))
    → AreShared names claims a left → length left ≡ 0
none_left names claims M a [] of placed shared = refl
none_left {C} names claims M a (c ∷ left) of placed shared = absurd (go (kept_at a (names c)) (placed (names c)) (shared (names c)))
  where
    here : 0 < how_many names (c ∷ left) (names c)
    here = some_here names c left

    go : (kept : Kept) → IsKeptByMap M (names c) kept → how_many names claims (names c) ≡ claims_in kept + how_many names (c ∷ left) (names c) → ⊥
    go Nothing none e = let o = of.only (names c) (let h = here in omega (arith, h, e)) in none o.0 o.1 o.2
    go (Pending k) no_place e = no_place
    go (Moving r k) no_place e = no_place
    go (Newest b) at e = let one = subst (λ n. how_many names claims n ≡ 1) at.1 (of.one b at.0) in let h = here in omega (arith, h, e, one)
    go Unmade no_place e = no_place
