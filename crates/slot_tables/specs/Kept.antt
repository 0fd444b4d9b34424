-- What contracts see of the places of an array: what is kept of each slot, without the claims.
use Rattle.std.specs.Prelude.{◌≡◌, ◌≢◌, ℕ, ◌+◌, ◌*◌, ◌-◌, ◌<◌, ◌≤◌, None, List, ◌++◌, slice_index_or, length, map, replicate}
use Rattle.extent_groups.specs.Groups.{Groups, group_at}
use Rattle.slot_tables.specs.Views.{Kept, Nothing, Pending, Moving, Newest, Unmade}
use Rattle.slot_tables.specs.declared.slot_state.SlotState.{SlotState}
use Rattle.slot_tables.specs.declared.slot_state.SlotState.TheVariants as state

-- a place without its claim
abbrev pub kept_of : {C : Type 0} → SlotState C → Kept
kept_of state.Free = Nothing
kept_of (state.Pending k claim) = Pending k
kept_of (state.Moving r k claim) = Moving r k
kept_of (state.Newest block claim) = Newest block
kept_of (state.Unmade claim) = Unmade

-- the claim of a place, if it has one, is of that slot
abbrev pub IsClaimOf : {C : Type 0} → (C → ℕ) → ℕ → SlotState C → Type 0
IsClaimOf names slot state.Free = (Unit {0})
IsClaimOf names slot (state.Pending k claim) = names claim ≡ slot
IsClaimOf names slot (state.Moving r k claim) = names claim ≡ slot
IsClaimOf names slot (state.Newest block claim) = names claim ≡ slot
IsClaimOf names slot (state.Unmade claim) = names claim ≡ slot

-- each place's claim is of its slot
abbrev pub AreOf : {C : Type 0} → (C → ℕ) → List (SlotState C) → Type 0
AreOf names places = (slot : ℕ) → slot < length places → IsClaimOf names slot (slice_index_or places slot state.Free)

-- what is kept of each of the 65,536 slots: of those past the table's end nothing
unfoldable pub kepts_of : {C : Type 0} → List (SlotState C) → List Kept
kepts_of places = map kept_of places ++ replicate (65536 - length places) Nothing

-- that many places are enough for the slots of each group that is made, and no more than there are slots
pub record HavePlaces (groups : Groups) (places : ℕ) : Type 0 where
  pub made : (group : ℕ) → group_at groups group ≢ None → 128 * group + 128 ≤ places
  pub most : places ≤ 65536
