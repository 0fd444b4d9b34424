-- The claims of a group's slots: those that unmaking it takes, and those that are kept of its number until it is made again.
use Rattle.std.specs.Prelude.{◌≡◌, ◌≢◌, ◌⊎◌, ℕ, zero, suc, ◌<◌, ◌≤◌, ◌/◌, ◌%◌, ◌==◌, ◌&&◌, nat_lt, if◌then◌else◌, List, true, false, None}
use Rattle.extent_groups.specs.Groups.{group_at, slots_in}
use Rattle.flat_machine.specs.Flat.{Flat, Worker}
use Rattle.flat_machine.specs.declared.refusal.Refusal.{Refusal}
use Rattle.flat_machine.specs.declared.refusal.Refusal.TheVariants.{NoGroup, SlotsHeld}
use Rattle.slot_tables.specs.declared.hand.Hand.{Hand}
use Rattle.slot_tables.specs.declared.hand.Hand.TheVariants.{Empty}
use Rattle.slot_tables.specs.Views.{Kept, Nothing, Unmade, ArrayView, kept_at, hand_at}
use Rattle.slot_tables.specs.Represents.{is_shut, is_claim}
use Rattle.slot_tables.specs.Claims.{how_many}

-- how many claims are of a slot in a list of one for each of the first `count` slots of a group
abbrev pub one_of : ℕ → ℕ → ℕ → ℕ
one_of g count slot = if (slot / 128 == g) && nat_lt (slot % 128) count then 1 else 0

-- how many slots the group has
abbrev pub slots_in_group : ArrayView → ℕ → ℕ
slots_in_group a g = slots_in a.parts.groups.segments (group_at a.parts.groups g)

-- how many claims are kept of a slot for the number of a dissolved group
abbrev pub shut_of : ℕ → ℕ → Kept → ℕ
shut_of g slot kept = if is_shut kept slot g then 1 else 0

-- what is kept of a slot after n claims of it were taken in as a dissolved group's
abbrev pub closed_of : ℕ → Kept → Kept
closed_of zero kept = kept
closed_of (suc n) kept = Unmade

-- the claims are those that were kept of the number, one of each slot
abbrev pub AreShutOf : {C : Type 0} → (C → ℕ) → ArrayView → ℕ → List C → Type 0
AreShutOf names a g claims = (slot : ℕ) → how_many names claims slot ≡ shut_of g slot (kept_at a slot)

-- the claims are one of each of the group's slots, all of which are free in the array
pub record CanUnmake {C : Type 0} (names : C → ℕ) (a : ArrayView) (g : ℕ) (claims : List C) : Type 0 where
  pub made : group_at a.parts.groups g ≢ None
  pub all : (slot : ℕ) → how_many names claims slot ≡ one_of g (slots_in_group a g) slot
  pub free : (slot : ℕ) → 0 < one_of g (slots_in_group a g) slot → kept_at a slot ≡ Nothing

-- there is a claim of no slot of the group's, or a second one of a slot
pub record HasStranger {C : Type 0} (names : C → ℕ) (a : ArrayView) (g : ℕ) (claims : List C) : Type 0 where
  pub slot : ℕ
  pub more : one_of g (slots_in_group a g) slot < how_many names claims slot

-- a slot of which there is a claim, and which is free in the array
abbrev pub IsGiven : {C : Type 0} → (C → ℕ) → ArrayView → List C → ℕ → Type 0
IsGiven names a claims slot = (0 < how_many names claims slot) × (kept_at a slot ≡ Nothing)

-- the group's lowest slot that isn't given
pub record IsFirstUngiven {C : Type 0} (names : C → ℕ) (a : ArrayView) (g : ℕ) (claims : List C) (slot : ℕ) : Type 0 where
  pub made : group_at a.parts.groups g ≢ None
  pub known : (other : ℕ) → how_many names claims other ≤ one_of g (slots_in_group a g) other
  pub is : 0 < one_of g (slots_in_group a g) slot
  pub not_given : IsGiven names a claims slot → ⊥
  pub below : (other : ℕ) → other < slot → 0 < one_of g (slots_in_group a g) other → IsGiven names a claims other

-- why a group can't be dissolved with these claims
abbrev pub IsUnmakeReason : {C : Type 0} → (C → ℕ) → ArrayView → ℕ → List C → Refusal → Type 0
IsUnmakeReason names a g claims NoGroup = (group_at a.parts.groups g ≡ None) ⊎ (HasStranger names a g claims)
IsUnmakeReason names a g claims (SlotsHeld slot) = IsFirstUngiven names a g claims slot
IsUnmakeReason names a g claims _ = ⊥

-- the claims are exactly those that a worker has of a group's slots, where it is made
abbrev pub AreWorkers : {C : Type 0} → (C → ℕ) → Flat → ℕ → ℕ → List C → Type 0
AreWorkers names F w g claims = group_at F.groups g ≢ None → (slot : ℕ)
    → how_many names claims slot ≡ (if F.held slot (Worker w) then one_of g (slots_in F.groups.segments (group_at F.groups g)) slot else 0)

-- the lowest of the first `count` slots of a group of which the worker has no claim in hand
pub record IsFirstNotHeld (hands : List Hand) (w g count slot : ℕ) : Type 0 where
  pub is : 0 < one_of g count slot
  pub not_held : is_claim (hand_at hands slot) w ≡ false
  pub below : (other : ℕ) → other < slot → 0 < one_of g count other → is_claim (hand_at hands other) w ≡ true

-- what is in hand of a slot after the first `count` slots of a group were given away
abbrev pub hand_emptied : ℕ → ℕ → ℕ → Hand → Hand
hand_emptied g count slot hand = if (slot / 128 == g) && nat_lt (slot % 128) count then Empty else hand
