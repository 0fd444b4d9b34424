-- Places of slots as C sees them, and what calls on them return.
use Rattle.std.specs.Prelude.{◌≡◌, ℕ, zero, suc, ◌<◌, ◌≤◌}
use Rattle.extent_groups.specs.declared.class.Class.{Class}
use Rattle.extent_groups.specs.declared.class.Class.TheVariants.{Mirrored, Parity}
use Rattle.extent_groups.specs.declared.geometry.Copies.{Copies}
use Rattle.extent_groups.specs.declared.geometry.Stripe.{Stripe}
use Rattle.extent_groups.specs.Geometry.{slot_count, copies_of, stripe_of, AreCopies, IsStripe}
use Rattle.raid_c.specs.declared.geometry.SlotCopies.{SlotCopies}
use Rattle.raid_c.specs.declared.geometry.SlotStripe.{SlotStripe}
use Rattle.raid_c.specs.declared.status.Status.{Status}
use Rattle.raid_c.specs.declared.status.Status.TheVariants as is

-- the class of a number
abbrev pub class_by_number : ℕ → Class
class_by_number zero = Mirrored
class_by_number (suc _) = Parity

-- a group may have this class and these numbers of members and segments
pub record IsGroup (class members segments : ℕ) : Type 0 where
  pub known : class ≤ 1
  pub enough : 3 ≤ members
  pub few : members ≤ 8
  pub long : 1 ≤ segments
  pub short : segments ≤ 8

-- such a group has a slot of this index
pub record IsSlotIndex (class members segments index : ℕ) : Type 0 where
  pub group : IsGroup class members segments
  pub within : index < slot_count (class_by_number class) members segments

-- the copies and the stripe with the numbers that C sees
abbrev pub as_copies : SlotCopies → Copies
as_copies seen = record {
  first = record { member = seen.first.member; offset = seen.first.offset };
  second = record { member = seen.second.member; offset = seen.second.offset };
}

abbrev pub as_stripe : SlotStripe → Stripe
as_stripe seen = record { stripe = seen.stripe; member = seen.member; offset = seen.offset; parity = seen.parity }

-- the count of a group's slots; it stays where there is no such group
abbrev pub CountsSlots : Status → ℕ → ℕ → ℕ → ℕ → ℕ → Type 0
CountsSlots is.Done class members segments old new =
    IsGroup class members segments × (new ≡ slot_count (class_by_number class) members segments)
CountsSlots is.Range class members segments old new = (IsGroup class members segments → ⊥) × (new ≡ old)
CountsSlots _ class members segments old new = ⊥

-- the copies of a mirrored slot; they stay where there is no such slot
abbrev pub FindsCopies : Status → ℕ → ℕ → ℕ → SlotCopies → SlotCopies → Type 0
FindsCopies is.Done members segments index old new =
    IsSlotIndex 0 members segments index × (as_copies new ≡ copies_of members index) × AreCopies members segments index (as_copies new)
FindsCopies is.Range members segments index old new = (IsSlotIndex 0 members segments index → ⊥) × (new ≡ old)
FindsCopies _ members segments index old new = ⊥

-- the stripe of a parity slot; it stays where there is no such slot
abbrev pub FindsStripe : Status → ℕ → ℕ → ℕ → SlotStripe → SlotStripe → Type 0
FindsStripe is.Done members segments index old new =
    IsSlotIndex 1 members segments index × (as_stripe new ≡ stripe_of members index) × IsStripe members segments index (as_stripe new)
FindsStripe is.Range members segments index old new = (IsSlotIndex 1 members segments index → ⊥) × (new ≡ old)
FindsStripe _ members segments index old new = ⊥
