-- What lies at an offset of a member of a group: the way back from a unit to its slot.
use Rattle.std.specs.Prelude.{◌≡◌, ℕ, ◌/◌, ◌<◌, ◌==◌, ◌⊎◌, nat_lt, if◌then◌else◌, Option, Some, None, length}
use Rattle.extent_groups.specs.declared.class.Class.{Class}
use Rattle.extent_groups.specs.declared.class.Class.TheVariants.{Mirrored, Parity}
use Rattle.extent_groups.specs.declared.role.Role.{Role}
use Rattle.extent_groups.specs.declared.role.Role.TheVariants.{Slot, ParityUnit, Unused}
use Rattle.extent_groups.specs.Geometry.{slot_count, copies_of, stripe_of, parity_of, copy_index, stripe_index}
use Rattle.extent_groups.specs.Groups.{Group}

-- a unit of an index lies on this member at this offset: one of its copies, or its place in its stripe
abbrev pub LiesAt : Class → ℕ → ℕ → ℕ → ℕ → Type 0
LiesAt Mirrored n i m o = ((copies_of n i).first ≡ record { member = m; offset = o }) ⊎ ((copies_of n i).second ≡ record { member = m; offset = o })
LiesAt Parity n i m o = ((stripe_of n i).member ≡ m) × ((stripe_of n i).offset ≡ o)

-- the role is that of the unit: a slot's, of which a unit lies there; the parity's; or no slot's, as there may be in a mirrored
-- group alone
abbrev pub IsRole : Class → ℕ → ℕ → ℕ → ℕ → Role → Type 0
IsRole class n s m o (Slot i) = (i < slot_count class n s) × LiesAt class n i m o
IsRole Mirrored n s m o ParityUnit = ⊥
IsRole Parity n s m o ParityUnit = m ≡ parity_of n (o / 2)
IsRole Mirrored n s m o Unused = (i : ℕ) → i < slot_count Mirrored n s → LiesAt Mirrored n i m o → ⊥
IsRole Parity n s m o Unused = ⊥

-- the role of a unit in an optional group: any role where there is none
abbrev pub IsRoleIn : Option Group → ℕ → ℕ → ℕ → Role → Type 0
IsRoleIn None s m o role = Unit {0}
IsRoleIn (Some group) s m o role = IsRole group.class (length group.members) s m o role

-- what the calls compute, for a group of `slots` slots
abbrev pub mirrored_role : ℕ → ℕ → ℕ → ℕ → Role
mirrored_role n slots m o =
    let i = copy_index n (record { member = m; offset = o }) in
    if nat_lt i slots then Slot i else Unused

abbrev pub parity_role : ℕ → ℕ → ℕ → Role
parity_role n m o = if m == parity_of n (o / 2) then ParityUnit else Slot (stripe_index n m o)
