-- What an array is once it has another drive and its extents are spread over all, stated over the flat state alone.
use Rattle.std.specs.Prelude.{◌≡◌, ◌⊎◌, ◌<◌, ◌≤◌, ℕ, false, length}
use Rattle.extents.specs.Failures.{no_failures}
use Rattle.extent_groups.specs.Groups.{Groups, class_in, group_at, members_of}
use Rattle.flat_machine.specs.Cases.{Leaves, most_drives}
use Rattle.flat_machine.specs.Flat.{Flat}
use Rattle.flat_machine.specs.Moves.{with_new_drive}
use Rattle.tiered_array.specs.Regrouping.{BalanceCase}
use Rattle.tiered_array.specs.declared.regrouped.Regrouped.TheVariants as regrouped
use Rattle.array_expansion.specs.declared.fault.ExpansionFault.{ExpansionFault}
use Rattle.array_expansion.specs.declared.fault.ExpansionFault.TheVariants.{Memory, Full, Refused}

-- the same groups but for where their members lie: the sizes stay, and each number's group keeps its class and its number of members
pub record SameShapes (old new : Groups) : Type 0 where
  pub extents : new.extents ≡ old.extents
  pub segments : new.segments ≡ old.segments
  pub payload : new.payload ≡ old.payload
  pub blocks : new.blocks ≡ old.blocks
  pub class : (g : ℕ) → class_in (group_at new g) ≡ class_in (group_at old g)
  pub members : (g : ℕ) → length (members_of new g) ≡ length (members_of old g)

-- G is the state F but for where the groups' members lie, and for drives that failed: it has the same writes, records, holders, tickets,
-- units and number of drives
pub record IsSpread (F G : Flat) : Type 0 where
  pub groups : SameShapes F.groups G.groups
  pub left : Leaves (record F { groups = G.groups }) G

-- G is the state F with one more drive, which was added present and steady, but for where the groups' members lie, and for drives that
-- failed since
pub record IsExpanded (F G : Flat) : Type 0 where
  pub room : F.drives < most_drives
  pub spread : IsSpread (with_new_drive F false no_failures) G

-- the extents of F were spread as far as G, and then this is the fault: an allocation failed, or the next move by the plan was refused
abbrev pub NotSpread : Flat → ExpansionFault → Flat → Type 0
NotSpread F Memory G = IsSpread F G
NotSpread F Full G = ⊥
NotSpread F (Refused r) G = (M : Flat) × IsSpread F M × BalanceCase M (regrouped.Refused r) G

-- F has sixteen drives; or an allocation failed, before the drive was added or after it; or the next move by the plan was refused
abbrev pub NotExpanded : Flat → ExpansionFault → Flat → Type 0
NotExpanded F Memory G = (G ≡ F) ⊎ IsExpanded F G
NotExpanded F Full G = (most_drives ≤ F.drives) × (G ≡ F)
NotExpanded F (Refused r) G = (M : Flat) × IsExpanded F M × BalanceCase M (regrouped.Refused r) G
