-- What an array is once a lost drive is emptied, stated over the flat state alone.
use Rattle.std.specs.Prelude.{◌≡◌, ℕ, false, length, None}
use Rattle.extent_groups.specs.Groups.{Groups}
use Rattle.extent_groups.specs.Stores.{HasMemberOn}
use Rattle.flat_machine.specs.Flat.{Flat}
use Rattle.unit_store.specs.Views.{PartsView, failed_of}
use Rattle.tiered_array.specs.Regrouping.{IsRebuildOf, RebuildCase}
use Rattle.tiered_array.specs.Views.{TiersView}
use Rattle.tiered_array.specs.declared.regrouped.Regrouped.TheVariants as regrouped
use Rattle.array_expansion.specs.Expansion.{IsSpread}
use Rattle.drive_evacuation.specs.declared.fault.EvacuationFault.{EvacuationFault}
use Rattle.drive_evacuation.specs.declared.fault.EvacuationFault.TheVariants.{Memory, Present, Stuck, Refused}

-- no group has a member on the drive
abbrev pub AreClearOf : Groups → ℕ → Type 0
AreClearOf groups drive = (g : ℕ) → HasMemberOn groups g drive → ⊥

-- a group has a member on the drive, and the plan that rebuilds what lay there finds nothing to move
pub record IsEvacuationStuck (F : Flat) (drive : ℕ) : Type 0 where
  pub group : ℕ
  pub on : HasMemberOn F.groups group drive
  pub plan : IsRebuildOf F drive None

-- Extents of F moved off the drive as far as G, and then this is the fault: an allocation failed, the drive isn't lost, the plan finds
-- nothing more to move, or its next move was refused.
abbrev pub NotEvacuated : Flat → ℕ → EvacuationFault → Flat → Type 0
NotEvacuated F drive Memory G = IsSpread F G
NotEvacuated F drive Present G = (F.lost drive ≡ false) × (G ≡ F)
NotEvacuated F drive Stuck G = IsSpread F G × IsEvacuationStuck G drive
NotEvacuated F drive (Refused r) G = (M : Flat) × IsSpread F M × RebuildCase M drive (regrouped.Refused r) G

-- an array with other parts
abbrev pub on_parts : TiersView → PartsView → TiersView
on_parts t parts = record t { world = record { array = record t.world.array { parts = parts }; hands = t.world.hands } }

-- a state on the drives of these parts, with their failures
abbrev pub with_drives : Flat → PartsView → Flat
with_drives F parts = record F { drives = length parts.drives; failures = failed_of parts }
