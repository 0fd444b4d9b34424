-- What is left of an array in a vault.
use Rattle.std.specs.Prelude.{◌≡◌, ◌⊎◌, ◌<◌, ℕ, Bool, true, Some, List, length, slice_get, slice_index, slice_index_or}
use Rattle.extent_groups.specs.Groups.{Groups}
use Rattle.extent_groups.specs.Cells.{Cells}
use Rattle.group_form.specs.Form.{HasGroups}
use Rattle.unit_store.specs.Views.{DriveView}
use Rattle.slot_tables.specs.Views.{key_at}
use Rattle.tiered_array.specs.Matches.{RepresentsTiers}
use Rattle.tiered_array.specs.Tiered.{Tiered}
use Rattle.tiered_array.specs.Views.{TiersView}
use Rattle.byte_store.specs.Lasting.{Shown}
use Rattle.array_store.specs.Blocks.{Holds}
use Rattle.vault.specs.Images.{is_lost}
use Rattle.journaled_store.specs.Steps.{IsPersisted}

-- a drive of an array is lost
abbrev pub IsLostIn : List DriveView → ℕ → Type 0
IsLostIn drives d = (v : DriveView) × (slice_get drives d ≡ Some v) × (v.lost ≡ true)

-- of the first drives no two are marked as lost
abbrev pub IsOneLost : List Bool → ℕ → Type 0
IsOneLost lost count = (d e : ℕ) → d < count → e < count → slice_index_or lost d true ≡ true → slice_index_or lost e true ≡ true → d ≡ e

-- no two drives are lost
abbrev pub MissesOne : List DriveView → Type 0
MissesOne drives = (d e : ℕ) → IsLostIn drives d → IsLostIn drives e → d ≡ e

-- an array that represents a flat state has this block map: of each block the key of its newest record, or 0
pub record HasKeys (tiers : TiersView) (keys : List ℕ) : Type 0 where
  pub state : Tiered
  pub matches : RepresentsTiers tiers state
  pub keys_are : (block : ℕ) → slice_index keys block ≡ key_at tiers.world.array block

-- an array that represents a flat state with these bytes has this block map: so both are of one state
pub record HasBoth (tiers : TiersView) (what : Shown) : Type 0 where
  pub holds : Holds tiers what.bytes
  pub keys_are : (block : ℕ) → slice_index what.keys block ≡ key_at tiers.world.array block

-- The units of a vault are those of an array that showed this, with these groups and as many drives, which the vault's table has. What an
-- array shows is given: its bytes (`Holds`), its block map (`HasKeys`), or both (`HasBoth`). Of some drives the vault may have other units, and
-- each of these is absent now or was lost. No two drives of the array were.
pub record IsLeftOf {X : Type 0} (shows : TiersView → X → Type 0) (what : X) (groups : Groups) (count : ℕ) (absent : List Bool) (c : Cells) : Type 0 where
  pub tiers : TiersView
  pub shown : shows tiers what
  pub groups_are : tiers.world.array.parts.groups ≡ groups
  pub many : length tiers.world.array.parts.drives ≡ count
  pub table : HasGroups groups count c
  pub one : MissesOne tiers.world.array.parts.drives
  pub lost : List Bool
  pub kept : IsPersisted lost tiers.world.array.parts.drives c
  pub excused : (d : ℕ) → d < count → is_lost lost d ≡ true → (is_lost absent d ≡ true) ⊎ IsLostIn tiers.world.array.parts.drives d
