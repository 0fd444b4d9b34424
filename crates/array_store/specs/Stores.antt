-- A store of an array, as a caller sees it, and when it represents a flat store.
use Rattle.std.specs.Prelude.{◌≡◌, ◌≤◌, ℕ, Bool, true, List, ◌++◌, length, Contains}
use Rattle.map_join.specs.declared.records.Record.{Record}
use Rattle.map_join.specs.Record.{key_of}
use Rattle.flat_machine.specs.Flat.{Flat, Write}
use Rattle.unit_store.specs.Views.{lost_of}
use Rattle.byte_store.specs.Flat.{StoreState}
use Rattle.tiered_array.specs.Matches.{RepresentsTiers}
use Rattle.tiered_array.specs.Tiered.{Tiered}
use Rattle.tiered_array.specs.Views.{TiersView}
use Rattle.array_store.specs.Blocks.{Holds}

-- the array, the bytes of the disk, and whether something was written since the last flush
pub record StoreView : Type 0 where
  pub tiers : TiersView
  pub size : ℕ
  pub unsynced : Bool

-- the array holds the flat store's bytes, which are all of the disk's; and the store notes whether some await a flush
pub record IsStoreOf (tiers : TiersView) (size : ℕ) (unsynced : Bool) (F : StoreState) : Type 0 where
  pub holds : Holds tiers F.bytes
  pub long : length F.bytes ≡ size
  pub noted : F.unsynced ≡ unsynced

-- of each record of a log another has one of the same block that isn't older
abbrev pub IsOnward : List Record → List Record → Type 0
IsOnward some more = (r : Record) → Contains some r → (q : Record) × Contains more q × (q.block ≡ r.block) × (key_of r ≤ key_of q)

-- one flat state comes after another: it has its writes, and more of them, and the newest record of no block is older
pub record IsAfter (F G : Flat) : Type 0 where
  pub more : List Write
  pub writes : G.writes ≡ F.writes ++ more
  pub records : IsOnward F.emitted G.emitted

-- what each call leaves as it is: the same groups and as many drives, and a drive that was lost is lost. And of each flat state that the
-- array represented it represents one after it.
pub record Follows (old new : TiersView) : Type 0 where
  pub groups : new.world.array.parts.groups ≡ old.world.array.parts.groups
  pub many : length new.world.array.parts.drives ≡ length old.world.array.parts.drives
  pub lost : (d : ℕ) → lost_of old.world.array.parts d ≡ true → lost_of new.world.array.parts d ≡ true
  pub after : (T : Tiered) → RepresentsTiers old T → (U : Tiered) × RepresentsTiers new U × IsAfter T.flat U.flat
