-- What calls keep that change no bytes.
use Rattle.std.specs.Prelude.{◌≡◌, ℕ, Bool, List}
use Rattle.extent_groups.specs.Planned.{Intended}
use Rattle.history.specs.Entries.{Course}
use Rattle.history.specs.declared.naming.Chronicle.{Ghosts}
use Rattle.cached_drive.specs.Saving.{Units}
use Rattle.byte_store.specs.Flat.{StoreState}
use Rattle.byte_store.specs.Lasting.{Lasts, ShowsState, Shown}
use Rattle.slot_tables.specs.Views.{key_at}
use Rattle.array_store.specs.Stores.{Follows, IsStoreOf, StoreView}
use Rattle.vault.specs.Images.{Image}
use Rattle.vault.specs.Moments.{Elapses}
use Rattle.vault.specs.declared.store.Stop.{Stop}
use Rattle.journaled_store.specs.Left.{HasBoth}
use Rattle.journaled_store.specs.Outlasting.{Outlasts, OutlastsSince, Point}
use Rattle.journaled_store.specs.declared.store.JournaledStore.{JournaledStore}

-- a vault was only read: later calls find what they found before, and a stop leaves what it left before
pub record OnlyReadKnown {V : Type 0} (known : V → Type 0) (seen : V → Image) (may_leave : V → Stop → Image → Type 0) (moment : V → ℕ) (left_since : V → Stop → ℕ → Image → Type 0) (old new : V) : Type 0 where
  pub stays : known new
  pub finds : seen new ≡ seen old
  pub time : (stop : Stop) → Elapses (moment old) (moment new) (left_since old stop) (left_since new stop) (may_leave old stop) (may_leave new stop)

-- a store with its vault
pub record Whole (V : Type 0) : Type 0 where
  pub store : StoreView
  pub unsynced : Bool
  pub keeper : Course Units
  pub noted : List ℕ
  pub batch : List Intended
  pub failed : Bool
  pub vault : V

abbrev pub as_whole : {N V : Type 0} {names : Ghosts N} → JournaledStore N V names → Whole V
as_whole s = record { store = s.store; unsynced = s.unsynced; keeper = s.changes.keeper; noted = s.changes.noted; batch = s.changes.batch; failed = s.failed; vault = s.vault }

-- where it stands
abbrev pub at_point : {V : Type 0} → Whole V → Point V
at_point w = record { keeper = w.keeper; noted = w.noted; batch = w.batch; failed = w.failed; tiers = w.store.tiers; vault = w.vault }

-- the flat stores that it represents
abbrev pub WholeRepresents : {V : Type 0} → Whole V → StoreState → Type 0
WholeRepresents w = IsStoreOf w.store.tiers w.store.size w.unsynced

-- The bytes, the block map, the sizes, the groups and drives stay, and a drive that was lost is lost. What a stop leaves of it at any moment
-- is what one before would have left, or what it shows.
pub record KeepsStore {V : Type 0} (known : V → Type 0) (seen : V → Image) (may_leave : V → Stop → Image → Type 0) (moment : V → ℕ) (left_since : V → Stop → ℕ → Image → Type 0) (was now : Whole V) : Type 0 where
  pub bytes : (F : StoreState) → WholeRepresents was F → WholeRepresents now F
  pub keys : (F : StoreState) → WholeRepresents was F → (block : ℕ) → key_at now.store.tiers.world.array block ≡ key_at was.store.tiers.world.array block
  pub sizes : (now.store.size ≡ was.store.size) × (now.store.tiers.world.array.parts.groups.payload ≡ was.store.tiers.world.array.parts.groups.payload)
  pub stays : known was.vault → known now.vault
  pub follows : (F : StoreState) → WholeRepresents was F → Follows was.store.tiers now.store.tiers
  pub lasts : (F : StoreState) (what : Shown) → WholeRepresents was F → ShowsState was.store.tiers.world.array.keys F what
      → Lasts (Outlasts HasBoth known seen may_leave) (λ p. moment p.vault) (OutlastsSince HasBoth left_since) what what (at_point was) (at_point now)
