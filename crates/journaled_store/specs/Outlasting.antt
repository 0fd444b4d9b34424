-- What stops leave of a journaled store, as what it shows when it is opened again: its bytes and its block map, of one state (`HasBoth`).
use Rattle.std.specs.Prelude.{◌≡◌, ◌<◌, ◌≤◌, ℕ, Bool, true, false, List, length, take, Contains}
use Rattle.extent_groups.specs.Groups.{Groups}
use Rattle.extent_groups.specs.Cells.{Cells}
use Rattle.group_form.specs.Form.{HasGroups}
use Rattle.extent_groups.specs.Planned.{Intended, after}
use Rattle.unit_store.specs.Views.{PartsView, lost_of}
use Rattle.tiered_array.specs.Views.{TiersView}
use Rattle.history.specs.Entries.{Course}
use Rattle.history.specs.declared.naming.Chronicle.{Ghosts}
use Rattle.cached_drive.specs.Saving.{Units}
use Rattle.byte_store.specs.Flat.{Sizes, StoreState}
use Rattle.array_store.specs.Stores.{IsStoreOf}
use Rattle.vault.specs.Images.{Image, SameOn, flat, is_lost, recovered}
use Rattle.vault.specs.Moments.{IsLogged}
use Rattle.vault.specs.declared.store.Stop.{Stop}
use Rattle.vault.specs.declared.store.Stop.TheVariants.{Killed, PowerLost}
use Rattle.journaled_store.specs.Steps.{IsPersisted, IsUpToDate}
use Rattle.journaled_store.specs.Left.{IsLeftOf, IsLostIn, MissesOne}
use Rattle.journaled_store.specs.declared.store.JournaledStore.{JournaledStore}

-- what may be there after a stop of a kind
abbrev pub allowed : {X : Type 0} → Stop → List X → List X → List X
allowed Killed killed cut = killed
allowed PowerLost killed cut = cut

-- Units of which an array is opened that shows one of a list, whichever of its drives are absent then: with other units of these, too.
pub record OpensAs {X : Type 0} (shows : TiersView → X → Type 0) (list : List X) (groups : Groups) (count : ℕ) (c : Cells) : Type 0 where
  pub what : X
  pub listed : Contains list what
  pub left : (absent : List Bool) (d : Cells) → is_lost absent 16 ≡ false → SameOn absent d c → IsLeftOf shows what groups count absent d

-- the same, and the drives of which the vault may have other units are these
pub record OpensBut {X : Type 0} (shows : TiersView → X → Type 0) (lost : List Bool) (list : List X) (groups : Groups) (count : ℕ) (c : Cells) : Type 0 where
  pub what : X
  pub listed : Contains list what
  pub tiers : TiersView
  pub shown : shows tiers what
  pub groups_are : tiers.world.array.parts.groups ≡ groups
  pub many : length tiers.world.array.parts.drives ≡ count
  pub table : HasGroups groups count c
  pub one : MissesOne tiers.world.array.parts.drives
  pub kept : IsPersisted lost tiers.world.array.parts.drives c
  pub gone : (d : ℕ) → d < count → is_lost lost d ≡ true → IsLostIn tiers.world.array.parts.drives d

-- a store, with its vault
pub record Point (V : Type 0) : Type 0 where
  pub keeper : Course Units
  pub noted : List ℕ
  pub batch : List Intended
  pub failed : Bool
  pub tiers : TiersView
  pub vault : V

abbrev pub point : {N V : Type 0} {names : Ghosts N} → JournaledStore N V names → Point V
point s = record { keeper = s.changes.keeper; noted = s.changes.noted; batch = s.changes.batch; failed = s.failed; tiers = s.store.tiers; vault = s.vault }

-- the flat stores that a store represents, and its sizes
abbrev pub RepresentsStore : {N V : Type 0} {names : Ghosts N} → JournaledStore N V names → StoreState → Type 0
RepresentsStore s = IsStoreOf s.store.tiers s.store.size s.unsynced

abbrev pub sizes_of : {N V : Type 0} {names : Ghosts N} → JournaledStore N V names → Sizes
sizes_of s = record { bytes = s.store.size; block = s.store.tiers.world.array.parts.groups.payload }

abbrev pub parts_of : TiersView → PartsView
parts_of t = t.world.array.parts

-- A store whose journal works. A stop leaves the first batches of the journal, and of each number of them that it may leave an array
-- that shows one of the list is opened. Drives of which the vault may have other units are lost.
pub record Works {V X : Type 0} (shows : TiersView → X → Type 0) (seen : V → Image) (may_leave : V → Stop → Image → Type 0) (p : Point V) (killed cut : List X) : Type 0 where
  pub lost : List Bool
  pub few : (d : ℕ) → 16 ≤ d → is_lost lost d ≡ false
  pub gone : (d : ℕ) → is_lost lost d ≡ true → lost_of (parts_of p.tiers) d ≡ true
  pub live : IsUpToDate lost p.keeper p.noted p.batch (recovered (seen p.vault))
  -- the vault's table has the array's groups
  pub table : HasGroups (parts_of p.tiers).groups (length (parts_of p.tiers).drives) (recovered (seen p.vault))
  pub low : Stop → ℕ
  pub logged : (stop : Stop) → IsLogged seen may_leave lost stop p.vault (low stop)
  -- a killed process leaves all batches
  pub all : low Killed ≡ length (seen p.vault).journal
  pub opens : (stop : Stop) (count : ℕ) → low stop ≤ count → count ≤ length (seen p.vault).journal
      → OpensBut shows lost (allowed stop killed cut) (parts_of p.tiers).groups (length (parts_of p.tiers).drives) (after (seen p.vault).cells (flat (take count (seen p.vault).journal)))

-- what a stop now leaves: opened again, the store shows one of the first list after a kill, and of the second after a loss of power
pub record Outlasts {V X : Type 0} (shows : TiersView → X → Type 0) (known : V → Type 0) (seen : V → Image) (may_leave : V → Stop → Image → Type 0) (p : Point V) (killed cut : List X) : Type 0 where
  pub is_known : known p.vault
  pub leaves : (stop : Stop) (i : Image) → may_leave p.vault stop i
      → OpensAs shows (allowed stop killed cut) (parts_of p.tiers).groups (length (parts_of p.tiers).drives) (recovered i)
  pub works : p.failed ≡ false → Works shows seen may_leave p killed cut

-- what a stop at some moment since that one leaves
abbrev pub OutlastsSince : {V X : Type 0} → (TiersView → X → Type 0) → (V → Stop → ℕ → Image → Type 0) → Point V → ℕ → List X → List X → Type 0
OutlastsSince shows left_since p t killed cut = (stop : Stop) (i : Image) → left_since p.vault stop t i
    → OpensAs shows (allowed stop killed cut) (parts_of p.tiers).groups (length (parts_of p.tiers).drives) (recovered i)
