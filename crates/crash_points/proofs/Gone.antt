-- A slot without a unit is gone.
use Rattle.std.proofs.Common.{◌≡◌, ℕ, List, Some, None, sym, ◌∙◌}
use Rattle.std.proofs.lemmas.Option.{none-some}
use Rattle.extent_groups.specs.Stores.{unit_of}
use Rattle.extent_groups.proofs.Missing.{gone_law}
use Rattle.unit_store.specs.Slots.{IsSlot}
use Rattle.unit_store.specs.Views.{PartsView, IsLost, Loses, FoundGone, drive_cells, drive_units, drive_lost}
use Rattle.unit_store.proofs.Calls.{lost_more}
use Rattle.unit_store.proofs.Reading.{slot_there}
use Rattle.slot_tables.specs.Represents.{ShowsArray}
use Rattle.slot_tables.specs.Views.{ArrayView, IsWhole}
use Rattle.slot_tables.proofs.Fares.{gone_before, loses_more}
use Rattle.disk_array.specs.Refused.{OnlyLoses}
use Rattle.flat_machine.specs.Cases.{IsGoneIn}
use Rattle.flat_machine.specs.Flat.{Flat}
use Rattle.flat_machine.specs.declared.refusal.Refusal.{Refusal}

pub gone_unit : (a : ArrayView) (slot : ℕ) → IsWhole a → IsSlot a.parts.groups slot → unit_of a.parts.groups (drive_cells a.parts) slot ≡ None → IsLost a.parts slot
gone_unit a slot whole is none =
    let site = slot_there a.parts.groups slot is in
    (gone_law drive_units drive_lost a.parts.groups a.parts.drives slot site.0 whole.groups.table whole.drives site.1).0 none

-- and a slot of which a unit was read isn't
pub not_gone : (a : ArrayView) (slot : ℕ) (bytes : List ℕ) → IsWhole a → unit_of a.parts.groups (drive_cells a.parts) slot ≡ Some bytes → IsLost a.parts slot → ⊥
not_gone a slot bytes whole read lost =
    none-some bytes (sym ((gone_law drive_units drive_lost a.parts.groups a.parts.drives slot lost.0 whole.groups.table whole.drives lost.1).1 lost) ∙ read)

-- nor was it before
pub not_before : (a m : ArrayView) (F : Flat) (slot : ℕ) (bytes : List ℕ) → IsWhole m → OnlyLoses a m → unit_of m.parts.groups (drive_cells m.parts) slot ≡ Some bytes → ShowsArray a F → IsGoneIn F slot → ⊥
not_before a m F slot bytes whole loses read shows gone =
    not_gone m slot bytes whole read (lost_more a.parts m.parts slot loses.1.fares loses.1.rest (gone_before F a.parts slot shows.tables.groups shows.tables.lost gone))

-- a slot that was found gone after a read was found gone by both together
pub gone_following : (a m b : PartsView) (slot : ℕ) (refusal : Refusal) → Loses a m → FoundGone m b slot refusal → FoundGone a b slot refusal
gone_following a m b slot refusal loses gone = record { loses = loses_more a m b loses gone.loses; reported = gone.reported; gone = gone.gone }
