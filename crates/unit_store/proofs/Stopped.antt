-- What drives show after a stop past any prefix of a slot's planned writes, and once these were finished.
use Rattle.std.proofs.Common.{◌≡◌, ℕ, Option, Some, List, length, take}
use Rattle.extent_groups.specs.declared.place.Place.{Place}
use Rattle.extent_groups.specs.Groups.{Groups}
use Rattle.extent_groups.specs.Cells.{Cells}
use Rattle.extent_groups.specs.Calls.{FadesAt}
use Rattle.extent_groups.specs.Layout.{IsLayout}
use Rattle.extent_groups.specs.Planned.{Intended, after, IsWritePlan, IsFinished}
use Rattle.extent_groups.specs.Stores.{unit_bytes}
use Rattle.extent_groups.proofs.SlotWrites.{AreSizedCells, slots_fade}
use Rattle.extent_groups.proofs.Finishing.{finished_wrote}
use Rattle.flat_machine.specs.Flat.{Stored, put}
use Rattle.unit_store.specs.Shows.{IsUnit, ShowsUnits}
use Rattle.unit_store.proofs.Shows.{shows_kept, shows_wrote}

-- no write was made: drives may have been lost
pub shows_unbegun : (t : Groups) (c d : Cells) (units : ℕ → Option Stored) → IsLayout t → AreSizedCells (unit_bytes t) c → ShowsUnits t c units → ((x : Place) → FadesAt c d x) → ShowsUnits t d units
shows_unbegun t c d units layout sized shows fades =
    let kept = slots_fade t c d layout sized shows.sound fades in shows_kept t c d units shows kept.0 kept.1

-- a prefix of the writes was made, drives were lost, and the plan was finished: the slot has its unit, and all others theirs
pub shows_finished : (t : Groups) (c d e : Cells) (units : ℕ → Option Stored) (slot : ℕ) (bytes : List ℕ) (u : Stored) (expected : Place → List ℕ) (writes : List Intended) (n : ℕ)
    → IsLayout t → AreSizedCells (unit_bytes t) c → ((x : Place) → length (expected x) ≡ unit_bytes t) → ShowsUnits t c units → IsUnit bytes u
    → IsWritePlan t c slot bytes expected writes → ((x : Place) → FadesAt (after c (take n writes)) d x) → IsFinished t d e slot expected
    → ShowsUnits t e (put units slot (Some u))
shows_finished t c d e units slot bytes u expected writes n layout sized long shows is planned stopped finished =
    shows_wrote t c e units slot bytes u shows (finished_wrote t c d e slot bytes expected writes n layout sized long planned stopped finished shows.sound) is
