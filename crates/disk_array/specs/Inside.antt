-- An array as plain data, with the buffers and counts that contracts don't see, and what always holds of them.
use Rattle.std.specs.Prelude.{◌≡◌, ℕ, ◌*◌, Bool, List, length, vec_len, None}
use Rattle.extents.specs.Failures.{Failures}
use Rattle.extent_groups.specs.Stores.{unit_bytes}
use Rattle.unit_store.specs.declared.parts.Parts.{Parts}
use Rattle.unit_store.specs.Fit.{IsFit}
use Rattle.unit_store.specs.Views.{view_of}
use Rattle.slot_tables.specs.Views.{ArrayView}
use Rattle.disk_array.specs.declared.array.Array.TheInside.{Inside}
use Rattle.disk_array.specs.declared.buffers.Buffers.{Buffers}
use Rattle.slot_tables.specs.Kept.{kepts_of, HavePlaces}
use Rattle.slot_tables.specs.Counted.{AreCounts}
use Rattle.slot_tables.specs.Claims.{AreClaimsOf}

abbrev pub seen : {D C : Type 0} → (D → List (List ℕ)) → (D → Bool) → (D → Failures) → Inside D C → ArrayView
seen units lost failures a = record {
  parts = view_of units lost failures a.parts;
  log = a.log.items;
  keys = a.keys.items;
  kept = kepts_of a.places.items;
}

-- buffers for units of that many bytes: one of a unit's length and one of two units'
pub record AreBuffers (bytes : ℕ) (buffers : Buffers) : Type 0 where
  pub unit : length buffers.unit.items ≡ bytes
  pub scratch : length buffers.scratch.items ≡ 2 * bytes

-- an array's parts without a note, the claims of all slots that it kept, and its buffers
pub record WasTakenApart {D C : Type 0} (units : D → List (List ℕ)) (lost : D → Bool) (failures : D → Failures) (names : C → ℕ) (a : ArrayView) (parts : Parts D) (claims : List C) (buffers : Buffers) : Type 0 where
  pub parts_are : view_of units lost failures parts ≡ a.parts
  pub fit : IsFit units parts
  pub note : parts.note ≡ None
  pub claims_are : AreClaimsOf names a claims
  pub buffers_are : AreBuffers (unit_bytes parts.groups) buffers

-- the drives are those of the tables, and there is a buffer of a unit's length and one of two units'; there are places for
-- the slots of each made group, and the counts are those of the places
pub record IsReady {D C : Type 0} (units : D → List (List ℕ)) (a : Inside D C) : Type 0 where
  pub fit : IsFit units a.parts
  pub unit : length a.unit.items ≡ unit_bytes a.parts.groups
  pub scratch : length a.scratch.items ≡ 2 * unit_bytes a.parts.groups
  pub places : HavePlaces a.parts.groups (vec_len a.places)
  pub live : AreCounts (kepts_of a.places.items) a.live
