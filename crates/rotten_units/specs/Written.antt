-- What writes of noted places leave of a vault.
use Rattle.std.specs.Prelude.{◌≡◌, ◌⊎◌, ℕ, true, Some, is_some, List}
use Rattle.extent_groups.specs.declared.place.Place.{Place}
use Rattle.extent_groups.specs.Cells.{Cells, held}
use Rattle.vault.specs.Images.{Image}
use Rattle.vault.specs.Moments.{LeavesOnly}
use Rattle.vault.specs.declared.store.Stop.{Stop}

-- an image with other units at some places, which have units before and after, and nothing else
pub record DiffersAt (places : Place → Type 0) (base i : Image) : Type 0 where
  pub there : (x : Place) → is_some (held i.cells x) ≡ is_some (held base.cells x)
  pub elsewhere : (x : Place) → (places x → ⊥) → held i.cells x ≡ held base.cells x
  pub journal : i.journal ≡ base.journal

-- each stop leaves an image that differs from this one at some places only
abbrev pub LeavesAt : {V : Type 0} → (V → Stop → Image → Type 0) → (Place → Type 0) → Image → V → Type 0
LeavesAt may_leave places base vault = (stop : Stop) (i : Image) → may_leave vault stop i → DiffersAt places base i

-- Units were written at some places only: what calls find differs there, and if what a stop left differed there only, so does what a stop
-- at any moment leaves.
pub record WroteAt {V : Type 0} (seen : V → Image) (may_leave : V → Stop → Image → Type 0) (moment : V → ℕ) (left_since : V → Stop → ℕ → Image → Type 0)
    (places : Place → Type 0) (old new : V) : Type 0 where
  pub finds : DiffersAt places (seen old) (seen new)
  pub leaves : LeavesAt may_leave places (seen old) old → LeavesAt may_leave places (seen old) new
  pub moments : LeavesAt may_leave places (seen old) old → (stop : Stop) → LeavesOnly moment left_since stop old new (DiffersAt places (seen old))

-- the unit at a place, if there is one, is that of these cells
abbrev pub IsFrom : (units now : Cells) → Place → Type 0
IsFrom units now x = (u : List ℕ) × (held units x ≡ Some u) × (is_some (held now x) ≡ true → held now x ≡ Some u)

-- a unit was attested and is as it was, or it is at one of some places, and that of these cells
abbrev pub IsKeptOrFrom : (attested places : Place → Type 0) (units was now : Cells) → Place → Type 0
IsKeptOrFrom attested places units was now x = (attested x × (held now x ≡ held was x)) ⊎ (places x × IsFrom units now x)

-- Of writes at some places with units of these cells nothing else is attested: each unit that is attested was so before and is as it was, or
-- is that of the cells.
abbrev pub WroteFrom : {V : Type 0} (seen : V → Image) (attested : V → Place → Type 0) (places : Place → Type 0) (units : Cells) (old new : V) → Type 0
WroteFrom seen attested places units old new = (x : Place) → attested new x → IsKeptOrFrom (attested old) places units (seen old).cells (seen new).cells x
