-- What a drive holds: a list of units, each a list of bytes of one length.
use Rattle.std.specs.Prelude.{◌≡◌, ◌≤◌, ◌⊎◌, ℕ, zero, suc, Bool, true, false, Some, List, [], ◌∷◌, length, map, take, drop, slice_get, replicate}

-- every unit has `size` bytes
abbrev pub AreUnitsSized : ℕ → List (List ℕ) → Type 0
AreUnitsSized size units = (at : ℕ) (unit : List ℕ) → slice_get units at ≡ Some unit → length unit ≡ size

-- every unit has at least `count` bytes
abbrev pub HaveFront : ℕ → List (List ℕ) → Type 0
HaveFront count units = (at : ℕ) (unit : List ℕ) → slice_get units at ≡ Some unit → count ≤ length unit

-- a buffer with which the first bytes of a unit can be read: it has a unit's length, or it is empty and these bytes are all
abbrev pub HasUnitBuffer : (front scratch : ℕ) → List (List ℕ) → Type 0
HasUnitBuffer front scratch units = AreUnitsSized scratch units ⊎ ((scratch ≡ 0) × AreUnitsSized front units)

-- the first `count` bytes of each unit
abbrev pub fronts : ℕ → List (List ℕ) → List (List ℕ)
fronts count units = map (take count) units

-- the units that lie next to each other in the bytes: `count` of them, each of this size
abbrev pub units_in : ℕ → ℕ → List ℕ → List (List ℕ)
units_in size zero bytes = []
units_in size (suc count) bytes = take size bytes ∷ units_in size count (drop size bytes)

-- units that are zero throughout
abbrev pub zero_units : ℕ → ℕ → List (List ℕ)
zero_units size count = replicate count (replicate size 0)

-- 1 where a drive that was there is lost now, else 0
abbrev pub loss : Bool → Bool → ℕ
loss false true = 1
loss _ _ = 0
