-- What was read before a member of a row is written: with that any of the three ways can be listed before the first write.
use Rattle.std.specs.Bool.{MatchBool}
use Rattle.std.specs.Prelude.{◌≡◌, ◌≢◌, ℕ, Bool, true, false, Option, Some, None, List, [], ◌∷◌, length, slice_get}
use Rattle.extent_groups.specs.declared.place.Place.{Place}
use Rattle.extent_groups.specs.Cells.{Cells, held}
use Rattle.extent_groups.specs.Units.{InStripe, plus, xor_total, row_of, unit_at, IsSoundAt}
use Rattle.extent_groups.specs.Calls.{FadesAt, DidWrite, if_ok}
use Rattle.extent_groups.specs.Stores.{LeavesSites}
use Rattle.extent_groups.specs.Planned.{Intended, after}
use Rattle.parity_store.specs.Ways.{bare}
use Rattle.parity_store.specs.declared.target.Target.{Target}
use Rattle.parity_store.specs.Targets.{row_to, site_to}
use Rattle.extent_groups.specs.Groups.{Groups}
use Rattle.parity_store.specs.declared.way.Way.{Way}
use Rattle.parity_store.specs.declared.way.Way.TheVariants.{Both, Alone, Parity, Missed}

-- a draft: both places were read, and the sum is the parity by difference; the parity's drive is lost; the unit's is, and the sum
-- is the parity from all others; or the slot is gone
abbrev pub IsDraft : ℕ → Cells → List Place → ℕ → ℕ → Place → Place → List ℕ → List ℕ → Way → Type 0
IsDraft n c row p i home parity unit sum Both = (d : List ℕ) × (q : List ℕ) × (held c home ≡ Some d) × (held c parity ≡ Some q) × (sum ≡ plus (plus q d) unit)
IsDraft n c row p i home parity unit sum Alone = (d : List ℕ) × (held c home ≡ Some d) × (held c parity ≡ None)
IsDraft n c row p i home parity unit sum Parity =
    (rest : List ℕ) × (held c home ≡ None) × (held c parity ≡ None → ⊥) × (xor_total n (length row) (bare n (row_of c row) i p) ≡ Some rest) × (sum ≡ plus unit rest)
IsDraft n c row p i home parity unit sum Missed = unit_at n c (InStripe row p i) ≡ None

-- the writes of a way, in order: the unit where it lies, then the sum as the parity
abbrev pub writes_by : Place → Place → List ℕ → List ℕ → Way → List Intended
writes_by home parity unit sum Both = record { place = home; unit = unit } ∷ record { place = parity; unit = sum } ∷ []
writes_by home parity unit sum Alone = record { place = home; unit = unit } ∷ []
writes_by home parity unit sum Parity = record { place = parity; unit = sum } ∷ []
writes_by home parity unit sum Missed = []

-- the parity's unit among them, if there is one
abbrev pub parity_by : List ℕ → Way → Option (List ℕ)
parity_by sum Both = Some sum
parity_by sum Parity = Some sum
parity_by sum _ = None

-- what the drives hold after a way's writes: each is made, the second Ok or refused; or the first was refused
abbrev pub IsWrittenByWay : Cells → Cells → Place → Place → List ℕ → List ℕ → Way → Bool → Type 0
IsWrittenByWay c new home parity unit sum Both true = (mid : Cells) × (kept : Bool) × DidWrite c mid home unit true × DidWrite mid new parity sum kept
IsWrittenByWay c new home parity unit sum Both false = DidWrite c new home unit false
IsWrittenByWay c new home parity unit sum Alone ok = DidWrite c new home unit ok
IsWrittenByWay c new home parity unit sum Parity ok = DidWrite c new parity sum ok
IsWrittenByWay c new home parity unit sum Missed ok = (ok ≡ false) × (new ≡ c)

-- a member of a row was written by a draft: drafted from what the drives held after reads, and all its writes were made, but
-- for losses
pub record WroteByDraft (n : ℕ) (c new : Cells) (row : List Place) (p i : ℕ) (unit : List ℕ) : Type 0 where
  pub home : Place
  pub parity : Place
  pub home_is : slice_get row i ≡ Some home
  pub parity_is : slice_get row p ≡ Some parity
  pub mid : Cells
  pub sum : List ℕ
  pub way : Way
  pub sized : length sum ≡ n
  pub found : way ≢ Missed
  pub read : (x : Place) → FadesAt c mid x
  pub draft : IsDraft n mid row p i home parity unit sum way
  pub written : (x : Place) → FadesAt (after mid (writes_by home parity unit sum way)) new x

-- the draft of a slot's write
abbrev pub IsDraftOf : Groups → Cells → Target → List ℕ → List ℕ → Way → Type 0
IsDraftOf groups c target unit sum way = IsDraft (length unit) c (row_to groups target) target.at.parity target.at.member target.home target.parity unit sum way

-- a slot's write was drafted from what the drives held after reads, and its way's writes were made, or the first of them was
-- refused
pub record Tried (groups : Groups) (c new : Cells) (target : Target) (unit : List ℕ) (way : Way) (ok : Bool) : Type 0 where
  pub mid : Cells
  pub sum : List ℕ
  pub sized : length sum ≡ length unit
  pub read : (x : Place) → FadesAt c mid x
  pub draft : IsDraftOf groups mid target unit sum way
  pub carried : IsWrittenByWay mid new target.home target.parity unit sum way ok

-- how a slot's write ends
pub record Ends (groups : Groups) (c new : Cells) (target : Target) (unit : List ℕ) (ok : Bool) : Type 0 where
  pub unit_is : unit_at (length unit) new (site_to groups target) ≡ if_ok ok unit
  pub leaves : IsSoundAt (length unit) c (site_to groups target) → LeavesSites (length unit) c new (site_to groups target)
  pub drafted : MatchBool ok (WroteByDraft (length unit) c new (row_to groups target) target.at.parity target.at.member unit) ((x : Place) → FadesAt c new x)
