-- A unit that is asked for, and what a walk over the drives finds of it.
use Rattle.std.specs.Prelude.{◌≡◌, ◌<◌, ◌≤◌, ℕ, Bool, true, Some, List, length, slice_get, slice_index_or}
use Rattle.std.proofs.Common.{refl, ◌∙◌}
use Rattle.history.specs.declared.view.Entry.{Entry}
use Rattle.unit_store.specs.Views.{DriveView}
use Rattle.cached_drive.specs.Saving.{Units, saved_by}
use Rattle.journaled_store.specs.declared.lookup.Lookup.{Lookup}

-- how many units a drive has, and its unit that is asked for, if it has one at the address
pub record IsLookupOf (units : Units) (w : Lookup) : Type 0 where
  pub many : length units ≡ w.units
  pub unit : w.address < w.units → slice_get units w.address ≡ Some w.unit.items

-- once its drive was shown, it is what that drive saved
abbrev pub HasPicked : ℕ → List (Entry Units) → Lookup → Type 0
HasPicked n log w = w.drive < n → IsLookupOf (saved_by w.drive log) w

-- what visits make of it: the place that is asked for stays, and what was copied is what its drive saved last
pub record Picks (n : ℕ) (log : List (Entry Units)) (w : Lookup) (m : ℕ) (now : List (Entry Units)) (x : Lookup) : Type 0 where
  pub drive : x.drive ≡ w.drive
  pub address : x.address ≡ w.address
  pub keeps : HasPicked n log w → HasPicked m now x

pub picks_stays : (n : ℕ) (log : List (Entry Units)) (w : Lookup) → Picks n log w n log w
picks_stays n log w = record { drive = refl; address = refl; keeps = λ h. h }

pub picks_further : (n : ℕ) (k : List (Entry Units)) (w : Lookup) (m : ℕ) (l : List (Entry Units)) (x : Lookup) (p : ℕ) (o : List (Entry Units)) (y : Lookup)
    → Picks n k w m l x → Picks m l x p o y → Picks n k w p o y
picks_further n k w m l x p o y one two = record {
  drive = two.drive ∙ one.drive;
  address = two.address ∙ one.address;
  keeps = λ h. two.keeps (one.keeps h);
}

-- what a walk over all drives found: how many there are, 16 at most, whether the drive of the unit that is asked for is lost, and that unit
pub record IsLookedUp (drives : List DriveView) (lost : List Bool) (count : ℕ) (w : Lookup) : Type 0 where
  pub count_is : length drives ≡ count
  pub few : count ≤ 16
  pub lost_is : (v : DriveView) → slice_get drives w.drive ≡ Some v → slice_index_or lost w.drive true ≡ v.lost
  pub here : (v : DriveView) → slice_get drives w.drive ≡ Some v → IsLookupOf v.units w
