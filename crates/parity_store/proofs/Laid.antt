-- Stripes that can be read and written.
use Rattle.std.proofs.Common.{◌≡◌, ℕ, ◌<◌, ◌≤◌, Bool, Some, List, length, sym, subst, arith}
use Rattle.std.specs.Prelude.{slice_get}
use Rattle.extents.specs.Failures.{Failures}
use Rattle.extents.specs.Sizes.{extent_units}
use Rattle.extent_groups.specs.declared.class.Member.{Member}
use Rattle.extent_groups.specs.declared.geometry.Stripe.{Stripe}
use Rattle.extent_groups.specs.declared.place.Place.{Place}
use Rattle.extent_groups.specs.Groups.{Groups, members_of}
use Rattle.extent_groups.specs.Calls.{AreSized, HaveFronts, NoPlace, KeepsDrives}
use Rattle.extent_groups.specs.Stores.{unit_bytes, AreDrives, IsGroupOf}
use Rattle.extent_groups.specs.Units.{InStripe, places_of, site_of}
use Rattle.extent_groups.proofs.DriveCalls.{keeps_place, keeps_sizes}
use Rattle.extent_groups.proofs.Fronts.{have_fronts, keeps_fronts}
use Rattle.extent_groups.proofs.Sites.{row_places}
use Rattle.parity_store.specs.Ways.{row_at, IsLaid, IsReadableRow}

-- the stripes of a group of at most 8 members can be read and written
pub laid : {D : Type 0} (units : D → List (List ℕ)) (groups : Groups) (drives : List D) (group offset bytes : ℕ) → AreDrives units groups drives → bytes ≡ unit_bytes groups
    → (offset < extent_units groups.segments) × (length (members_of groups group) ≤ 8) → IsLaid units groups group offset bytes drives
laid units groups drives group offset bytes are same inside = record {
  few = inside.1;
  low = inside.0;
  row = row_places units groups drives group offset are inside.0;
  size = subst (λ n. AreSized units n drives) (sym same) are.sized;
}

-- and after a call
pub still_laid : {D : Type 0} {units : D → List (List ℕ)} {lost : D → Bool} {failures : D → Failures} {touched : Place → Type 0} {a b : List D} {groups : Groups} {group offset m n : ℕ}
    → KeepsDrives units lost failures touched a b → m ≡ n → IsLaid units groups group offset n a → IsLaid units groups group offset m b
still_laid {units = units} {b = b} keeps same h = record {
  few = h.few;
  low = h.low;
  row = λ k x at. keeps_place keeps (h.row k x at);
  size = subst (λ n. AreSized units n b) (sym same) (keeps_sizes keeps h.size);
}

-- the first `count` bytes of the stripes of a group of at most 8 members can be read
pub readable : {D : Type 0} (units : D → List (List ℕ)) (groups : Groups) (drives : List D) (group offset count : ℕ) → AreDrives units groups drives → count ≤ unit_bytes groups
    → (offset < extent_units groups.segments) × (length (members_of groups group) ≤ 8) → IsReadableRow units groups group offset count drives
readable units groups drives group offset count are short inside = record {
  few = inside.1;
  low = inside.0;
  row = row_places units groups drives group offset are inside.0;
  fronts = have_fronts units count (unit_bytes groups) drives short are.sized;
}

-- a stripe that can be read and written can be read as far as its units go
pub laid_readable : {D : Type 0} {units : D → List (List ℕ)} {drives : List D} {groups : Groups} {group offset m n : ℕ} → m ≡ n → IsLaid units groups group offset n drives
    → IsReadableRow units groups group offset m drives
laid_readable {units = units} {drives = drives} {m = m} {n = n} same h = record { few = h.few; low = h.low; row = h.row; fronts = have_fronts units m n drives (omega (arith, same)) h.size }

-- and after reads
pub still_readable : {D : Type 0} {units : D → List (List ℕ)} {lost : D → Bool} {failures : D → Failures} {a b : List D} {groups : Groups} {group offset m n : ℕ}
    → KeepsDrives units lost failures NoPlace a b → m ≡ n → IsReadableRow units groups group offset n a → IsReadableRow units groups group offset m b
still_readable {units = units} {b = b} keeps same h = record {
  few = h.few;
  low = h.low;
  row = λ k x at. keeps_place keeps (h.row k x at);
  fronts = subst (λ n. HaveFronts units n b) (sym same) (keeps_fronts keeps h.fronts);
}

-- where a unit of a group lies, by the members that were found of it
pub found_place : (t : Groups) (g k offset : ℕ) (members : List Member) (p : Place) → IsGroupOf t g members → slice_get (places_of t.segments members offset) k ≡ Some p → slice_get (row_at t g offset) k ≡ Some p
found_place t g k offset members p of here = subst (λ ms. slice_get (places_of t.segments ms offset) k ≡ Some p) of.found here

-- and a slot
pub found_site : (t : Groups) (g slot : ℕ) (members : List Member) (at : Stripe) → IsGroupOf t g members → site_of t slot ≡ Some (InStripe (places_of t.segments members at.offset) at.parity at.member)
    → site_of t slot ≡ Some (InStripe (row_at t g at.offset) at.parity at.member)
found_site t g slot members at of here = subst (λ ms. site_of t slot ≡ Some (InStripe (places_of t.segments ms at.offset) at.parity at.member)) of.found here

-- and how many members there are
pub found_few : (t : Groups) (g : ℕ) (members : List Member) (P : Type 0) → IsGroupOf t g members → P × (length members ≤ 8) → P × (length (members_of t g) ≤ 8)
found_few t g members P of here = subst (λ ms. P × (length ms ≤ 8)) of.found here
