-- A group that is made, or isn't because a drive is lost, stated over the parts as plain data.
use Rattle.std.proofs.Common.{◌≡◌, ◌≢◌, ℕ, ◌/◌, ◌%◌, ◌<◌, Bool, false, Option, Some, None, List, length, inl, inr, sym, ◌∙◌, ap, subst}
use Rattle.std.specs.Prelude.{slice_get, replicate}
use Rattle.std.proofs.lemmas.Option.{none-some}
use Rattle.extents.specs.Failures.{Failures}
use Rattle.extent_groups.specs.declared.class.Class.{Class}
use Rattle.extent_groups.specs.declared.class.Member.{Member}
use Rattle.extent_groups.specs.Geometry.{slot_count}
use Rattle.extent_groups.specs.Groups.{Groups, group_at, with_group, with_owners, IsFree}
use Rattle.extent_groups.specs.Cells.{Cells}
use Rattle.extent_groups.specs.Units.{unit_in, site_of_index}
use Rattle.extent_groups.specs.Stores.{unit_bytes, unit_of, AreSound, KeepsUnits}
use Rattle.extent_groups.proofs.Places.{same_or_not}
use Rattle.flat_machine.specs.declared.refusal.Refusal.{Refusal}
use Rattle.flat_machine.specs.Groups.{ArePresent}
use Rattle.flat_machine.specs.Flat.{Stored}
use Rattle.flat_machine.specs.Cases.{wiped}
use Rattle.unit_store.specs.declared.parts.Parts.{Parts}
use Rattle.unit_store.specs.Fit.{IsFit}
use Rattle.unit_store.specs.Losses.{AllFare, KeepsTables}
use Rattle.unit_store.specs.Making.{ReportsLost}
use Rattle.unit_store.specs.Shows.{ShowsUnits}
use Rattle.unit_store.specs.Slots.{cells_in, missing_in}
use Rattle.unit_store.specs.Views.{view_of, Entered, FoundLost}
use Rattle.unit_store.proofs.Shows.{shows_made}
use Rattle.unit_store.proofs.Views.{view_lost, view_fares}
use Rattle.unit_store.proofs.Calls.{shows_in, shows_out, some_kept, loses_view}

-- a group of wiped extents is in the tables
pub entered : {D : Type 0} (units : D → List (List ℕ)) (lost : D → Bool) (failures : D → Failures) (p q : Parts D) (g : ℕ) (class : Class) (ms : List Member) (zeros : List ℕ)
    → IsFree p.groups g → zeros ≡ replicate (unit_bytes p.groups) 0
    → q.groups ≡ with_group p.groups g (Some (record { class = class; members = ms })) → q.extents ≡ with_owners p.extents ms (Some g)
    → ArePresent (missing_in lost q) ms → AllFare lost failures p.drives.items q.drives.items → IsFit units q
    → (AreSound p.groups (cells_in units lost p) → AreSound q.groups (cells_in units lost q))
    → (AreSound p.groups (cells_in units lost p) → (slot : ℕ) (v : List ℕ) → slot / 128 ≢ g → unit_of q.groups (cells_in units lost q) slot ≡ Some v → unit_of p.groups (cells_in units lost p) slot ≡ Some v)
    → ((slot : ℕ) (v : List ℕ) → slot / 128 ≡ g → unit_of q.groups (cells_in units lost q) slot ≡ Some v → v ≡ zeros)
    → Entered (view_of units lost failures p) g class ms (view_of units lost failures q)
entered units lost failures p q g class ms zeros free zero groups owners present fares fit sound others blank = record {
  others = some_kept units lost failures p q (λ slot. slot / 128 ≢ g) others;
  fares = view_fares units lost failures p q fares;
  present = subst (λ m. ArePresent m ms) (sym (view_lost units lost failures q)) present;
  shows = λ f shows. shows_out units lost failures q (wiped f p.groups.payload g (slot_count class (length ms) p.groups.segments)) (shown f (shows_in units lost failures p f shows));
  groups = groups;
  owners = owners;
  agree = fit.agree;
}
  where
    shown : (f : ℕ → Option Stored) → ShowsUnits p.groups (cells_in units lost p) f
        → ShowsUnits q.groups (cells_in units lost q) (wiped f p.groups.payload g (slot_count class (length ms) p.groups.segments))
    shown f was = subst (λ t. ShowsUnits t (cells_in units lost q) (wiped f p.groups.payload g (slot_count class (length ms) p.groups.segments))) (sym groups)
        (shows_made p.groups g (record { class = class; members = ms }) (cells_in units lost p) (cells_in units lost q) f zeros free.within zero was
        (subst (λ t. AreSound t (cells_in units lost q)) groups (sound was.sound))
        (subst (λ t. (slot : ℕ) (v : List ℕ) → slot / 128 ≢ g → unit_of t (cells_in units lost q) slot ≡ Some v → unit_of p.groups (cells_in units lost p) slot ≡ Some v) groups (others was.sound))
        (subst (λ t. (slot : ℕ) (v : List ℕ) → slot / 128 ≡ g → unit_of t (cells_in units lost q) slot ≡ Some v → v ≡ zeros) groups blank))

-- a slot of a number that is free has no unit
free_none : (t : Groups) (c : Cells) (g slot : ℕ) (v : List ℕ) → group_at t g ≡ None → slot / 128 ≡ g → unit_of t c slot ≡ Some v → ⊥
free_none t c g slot v free q e =
    let none : unit_of t c slot ≡ None = ap (λ o. unit_in (unit_bytes t) c (site_of_index t.segments o (slot % 128))) (ap (group_at t) q ∙ free) in
    none-some v (sym none ∙ e)

-- no group is, and drives may have been lost
pub found_lost : {D : Type 0} (units : D → List (List ℕ)) (lost : D → Bool) (failures : D → Failures) (p q : Parts D) (g : ℕ) (ms : List Member) (refusal : Refusal)
    → IsFree p.groups g → KeepsTables p q → AllFare lost failures p.drives.items q.drives.items
    → (AreSound p.groups (cells_in units lost p) → AreSound q.groups (cells_in units lost q))
    → (AreSound p.groups (cells_in units lost p) → (slot : ℕ) (v : List ℕ) → slot / 128 ≢ g → unit_of q.groups (cells_in units lost q) slot ≡ Some v → unit_of p.groups (cells_in units lost p) slot ≡ Some v)
    → ReportsLost (missing_in lost q) ms refusal → FoundLost (view_of units lost failures p) ms (view_of units lost failures q) refusal
found_lost units lost failures p q g ms refusal free tables fares sound others reports = record {
  loses = loses_view units lost failures p q tables fares keeps sound;
  reported = subst (λ m. ReportsLost m ms refusal) (sym (view_lost units lost failures q)) reports;
}
  where
    keeps : AreSound p.groups (cells_in units lost p) → KeepsUnits p.groups (cells_in units lost p) (cells_in units lost q)
    keeps was slot v e = elim (same_or_not (slot / 128) g) [
      | inl at ↦ absurd (free_none p.groups (cells_in units lost q) g slot v free.free at e)
      | inr ne ↦ others was slot v ne (subst (λ t. unit_of t (cells_in units lost q) slot ≡ Some v) (sym tables.groups) e)
    ]

-- no member before this one is on a lost drive
abbrev pub ArePresentBelow : (ℕ → Bool) → List Member → ℕ → Type 0
ArePresentBelow missing ms bound = (k : ℕ) (m : Member) → k < bound → slice_get ms k ≡ Some m → missing m.drive ≡ false
