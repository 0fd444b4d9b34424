-- Units in memory that are written at noted places.
use Rattle.std.proofs.Common.{◌≡◌, ℕ, Bool, List, sym, subst}
use Rattle.extents.specs.Failures.{Failures}
use Rattle.extent_groups.specs.declared.place.Place.{Place}
use Rattle.extent_groups.specs.Calls.{KeepsDrives, NoPlace, Only}
use Rattle.extent_groups.proofs.DriveCalls.{keeps_more}

-- one place is among those that are touched, and no place
pub keeps_at : {D : Type 0} {units : D → List (List ℕ)} {lost : D → Bool} {failures : D → Failures} {touched : Place → Type 0} {a b : List D} (p : Place) → touched p
    → KeepsDrives units lost failures (Only p) a b → KeepsDrives units lost failures touched a b
keeps_at {touched = touched} p of keeps = keeps_more (λ x is. subst touched (sym is) of) keeps

pub keeps_not : {D : Type 0} {units : D → List (List ℕ)} {lost : D → Bool} {failures : D → Failures} {touched : Place → Type 0} {a b : List D}
    → KeepsDrives units lost failures NoPlace a b → KeepsDrives units lost failures touched a b
keeps_not keeps = keeps_more (λ x never. absurd never) keeps
