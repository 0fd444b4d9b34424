-- When parts fit.
use Rattle.std.proofs.Common.{◌≡◌, ℕ, ◌≤◌, ◌<◌, ◌*◌, Bool, true, false, List, [], ◌∷◌, length, sym, ◌∙◌, ap, subst, refl, arith, inl, inr}
use Rattle.std.specs.Prelude.{IsTrue, Some, slice_get}
use Rattle.std.specs.Bool.{MatchBool}
use Rattle.std.specs.List.{AllWithin, HoldsAt}
use Rattle.std.proofs.lemmas.Option.{get_or_from_slice_get, slice_get_cases, slice_get_within}
use Rattle.extents.specs.Units.{AreUnitsSized}
use Rattle.extents.specs.Sizes.{extent_units}
use Rattle.extents.specs.Shapes.{IsShapeOf}
use Rattle.extent_groups.specs.Groups.{AreGroups, Agree}
use Rattle.extent_groups.specs.Calls.{AreSized}
use Rattle.extent_groups.specs.Stores.{unit_bytes}
use Rattle.extent_groups.proofs.Readiness.{agree_drives}
use Rattle.unit_store.specs.declared.parts.Parts.{Parts}
use Rattle.unit_store.specs.Fit.{IsFit, HaveUnitCount}

-- parts that pass each test fit
pub fits : {D : Type 0} (units : D → List (List ℕ)) (p : Parts D) → IsShapeOf p.shape p.groups.extents p.groups.segments p.groups.payload p.groups.blocks
    → 3 ≤ length p.drives.items → length p.drives.items ≤ 16 → AreGroups p.groups → HaveUnitCount units p.drives.items (p.shape.extents * extent_units p.shape.segments)
    → AreSized units (unit_bytes p.groups) p.drives.items → Agree p.groups p.extents → length p.extents.rows ≡ length p.drives.items → p.extents.extents ≡ p.shape.extents → IsFit units p
fits units p shape least most groups many sized agree rows wide =
    let same : p.extents.extents ≡ p.groups.extents = wide ∙ shape.of_extents in
    record {
      shape = shape;
      least = least;
      most = most;
      groups = groups;
      drives = agree_drives p.groups p.extents p.drives.items agree rows same
          (λ d x e. many d x e ∙ ap (λ n. n * extent_units p.shape.segments) shape.of_extents ∙ ap (λ n. p.groups.extents * extent_units n) shape.of_segments) sized;
      agree = agree;
      rows = rows;
      wide = same;
    }

-- drives of which each element of the list says that its units are sized
pub sized_within : {D : Type 0} (units : D → List (List ℕ)) (bytes : ℕ) (drives : List D) → AllWithin (λ x. AreUnitsSized bytes (units x)) drives 0 (length drives) → AreSized units bytes drives
sized_within units bytes drives all d x e =
    subst (λ y. AreUnitsSized bytes (units y)) (get_or_from_slice_get drives d x x e) (all d x (omega arith) (slice_get_within drives d x e))

-- a search for a drive that isn't sized finds none where all are and each has a unit
pub sized_where : {D : Type 0} (units : D → List (List ℕ)) (bytes : ℕ) (drives : List D) (found : Bool)
    → MatchBool found (AllWithin (λ x. AreUnitsSized bytes (units x)) drives 0 (length drives))
    ((k : ℕ) × (k < length drives) × HoldsAt (λ x. AreUnitsSized bytes (units x) → length (units x) ≡ 0) drives k)
    → AreSized units bytes drives → ((d : ℕ) (x : D) → slice_get drives d ≡ Some x → 1 ≤ length (units x)) → IsTrue found
sized_where units bytes drives true _ sized some = refl
sized_where units bytes drives false (k, below, at) sized some = elim (slice_get_cases drives k).1 [
  | inl (x, _, e, same) ↦
      let none = subst (λ y. AreUnitsSized bytes (units y) → length (units y) ≡ 0) same (at x) (sized k x e) in
      let one = some k x e in
      absurd (omega (arith, none, one))
  | inr (past, _) ↦ absurd (omega (arith, below, past))
]

-- units that have two sizes are none
pub sized_twice : (one other : ℕ) (us : List (List ℕ)) → AreUnitsSized one us → AreUnitsSized other us → (one ≡ other → ⊥) → length us ≡ 0
sized_twice one other [] a b apart = refl
sized_twice one other (u ∷ us) a b apart = absurd (apart (sym (a 0 u refl) ∙ b 0 u refl))
