-- Sums of prefixes as long as the units are sums of units; and a length of prefixes replaced by an equal one.
use Rattle.std.proofs.Common.{◌≡◌, ℕ, inl, inr, Bool, true, false, Some, List, length, sym, ◌∙◌, ap, subst}
use Rattle.std.specs.Bool.{MatchBool}
use Rattle.extent_groups.specs.declared.place.Place.{Place}
use Rattle.extent_groups.specs.Cells.{cells, front_units}
use Rattle.extent_groups.specs.Units.{add, row_of}
use Rattle.extent_groups.specs.Calls.{AreSized, FadesAt, DidRead}
use Rattle.extent_groups.proofs.Fronts.{whole_held}
use Rattle.extent_groups.proofs.Totals.{total_same}
use Rattle.parity_store.specs.Ways.{bare, Added, AddedOne, Missed}
use Rattle.parity_store.proofs.Sums.{row_same, bare_same}

-- a read of prefixes, by an equal length
pub as_far : {D : Type 0} (units : D → List (List ℕ)) (lost : D → Bool) (old new : List D) (m n : ℕ) (p : Place) (u : List ℕ) (ok : Bool) → m ≡ n
    → DidRead (cells (front_units m units) lost old) (cells (front_units m units) lost new) p u ok → DidRead (cells (front_units n units) lost old) (cells (front_units n units) lost new) p u ok
as_far units lost old new m n p u ok same read = subst (λ k. DidRead (cells (front_units k units) lost old) (cells (front_units k units) lost new) p u ok) same read

-- a sum of prefixes, by an equal length
pub one_as_far : {D : Type 0} (units : D → List (List ℕ)) (lost : D → Bool) (old new : List D) (m n : ℕ) (row : List Place) (i p k : ℕ) (s t : List ℕ) → m ≡ n
    → AddedOne m (cells (front_units m units) lost old) (cells (front_units m units) lost new) row i p k s t
    → AddedOne n (cells (front_units n units) lost old) (cells (front_units n units) lost new) row i p k s t
one_as_far units lost old new m n row i p k s t same added =
    subst (λ l. AddedOne l (cells (front_units l units) lost old) (cells (front_units l units) lost new) row i p k s t) same added

pub missed_as_far : {D : Type 0} (units : D → List (List ℕ)) (lost : D → Bool) (old new : List D) (m n : ℕ) (row : List Place) (i p : ℕ) → m ≡ n
    → Missed (cells (front_units m units) lost old) (cells (front_units m units) lost new) row i p
    → Missed (cells (front_units n units) lost old) (cells (front_units n units) lost new) row i p
missed_as_far units lost old new m n row i p same missed = subst (λ l. Missed (cells (front_units l units) lost old) (cells (front_units l units) lost new) row i p) same missed

module _ {D : Type 0} (n : ℕ) (units : D → List (List ℕ)) (lost : D → Bool) (old new : List D) (sized : AreSized units n old) (still : AreSized units n new) where
  -- whole units
  fades_whole : (x : Place) → FadesAt (cells (front_units n units) lost old) (cells (front_units n units) lost new) x → FadesAt (cells units lost old) (cells units lost new) x
  fades_whole x (inl same) = inl (sym (whole_held n units lost new still x) ∙ same ∙ whole_held n units lost old sized x)
  fades_whole x (inr gone) = inr (sym (whole_held n units lost new still x) ∙ gone)

  pub added_whole : (row : List Place) (i p : ℕ) (before after : List ℕ) (ok : Bool)
      → MatchBool ok (Added n (cells (front_units n units) lost old) (cells (front_units n units) lost new) row i p before after) (Missed (cells (front_units n units) lost old) (cells (front_units n units) lost new) row i p)
      → MatchBool ok (Added n (cells units lost old) (cells units lost new) row i p before after) (Missed (cells units lost old) (cells units lost new) row i p)
  added_whole row i p before after true added =
      let whole : (k : ℕ) → row_of (cells (front_units n units) lost old) row k ≡ row_of (cells units lost old) row k =
      row_same (cells units lost old) (cells (front_units n units) lost old) row (λ x. whole_held n units lost old sized x) in
      record {
        same = λ x. sym (whole_held n units lost new still x) ∙ added.same x ∙ whole_held n units lost old sized x;
        sum = ap (add (Some before)) (total_same n (length row) (bare n (row_of (cells units lost old) row) i p) (bare n (row_of (cells (front_units n units) lost old) row) i p)
            (λ k low. bare_same n (row_of (cells units lost old) row) (row_of (cells (front_units n units) lost old) row) i p k (sym (whole k)))) ∙ added.sum;
      }
  added_whole row i p before after false missed = record {
    fades = λ x. fades_whole x (missed.fades x);
    missing = (
      missed.missing.0,
      missed.missing.1,
      missed.missing.2,
      missed.missing.3,
      sym (row_same (cells units lost new) (cells (front_units n units) lost new) row (λ x. whole_held n units lost new still x) missed.missing.0) ∙ missed.missing.4,
    );
  }
