-- One more drive, stated over the parts as plain data.
use Rattle.std.proofs.Common.{◌≡◌, ℕ, zero, suc, ◌+◌, ◌*◌, ◌<◌, Bool, List, [], ◌∷◌, ◌++◌, length, refl, sym, ◌∙◌, ap, arith, ◌⊎◌, inl, inr, Option, Some}
use Rattle.std.specs.Prelude.{slice_get}
use Rattle.std.proofs.lemmas.List.{length-append}
use Rattle.std.proofs.lemmas.Bool.{cases_eq}
use Rattle.extents.specs.Failures.{Failures}
use Rattle.extents.specs.Owners.{Owners, with_drive}
use Rattle.extents.specs.Sizes.{extent_units}
use Rattle.extents.specs.Units.{AreUnitsSized}
use Rattle.extent_groups.specs.Cells.{cells}
use Rattle.extent_groups.specs.Missing.{is_missing}
use Rattle.extent_groups.specs.Stores.{unit_bytes, unit_of, AreDrives, AreSound}
use Rattle.extent_groups.proofs.Agreement.{agree_more}
use Rattle.extent_groups.proofs.Readiness.{drive_more}
use Rattle.flat_machine.specs.Flat.{Stored, put}
use Rattle.flat_machine.proofs.Pairs.{put_here, put_else}
use Rattle.unit_store.specs.declared.parts.Parts.{Parts}
use Rattle.unit_store.specs.Fit.{IsFit}
use Rattle.unit_store.specs.Losses.{failures_at, failures_by_drive}
use Rattle.unit_store.specs.Shows.{ShowsUnits}
use Rattle.unit_store.specs.Slots.{cells_in, missing_in}
use Rattle.unit_store.specs.Views.{view_of, WasAdded}
use Rattle.unit_store.proofs.Calls.{shows_in, shows_out, all_kept}
use Rattle.unit_store.proofs.Shows.{shows_kept}
use Rattle.unit_store.proofs.Views.{view_lost, view_failures, view_length}

-- the last of a list, and every other
last_pushed : {X : Type 0} (xs : List X) (y : X) → slice_get (xs ++ y ∷ []) (length xs) ≡ Some y
last_pushed [] y = refl
last_pushed (x ∷ xs) y = last_pushed xs y

other_pushed : {X : Type 0} (xs : List X) (y : X) (d : ℕ) → (d ≡ length xs → ⊥) → slice_get (xs ++ y ∷ []) d ≡ slice_get xs d
other_pushed [] y zero ne = absurd (ne refl)
other_pushed [] y (suc d) ne = refl
other_pushed (x ∷ xs) y zero ne = refl
other_pushed (x ∷ xs) y (suc d) ne = other_pushed xs y d (λ e. ne (ap suc e))

-- a function of the element at each index, once one more element was appended
reported_pushed : {X Y : Type 0} (f : Option X → Y) (xs : List X) (y : X) (d : ℕ) → f (slice_get (xs ++ y ∷ []) d) ≡ put (λ k. f (slice_get xs k)) (length xs) (f (Some y)) d
reported_pushed f xs y d = go (cases_eq d (length xs))
  where
    go : (d ≡ length xs) ⊎ (d ≡ length xs → ⊥) → f (slice_get (xs ++ y ∷ []) d) ≡ put (λ k. f (slice_get xs k)) (length xs) (f (Some y)) d
    go (inl e) = ap (λ k. f (slice_get (xs ++ y ∷ []) k)) e ∙ ap f (last_pushed xs y)
        ∙ sym (ap (put (λ k. f (slice_get xs k)) (length xs) (f (Some y))) e ∙ put_here (λ k. f (slice_get xs k)) (length xs) (f (Some y)))
    go (inr ne) = ap f (other_pushed xs y d ne) ∙ sym (put_else (λ k. f (slice_get xs k)) (length xs) (f (Some y)) d ne)

-- the parts with one more drive, whose extents are free
pub record IsOneMore {D : Type 0} (p q : Parts D) (y : D) : Type 0 where
  pub shape : q.shape ≡ p.shape
  pub groups : q.groups ≡ p.groups
  pub extents : q.extents ≡ with_drive p.extents
  pub drives : q.drives.items ≡ p.drives.items ++ y ∷ []

module _ {D : Type 0} (units : D → List (List ℕ)) (lost : D → Bool) (failures : D → Failures) (p q : Parts D) (y : D) (fit : IsFit units p) (more : IsOneMore p q y)
    (many : length (units y) ≡ p.groups.extents * extent_units p.groups.segments) (sized : AreUnitsSized (unit_bytes p.groups) (units y)) where
  abbrev all : AreDrives units p.groups (p.drives.items ++ y ∷ [])
      × ((slot : ℕ) → unit_of p.groups (cells units lost (p.drives.items ++ y ∷ [])) slot ≡ unit_of p.groups (cells units lost p.drives.items) slot)
      × (AreSound p.groups (cells units lost p.drives.items) → AreSound p.groups (cells units lost (p.drives.items ++ y ∷ [])))
  all = drive_more units lost p.groups p.drives.items y fit.groups fit.drives many sized

  count : length q.drives.items ≡ length p.drives.items + 1
  count = ap length more.drives ∙ length-append p.drives.items (y ∷ [])

  pub more_fit : length p.drives.items < 16 → IsFit units q
  more_fit room = record {
    shape = rw (more.shape, more.groups) fit.shape;
    least = let n = count in let low = fit.least in omega arith;
    most = let n = count in omega arith;
    groups = rw (more.groups) fit.groups;
    drives = rw (more.groups, more.drives) all.0;
    agree = rw (more.groups, more.extents) (agree_more p.groups p.extents fit.agree);
    rows = ap (λ (o : Owners). length o.rows) more.extents ∙ length-append p.extents.rows _ ∙ ap (λ n. n + 1) fit.rows ∙ sym count;
    wide = ap (λ (o : Owners). o.extents) more.extents ∙ fit.wide ∙ rw (more.groups) refl;
  }

  shown : (f : ℕ → Option Stored) → ShowsUnits p.groups (cells_in units lost p) f → ShowsUnits q.groups (cells_in units lost q) f
  shown f was = rw (more.groups, more.drives) (shows_kept p.groups (cells_in units lost p) (cells units lost (p.drives.items ++ y ∷ [])) f was
      (λ slot v at. sym (all.1 slot) ∙ at) (all.2 was.sound))

  kept : AreSound p.groups (cells_in units lost p) → (slot : ℕ) (v : List ℕ) → unit_of q.groups (cells_in units lost q) slot ≡ Some v → unit_of p.groups (cells_in units lost p) slot ≡ Some v
  kept sound slot v = rw (more.groups, more.drives) (λ at. sym (all.1 slot) ∙ at)

  pub was_added : WasAdded (view_of units lost failures p) (lost y) (failures y) (view_of units lost failures q)
  was_added = record {
    bytes = all_kept units lost failures p q kept;
    many = view_length units lost failures q ∙ count ∙ sym (ap (λ n. n + 1) (view_length units lost failures p));
    lost_are = λ d. ap (λ f. f d) (view_lost units lost failures q) ∙ ap (λ ds. is_missing lost (slice_get ds d)) more.drives ∙ reported_pushed (is_missing lost) p.drives.items y d
        ∙ ap (λ n. put (missing_in lost p) n (lost y) d) (sym (view_length units lost failures p))
        ∙ ap (λ f. put f (length (view_of units lost failures p).drives) (lost y) d) (sym (view_lost units lost failures p));
    failures_are = λ d. ap (λ f. f d) (view_failures units lost failures q) ∙ ap (λ ds. failures_at failures (slice_get ds d)) more.drives ∙ reported_pushed (failures_at failures) p.drives.items y d
        ∙ ap (λ n. put (failures_by_drive failures p.drives.items) n (failures y) d) (sym (view_length units lost failures p))
        ∙ ap (λ f. put f (length (view_of units lost failures p).drives) (failures y) d) (sym (view_failures units lost failures p));
    shows = λ f shows. shows_out units lost failures q f (shown f (shows_in units lost failures p f shows));
    groups = more.groups;
    owners = more.extents;
  }
