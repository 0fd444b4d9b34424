-- A group that is dissolved, stated over the parts as plain data.
use Rattle.std.proofs.Common.{◌≡◌, ℕ, ◌/◌, ◌<◌, Bool, true, false, is_some, List, Vec, length, sym, ◌∙◌, ap, subst, inl, inr, cond, Option, None, Result, Ok, Err, OnOk, IfErr}
use Rattle.std.proofs.lemmas.Option.{none-some}
use Rattle.extents.specs.Failures.{Failures}
use Rattle.extents.specs.Owners.{Owners}
use Rattle.extent_groups.specs.Cells.{Cells}
use Rattle.extent_groups.specs.Groups.{Groups, group_at, AreGroups, Agree, members_in, members_of, with_group, with_owners}
use Rattle.extent_groups.proofs.Fresh.{no_members}
use Rattle.extent_groups.proofs.GroupsLemmas.{group_same}
use Rattle.extent_groups.proofs.Making.{take_keeps, drives_with}
use Rattle.extent_groups.proofs.Places.{same_or_not}
use Rattle.extent_groups.proofs.Readiness.{rows_given, extents_given}
use Rattle.flat_machine.specs.Flat.{Stored}
use Rattle.flat_machine.specs.Moves.{without_group}
use Rattle.flat_machine.proofs.Pairs.{unequal}
use Rattle.unit_store.specs.declared.parts.Parts.{Parts}
use Rattle.unit_store.specs.Fit.{IsFit}
use Rattle.unit_store.specs.Shows.{ShowsUnits}
use Rattle.unit_store.specs.Slots.{cells_in}
use Rattle.unit_store.specs.Views.{view_of, drive_view, WasTaken}
use Rattle.unit_store.proofs.Calls.{shows_in, shows_out}
use Rattle.std.specs.Global.{Global}
use Rattle.std.specs.Prelude.{map, slice_get, IsSome}
use Rattle.extent_groups.specs.declared.refusal.GroupRefusal.{GroupRefusal}
use Rattle.extent_groups.specs.declared.refusal.GroupRefusal.TheVariants.{NoGroup}
use Rattle.extent_groups.proofs.Agreement.{groups_with}
use Rattle.flat_machine.proofs.Unmakes.{number_within}

shows_taken : (t : Groups) (g : ℕ) (c : Cells) (units : ℕ → Option Stored) → g < length t.table → ShowsUnits t c units → ShowsUnits (with_group t g None) c (without_group units g)
shows_taken t g c units within shows =
    let kept = take_keeps t g c within shows.sound in
    record {
      sound = kept.0;
      shown = λ slot v e. elim (same_or_not (slot / 128) g) [
        | inl q ↦ absurd (none-some v (sym (kept.2 slot q) ∙ e))
        | inr ne ↦
            (let was = shows.shown slot v (sym (kept.1 slot ne) ∙ e) in
            (was.0, ap (λ b. cond b None (units slot)) (unequal (slot / 128) g ne) ∙ was.1, was.2))
      ];
    }

-- the parts without the group
pub record IsWithout {D : Type 0} (p q : Parts D) (g : ℕ) : Type 0 where
  pub shape : q.shape ≡ p.shape
  pub groups : q.groups ≡ with_group p.groups g None
  pub extents : q.extents ≡ with_owners p.extents (members_of p.groups g) None
  pub drives : q.drives.items ≡ p.drives.items
  pub agree : Agree q.groups q.extents
  pub are : AreGroups q.groups

module _ {D : Type 0} (units : D → List (List ℕ)) (lost : D → Bool) (failures : D → Failures) (p q : Parts D) (g : ℕ) (fit : IsFit units p) (within : g < length p.groups.table) (is : IsWithout p q g) where
  pub taken_fit : IsFit units q
  taken_fit = record {
    shape = rw (is.shape, is.groups) fit.shape;
    least = rw (is.drives) fit.least;
    most = rw (is.drives) fit.most;
    groups = is.are;
    drives = rw (is.groups, is.drives) (drives_with p.groups g None p.drives.items within fit.drives (λ k m at. absurd (no_members (with_group p.groups g None) g k m (group_same p.groups g None within) (ap (λ ms. slice_get ms k) (ap members_in (group_same p.groups g None within)) ∙ at))));
    agree = is.agree;
    rows = ap (λ (o : Owners). length o.rows) is.extents ∙ rows_given p.extents (members_of p.groups g) None ∙ fit.rows ∙ sym (ap length is.drives);
    wide = ap (λ (o : Owners). o.extents) is.extents ∙ extents_given p.extents (members_of p.groups g) None ∙ fit.wide ∙ ap (λ (z : Groups). z.extents) (sym is.groups);
  }

  pub was_taken : WasTaken (view_of units lost failures p) g (view_of units lost failures q)
  was_taken = record {
    groups = is.groups;
    owners = is.extents;
    drives = ap (map (drive_view units lost failures)) is.drives;
    agree = is.agree;
    shows = λ f shows. shows_out units lost failures q (without_group f g)
        (rw (is.groups, is.drives) (shows_taken p.groups g (cells_in units lost p) f within (shows_in units lost failures p f shows)));
  }

-- a number of which a group is made is one that there is
pub within_made : (t : Groups) (g : ℕ) → IsSome (group_at t g) → g < length t.table
within_made t g made = number_within t g (λ none. let bad : true ≡ false = sym made ∙ ap is_some none in cc)

-- a group that is made is taken
pub taken : {D T : Type 0} (p q : Parts D) (g : ℕ) (r : Result T GroupRefusal) → AreGroups p.groups → IsSome (group_at p.groups g) → q.shape ≡ p.shape → q.drives ≡ p.drives
    → OnOk r (q.groups ≡ with_group p.groups g None) → OnOk r (q.extents ≡ with_owners p.extents (members_of p.groups g) None)
    → IfErr r (λ e. (e ≡ NoGroup) × (group_at p.groups g ≡ None)) → Agree q.groups q.extents → IsWithout p q g
taken {D = D} p q g (Ok x) are made shape drives groups extents refused agree = record {
  shape = shape;
  groups = groups;
  extents = extents;
  drives = ap (λ (v : Vec D Global). v.items) drives;
  agree = agree;
  are = subst AreGroups (sym groups) (groups_with p.groups q.extents g None are (subst (λ t. Agree t q.extents) groups agree) (within_made p.groups g made) (λ x e. absurd (cc)));
}
taken p q g (Err e) are made shape drives groups extents refused agree = let bad : true ≡ false = sym made ∙ ap is_some refused.1 in absurd (cc)
