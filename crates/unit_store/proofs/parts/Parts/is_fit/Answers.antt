use Rattle.std.proofs.Common.{arith, refl, length, ◌<◌, ◌≡◌, ◌+◌, ◌∙◌, sym, ap}
use Rattle.std.specs.Prelude.{slice_get}
use Rattle.extents.specs.declared.shape.TheConstants.{HEADER_BYTES}
use Rattle.unit_store.proofs.Fitting.{fits}
use Rattle.unit_store.proofs.parts.Parts.is_fit.Goals as goal

pub returns-then-have_unit_bytes : goal.returns-then-have_unit_bytes
returns-then-have_unit_bytes g c = (
  λ agrees.
      (let some : 0 < length c.args.self.now.extents.rows = omega arith in
      let wide : c.args.self.now.extents.extents ≡ c.args.self.now.shape.extents = sym (c.drives.ensures.wide 0 some) ∙ sym (ap length c.owners.ensures) ∙ c.if-owners-self.false in
      let shape = c.if-not-is_shape_of.ensures.0 refl in
      fits g.D.Drive.units c.args.self.now shape (omega arith) (omega arith) c.members-groups.ensures.groups
      (λ d x e. c.if-not-have_units.ensures.0 refl d x (ap (λ ds. slice_get ds d) c.deref.ensures.value ∙ e) ∙ c.drive_units.ensures)
      (λ d x e at unit h. c.if-have_unit_bytes.ensures.0 refl d x (ap (λ ds. slice_get ds d) c.deref-2.ensures.value ∙ e) at unit h ∙ c.unit_bytes.ensures ∙ ap (λ p. HEADER_BYTES + p) shape.of_payload)
      (c.agrees.ensures.0 agrees) (omega arith) wide),
  λ fit. c.agrees.ensures.1 fit.agree,
)
