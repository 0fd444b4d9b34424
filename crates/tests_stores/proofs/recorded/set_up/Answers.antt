use Rattle.std.proofs.Common.{◌+◌, ◌*◌, ap, sym, ◌∙◌, length, None, Option, ℕ}
use Rattle.std.specs.Prelude.{replicate}
use Rattle.std.proofs.lemmas.List.{length-replicate}
use Rattle.extents.specs.Condition.{is_gone}
use Rattle.extents.specs.Owners.{Owners}
use Rattle.extents.specs.Sizes.{extent_units}
use Rattle.extents.specs.Units.{zero_units}
use Rattle.extents.specs.declared.shape.TheConstants.{HEADER_BYTES}
use Rattle.extent_groups.proofs.Readiness.{new_drives_ready}
use Rattle.tests_stores.specs.declared.recorded.Recorder.{Recorder}
use Rattle.tests_stores.proofs.recorded.set_up.Goals as goal

pub make-requires : goal.make-requires
make-requires g c = rw c.in_ok-extents.ensures (c.in_ok-groups.ensures.agree 3)

pub returns : goal.returns
returns g c =
    let shape = c.in_ok-groups.ensures.shape in
    let extents = shape.of_extents ∙ sym (c.make-2.ensures.sizes.0 ∙ c.make.ensures.sizes.0) in
    let segments = shape.of_segments ∙ sym (c.make-2.ensures.sizes.1 ∙ c.make.ensures.sizes.1) in
    let payload = shape.of_payload ∙ sym (c.make-2.ensures.sizes.2 ∙ c.make.ensures.sizes.2) in
    (new_drives_ready (λ (m : Recorder). m.drive.units) (λ (m : Recorder). is_gone m.drive.condition) c.make-2.new.groups c.make-2.new.extents c.in_ok-all.all.items c.make-2.ensures.agree
    (c.make-2.ensures.rows.0 ∙ c.make.ensures.rows.0 ∙ ap (λ (o : Owners). length o.rows) c.in_ok-extents.ensures ∙ length-replicate 3 (replicate c.shape_of-shape.result.extents (let none : Option ℕ = None in none)) ∙ sym c.in_ok-all.ensures.many)
    (c.make-2.ensures.rows.1 ∙ c.make.ensures.rows.1 ∙ ap (λ (o : Owners). o.extents) c.in_ok-extents.ensures ∙ extents)
    (λ d x at. c.in_ok-all.ensures.zero d x at
    ∙ ap (λ n. zero_units (HEADER_BYTES + n) (c.shape_of-shape.result.extents * extent_units c.shape_of-shape.result.segments)) payload
    ∙ ap (λ n. zero_units (HEADER_BYTES + c.make-2.new.groups.payload) (n * extent_units c.shape_of-shape.result.segments)) extents
    ∙ ap (λ n. zero_units (HEADER_BYTES + c.make-2.new.groups.payload) (c.make-2.new.groups.extents * extent_units n)) segments)).drives_are
