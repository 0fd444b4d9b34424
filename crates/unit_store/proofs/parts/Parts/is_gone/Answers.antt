use Rattle.std.proofs.Common.{◌≡◌, ◌<◌, ◌/◌, ◌%◌, false, true, refl, arith}
use Rattle.extent_groups.specs.Groups.{group_at, slots_in}
use Rattle.unit_store.specs.Slots.{missing_in}
use Rattle.unit_store.proofs.GoneSlots.{gone_index}
use Rattle.unit_store.proofs.parts.Parts.is_gone.Goals as goal

-- a slot of no group isn't gone
pub returns-then-slot-slots_of : goal.returns-then-slot-slots_of
returns-then-slot-slots_of g c = (
  λ is. absurd (let both : false ≡ true = is in cc),
  λ gone.
      (let below = gone_index c.args.self.now.groups (missing_in g.D.Drive.lost c.args.self.now) (c.args.slot / 128) c.args.slot refl gone in
      absurd (omega (arith, below, c.if-slot-slots_of.true, c.slots_of.ensures.count))),
)
