use Rattle.std.proofs.Common.{inr, sym, subst}
use Rattle.extent_groups.specs.Groups.{Groups}
use Rattle.unit_store.specs.Slots.{IsSlot}
use Rattle.crash_points.proofs.Gone.{gone_unit}
use Rattle.crash_points.proofs.unit.read_unit.Goals as goal

pub returns-in-Err-clause-err : goal.returns-in-Err-clause-err
returns-in-Err-clause-err g c = inr (record {
  loses = c.unit-read.ensures.leaves.1;
  reported = c.in-Err.ensures.gone.0;
  gone = gone_unit c.unit-read.new.self c.args.slot c.whole.ensures (subst (λ (t : Groups). IsSlot t c.args.slot) (sym c.unit-read.ensures.groups) c.requires) c.in-Err.ensures.gone.1;
})
