use Rattle.slot_tables.specs.Views.{key_at}
use Rattle.tiered_array.proofs.Counts.{kept_counts}
use Rattle.tiered_array.proofs.planner.live_counts.Goals as goal

pub returns : goal.returns
returns g c =
    let a = c.args.array.now in kept_counts a.parts.groups (key_at a) c.live_counts.result.now c.live_counts.ensures.many c.live_counts.ensures.each
