use Rattle.std.proofs.Common.{sym, subst}
use Rattle.slot_tables.specs.Views.{key_at}
use Rattle.extent_groups.specs.Groups.{Groups}
use Rattle.cleaner.specs.Counts.{AreLiveCounts}
use Rattle.tiered_array.proofs.planner.Planner.plug.Goals as goal

pub plug_plan_counted-requires : goal.plug_plan_counted-requires
plug_plan_counted-requires g c =
    subst (λ (t : Groups). AreLiveCounts t (key_at c.args.array.now) c.live_counts-counts.result.now) (sym c.groups.ensures) c.live_counts-counts.ensures
