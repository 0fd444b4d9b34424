use Rattle.std.proofs.Common.{None, sym, subst}
use Rattle.slot_tables.specs.Views.{key_at}
use Rattle.extent_groups.specs.Groups.{Groups}
use Rattle.cleaner.specs.Counts.{AreLiveCounts}
use Rattle.cleaner.specs.Plans.{IsPlugPlan}
use Rattle.tiered_array.proofs.planner.Planner.clean_unplugged.Goals as goal

pub clean_plan_unplugged-requires : goal.clean_plan_unplugged-requires
clean_plan_unplugged-requires g c =
    let keys = key_at c.args.array.now in
    let here = subst (λ w. IsPlugPlan c.args.array.now.parts.groups keys w None) (sym c.group.ensures) c.requires in
    record {
      counts = subst (λ (t : Groups). AreLiveCounts t keys c.live_counts-counts.result.now) (sym c.groups.ensures) c.live_counts-counts.ensures;
      no_plug = subst (λ (t : Groups). IsPlugPlan t keys c.group.result None) (sym c.groups.ensures) here;
    }
