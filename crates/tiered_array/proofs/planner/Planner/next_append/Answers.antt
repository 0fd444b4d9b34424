use Rattle.std.proofs.Common.{sym, subst}
use Rattle.slot_tables.specs.Views.{key_at}
use Rattle.extent_groups.specs.Groups.{Groups}
use Rattle.migrator.specs.Counts.{AreZeroIfIdle}
use Rattle.tiered_array.proofs.Counts.{zeros_kept}
use Rattle.tiered_array.proofs.planner.Planner.next_append.Goals as goal

pub first_append-requires : goal.first_append-requires
first_append-requires g c =
    let a = c.args.array.now in
    let counts = c.live_counts-counts.result.now in
    subst (λ (t : Groups). AreZeroIfIdle t (key_at a) counts) (sym c.groups.ensures) (zeros_kept a.parts.groups (key_at a) counts c.live_counts-counts.ensures)
