use Rattle.std.proofs.Common.{length, ap, ◌∙◌}
use Rattle.map_join.specs.Maps.{at}
use Rattle.step_core.specs.Views.{ArrayView}
use Rattle.script_exec.proofs.Scanned.{made_afresh, restart_fault}
use Rattle.script_exec.proofs.scans.made_afresh.Goals as goal

pub returns-in-Err-clause-carried : goal.returns-in-Err-clause-carried
returns-in-Err-clause-carried c =
    let reported = c.in_ok-put_fault-in-Err.ensures in
    restart_fault c.args.bench c.scan.new.self c.in-Err.fault _ _ reported.memory c.in-Err.ensures.fault reported.reported

pub returns-clause-carried : goal.returns-clause-carried
returns-clause-carried c =
    made_afresh c.args.bench c.scan.new.self c.in-Ok-restarted.world c.in_ok-tiers.tiers (at c.in-Ok.map) _ _ _ c.in-Ok.ensures.ok (rw c.into_world.ensures at c.in-Ok-restarted.ensures.ok)
    (c.record_count-count.ensures ∙ ap (λ (a : ArrayView). length a.log) c.array.ensures) c.in_ok-tiers.ensures.ok c.in_ok-put_numbered.ensures.reported
