use Rattle.step_core.specs.Reported.{flat_answer}
use Rattle.script_exec.proofs.Carried.{reported_commit}
use Rattle.script_exec.proofs.carry.commit.Goals as goal

pub returns-clause-carried : goal.returns-clause-carried
returns-clause-carried c =
    reported_commit c.put_answer.result c.args.bench.now c.commit.new.self c.args.worker c.args.slot c.args.block (flat_answer c.in_ok-answer.answer) _ _ c.put_answer.ensures.reported
    c.in_ok-answer.ensures.ok
