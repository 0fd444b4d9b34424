use Rattle.group_form.proofs.Writing.{others_kept, others_put}
use Rattle.group_form.proofs.write.put_unit.Goals as goal

pub returns-in_err-push-clause-others : goal.returns-in_err-push-clause-others
returns-in_err-push-clause-others c = others_kept c.args.batch.now c.push.new.self c.in_err-push.ensures.err

pub returns-clause-others : goal.returns-clause-others
returns-clause-others c = others_put c.args.batch.now c.push.new.self c.from.result c.args.unit.now c.in_ok-push.ensures.ok
