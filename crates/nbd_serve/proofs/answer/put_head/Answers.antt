use Rattle.nbd_serve.proofs.Replying.{head_written}
use Rattle.nbd_serve.proofs.answer.put_head.Goals as goal

pub returns-clause-written : goal.returns-clause-written
returns-clause-written c = head_written c.args.error c.args.request.now.cookie c.args.out.now _ c.put_reply.ensures
