use Rattle.vault.specs.Images.{Image}
use Rattle.array_batch.proofs.Batching.{put_else, put_here}
use Rattle.array_batch.proofs.batch.put_unit.Goals as goal

pub returns-clause-put : goal.returns-clause-put
returns-clause-put g c = λ known before.
    put_here c.args.batch.now c.push.new.self c.args.place c.args.unit.now c.in_ok-push.ensures.ok (Image.cells (g.V.Vault.seen c.args.vault.now)) before (c.in_ok-has_unit.ensures.there known)

pub returns-clause-others : goal.returns-clause-others
returns-clause-others g c = λ d x ne. put_else c.args.batch.now c.push.new.self c.args.place c.args.unit.now c.in_ok-push.ensures.ok d x ne
