use Rattle.std.proofs.lemmas.Result.{IfErr-weaker}
use Rattle.array_expansion.proofs.Growing.{was_full}
use Rattle.array_expansion.proofs.expansion.attach.Goals as goal

pub returns-clause-err : goal.returns-clause-err
returns-clause-err g c =
    IfErr-weaker c.added.result _ _ (λ fault is T was.
    was_full c.args.tiers.now c.add_drive.new.self c.in_ok-answer.answer fault is.0 is.1 c.in_ok-answer.ensures.ok T was) c.added.ensures.err
