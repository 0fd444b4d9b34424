use Rattle.std.proofs.Common.{◌≡◌, subst}
use Rattle.std.proofs.lemmas.Result.{on_ok_weaker}
use Rattle.std.proofs.lemmas.List.Elements.{All-get_or}
use Rattle.std.specs.Prelude.{Ok, OnOk, slice_index_or}
use Rattle.array_book.proofs.Running.{jobs_done}
use Rattle.array_book.proofs.run.run_workers.Goals as goal

pub returns : goal.returns
returns g c =
    on_ok_weaker c.first_fault.result
    (λ all. jobs_done (g.J.Job.leaves c.args.job.now) (λ w. w.number) (λ w. w.hand) (λ w. w.outcome) c.args.workers.now c.for_each_mut.new.s c.for_each_mut.auto.s
    (λ i d low.
    (let change = (c.for_each_mut.ensures i d low).1 in
    subst (λ y. OnOk y.outcome (g.J.Job.leaves c.args.job.now (slice_index_or c.args.workers.now i d).number (slice_index_or c.args.workers.now i d).hand y.hand)) change.left
    (subst (λ x. OnOk change.after_call.now.outcome (g.J.Job.leaves c.args.job.now x.number x.hand change.after_call.now.hand)) change.argument_is change.call)))
    (λ i d low. All-get_or (λ w. w.outcome ≡ Ok tt) c.for_each_mut.new.s i d low all))
    c.first_fault.ensures
