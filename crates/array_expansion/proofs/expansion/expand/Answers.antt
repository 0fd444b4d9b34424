use Rattle.std.proofs.Common.{refl, ◌∙◌}
use Rattle.std.proofs.lemmas.Result.{IfErr-weaker, err_from_is_err_and, on_ok_weaker}
use Rattle.array_expansion.proofs.Growing.{not_grown, same_keys, spread_keys}
use Rattle.array_expansion.proofs.expansion.expand.Goals as goal

pub returns-clause-grown : goal.returns-clause-grown
returns-clause-grown g c =
    on_ok_weaker c.spread.result (λ spreads T was.
    let added = c.in_ok-attach.ensures.ok T was in
    let done = spreads _ added.1 in
    (record T { flat = done.0 }, done.1, record { room = added.0; spread = done.2 }, done.3, refl)) c.spread.ensures.ok

pub returns-clause-err : goal.returns-clause-err
returns-clause-err g c =
    IfErr-weaker c.spread.result _ _ (λ fault stops T was.
    let added = c.in_ok-attach.ensures.ok T was in
    let done = stops _ added.1 in
    (record T { flat = done.0 }, done.1, not_grown T.flat done.0 fault added.0 done.2, refl)) c.spread.ensures.err

pub returns-clause-map : goal.returns-clause-map
returns-clause-map g c T was block =
    let added = c.in_ok-attach.ensures.ok T was in
    spread_keys c.spread.result c.attach.new.tiers c.spread.new.tiers c.spread.ensures.ok c.spread.ensures.err _ added.1 block
    ∙ same_keys c.args.tiers.now c.attach.new.tiers T _ was added.1 refl block

pub returns-in_err-attach-clause-err : goal.returns-in_err-attach-clause-err
returns-in_err-attach-clause-err g c =
    let p = err_from_is_err_and c.from_residual.result c.from_residual.ensures.1 in
    rw (p.1, p.2) (λ T was. let same = c.in_err-attach.ensures.err T was in (T, same.0, same.1, refl))

pub returns-in_err-attach-clause-map : goal.returns-in_err-attach-clause-map
returns-in_err-attach-clause-map g c T was =
    let same = c.in_err-attach.ensures.err T was in
    same_keys c.args.tiers.now c.attach.new.tiers T T.flat was same.0 refl
