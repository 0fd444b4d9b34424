use Rattle.script_exec.proofs.Carried.{on_ok, took_record}
use Rattle.script_exec.proofs.maps.take.Goals as goal

pub returns-clause-carried : goal.returns-clause-carried
returns-clause-carried c =
    on_ok c.put_took.result _ _ c.put_took.ensures.reported
    (λ out P matches.
    took_record P c.args.bench.now.tiers c.take_into.new.maps c.args.map c.args.record c.in-Ok.newest _ _
    c.requires.map matches.tiers (c.in-Ok.ensures.taken P.taken matches.maps) c.in-Ok.ensures.newest out)
