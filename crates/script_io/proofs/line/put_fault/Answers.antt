use Rattle.script_io.proofs.Lines.{reported_five}
use Rattle.script_io.proofs.line.put_fault.Goals as goal

pub returns-clause-reported : goal.returns-clause-reported
returns-clause-reported c =
    let named = rw c.name_of.ensures at c.in_ok-put-3.ensures.reported in
    reported_five c.put-4.result c.args.out.now.items _ _ _ _ _ _ _ _ _ _ c.in_ok-put.ensures.reported c.in_ok-put_number.ensures.reported
    c.in_ok-put-2.ensures.reported named c.put-4.ensures.reported
