use Rattle.map_join.specs.Maps.{at}
use Rattle.script_exec.proofs.Carried.{on_ok}
use Rattle.script_exec.proofs.Scanned.{listed_map, on_fault}
use Rattle.script_exec.proofs.scans.scan.Goals as goal

pub returns-in-Err-clause-carried : goal.returns-in-Err-clause-carried
returns-in-Err-clause-carried c =
    on_fault c.put_fault.result c.args.bench.now c.scan.new.self c.in-Err.fault _ _
    c.put_fault.ensures.memory c.in-Err.ensures.fault c.put_fault.ensures.reported

pub returns-clause-carried : goal.returns-clause-carried
returns-clause-carried c =
    on_ok c.put_listing.result _ _ (rw c.deref.ensures.value at c.put_listing.ensures.reported)
    (listed_map c.args.bench.now c.scan.new.self (at c.in-Ok.map) c.in-Ok-to_list.records.items _ _
    c.in-Ok-to_list.ensures.list c.in-Ok.ensures.ok)
