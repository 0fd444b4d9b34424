use Rattle.header_scan.proofs.Ranges.{same_units, joined_map, earlier, earlier_once, calls, whole, once, either_way, three}
use Rattle.header_scan.proofs.laws.parts_laws.Goals as goal

pub returns-clause-same : goal.returns-clause-same
returns-clause-same c = same_units

pub returns-clause-joined : goal.returns-clause-joined
returns-clause-joined c = joined_map

pub returns-clause-earlier : goal.returns-clause-earlier
returns-clause-earlier c = earlier

pub returns-clause-earlier_once : goal.returns-clause-earlier_once
returns-clause-earlier_once c = earlier_once

pub returns-clause-calls : goal.returns-clause-calls
returns-clause-calls c = calls

pub returns-clause-whole : goal.returns-clause-whole
returns-clause-whole c = whole

pub returns-clause-once : goal.returns-clause-once
returns-clause-once c = once

pub returns-clause-order : goal.returns-clause-order
returns-clause-order c = either_way

pub returns-clause-three : goal.returns-clause-three
returns-clause-three c = three
