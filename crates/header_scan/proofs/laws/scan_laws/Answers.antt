use Rattle.header_scan.proofs.Parts.{one_map, joined}
use Rattle.header_scan.proofs.laws.scan_laws.Goals as goal

pub returns-clause-one : goal.returns-clause-one
returns-clause-one c = one_map

pub returns-clause-parts : goal.returns-clause-parts
returns-clause-parts c = joined
