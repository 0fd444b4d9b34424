use Rattle.storm.proofs.ended.end_storm.Goals as goal

pub returns : goal.returns
returns g c = (c.report_storm.result, c.report_storm.ensures, c.status.ensures)
