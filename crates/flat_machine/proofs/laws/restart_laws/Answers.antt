use Rattle.flat_machine.proofs.Restarts.{history_reports, reports_one, restarted_history, restarted_held, restarted_writes}
use Rattle.flat_machine.proofs.laws.restart_laws.Goals as goal

pub returns-clause-reports : goal.returns-clause-reports
returns-clause-reports c = history_reports

pub returns-clause-one : goal.returns-clause-one
returns-clause-one c = reports_one

pub returns-clause-history : goal.returns-clause-history
returns-clause-history c = restarted_history

pub returns-clause-held : goal.returns-clause-held
returns-clause-held c = restarted_held

pub returns-clause-writes : goal.returns-clause-writes
returns-clause-writes c = restarted_writes
