use Rattle.flat_machine.proofs.Keeps.{step_keeps, new_history}
use Rattle.flat_machine.proofs.Holding.{step_holds}
use Rattle.flat_machine.proofs.laws.history_laws.Goals as goal

pub returns-clause-new : goal.returns-clause-new
returns-clause-new c = new_history

pub returns-clause-kept : goal.returns-clause-kept
returns-clause-kept c = step_keeps

pub returns-clause-held : goal.returns-clause-held
returns-clause-held c = step_holds
