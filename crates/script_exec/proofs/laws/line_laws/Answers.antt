use Rattle.script_exec.proofs.Once.{means_once, spells_once}
use Rattle.script_exec.proofs.laws.line_laws.Goals as goal

pub returns-clause-spelled : goal.returns-clause-spelled
returns-clause-spelled c = spells_once

pub returns-clause-meant : goal.returns-clause-meant
returns-clause-meant c = means_once
