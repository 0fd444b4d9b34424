use Rattle.script_syntax.proofs.Records.{none_alone}
use Rattle.script_syntax.proofs.record.last_record.Goals as goal

pub returns-clause-none : goal.returns-clause-none
returns-clause-none c = none_alone _ c.in-Some.word.now c.record_of.result c.in-Some.ensures.some c.record_of.ensures.none
