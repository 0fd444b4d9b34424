use Rattle.std.proofs.Common.{rules}
use Rattle.script_syntax.proofs.Records.{no_record}
use Rattle.script_syntax.proofs.record.record_of.Goals as goal

pub returns-in-Err-clause-none : goal.returns-in-Err-clause-none
returns-in-Err-clause-none c = no_record c.args.word.now c.decode_to_slice.result c.in-Err.field-0 _ c.decode_to_slice.ensures.value c.in-Err.is

pub returns-in-Err-of_bytes-clause-some : goal.returns-in-Err-of_bytes-clause-some
returns-in-Err-of_bytes-clause-some c = search rules
