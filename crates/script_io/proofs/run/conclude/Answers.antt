use Rattle.script_io.proofs.Writes.{broken_closed}
use Rattle.script_io.proofs.run.conclude.Goals as goal

pub returns-in-Err : goal.returns-in-Err
returns-in-Err g c old state written closes =
    broken_closed c.args.finished old state c.args.script.now _ _ c.deref.result.now closes c.deref.ensures.value written c.in-Err.ensures.part
