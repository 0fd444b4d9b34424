use Rattle.unit_store.specs.Laws.{loses_none}
use Rattle.drive_rebuild.proofs.scrub.scrub_parts.Goals as goal

pub returns-then-not-is_fit-clause-only : goal.returns-then-not-is_fit-clause-only
returns-then-not-is_fit-clause-only g c = loses_none g.D.Drive.units g.D.Drive.lost g.D.Drive.failures c.args.parts.now

pub returns-in_err-unit-clause-only : goal.returns-in_err-unit-clause-only
returns-in_err-unit-clause-only g c = loses_none g.D.Drive.units g.D.Drive.lost g.D.Drive.failures c.args.parts.now

pub returns-in_err-other-clause-only : goal.returns-in_err-other-clause-only
returns-in_err-other-clause-only g c = loses_none g.D.Drive.units g.D.Drive.lost g.D.Drive.failures c.args.parts.now
