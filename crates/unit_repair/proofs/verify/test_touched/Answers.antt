use Rattle.unit_repair.proofs.Touched.{loses_none}
use Rattle.unit_repair.proofs.verify.test_touched.Goals as goal

pub returns-then-not-is_fit-clause-only : goal.returns-then-not-is_fit-clause-only
returns-then-not-is_fit-clause-only c = loses_none c.args.parts.now

pub returns-in_err-unit-clause-only : goal.returns-in_err-unit-clause-only
returns-in_err-unit-clause-only c = loses_none c.args.parts.now

pub returns-in_err-other-clause-only : goal.returns-in_err-other-clause-only
returns-in_err-other-clause-only c = loses_none c.args.parts.now
