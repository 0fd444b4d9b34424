use Rattle.std.proofs.Common.{sym}
use Rattle.flat_machine.specs.Steps.{MoveExtent}
use Rattle.step_core.proofs.Refusals.{step_refused}
use Rattle.step_core.proofs.world.World.step_fixed.Goals as goal

pub returns-in-Fill : goal.returns-in-Fill
returns-in-Fill g c = let e = c.fill.ensures in rw (c.in-Fill.is, sym c.deref.ensures.value) (record { ok = e.ok; err = e.err; needs = e.needs; room = e.room })

pub returns-in-Trim : goal.returns-in-Trim
returns-in-Trim g c = let e = c.trim.ensures in rw (c.in-Trim.is) (record { ok = e.ok; err = e.err; needs = e.needs; room = e.room })

pub returns-in-Copy : goal.returns-in-Copy
returns-in-Copy g c = let e = c.copy.ensures in rw (c.in-Copy.is) (record { ok = e.ok; err = e.err; needs = e.needs; room = e.room })

pub returns-in-Commit : goal.returns-in-Commit
returns-in-Commit g c = let e = c.commit.ensures in rw (c.in-Commit.is) (record { ok = e.ok; err = e.err; needs = e.needs; room = e.room })

pub returns-in-Read : goal.returns-in-Read
returns-in-Read g c = let e = c.read.ensures in rw (c.in-Read.is) (record { ok = e.ok; err = e.err; needs = e.needs; room = e.room })

pub returns-in-ReadAt : goal.returns-in-ReadAt
returns-in-ReadAt g c = let e = c.read_at.ensures in rw (c.in-ReadAt.is) (record { ok = e.ok; err = e.err; needs = e.needs; room = e.room })

pub returns-in-Make : goal.returns-in-Make
returns-in-Make g c = let e = c.make.ensures in rw (c.in-Make.is, sym c.deref-in-Make.ensures.value) (record { ok = e.ok; err = e.err; needs = e.needs; room = e.room })

pub returns-in-Unmake : goal.returns-in-Unmake
returns-in-Unmake g c = let e = c.unmake.ensures in rw (c.in-Unmake.is) (record { ok = e.ok; err = e.err; needs = e.needs; room = e.room })

pub returns-in-Ok-clause-ok : goal.returns-in-Ok-clause-ok
returns-in-Ok-clause-ok g c = rw (c.in-MoveExtent.is) c.in-Ok.ensures.flat

pub returns-in-Err : goal.returns-in-Err
returns-in-Err g c =
    let e = step_refused c.args.self.now c.move_extent.new.self (MoveExtent c.in-MoveExtent.group c.in-MoveExtent.member c.in-MoveExtent.to) c.in-Err.refusal c.refused.result
    c.refused.ensures.ok c.refused.ensures.err c.move_extent.ensures.room c.in-Err.ensures.err c.in-Err.ensures.flat
    in
    rw (c.in-MoveExtent.is) (record { ok = e.ok; err = e.err; needs = e.needs; room = e.room })
