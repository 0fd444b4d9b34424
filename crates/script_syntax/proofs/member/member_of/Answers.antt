use Rattle.script_syntax.proofs.Members.{no_dot, around_dot, dotted}
use Rattle.script_syntax.proofs.member.member_of.Goals as goal

pub returns-in_default-clause-none : goal.returns-in_default-clause-none
returns-in_default-clause-none c member short e =
    no_dot c.args.word.now c.cut.result.0.now (rw c.in_default.is at c.cut.ensures) member short e

pub returns-in_default-number_of-clause-none : goal.returns-in_default-number_of-clause-none
returns-in_default-number_of-clause-none c member short e =
    let reported = around_dot c.args.word.now c.cut.result.0.now c.in-Some.extent.now (rw c.in-Some.is at c.cut.ensures) member short e in
    c.in_default-number_of.ensures.none member.drive short.drive reported.0

pub returns-in_default-number_of-2-clause-none : goal.returns-in_default-number_of-2-clause-none
returns-in_default-number_of-2-clause-none c member short e =
    let reported = around_dot c.args.word.now c.cut.result.0.now c.in-Some.extent.now (rw c.in-Some.is at c.cut.ensures) member short e in
    c.in_default-number_of-2.ensures.none member.extent short.extent reported.1

pub returns-clause-some : goal.returns-clause-some
returns-clause-some c =
    let drive = c.in-Some-number_of.ensures.some in
    let extent = c.in-Some-number_of-2.ensures.some in (
      record { drive = drive.0; extent = extent.0 },
      dotted c.args.word.now c.cut.result.0.now c.in-Some.extent.now _ _ (rw c.in-Some.is at c.cut.ensures)
          drive.0 extent.0 drive.1 extent.1,
    )
