use Rattle.std.proofs.Common.{◌≡◌, ◌≢◌, false, length, subst, rules}
use Rattle.std.proofs.lemmas.Result.{IfErr-weaker}
use Rattle.unit_store.specs.Views.{NotShifted, lost_of}
use Rattle.flat_machine.specs.Moves.{IsMoveReason}
use Rattle.flat_machine.specs.declared.refusal.Refusal.TheVariants.{Memory}
use Rattle.slot_tables.proofs.Regroups.{move_refused}
use Rattle.disk_array.proofs.Regrouping.{move_reported}
use Rattle.disk_array.proofs.Refusing.{unfit_reported, unmoved_reported}
use Rattle.disk_array.proofs.array.Array.move_extent.Goals as goal

pub returns-in-Some-clause-flat : goal.returns-in-Some-clause-flat
returns-in-Some-clause-flat g c F shows =
    move_refused c.args.self.now F c.args.group c.args.member c.args.to c.in-Some.refusal
    (subst (IsMoveReason c.args.self.now.parts.groups (length c.args.self.now.parts.drives) c.args.group c.args.member c.args.to) c.in-Some.is c.move_fault.ensures.reason) shows

pub returns-clause-flat : goal.returns-clause-flat
returns-clause-flat g c F shows =
    let v = c.args.self.now in
    let reason = subst (IsMoveReason v.parts.groups (length v.parts.drives) c.args.group c.args.member c.args.to) c.in_default.is c.move_fault.ensures.reason in
    let present : lost_of v.parts c.args.to.drive ≡ false = search rules in
    move_reported v c.shift.new.self F c.args.group c.args.member c.args.to c.shift.result reason present c.shift.ensures.ok c.shift.ensures.err c.shift.ensures.rest shows

pub returns-in-Some-clause-memory : goal.returns-in-Some-clause-memory
returns-in-Some-clause-memory g c =
    let v = c.args.self.now in
    unfit_reported v.parts.groups (length v.parts.drives) c.args.group c.args.member c.args.to c.in-Some.refusal
    (subst (IsMoveReason v.parts.groups (length v.parts.drives) c.args.group c.args.member c.args.to) c.in-Some.is c.move_fault.ensures.reason)

pub returns-clause-memory : goal.returns-clause-memory
returns-clause-memory g c =
    let v = c.args.self.now in
    IfErr-weaker c.shift.result (NotShifted v.parts c.args.group c.args.member c.args.to c.shift.new.self.parts) (λ q. q ≢ Memory)
    (λ q not. unmoved_reported v.parts c.shift.new.self.parts c.args.group c.args.member c.args.to q not) c.shift.ensures.err
