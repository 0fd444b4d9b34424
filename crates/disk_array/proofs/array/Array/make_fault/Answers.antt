use Rattle.std.proofs.Common.{refl, rules, subst, Some, None}
use Rattle.flat_machine.specs.declared.refusal.Refusal.TheVariants.{DriveLost}
use Rattle.slot_tables.specs.Making.{IsPutReason, IsMakeReason}
use Rattle.slot_tables.specs.Views.{ArrayView}
use Rattle.slot_tables.proofs.Makes.{reason_as, make_reported}
use Rattle.disk_array.specs.Inside.{seen}
use Rattle.disk_array.proofs.array.Array.make_fault.Given as given
use Rattle.disk_array.proofs.array.Array.make_fault.Goals as goal
use Rattle.disk_array.proofs.array.Array.make_fault.Goals.{After-reported}

-- what the check of the members returned is why they can't be put
put : (g : given.Over) (c : After-reported g) → IsPutReason (seen g.D.Drive.units g.D.Drive.lost g.D.Drive.failures c.self.inside) c.args.members.now c.reported.result
put g c = reason_as _ c.args.members.now c.reported.result c.put_check.result c.self.invariant.0 (c.are_members.ensures.0 c.if-not-are_members.false) c.reported.ensures.value c.put_check.ensures

pub returns-then-not-are_members-clause-reason : goal.returns-then-not-are_members-clause-reason
returns-then-not-are_members-clause-reason g c = search rules

pub returns-in-Some-clause-reason : goal.returns-in-Some-clause-reason
returns-in-Some-clause-reason g c =
    let d = g.D.Drive in
    let now = seen d.units d.lost d.failures c.self.inside in
    let ms = c.args.members.now in
    let reported = put g (goal.at.returns-in-Some-clause-reason g c).After-reported in
    subst (λ (v : ArrayView). IsMakeReason v ms (Some c.in-Some.refusal)) c.self.view_is (make_reported now ms c.in-Some.refusal (subst (IsPutReason now ms) c.in-Some.is reported))

pub returns-in-Some-first_lost-clause-reason : goal.returns-in-Some-first_lost-clause-reason
returns-in-Some-first_lost-clause-reason g c =
    let none = subst (IsPutReason (seen g.D.Drive.units g.D.Drive.lost g.D.Drive.failures c.self.inside) c.args.members.now) c.in_default.is (put g (goal.at.returns-in-Some-first_lost-clause-reason g c).After-reported) in
    subst (λ (v : ArrayView). IsMakeReason v c.args.members.now (Some (DriveLost c.in-Some-first_lost.drive))) c.self.view_is (none.0, none.1, none.2, c.in-Some-first_lost.ensures.some)

pub returns-in-None-clause-reason : goal.returns-in-None-clause-reason
returns-in-None-clause-reason g c =
    let none = subst (IsPutReason (seen g.D.Drive.units g.D.Drive.lost g.D.Drive.failures c.self.inside) c.args.members.now) c.in_default.is (put g (goal.at.returns-in-None-clause-reason g c).After-reported) in
    subst (λ (v : ArrayView). IsMakeReason v c.args.members.now None) c.self.view_is (none.0, none.1, none.2, c.in-None.ensures.none refl)
