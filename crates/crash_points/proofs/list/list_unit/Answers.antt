use Rattle.std.proofs.Common.{◌++◌, [], ◌∷◌, length, refl, sym, ◌∙◌, ap, subst, arith}
use Rattle.std.proofs.lemmas.List.{nil_from_length, append-nil}
use Rattle.unit_store.proofs.Listed.{whole_more}
use Rattle.unit_store.specs.declared.micro.Micro.TheVariants.{NoteSet}
use Rattle.unit_store.specs.Notes.{IsSlotPlan}
use Rattle.unit_store.specs.Views.{drive_cells}
use Rattle.crash_points.proofs.Listing.{few_writes, one_more, puts_more, listed_whole}
use Rattle.extent_groups.specs.PlanLists.{listed, parity_listed}
use Rattle.crash_points.proofs.list.list_unit.Goals as goal

pub loop-drive-init : goal.loop-drive-init
loop-drive-init g c = record {
  room = let was = c.in-Ok.ensures.capacity in let is = c.push_reserved.ensures.capacity in omega (arith, was, is);
  one = ap length (c.push_reserved.ensures.items ∙ ap (λ xs. xs ++ NoteSet (record { slot = c.args.slot; unit = c.args.unit; parity = c.in_ok-plan.plan.parity }) ∷ []) c.in-Ok.ensures.items);
  few = let few = few_writes c.plan.new.self.parts.groups (drive_cells c.plan.new.self.parts) c.args.slot c.deref.result.now c.in_ok-plan.plan.writes.items (parity_listed c.in_ok-plan.plan.parity) c.in_ok-plan.ensures.ok in
      let same = ap length c.into_iter-drive-iterator.ensures.into_iter_gives.0 in omega (arith, few, same);
  whole = refl;
  rest = c.into_iter-drive-iterator.ensures.into_iter_gives.1 ∙ c.in_ok-plan.plan.writes.ok.0 ∙ ap length (sym c.into_iter-drive-iterator.ensures.into_iter_gives.0);
  items = sym (append-nil c.push_reserved.new.self.items);
}

pub push_reserved-requires-in-loop-drive : goal.push_reserved-requires-in-loop-drive
push_reserved-requires-in-loop-drive g c =
    let i = c.loop-drive.invariant in
    let many = one_more c.loop-drive.list.items c.push_reserved.new.self.items c.loop-drive.yielded c.loop-drive.drive-iterator.rest.items c.into_iter-drive-iterator.result.rest.items i.items i.whole in
    let len = c.loop-drive.list.ok.0 in
    let next = ap length c.in-Some.ensures.steps.0 in
    let one = i.one in let few = i.few in let room = i.room in
    omega (arith, many, len, next, one, few, room)

pub loop-drive-preserved : goal.loop-drive-preserved
loop-drive-preserved g c = record {
  room = let was = c.loop-drive.invariant.room in let is = c.push_reserved-in-loop-drive.ensures.capacity in omega (arith, was, is);
  one = c.loop-drive.invariant.one;
  few = c.loop-drive.invariant.few;
  whole = whole_more c.into_iter-drive-iterator.result.rest.items c.loop-drive.yielded (c.in-Some.drive, c.in-Some.at, c.in-Some.unit) c.loop-drive.drive-iterator.rest.items c.next.new.self.rest.items c.loop-drive.invariant.whole c.in-Some.ensures.steps.0;
  rest = let short = c.in-Some.ensures.steps.1 in let was = c.loop-drive.invariant.rest in let one = ap length c.in-Some.ensures.steps.0 in omega (arith, short, was, one);
  items = puts_more c.loop-drive.list.items c.push_reserved.new.self.items c.loop-drive.yielded (c.in-Some.drive, c.in-Some.at, c.in-Some.unit) c.push_reserved-in-loop-drive.new.self.items c.loop-drive.invariant.items c.push_reserved-in-loop-drive.ensures.items;
}

pub push_reserved-requires-2 : goal.push_reserved-requires-2
push_reserved-requires-2 g c =
    let i = c.loop-drive.invariant in
    let many = one_more c.loop-drive.list.items c.push_reserved.new.self.items c.loop-drive.yielded c.loop-drive.drive-iterator.rest.items c.into_iter-drive-iterator.result.rest.items i.items i.whole in
    let len = c.loop-drive.list.ok.0 in
    let one = i.one in let few = i.few in let room = i.room in
    omega (arith, many, len, one, few, room)

pub returns-clause-ok : goal.returns-clause-ok
returns-clause-ok g c = record {
  note = record { slot = c.args.slot; unit = c.args.unit; parity = c.in_ok-plan.plan.parity };
  writes = listed c.in_ok-plan.plan.writes.items;
  of = refl;
  holds = refl;
  listed = listed_whole (record { slot = c.args.slot; unit = c.args.unit; parity = c.in_ok-plan.plan.parity }) c.push_reserved.new.self.items c.loop-drive.list.items c.push_reserved-2.new.self.items
      c.loop-drive.yielded c.loop-drive.drive-iterator.rest.items c.into_iter-drive-iterator.result.rest.items c.in_ok-plan.plan.writes.items
      (c.push_reserved.ensures.items ∙ ap (λ xs. xs ++ NoteSet (record { slot = c.args.slot; unit = c.args.unit; parity = c.in_ok-plan.plan.parity }) ∷ []) c.in-Ok.ensures.items)
      c.loop-drive.invariant.items c.loop-drive.invariant.whole (nil_from_length c.loop-drive.drive-iterator.rest.items (sym c.loop-drive.invariant.rest ∙ c.in-None.ensures.steps.0))
      c.into_iter-drive-iterator.ensures.into_iter_gives.0 c.push_reserved-2.ensures.items;
  plan = subst (λ u. IsSlotPlan c.plan.new.self.parts.groups (drive_cells c.plan.new.self.parts) c.args.slot u (listed c.in_ok-plan.plan.writes.items) (parity_listed c.in_ok-plan.plan.parity)) c.deref.ensures.value c.in_ok-plan.ensures.ok;
}
