use Rattle.std.proofs.Common.{◌≡◌, [], ◌∷◌, length, refl, sym, ◌∙◌, ap, subst, inl, arith}
use Rattle.std.proofs.lemmas.List.{nil_from_length}
use Rattle.extent_groups.specs.declared.place.Place.{Place}
use Rattle.extent_groups.specs.Calls.{FadesAt, KeepsDrives}
use Rattle.extent_groups.specs.Groups.{Groups}
use Rattle.extent_groups.specs.Planned.{after}
use Rattle.extent_groups.specs.Stores.{unit_bytes}
use Rattle.extent_groups.proofs.DriveCalls.{keeps_none, keeps_trans, keeps_more, keeps_place}
use Rattle.unit_store.specs.Micros.{writes_in, note_after, IsWritten}
use Rattle.unit_store.specs.Slots.{cells_in}
use Rattle.unit_store.proofs.Listed.{writes_append, note_append, written_first, written_later, taken, taken_all, whole_more, one_longer, among}
use Rattle.unit_store.proofs.micro.run_micro.Goals as goal

pub loop-micro-init : goal.loop-micro-init
loop-micro-init g c = record {
  whole = c.into_iter-micro-iterator.ensures.into_iter_gives.0;
  rest = c.into_iter-micro-iterator.ensures.into_iter_gives.1 ∙ c.args.list.ok.0 ∙ ap length (sym c.into_iter-micro-iterator.ensures.into_iter_gives.0);
  many = refl;
  low = omega arith;
  note = refl;
  cells = λ x. inl refl;
  touched = keeps_none c.args.parts.now.drives.items;
  groups = record { shape = refl; groups = refl; extents = refl };
  fit = c.requires.fit;
}

pub run_one-requires-clause-write : goal.run_one-requires-clause-write
run_one-requires-clause-write g c = λ w has.
    let is = c.requires.writes w (among c.args.list.items c.loop-micro.yielded c.in-Some.micro c.loop-micro.micro-iterator.rest.items c.next.new.self.rest.items c.loop-micro.invariant.whole c.in-Some.ensures.steps.0 w has) in
    (keeps_place c.loop-micro.invariant.touched is.0, is.1 ∙ ap (λ (t : Groups). unit_bytes t) (sym c.loop-micro.invariant.groups.groups))

pub loop-micro-preserved : goal.loop-micro-preserved
loop-micro-preserved g c = record {
  whole = whole_more c.args.list.items c.loop-micro.yielded c.in-Some.micro c.loop-micro.micro-iterator.rest.items c.next.new.self.rest.items c.loop-micro.invariant.whole c.in-Some.ensures.steps.0;
  rest = let short = c.in-Some.ensures.steps.1 in let was = c.loop-micro.invariant.rest in let one = ap length c.in-Some.ensures.steps.0 in omega (arith, short, was, one);
  many = let one = one_longer c.loop-micro.yielded c.in-Some.micro in let many = c.loop-micro.invariant.many in omega (arith, one, many);
  low = let low = c.loop-micro.invariant.low in let apart = c.if-done-n.false in omega (arith, low, apart);
  note = c.run_one.ensures.note ∙ ap (λ o. note_after o (c.in-Some.micro ∷ [])) c.loop-micro.invariant.note ∙ sym (note_append c.args.parts.now.note c.loop-micro.yielded (c.in-Some.micro ∷ []));
  cells = λ x. subst (λ ws. FadesAt (after (cells_in g.D.Drive.units g.D.Drive.lost c.args.parts.now) ws) (cells_in g.D.Drive.units g.D.Drive.lost c.run_one.new.self) x)
      (sym (writes_append c.loop-micro.yielded (c.in-Some.micro ∷ [])))
      (c.run_one.ensures.cells (cells_in g.D.Drive.units g.D.Drive.lost c.args.parts.now) (writes_in c.loop-micro.yielded) c.loop-micro.invariant.cells x);
  touched = keeps_trans (keeps_more (written_first c.loop-micro.yielded (c.in-Some.micro ∷ [])) c.loop-micro.invariant.touched)
      (keeps_more (written_later c.loop-micro.yielded (c.in-Some.micro ∷ [])) c.run_one.ensures.touched);
  groups = record {
    shape = c.run_one.ensures.groups.shape ∙ c.loop-micro.invariant.groups.shape;
    groups = c.run_one.ensures.groups.groups ∙ c.loop-micro.invariant.groups.groups;
    extents = c.run_one.ensures.groups.extents ∙ c.loop-micro.invariant.groups.extents;
  };
  fit = c.run_one.ensures.fit;
}

pub returns-then-done-n-clause-note : goal.returns-then-done-n-clause-note
returns-then-done-n-clause-note g c =
    subst (λ ms. c.loop-micro.parts.note ≡ note_after c.args.parts.now.note ms)
    (sym (taken c.args.list.items c.loop-micro.yielded c.loop-micro.micro-iterator.rest.items c.args.n c.loop-micro.invariant.whole (c.loop-micro.invariant.many ∙ c.if-done-n.true))) c.loop-micro.invariant.note

pub returns-then-done-n-clause-cells : goal.returns-then-done-n-clause-cells
returns-then-done-n-clause-cells g c =
    subst (λ ms. (x : Place) → FadesAt (after (cells_in g.D.Drive.units g.D.Drive.lost c.args.parts.now) (writes_in ms)) (cells_in g.D.Drive.units g.D.Drive.lost c.loop-micro.parts) x)
    (sym (taken c.args.list.items c.loop-micro.yielded c.loop-micro.micro-iterator.rest.items c.args.n c.loop-micro.invariant.whole (c.loop-micro.invariant.many ∙ c.if-done-n.true))) c.loop-micro.invariant.cells

pub returns-then-done-n-clause-touched : goal.returns-then-done-n-clause-touched
returns-then-done-n-clause-touched g c =
    subst (λ ms. KeepsDrives g.D.Drive.units g.D.Drive.lost g.D.Drive.failures (IsWritten ms) c.args.parts.now.drives.items c.loop-micro.parts.drives.items)
    (sym (taken c.args.list.items c.loop-micro.yielded c.loop-micro.micro-iterator.rest.items c.args.n c.loop-micro.invariant.whole (c.loop-micro.invariant.many ∙ c.if-done-n.true))) c.loop-micro.invariant.touched

pub returns-clause-note : goal.returns-clause-note
returns-clause-note g c =
    subst (λ ms. c.loop-micro.parts.note ≡ note_after c.args.parts.now.note ms)
    (sym (taken_all c.args.list.items c.loop-micro.yielded c.loop-micro.micro-iterator.rest.items c.args.n c.loop-micro.invariant.whole (nil_from_length c.loop-micro.micro-iterator.rest.items (sym c.loop-micro.invariant.rest ∙ c.in-None.ensures.steps.0)) (let many = c.loop-micro.invariant.many in let low = c.loop-micro.invariant.low in omega (arith, many, low)))) c.loop-micro.invariant.note

pub returns-clause-cells : goal.returns-clause-cells
returns-clause-cells g c =
    subst (λ ms. (x : Place) → FadesAt (after (cells_in g.D.Drive.units g.D.Drive.lost c.args.parts.now) (writes_in ms)) (cells_in g.D.Drive.units g.D.Drive.lost c.loop-micro.parts) x)
    (sym (taken_all c.args.list.items c.loop-micro.yielded c.loop-micro.micro-iterator.rest.items c.args.n c.loop-micro.invariant.whole (nil_from_length c.loop-micro.micro-iterator.rest.items (sym c.loop-micro.invariant.rest ∙ c.in-None.ensures.steps.0)) (let many = c.loop-micro.invariant.many in let low = c.loop-micro.invariant.low in omega (arith, many, low)))) c.loop-micro.invariant.cells

pub returns-clause-touched : goal.returns-clause-touched
returns-clause-touched g c =
    subst (λ ms. KeepsDrives g.D.Drive.units g.D.Drive.lost g.D.Drive.failures (IsWritten ms) c.args.parts.now.drives.items c.loop-micro.parts.drives.items)
    (sym (taken_all c.args.list.items c.loop-micro.yielded c.loop-micro.micro-iterator.rest.items c.args.n c.loop-micro.invariant.whole (nil_from_length c.loop-micro.micro-iterator.rest.items (sym c.loop-micro.invariant.rest ∙ c.in-None.ensures.steps.0)) (let many = c.loop-micro.invariant.many in let low = c.loop-micro.invariant.low in omega (arith, many, low)))) c.loop-micro.invariant.touched
