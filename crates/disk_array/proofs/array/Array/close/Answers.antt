use Rattle.std.proofs.Common.{subst, sym, ◌∙◌, arith}
use Rattle.slot_tables.specs.Changes.{IsClosed}
use Rattle.slot_tables.specs.Views.{ArrayView}
use Rattle.slot_tables.proofs.Unmaking.{unmade_whole}
use Rattle.unit_store.proofs.Views.{view_drives}
use Rattle.unit_store.specs.Views.{view_of}
use Rattle.disk_array.specs.Inside.{seen}
use Rattle.slot_tables.specs.Kept.{kepts_of}
use Rattle.slot_tables.specs.Shut.{CanUnmake, slots_in_group}
use Rattle.slot_tables.proofs.Places.{places_many}
use Rattle.slot_tables.proofs.Shutting.{at_most_one, free_kept, closed_number, counts_closed, of_first, first_one}
use Rattle.disk_array.proofs.Ready.{taken_ready}
use Rattle.disk_array.proofs.array.Array.close.Goals as goal

pub close_all-requires-clause-once : goal.close_all-requires-clause-once
close_all-requires-clause-once g c = at_most_one g.C.Hold.names c.args.self.now c.args.group c.args.claims.items c.requires

pub close_all-requires-clause-inside : goal.close_all-requires-clause-inside
close_all-requires-clause-inside g c slot some =
    let now = seen g.D.Drive.units g.D.Drive.lost g.D.Drive.failures c.self.inside in
    let can : CanUnmake g.C.Hold.names now c.args.group c.args.claims.items = subst (λ (v : ArrayView). CanUnmake g.C.Hold.names v c.args.group c.args.claims.items) (sym c.self.view_is) c.requires in
    let enough = c.self.invariant.2.places.made c.args.group can.made in
    let all = can.all slot in
    let here = (of_first c.args.group (slots_in_group now c.args.group) slot (first_one c.args.group (slots_in_group now c.args.group) slot (omega (arith, some, all)))).0 in
    omega (arith, enough, here)

pub returns-clause-closed : goal.returns-clause-closed
returns-clause-closed g c =
    let now = seen g.D.Drive.units g.D.Drive.lost g.D.Drive.failures c.self.inside in
    let can : CanUnmake g.C.Hold.names now c.args.group c.args.claims.items = subst (λ (v : ArrayView). CanUnmake g.C.Hold.names v c.args.group c.args.claims.items) (sym c.self.view_is) c.requires in
    subst (λ (v : ArrayView). IsClosed c.args.group (slots_in_group v c.args.group) v.kept (kepts_of c.close_all.new.places.items)) c.self.view_is
    (closed_number g.C.Hold.names now c.args.group c.args.claims.items now.kept (kepts_of c.close_all.new.places.items) can
    (places_many c.close_all.new.places (let same = c.close_all.ensures.room in let most = c.self.invariant.2.places.most in omega (arith, same, most)) ∙ sym c.self.invariant.0.room.kept) c.close_all.ensures.closed)

pub invariant_of-self : goal.invariant_of-self
invariant_of-self g c =
    let d = g.D.Drive in
    let now = seen d.units d.lost d.failures c.self.inside in
    let can : CanUnmake g.C.Hold.names now c.args.group c.args.claims.items = subst (λ (v : ArrayView). CanUnmake g.C.Hold.names v c.args.group c.args.claims.items) (sym c.self.view_is) c.requires in
    let closed = closed_number g.C.Hold.names now c.args.group c.args.claims.items now.kept (kepts_of c.close_all.new.places.items) can
    (places_many c.close_all.new.places (let same = c.close_all.ensures.room in let most = c.self.invariant.2.places.most in omega (arith, same, most)) ∙ sym c.self.invariant.0.room.kept) c.close_all.ensures.closed
    in (
      unmade_whole now (view_of d.units d.lost d.failures c.take.new.self) (kepts_of c.close_all.new.places.items) c.args.group c.self.invariant.0 can.made c.take.ensures.taken closed (free_kept g.C.Hold.names now c.args.group c.args.claims.items can)
          (view_drives d.units d.lost d.failures c.take.new.self c.take.ensures.fit.drives),
      c.close_all.ensures.of,
      taken_ready d.units d.lost d.failures c.self.inside c.take.new.self c.close_all.new.places c.args.group c.take.ensures.taken (c.self.invariant.2.places.made c.args.group can.made) c.close_all.ensures.room c.take.ensures.fit
          (counts_closed g.C.Hold.names now c.args.group c.args.claims.items (kepts_of c.close_all.new.places.items) c.self.inside.live can c.close_all.ensures.closed c.self.invariant.2.live) c.self.invariant.2,
    )
