use Rattle.std.proofs.Common.{◌≡◌, ◌++◌, ◌∷◌, [], sym, ◌∙◌, arith, vec_len, length}
use Rattle.slot_tables.proofs.Seated.{AreOut, none_out, out_none, out_one, last_of}
use Rattle.slot_tables.proofs.seats.unseat_all.Goals as goal

pub loop-place-init : goal.loop-place-init
loop-place-init g c = record {
  out = none_out g.C.Hold.names c.args.places.items c.args.claims.now.items (sym c.args.claims.now.ok.0 ∙ c.requires.none) c.requires.of;
  room = let n = c.requires.none in let r = c.requires.room in omega (arith, n, r);
}

pub loop-place-preserved-in-Some-unseated : goal.loop-place-preserved-in-Some-unseated
loop-place-preserved-in-Some-unseated g c =
    let before : AreOut g.C.Hold.names c.args.places.items (c.pop.new.self.items ++ c.in-Some.place ∷ []) c.loop-place.claims.items = rw (sym c.in-Some.ensures.items) c.loop-place.invariant.out in
    let done = c.in-Some-unseated.ensures (length c.pop.new.self.items) (last_of g.C.Hold.names c.args.places.items c.pop.new.self.items c.in-Some.place c.loop-place.claims.items before) in
    record {
      out = rw (c.push_reserved.ensures.items) (out_one g.C.Hold.names c.args.places.items c.pop.new.self.items c.in-Some.place c.loop-place.claims.items c.in-Some-unseated.claim done.0 done.1 before);
      room = let l = c.in-Some.ensures.len in let r = c.loop-place.invariant.room in let p = c.push_reserved.ensures.len in let q = c.push_reserved.ensures.capacity in omega (arith, l, r, p, q);
    }

pub loop-place-preserved : goal.loop-place-preserved
loop-place-preserved g c =
    let before : AreOut g.C.Hold.names c.args.places.items (c.pop.new.self.items ++ c.in-Some.place ∷ []) c.loop-place.claims.items = rw (sym c.in-Some.ensures.items) c.loop-place.invariant.out in
    let done = c.in_default-unseated.ensures (length c.pop.new.self.items) (last_of g.C.Hold.names c.args.places.items c.pop.new.self.items c.in-Some.place c.loop-place.claims.items before) in
    record {
      out = out_none g.C.Hold.names c.args.places.items c.pop.new.self.items c.in-Some.place c.loop-place.claims.items done before;
      room = let l = c.in-Some.ensures.len in let r = c.loop-place.invariant.room in omega (arith, l, r);
    }

pub returns : goal.returns
returns g c slot =
    let none : vec_len c.loop-place.places ≡ 0 = c.in_default.ensures.cases.0 in
    let long = c.loop-place.places.ok.0 in
    c.loop-place.invariant.out.rest slot (omega (arith, none, long))
