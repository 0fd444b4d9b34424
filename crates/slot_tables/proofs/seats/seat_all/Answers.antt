use Rattle.std.proofs.Common.{refl, sym, ◌∙◌, arith}
use Rattle.slot_tables.specs.Kept.{kepts_of}
use Rattle.slot_tables.proofs.Places.{kepts_many}
use Rattle.slot_tables.proofs.Seated.{none_seated, seated_one, left_one, all_seated, seats_end}
use Rattle.slot_tables.proofs.seats.seat_all.Goals as goal

pub loop-claim-init : goal.loop-claim-init
loop-claim-init g c = record {
  seated = none_seated g.C.Hold.names c.args.claims.items c.args.expected.items (kepts_of c.args.places.now.items) c.args.others.now.items
      (kepts_many c.args.places.now.items (let m = c.requires.most in let l = c.args.places.now.ok.0 in omega (arith, m, l))) c.requires.free c.requires.all (sym c.args.others.now.ok.0 ∙ c.requires.none);
  of = c.requires.claims;
  places = refl;
  room = let n = c.requires.none in let r = c.requires.room in omega (arith, n, r);
}

pub seat-requires-clause-many : goal.seat-requires-clause-many
seat-requires-clause-many g c =
    let many = c.loop-claim.invariant.seated.many in
    let same = c.loop-claim.invariant.places in
    let first = c.requires.many in
    let own = c.loop-claim.expected.ok.0 in
    let own_first = c.args.expected.ok.0 in
    omega (arith, many, same, first, own, own_first)

pub loop-claim-preserved-in-None : goal.loop-claim-preserved-in-None
loop-claim-preserved-in-None g c = record {
  seated = seated_one g.C.Hold.names c.args.claims.items c.args.expected.items c.pop.new.self.items c.in-Some.claim c.loop-claim.expected.items c.seat.new.expected.items (kepts_of c.loop-claim.places.items) (kepts_of c.seat.new.places.items) c.loop-claim.others.items
      c.in-None.ensures.slot (record { seated = c.in-None.ensures.seated; left = c.in-None.ensures.left })
      (rw (sym c.in-Some.ensures.items) c.loop-claim.invariant.seated);
  of = c.in-None.ensures.claims;
  places = c.in-None.ensures.room ∙ c.loop-claim.invariant.places;
  room = let l = c.in-Some.ensures.len in let r = c.loop-claim.invariant.room in omega (arith, l, r);
}

pub loop-claim-preserved : goal.loop-claim-preserved
loop-claim-preserved g c = record {
  seated = rw (c.push_reserved.ensures.items) (left_one g.C.Hold.names c.args.claims.items c.args.expected.items c.pop.new.self.items c.in-Some.claim c.in-Some-seat.other c.loop-claim.expected.items c.seat.new.expected.items (kepts_of c.loop-claim.places.items) (kepts_of c.seat.new.places.items) c.loop-claim.others.items
      (record { seated = c.in-Some-seat.ensures.seated; left = c.in-Some-seat.ensures.left })
      (rw (sym c.in-Some.ensures.items) c.loop-claim.invariant.seated));
  of = c.in-Some-seat.ensures.claims;
  places = c.in-Some-seat.ensures.room ∙ c.loop-claim.invariant.places;
  room = let l = c.in-Some.ensures.len in let r = c.loop-claim.invariant.room in let p = c.push_reserved.ensures.len in let q = c.push_reserved.ensures.capacity in omega (arith, l, r, p, q);
}

pub returns-clause-kept : goal.returns-clause-kept
returns-clause-kept g c slot =
    all_seated g.C.Hold.names c.args.claims.items c.args.expected.items c.loop-claim.expected.items (kepts_of c.loop-claim.places.items) c.loop-claim.others.items (seats_end g.C.Hold.names c.args.claims.items c.args.expected.items c.loop-claim.claims.items c.loop-claim.expected.items (kepts_of c.loop-claim.places.items) c.loop-claim.others.items (sym c.loop-claim.claims.ok.0 ∙ c.in_default.ensures.cases.0) c.loop-claim.invariant.seated) slot

pub returns-clause-shared : goal.returns-clause-shared
returns-clause-shared g c slot =
    let h = (seats_end g.C.Hold.names c.args.claims.items c.args.expected.items c.loop-claim.claims.items c.loop-claim.expected.items (kepts_of c.loop-claim.places.items) c.loop-claim.others.items (sym c.loop-claim.claims.ok.0 ∙ c.in_default.ensures.cases.0) c.loop-claim.invariant.seated).shared slot in
    omega (arith, h)
