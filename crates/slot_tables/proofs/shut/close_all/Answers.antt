use Rattle.std.proofs.Common.{◌<◌, ◌++◌, ◌∷◌, [], length, sym, ◌∙◌, arith, subst, ap}
use Rattle.std.proofs.Math.ListN.{set}
use Rattle.slot_tables.specs.Views.{Unmade}
use Rattle.slot_tables.specs.Kept.{kepts_of}
use Rattle.slot_tables.proofs.Places.{kepts_longer}
use Rattle.slot_tables.proofs.Shutting.{AreClosing, closing_inside, one_closed}
use Rattle.slot_tables.proofs.shut.close_all.Goals as goal

pub put_in-requires-clause-inside : goal.put_in-requires-clause-inside
put_in-requires-clause-inside g c =
    let names = g.C.Hold.names in
    let all = c.args.claims.items in
    let old = kepts_of c.args.places.now.items in
    let before : AreClosing names all (c.pop.new.self.items ++ c.in-Some.claim ∷ []) old (kepts_of c.loop-claim.places.items) = rw (sym c.in-Some.ensures.items) c.loop-claim.invariant.closing in
    let low = closing_inside names all c.pop.new.self.items c.in-Some.claim old (kepts_of c.loop-claim.places.items) _ c.requires.inside before in
    let same = c.loop-claim.invariant.same in
    let is = c.slot-slot.ensures in
    omega (arith, low, same, is)

pub loop-claim-preserved : goal.loop-claim-preserved
loop-claim-preserved g c =
    let names = g.C.Hold.names in
    let all = c.args.claims.items in
    let left = c.pop.new.self.items in
    let claim = c.in-Some.claim in
    let old = kepts_of c.args.places.now.items in
    let now = kepts_of c.loop-claim.places.items in
    let before : AreClosing names all (left ++ claim ∷ []) old now = rw (sym c.in-Some.ensures.items) c.loop-claim.invariant.closing in
    let low = closing_inside names all left claim old now _ c.requires.inside before in
    let same = c.loop-claim.invariant.same in
    let long = kepts_longer c.loop-claim.places.items in
    let own = c.loop-claim.places.ok.0 in
    let inside : names claim < length now = omega (arith, low, same, long, own) in
    record {
      closing = subst (AreClosing names all left old) (sym (c.put_in.ensures.kept ∙ ap (λ n. set now n Unmade) c.slot-slot.ensures)) (one_closed names all left claim old now inside c.requires.once before);
      of = c.put_in.ensures.claims;
      same = c.put_in.ensures.room ∙ c.loop-claim.invariant.same;
    }
