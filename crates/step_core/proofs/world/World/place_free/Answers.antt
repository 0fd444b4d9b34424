use Rattle.std.proofs.Common.{◌≡◌, sym, ap, subst, rules}
use Rattle.map_join.specs.Record.{record_at}
use Rattle.slot_tables.specs.declared.hold.Plain.{Plain}
use Rattle.slot_tables.specs.Views.{ArrayView, WorldView, hand_at, kept_at, key_at}
use Rattle.slot_tables.specs.Represents.{Represents}
use Rattle.step_core.specs.Placing.{IsOpenFor, IsWhatFor, put_of}
use Rattle.step_core.specs.declared.claimed.What.{What}
use Rattle.step_core.proofs.Placing.{free_kept, given_at_once, given_fits, given_not_placed, given_of, given_open, opened, places_as, places_at_once, refused_then}
use Rattle.step_core.proofs.world.World.place_free.Goals as goal

pub returns-in-Err-clause-flat : goal.returns-in-Err-clause-flat
returns-in-Err-clause-flat g c F w rep =
    let u : WorldView = record { array = c.self.inside.array; hands = c.self.inside.hands } in
    let a = c.put_and_finish.new.array in
    let what = put_of c.args.given in
    let s = c.args.slot in
    let b = c.args.block in
    let q = c.in-Err.denied.refusal in
    let ready = opened u c.args.self.now c.args.given s b c.self.view_is (search rules) (search rules) c.requires.free c.requires.block c.requires.given in
    refused_then u F a what w s b q ready (subst (λ (x : WorldView). Represents x F) (sym c.self.view_is) rep)
    (given_not_placed c.args.given b c.what_of.result u.array a s b q c.what_of.ensures c.in-Err.ensures.flat)

pub returns-clause-flat : goal.returns-clause-flat
returns-clause-flat g c F w rep =
    let u : WorldView = record { array = c.self.inside.array; hands = c.self.inside.hands } in
    let e = c.put_and_finish.new.array in
    let what = put_of c.args.given in
    let s = c.args.slot in
    let b = c.args.block in
    let done = c.in-Ok.done in
    let ready = opened u c.args.self.now c.args.given s b c.self.view_is (search rules) (search rules) c.requires.free c.requires.block c.requires.given in
    places_as (λ (p : Plain). p.slot) F (record { array = e; hands = u.hands }) what w s b done.emitted c.placed_by.result.newest done.old (record_at b (key_at u.array b)) c.placed_by.result.left
    c.placed_by.ensures.newest c.placed_by.ensures.left c.in-Ok.ensures.place
    (places_at_once u F e what w s b done.emitted ready (subst (λ (x : WorldView). Represents x F) (sym c.self.view_is) rep)
    (given_at_once c.args.given b c.what_of.result u.array e s b done.emitted c.what_of.ensures c.in-Ok.ensures.flat))

pub put_and_finish-requires-clause-what : goal.put_and_finish-requires-clause-what
put_and_finish-requires-clause-what g c =
    let array : c.self.inside.array ≡ c.args.self.now.array = ap (λ (w : WorldView). w.array) c.self.view_is in
    subst (λ (a : ArrayView). IsWhatFor a.parts.groups.blocks a.parts.groups.payload c.what_of.result) (sym array)
    (given_fits c.args.self.now.array.parts.groups c.args.given c.args.block c.what_of.result c.what_of.ensures c.requires.block c.requires.given)

pub put_and_finish-requires-clause-of : goal.put_and_finish-requires-clause-of
put_and_finish-requires-clause-of g c = given_of c.args.given c.args.block c.what_of.result c.what_of.ensures

pub put_and_finish-requires-clause-open : goal.put_and_finish-requires-clause-open
put_and_finish-requires-clause-open g c =
    let array : c.self.inside.array ≡ c.args.self.now.array = ap (λ (w : WorldView). w.array) c.self.view_is in
    subst (λ (a : ArrayView). IsOpenFor a c.args.slot c.what_of.result) (sym array)
    (subst (λ (x : What). IsOpenFor c.args.self.now.array c.args.slot x) (sym c.what_of.ensures)
    (given_open c.args.self.now.array c.args.given c.args.slot c.args.block c.requires.level
    (free_kept (kept_at c.args.self.now.array c.args.slot) (hand_at c.args.self.now.hands c.args.slot) c.requires.free)))
