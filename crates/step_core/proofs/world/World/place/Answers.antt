use Rattle.std.proofs.Common.{◌≡◌, refl, inl, sym, ap, subst, rules, Err}
use Rattle.flat_machine.specs.Flat.{Flat}
use Rattle.slot_tables.specs.Views.{ArrayView, WorldView}
use Rattle.slot_tables.specs.Represents.{Represents}
use Rattle.slot_tables.proofs.Hands.{taken_case}
use Rattle.step_core.specs.declared.place.NotPlaced.TheVariants as denied
use Rattle.step_core.specs.declared.claimed.What.{What}
use Rattle.step_core.specs.Placing.{IsLevelFor, IsOpenFor, Places, put_of}
use Rattle.step_core.proofs.Placing.{closed_case, closed_refused, given_not_placed, open_given, opened, refused_then}
use Rattle.step_core.proofs.world.World.place.Goals as goal

pub returns-then-not-is_free-clause-flat : goal.returns-then-not-is_free-clause-flat
returns-then-not-is_free-clause-flat g c F w rep =
    (F, (F, taken_case c.args.self.now F w c.args.slot (search rules) rep, refl), rep)

pub returns-in-Some-clause-flat : goal.returns-in-Some-clause-flat
returns-in-Some-clause-flat g c F w rep =
    let u : WorldView = record { array = c.self.inside.array; hands = c.self.inside.hands } in
    let what = put_of c.args.given in
    let s = c.args.slot in
    let b = c.args.block in
    let v = c.what_of.result in
    let q = c.in-Some.refusal in
    let ready = opened u c.args.self.now c.args.given s b c.self.view_is (search rules) (search rules) (search rules) c.requires.block c.requires.given in
    subst (λ (x : WorldView). (G : Flat) × Places F w s b what (Err (denied.Refused q)) G × Represents x G) c.self.view_is
    (refused_then u F u.array what w s b q ready (subst (λ (x : WorldView). Represents x F) (sym c.self.view_is) rep)
    (given_not_placed c.args.given b v u.array u.array s b q c.what_of.ensures
    (inl ((closed_refused u.array v s q c.in-Some.ensures.closed).1, λ H x shows held. closed_case u.array v H x s b q c.in-Some.ensures.closed shows held))))

pub place_free-requires-clause-level : goal.place_free-requires-clause-level
place_free-requires-clause-level g c =
    let inside = c.self.inside.array in
    let array : inside ≡ c.args.self.now.array = ap (λ (w : WorldView). w.array) c.self.view_is in
    let is_open : IsOpenFor inside c.args.slot c.what_of.result = search rules in
    subst (λ (a : ArrayView). IsLevelFor c.args.given a.parts.groups c.args.slot) array
    (open_given inside c.args.given c.args.slot c.args.block (subst (λ (x : What). IsOpenFor inside c.args.slot x) c.what_of.ensures is_open))
