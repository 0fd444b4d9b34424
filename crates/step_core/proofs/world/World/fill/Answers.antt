use Rattle.flat_machine.specs.Flat.{Payload}
use Rattle.std.proofs.Common.{refl, List, rules, subst, sym, ap, ◌≡◌, ◌∙◌, true}
use Rattle.std.proofs.Math.ListN.{set}
use Rattle.slot_tables.specs.declared.hand.Hand.{Hand}
use Rattle.slot_tables.specs.declared.hand.Hand.TheVariants.{Waits}
use Rattle.flat_machine.specs.Steps.{Fill, Filled}
use Rattle.flat_machine.specs.Cases.{FillCase}
use Rattle.slot_tables.specs.Views.{ArrayView, WorldView, hand_at}
use Rattle.slot_tables.specs.Represents.{ShowsArray, is_claim}
use Rattle.slot_tables.proofs.Hands.{as_world}
use Rattle.step_core.proofs.Worlds.{hands_kept, fill_world}
use Rattle.step_core.proofs.Refusals.{answered, array_refused, refused_same, refused_sizes}
use Rattle.step_core.proofs.world.World.fill.Goals as goal
use Rattle.extent_groups.specs.Groups.{Groups}

pub returns-in-Ok-clause-ok : goal.returns-in-Ok-clause-ok
returns-in-Ok-clause-ok g c F rep =
    let w = c.args.worker in
    let s = c.args.slot in
    let x = Payload c.args.payload.now in
    let held : is_claim (hand_at c.args.self.now.hands s) w ≡ true = search rules in
    let kept = hands_kept c.self.inside.hands c.args.self.now.hands c.keep.new.self c.in-Ok.ticket s w (ap (λ (u : WorldView). u.hands) c.self.view_is) c.in-Ok.ensures.ticket.0 c.keep.ensures in
    as_world (λ G. FillCase F w s x (Filled s) G) _ (record { array = c.fill.new.self; hands = set c.args.self.now.hands s (Waits w) }) (ap (λ (h : List Hand). record { array = c.fill.new.self; hands = h }) kept)
    (fill_world c.args.self.now F w s x c.fill.new.self (search rules) (search rules, c.requires ∙ ap (λ (z : Groups). z.payload) (sym rep.array.tables.groups)) rep held c.in-Ok.ticket (search rules)
    (c.in-Ok.ensures.flat F w (subst (λ (a : ArrayView). ShowsArray a F) (sym (ap (λ (v : WorldView). v.array) c.self.view_is)) rep.array)
    ((rep.hands s).claims w ∙ held)))

pub returns-in-Err : goal.returns-in-Err
returns-in-Err g c =
    let w = c.args.worker in
    let s = c.args.slot in
    let a = c.fill.new.self in
    let r = c.in-Err.refusal in
    let held : is_claim (hand_at c.args.self.now.hands s) w ≡ true = search rules in
    let reported = array_refused _ c.args.self.now a (Fill w s (Payload c.args.payload.now)) r c.refused.result c.refused.result c.self.view_is refl c.refused.ensures.ok c.refused.ensures.err
    (λ F rep. (search rules, c.requires ∙ ap (λ (z : Groups). z.payload) (sym rep.array.tables.groups)))
    (refused_sizes _ a r c.in-Err.ensures.err.1) (refused_same _ a r c.in-Err.ensures.err.1) (λ F rep shows. c.in-Err.ensures.flat F w shows ((rep.hands s).claims w ∙ held))
    in
    record { ok = reported.ok; succeeds = answered c.refused.result r c.refused.ensures.err c.in-Err.ensures.memory; err = reported.err; needs = reported.needs; room = reported.room }
