use Rattle.std.proofs.Common.{List, rules, subst, sym, ap, ◌≡◌, ◌∙◌, true}
use Rattle.std.proofs.Math.ListN.{set}
use Rattle.slot_tables.specs.declared.hand.Hand.{Hand}
use Rattle.slot_tables.specs.declared.hand.Hand.TheVariants.{Holds}
use Rattle.flat_machine.specs.Flat.{Ticket}
use Rattle.flat_machine.specs.Steps.{Discarded}
use Rattle.flat_machine.specs.Cases.{DiscardCase}
use Rattle.slot_tables.specs.Views.{ArrayView, WorldView, hand_at}
use Rattle.slot_tables.specs.Represents.{ShowsArray, is_ticket}
use Rattle.slot_tables.proofs.Hands.{as_world}
use Rattle.step_core.proofs.Worlds.{hands_held, discard_world}
use Rattle.step_core.proofs.world.World.discard.Goals as goal

pub returns-in-Ok-clause-flat : goal.returns-in-Ok-clause-flat
returns-in-Ok-clause-flat g c F rep =
    let w = c.args.worker in
    let s = c.args.slot in
    let v = c.args.self.now in
    let array : c.self.inside.array ≡ v.array = ap (λ (u : WorldView). u.array) c.self.view_is in
    let hands : c.self.inside.hands ≡ v.hands = ap (λ (u : WorldView). u.hands) c.self.view_is in
    let held : is_ticket (hand_at v.hands s) w ≡ true = subst (λ (h : List Hand). is_ticket (hand_at h s) w ≡ true) hands c.in-Some.ensures.0 in
    let holds = hands_held c.self.inside.hands v.hands c.take.new.self c.hold.new.self s w hands c.in-Some.ensures.2 c.hold.ensures in
    as_world (λ G. DiscardCase F w s (Discarded s) G) _ (record { array = c.discard.new.self; hands = set v.hands s (Holds w) }) (ap (λ (h : List Hand). record { array = c.discard.new.self; hands = h }) holds)
    (discard_world v F w s c.discard.new.self (search rules) rep held c.in-Some.ticket c.in-Some.ensures.1
    (c.in-Ok.ensures.flat F w (subst (λ (a : ArrayView). ShowsArray a F) (sym array) rep.array)
    (λ _. ap (λ n. F.held n (Ticket w)) c.in-Some.ensures.1 ∙ (rep.hands s).tickets w ∙ held)))
