use Rattle.std.proofs.Common.{refl, List, rules, subst, sym, ap, ◌≡◌, ◌∙◌, true}
use Rattle.std.proofs.Math.ListN.{set}
use Rattle.slot_tables.specs.declared.hand.Hand.{Hand}
use Rattle.slot_tables.specs.declared.hand.Hand.TheVariants.{Waits}
use Rattle.flat_machine.specs.Steps.{Copy, Copied}
use Rattle.flat_machine.specs.Cases.{CopyCase}
use Rattle.slot_tables.specs.Views.{ArrayView, WorldView, hand_at}
use Rattle.slot_tables.specs.Represents.{ShowsArray, is_claim}
use Rattle.slot_tables.proofs.Hands.{as_world}
use Rattle.step_core.proofs.Worlds.{block_there, hands_kept, copy_world}
use Rattle.step_core.proofs.Refusals.{answered, array_refused, refused_same, refused_sizes}
use Rattle.step_core.proofs.world.World.copy.Goals as goal

pub returns-in-Ok-clause-ok : goal.returns-in-Ok-clause-ok
returns-in-Ok-clause-ok g c F rep =
    let w = c.args.worker in
    let s = c.args.slot in
    let v = c.args.self.now in
    let array : c.self.inside.array ≡ v.array = ap (λ (u : WorldView). u.array) c.self.view_is in
    let held : is_claim (hand_at v.hands s) w ≡ true = search rules in
    let t = c.in-Ok.ensures.ticket in
    let kept = hands_kept c.self.inside.hands v.hands c.keep.new.self c.in-Ok.ticket s w (ap (λ (u : WorldView). u.hands) c.self.view_is) t.0 c.keep.ensures in
    as_world (λ G. CopyCase F w s c.args.block (Copied s) G) _ (record { array = c.copy.new.self; hands = set v.hands s (Waits w) }) (ap (λ (h : List Hand). record { array = c.copy.new.self; hands = h }) kept)
    (copy_world v F w s c.args.block c.copy.new.self (search rules) (search rules, block_there v F c.args.block rep c.requires) rep held c.in-Ok.ticket t.0
    (c.in-Ok.ensures.flat F w (subst (λ (a : ArrayView). ShowsArray a F) (sym array) rep.array)
    ((rep.hands s).claims w ∙ held)))

pub returns-in-Err : goal.returns-in-Err
returns-in-Err g c =
    let w = c.args.worker in
    let s = c.args.slot in
    let a = c.copy.new.self in
    let r = c.in-Err.refusal in
    let held : is_claim (hand_at c.args.self.now.hands s) w ≡ true = search rules in
    let reported = array_refused _ c.args.self.now a (Copy w s c.args.block) r c.refused.result c.refused.result c.self.view_is refl c.refused.ensures.ok c.refused.ensures.err
    (λ F rep. (search rules, block_there c.args.self.now F c.args.block rep c.requires))
    (refused_sizes _ a r c.in-Err.ensures.err.1) (refused_same _ a r c.in-Err.ensures.err.1) (λ F rep shows. c.in-Err.ensures.flat F w shows ((rep.hands s).claims w ∙ held))
    in
    record { ok = reported.ok; succeeds = answered c.refused.result r c.refused.ensures.err c.in-Err.ensures.memory; err = reported.err; needs = reported.needs; room = reported.room }
