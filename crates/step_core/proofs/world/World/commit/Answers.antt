use Rattle.std.proofs.Common.{List, rules, subst, sym, ap, ◌≡◌, ◌∙◌, true}
use Rattle.map_join.specs.Record.{record_at}
use Rattle.flat_machine.specs.Flat.{Flat, Ticket}
use Rattle.flat_machine.specs.Steps.{Commit, Committed, Refused}
use Rattle.flat_machine.specs.Cases.{CommitCase, IsAllocating}
use Rattle.slot_tables.specs.Changes.{IsPlaceOf, passed_hands, MayRefuse}
use Rattle.slot_tables.specs.declared.hold.Plain.{Plain}
use Rattle.slot_tables.specs.Views.{ArrayView, WorldView, hand_at, key_at}
use Rattle.slot_tables.specs.Represents.{ShowsArray, is_ticket}
use Rattle.slot_tables.proofs.Hands.{as_world}
use Rattle.slot_tables.specs.declared.hand.Hand.{Hand}
use Rattle.disk_array.specs.Refused.{IsRefused}
use Rattle.step_core.proofs.Worlds.{block_there, hands_passed, hands_back, commit_world, commit_as}
use Rattle.step_core.proofs.Refusals.{was_refused, refused_same, refused_sizes}
use Rattle.step_core.proofs.world.World.commit.Goals as goal

pub returns-in-Ok-clause-ok : goal.returns-in-Ok-clause-ok
returns-in-Ok-clause-ok g c F rep =
    let w = c.args.worker in
    let s = c.args.slot in
    let b = c.args.block in
    let v = c.args.self.now in
    let array : c.self.inside.array ≡ v.array = ap (λ (u : WorldView). u.array) c.self.view_is in
    let hands : c.self.inside.hands ≡ v.hands = ap (λ (u : WorldView). u.hands) c.self.view_is in
    let held : is_ticket (hand_at v.hands s) w ≡ true = subst (λ (h : List Hand). is_ticket (hand_at h s) w ≡ true) hands c.in-Some.ensures.0 in
    let place : IsPlaceOf (λ (p : Plain). p.slot) c.in-Ok.done.old (record_at b (key_at v.array b)) =
    subst (λ (a : ArrayView). IsPlaceOf (λ (p : Plain). p.slot) c.in-Ok.done.old (record_at b (key_at a b))) array c.in-Ok.ensures.done.2
    in
    let passed = hands_passed c.self.inside.hands v.hands c.take.new.self c.give_old.new.hands s w c.in-Ok.done.old (record_at b (key_at v.array b)) hands c.in-Some.ensures.2 place c.give_old.ensures in
    let mine = (rep.hands s).tickets w ∙ held in
    as_world (λ G. CommitCase F w s b (Committed c.record.result) G) _ (record { array = c.commit.new.self; hands = passed_hands v.hands s w (record_at b (key_at v.array b)) }) (ap (λ (h : List Hand). record { array = c.commit.new.self; hands = h }) passed)
    (commit_world v F w s b c.record.result c.commit.new.self (search rules) (block_there v F b rep c.requires) (search rules) rep held
    (commit_as c.commit.new.self F w b c.in-Some.ticket s c.in-Ok.done.emitted c.record.result c.in-Some.ensures.1 (sym c.record.ensures)
    (c.in-Ok.ensures.flat F w (subst (λ (a : ArrayView). ShowsArray a F) (sym array) rep.array)
    (λ _. ap (λ n. F.held n (Ticket w)) c.in-Some.ensures.1 ∙ mine))))

pub returns-in-Err : goal.returns-in-Err
returns-in-Err g c =
    let w = c.args.worker in
    let s = c.args.slot in
    let b = c.args.block in
    let v = c.args.self.now in
    let a = c.commit.new.self in
    let r = c.in-Err.refusal in
    let hands : c.self.inside.hands ≡ v.hands = ap (λ (u : WorldView). u.hands) c.self.view_is in
    let held : is_ticket (hand_at v.hands s) w ≡ true = subst (λ (h : List Hand). is_ticket (hand_at h s) w ≡ true) hands c.in-Some.ensures.0 in
    let back = hands_back c.self.inside.hands v.hands c.take.new.self c.keep.new.self c.in-Err.ticket s w hands c.in-Some.ensures.2 (c.in-Err.ensures.err.0 ∙ c.in-Some.ensures.1) held c.keep.ensures in
    let array : c.self.inside.array ≡ v.array = ap (λ (u : WorldView). u.array) c.self.view_is in
    let is : IsRefused v.array a r = subst (λ (x : ArrayView). IsRefused x a r) array c.in-Err.ensures.err.1 in
    let all = was_refused v _ a (Commit w s b) r c.refused.result (ap (λ (h : List Hand). record { array = a; hands = h }) back)
    c.refused.ensures.ok c.refused.ensures.err
    (λ F rep. block_there v F b rep c.requires)
    (refused_sizes v.array a r is) (refused_same v.array a r is)
    (λ F rep. subst (λ t. MayRefuse r (IsAllocating F (Commit w t b)) ((G : Flat) × (CommitCase F w t b (Refused r) G) × (ShowsArray a G))) c.in-Some.ensures.1
    (c.in-Err.ensures.flat F w (subst (λ (x : ArrayView). ShowsArray x F) (sym array) rep.array)
    (λ _. ap (λ n. F.held n (Ticket w)) c.in-Some.ensures.1 ∙ (rep.hands s).tickets w ∙ held)))
    in
    record { ok = all.ok; err = all.err; needs = all.needs; room = all.room }
