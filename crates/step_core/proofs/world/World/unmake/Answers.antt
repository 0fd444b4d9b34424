use Rattle.std.proofs.Common.{◌≡◌, ◌≢◌, ◌<◌, ◌∙◌, ℕ, true, ap, subst, sym, rules, None}
use Rattle.extent_groups.specs.Groups.{group_at}
use Rattle.slot_tables.specs.Represents.{ShowsArray, is_claim}
use Rattle.slot_tables.specs.Views.{WorldView, hand_at}
use Rattle.slot_tables.proofs.Fares.{itself}
use Rattle.slot_tables.specs.Claims.{how_many}
use Rattle.slot_tables.specs.Shut.{one_of, slots_in_group, IsFirstNotHeld, hand_emptied}
use Rattle.slot_tables.specs.declared.hold.Plain.{Plain}
use Rattle.disk_array.proofs.Closing.{on_err, unmake_needs, first_stray, workers_of, unmake_world}
use Rattle.step_core.proofs.world.World.unmake.Goals as goal

pub returns-in-Some-first_not_held-clause-ok : goal.returns-in-Some-first_not_held-clause-ok
returns-in-Some-first_not_held-clause-ok g c F rep =
    let v = c.args.self.now in
    let first : IsFirstNotHeld v.hands c.args.worker c.args.group (slots_in_group v.array c.args.group) c.in-Some-first_not_held.slot = search rules in
    (F, (first_stray v F c.args.worker c.args.group rep c.in-Some-first_not_held.slot first, itself F), rep)

pub returns-in_err-claims-clause-needs : goal.returns-in_err-claims-clause-needs
returns-in_err-claims-clause-needs g c = on_err c.from_residual.result (λ F rep.
    let v = c.args.self.now in
    let g = c.args.group in
    let w = c.args.worker in
    let count : c.in-Some.count ≡ slots_in_group v.array g = c.in-Some.ensures.count.0 ∙ ap (λ (u : WorldView). slots_in_group u.array g) c.self.view_is in
    let made : group_at v.array.parts.groups g ≢ None = subst (λ (u : WorldView). group_at u.array.parts.groups g ≢ None) c.self.view_is c.in-Some.ensures.made in
    unmake_needs v F w g rep made (subst (λ n. (slot : ℕ) → 0 < one_of g n slot → is_claim (hand_at v.hands slot) w ≡ true) count c.in_default-first_not_held.ensures))

pub returns-in-Ok-clause-ok : goal.returns-in-Ok-clause-ok
returns-in-Ok-clause-ok g c F rep =
    let v = c.args.self.now in
    let g = c.args.group in
    let w = c.args.worker in
    let names : Plain → ℕ = λ (p : Plain). p.slot in
    let claims = c.in_ok-claims.claims.items in
    let hands = c.empty_first.new.hands in
    let count : c.in-Some.count ≡ slots_in_group v.array g = c.in-Some.ensures.count.0 ∙ ap (λ (u : WorldView). slots_in_group u.array g) c.self.view_is in
    let all = subst (λ n. (slot : ℕ) → 0 < one_of g n slot → is_claim (hand_at v.hands slot) w ≡ true) count c.in_default-first_not_held.ensures in
    let are : (slot : ℕ) → how_many names claims slot ≡ one_of g (slots_in_group v.array g) slot =
    subst (λ n. (slot : ℕ) → how_many names claims slot ≡ one_of g n slot) count c.in_ok-claims.ensures
    in
    let empty : (slot : ℕ) → hand_at hands slot ≡ hand_emptied g (slots_in_group v.array g) slot (hand_at v.hands slot) =
    subst (λ n. (slot : ℕ) → hand_at hands slot ≡ hand_emptied g n slot (hand_at v.hands slot)) count
    (subst (λ (u : WorldView). (slot : ℕ) → hand_at hands slot ≡ hand_emptied g c.in-Some.count slot (hand_at u.hands slot)) c.self.view_is c.empty_first.ensures.value)
    in
    let shows : ShowsArray c.self.inside.array F = subst (λ (u : WorldView). ShowsArray u.array F) (sym c.self.view_is) rep.array in
    unmake_world v F w g rep c.unmake_group.new.self hands all empty (c.in-Ok.ensures.flat F w shows (workers_of v F w g rep names claims all are))
