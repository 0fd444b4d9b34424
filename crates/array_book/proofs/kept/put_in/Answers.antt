use Rattle.std.proofs.Common.{◌≡◌, ℕ, refl, rules, sym, ap, ◌∙◌, subst}
use Rattle.flat_machine.specs.Flat.{Worker, IsArrayHeld}
use Rattle.slot_tables.specs.Represents.{ShowsArray}
use Rattle.slot_tables.specs.Views.{ArrayView}
use Rattle.slot_tables.proofs.OneMore.{shows_one_more, holds_one_more}
use Rattle.step_core.specs.Claimed.{with_claim}
use Rattle.step_core.specs.Placing.{PutReports, block_for, put_for}
use Rattle.array_book.specs.Acts.{IsLed}
use Rattle.array_book.specs.Kept.{KeptView}
use Rattle.array_book.proofs.Going.{put_goes, led_note, noted_as, kept_as}
use Rattle.array_book.proofs.Shown.{kept_with, still_of, put_not_used, err_as}
use Rattle.array_book.proofs.kept.put_in.Goals as goal

pub invariant_of-kept : goal.invariant_of-kept
invariant_of-kept g c =
    let k = c.kept.invariant.0 in
    let a = c.apart_from.new.self in
    let s = c.apart_from.new.claim.0.slot in
    let F = with_claim k.flat s 0 in
    let shows : ShowsArray a F = subst (λ (v : ArrayView). ShowsArray v F) (sym c.apart_from.ensures.same.0) (shows_one_more c.kept.inside.array k.flat s 0 k.shows) in
    let slot : c.args.claim.0.slot ≡ s = ap (λ x. x.0.slot) (sym c.apart_from.ensures.same.1) in
    let none = subst (λ (n : ℕ). IsArrayHeld k.flat n → ⊥) slot (c.apart_from.ensures.flat k.flat k.shows) in
    let on = put_goes c.put-placed.result c.put-placed.new.array k.flat s (put_for c.args.what) (block_for c.args.what) c.kept.invariant.1.traced.idle none c.put-placed.ensures.memory
    (c.put-placed.ensures.flat F 0 shows (holds_one_more k.flat s 0)) in
    let same = kept_with _ _ _ _ k (still_of c.kept.inside.array a c.put-placed.new.array c.apart_from.ensures.same.0 c.put-placed.ensures.still) refl (on.flat, on.shows) in
    kept_as (IsLed c.note.new.self g.N.Sizes.hands) _ _ _ same on.flat on.shows
    (led_note _ _ _ _ _ _ _ _ c.kept.invariant.1 on c.note.ensures.log (search rules))

pub returns-clause-called : goal.returns-clause-called
returns-clause-called g c = noted_as _ _ _ _ _ _ c.note.ensures.noted (search rules) c.note.ensures.seen (invariant_of-kept g c).1.traced

pub returns-clause-flat : goal.returns-clause-flat
returns-clause-flat g c F w shows held =
    let slot : c.apart_from.new.claim.0.slot ≡ c.args.claim.0.slot = ap (λ x. x.0.slot) c.apart_from.ensures.same.1 in
    let array : c.args.kept.now.array ≡ c.apart_from.new.self = ap (λ (k : KeptView). k.array) (sym c.kept.view_is) ∙ sym c.apart_from.ensures.same.0 in
    subst (λ (s : ℕ). PutReports c.put-placed.result F w (put_for c.args.what) s (block_for c.args.what) c.put-placed.new.array) slot
    (c.put-placed.ensures.flat F w (subst (λ (a : ArrayView). ShowsArray a F) array shows) (ap (λ n. F.held n (Worker w)) slot ∙ held))

pub returns-clause-err : goal.returns-clause-err
returns-clause-err g c =
    let k = c.kept.invariant.0 in
    let a = c.apart_from.new.self in
    let s = c.apart_from.new.claim.0.slot in
    let F = with_claim k.flat s 0 in
    let before = shows_one_more c.kept.inside.array k.flat s 0 k.shows in
    let shows : ShowsArray a F = subst (λ (v : ArrayView). ShowsArray v F) (sym c.apart_from.ensures.same.0) before in
    let slot : c.args.claim.0.slot ≡ s = ap (λ x. x.0.slot) (sym c.apart_from.ensures.same.1) in
    let reported = put_not_used c.put-placed.result c.apart_from.new.claim a c.put-placed.new.array F 0 s (put_for c.args.what) (block_for c.args.what)
    (subst (λ (n : ℕ). IsArrayHeld F n → ⊥) slot (c.apart_from.ensures.flat F before)) c.put-placed.ensures.err (c.put-placed.ensures.flat F 0 shows (holds_one_more k.flat s 0)) in
    err_as c.put-placed.result _ _ a c.args.kept.now.array c.put-placed.new.array c.apart_from.ensures.same.1 (c.apart_from.ensures.same.0 ∙ ap (λ (k : KeptView). k.array) c.kept.view_is) reported
