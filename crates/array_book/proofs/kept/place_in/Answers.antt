use Rattle.std.proofs.Common.{◌≡◌, ℕ, ◌<◌, length, rules, refl, sym, ap, ◌∙◌, subst, IfSome}
use Rattle.map_join.specs.declared.records.Record.{Record}
use Rattle.map_join.specs.Record.{record_at}
use Rattle.flat_machine.specs.Cases.{Case}
use Rattle.flat_machine.specs.Flat.{Flat, IsArrayHeld}
use Rattle.flat_machine.specs.Steps.{Refused}
use Rattle.flat_machine.specs.History.{IsHistory, IsValidStep}
use Rattle.slot_tables.specs.AtOnce.{ArePutAtOnce}
use Rattle.slot_tables.specs.Changes.{IsPlaceOf, MayRefuse}
use Rattle.slot_tables.specs.Represents.{ShowsArray}
use Rattle.slot_tables.specs.Views.{ArrayView, key_at}
use Rattle.slot_tables.proofs.OneMore.{shows_one_more, holds_one_more}
use Rattle.tiered_array.specs.Marking.{IsCommitNoted}
use Rattle.disk_array.specs.Refused.{IsRefused, IsUnplaced}
use Rattle.step_core.specs.Claimed.{with_claim}
use Rattle.step_core.specs.Placing.{put_answer, put_for, put_step}
use Rattle.array_book.specs.Acts.{IsLed, placed_act, committed_act, claim_slot}
use Rattle.array_book.specs.Kept.{KeptView}
use Rattle.array_book.specs.Kept as book
use Rattle.array_book.proofs.Going.{Goes, GoesOn, refused_put_goes, led_more, led_note, noted_as, kept_as}
use Rattle.array_book.proofs.Once.{claimed_shows, fits_kept, between_history, between_groups, after_groups, first, second, of_block, written, has_hop}
use Rattle.array_book.proofs.Shown.{kept_with, kept_then, noted_then, still_of}
use Rattle.step_core.proofs.Placing.{refused_still}
use Rattle.array_book.proofs.kept.place_in.Given as given
use Rattle.array_book.proofs.kept.place_in.Goals.{After-note-in-Ok-2, In-Ok}
use Rattle.array_book.proofs.kept.place_in.Goals as goal

-- the put and its commit, from a state in which worker 0 claims the slot
put : (g : given.Over) (c : In-Ok g)
    → ArePutAtOnce (with_claim c.kept.invariant.0.flat c.apart_from.new.claim.0.slot 0) (put_step (put_for c.args.what) 0 c.apart_from.new.claim.0.slot c.args.block)
    (put_answer (put_for c.args.what) c.apart_from.new.claim.0.slot) 0 c.apart_from.new.claim.0.slot c.args.block c.in-Ok.done.emitted c.place_at_once.new.array
put g c =
    let k = c.kept.invariant.0 in
    let s = c.apart_from.new.claim.0.slot in
    c.in-Ok.ensures.flat (with_claim k.flat s 0) 0 (claimed_shows c.kept.inside.array c.apart_from.new.self k.flat s c.apart_from.ensures.same.0 k.shows) (holds_one_more k.flat s 0)

abbrev keys : (g : given.Over) (c : In-Ok g) → ℕ → ℕ
keys g c = key_at c.kept.inside.array

history : (g : given.Over) (c : In-Ok g) → IsHistory (with_claim c.kept.invariant.0.flat c.apart_from.new.claim.0.slot 0) (keys g c)
history g c = (shows_one_more c.kept.inside.array c.kept.invariant.0.flat c.apart_from.new.claim.0.slot 0 c.kept.invariant.0.shows).history

fit : (g : given.Over) (c : In-Ok g) → IsValidStep c.kept.invariant.0.flat.groups (put_step (put_for c.args.what) 0 c.apart_from.new.claim.0.slot c.args.block)
fit g c =
    fits_kept g.N.Sizes.blocks g.N.Sizes.payload (record { array = c.kept.inside.array; planner = c.kept.inside.planner }) c.kept.invariant.0 c.args.what c.apart_from.new.claim.0.slot c.args.block 0
    (search rules) c.requires.block c.requires.what

none : (g : given.Over) (c : In-Ok g) → IsArrayHeld c.kept.invariant.0.flat c.apart_from.new.claim.0.slot → ⊥
none g c =
    subst (λ (n : ℕ). IsArrayHeld c.kept.invariant.0.flat n → ⊥) (ap (λ x. x.0.slot) (sym c.apart_from.ensures.same.1))
    (c.apart_from.ensures.flat c.kept.invariant.0.flat c.kept.invariant.0.shows)

-- the history goes on by the put, to a state that no array shows, and by the commit
abbrev goes : (g : given.Over) (c : In-Ok g) → Goes c.kept.invariant.0.flat (placed_act (put_for c.args.what) c.apart_from.new.claim.0.slot c.args.block)
goes g c =
    first c.kept.invariant.0.flat (keys g c) c.place_at_once.new.array c.apart_from.new.claim.0.slot c.args.block (put_for c.args.what) c.in-Ok.done.emitted (history g c) (fit g c) (put g c)
    c.kept.invariant.1.traced.idle (none g c)

goes_on : (g : given.Over) (c : In-Ok g)
    → GoesOn (put g c).0 (committed_act c.apart_from.new.claim.0.slot c.args.block c.in-Ok.done.emitted (claim_slot (λ x. x.0.slot) c.in-Ok.done.old)) c.place_at_once.new.array
goes_on g c =
    second c.kept.invariant.0.flat (keys g c) c.place_at_once.new.array c.apart_from.new.claim.0.slot c.args.block (put_for c.args.what) c.in-Ok.done.emitted (history g c) (fit g c) (put g c)
    (λ x. x.0.slot) c.in-Ok.done.old c.kept.invariant.1.traced.idle
    (subst (λ (v : ArrayView). IsPlaceOf (λ x. x.0.slot) c.in-Ok.done.old (record_at c.args.block (key_at v c.args.block))) c.apart_from.ensures.same.0 c.in-Ok.ensures.place)

-- the block is a write's or a copy's, and is noted
notes : (g : given.Over) (c : After-note-in-Ok-2 g) → c.in-Ok.done.emitted.block < length c.kept.inside.planner.ages.order
    → IsCommitNoted c.place_at_once.new.array.parts.groups c.kept.inside.planner.ages c.note.new.self.ages c.in-Ok.done.emitted
notes g c =
    subst (λ (r : Record). r.block < length c.kept.inside.planner.ages.order → IsCommitNoted c.place_at_once.new.array.parts.groups c.kept.inside.planner.ages c.note.new.self.ages r)
    c.record-committed.ensures c.note.ensures.noted

pub invariant_of-kept : goal.invariant_of-kept
invariant_of-kept g c =
    let ok = (goal.at.invariant_of-kept g c).In-Ok in
    let k = c.kept.invariant.0 in
    let s = c.apart_from.new.claim.0.slot in
    let what = put_for c.args.what in
    let r = c.in-Ok.done.emitted in
    let both = put g ok in
    let on = goes_on g ok in
    let same = kept_then g.N.Sizes.blocks g.N.Sizes.payload (record { array = c.kept.inside.array; planner = c.kept.inside.planner })
    (record { array = c.place_at_once.new.array; planner = c.note.new.self }) 0 s c.args.block r k both.0
    (between_history k.flat (keys g ok) c.place_at_once.new.array s c.args.block what r (history g ok) (fit g ok) both)
    (between_groups k.flat (keys g ok) c.place_at_once.new.array s c.args.block what r (history g ok) (fit g ok) both ∙ k.shows.tables.groups)
    c.requires.block
    (after_groups k.flat (keys g ok) c.place_at_once.new.array s c.args.block what r (history g ok) (fit g ok) both ∙ k.shows.tables.groups)
    c.note.ensures.long (notes g (goal.at.invariant_of-kept g c).After-note-in-Ok-2) both.2
    in
    kept_as (IsLed c.note-in-Ok-2.new.self g.N.Sizes.hands) _ _ _ same on.flat on.shows
    (led_note _ _ _ _ _ _ _ _ (led_more _ _ _ _ _ _ _ c.kept.invariant.1 (goes g ok) c.note-in-Ok.ensures.log (search rules)) on c.note-in-Ok-2.ensures.log (search rules))

pub invariant_of-kept-in-Err-Some-default : goal.invariant_of-kept-in-Err-Some-default
invariant_of-kept-in-Err-Some-default g c =
    let k = c.kept.invariant.0 in
    let a = c.apart_from.new.self in
    let s = c.apart_from.new.claim.0.slot in
    let q = c.in-Err-Some-default.refusal in
    let e = c.place_at_once.new.array in
    let reported : MayRefuse q (Unit {0}) ((G : Flat) × Case (with_claim k.flat s 0) (put_step (put_for c.args.what) 0 s c.args.block) (Refused q) G × ShowsArray e G) =
    subst (λ o. IfSome o (λ z. MayRefuse z (Unit {0}) ((G : Flat) × Case (with_claim k.flat s 0) (put_step (put_for c.args.what) 0 s c.args.block) (Refused z) G × ShowsArray e G)))
    c.in-Err-Some-default.field-0-0-is
    (c.in-Err-Some-default.ensures.flat (with_claim k.flat s 0) 0 (claimed_shows c.kept.inside.array a k.flat s c.apart_from.ensures.same.0 k.shows) (holds_one_more k.flat s 0))
    in
    let left : IsRefused a e q = subst (IsUnplaced a e) c.in-Err-Some-default.field-0-0-is c.in-Err-Some-default.ensures.err.1 in
    let free = subst (λ (n : ℕ). IsArrayHeld k.flat n → ⊥) (ap (λ x. x.0.slot) (sym c.apart_from.ensures.same.1)) (c.apart_from.ensures.flat k.flat k.shows) in
    let on = refused_put_goes q e k.flat s (put_for c.args.what) c.args.block c.kept.invariant.1.traced.idle free (search rules) reported in
    let same = kept_with _ _ _ _ k (still_of c.kept.inside.array a e c.apart_from.ensures.same.0 (refused_still a e q left)) refl (on.flat, on.shows) in
    kept_as (IsLed c.note-in-Err-Some-default.new.self g.N.Sizes.hands) _ _ _ same on.flat on.shows
    (led_note _ _ _ _ _ _ _ _ c.kept.invariant.1 on c.note-in-Err-Some-default.ensures.log (search rules))

pub invariant_of-kept-in-Err-None-default : goal.invariant_of-kept-in-Err-None-default
invariant_of-kept-in-Err-None-default g c =
    let left : c.place_at_once.new.array ≡ c.apart_from.new.self = search rules in
    let same : c.place_at_once.new.array ≡ c.kept.inside.array = left ∙ c.apart_from.ensures.same.0 in
    subst (λ (v : ArrayView). (is : book.IsKept g.N.Sizes.blocks g.N.Sizes.payload (record { array = v; planner = c.kept.inside.planner })) × IsLed c.kept.inside.keeper g.N.Sizes.hands is.flat)
    (sym same) c.kept.invariant

pub returns-in-Ok-clause-ok : goal.returns-in-Ok-clause-ok
returns-in-Ok-clause-ok g c =
    let ok = (goal.at.returns-in-Ok-clause-ok g c).In-Ok in
    let k = c.kept.invariant.0 in
    let s = c.apart_from.new.claim.0.slot in
    let what = put_for c.args.what in
    let r = c.in-Ok.done.emitted in
    let both = put g ok in (
      of_block k.flat (keys g ok) c.place_at_once.new.array s c.args.block what r (history g ok) (fit g ok) both,
      written k.flat (keys g ok) c.place_at_once.new.array s c.args.block what r (history g ok) (fit g ok) both,
      has_hop (with_claim k.flat s 0) both.0 both.2.0 0 s c.args.block what r both.1 both.2.1,
    )

pub returns-in-Ok-clause-noted : goal.returns-in-Ok-clause-noted
returns-in-Ok-clause-noted g c =
    let at = goal.at.returns-in-Ok-clause-noted g c in
    let ok = at.In-Ok in
    let k = c.kept.invariant.0 in
    let s = c.apart_from.new.claim.0.slot in
    let what = put_for c.args.what in
    let r = c.in-Ok.done.emitted in
    let both = put g ok in
    let groups = c.place_at_once.new.array.parts.groups in
    subst (λ (v : KeptView). IsCommitNoted groups v.planner.ages c.note.new.self.ages r) c.kept.view_is
    (noted_then _ _ (record { array = c.kept.inside.array; planner = c.kept.inside.planner }) groups c.note.new.self.ages 0 s c.args.block r k both.0 both.2.0 (keys g ok)
    (between_history k.flat (keys g ok) c.place_at_once.new.array s c.args.block what r (history g ok) (fit g ok) both) c.requires.block both.2.1 (notes g at.After-note-in-Ok-2))

pub returns-in-Ok-clause-called : goal.returns-in-Ok-clause-called
returns-in-Ok-clause-called g c =
    let ok = (goal.at.returns-in-Ok-clause-called g c).In-Ok in
    record {
      between = c.note-in-Ok.new.me;
      placed = noted_as _ _ _ _ _ _ c.note-in-Ok.ensures.noted (search rules) c.note-in-Ok.ensures.seen
          (led_more _ _ _ _ _ _ _ c.kept.invariant.1 (goes g ok) c.note-in-Ok.ensures.log (search rules)).traced;
      committed = record {
        old = claim_slot (λ x. x.0.slot) c.in-Ok.done.old;
        noted = noted_as _ _ _ _ _ _ c.note-in-Ok-2.ensures.noted (search rules) c.note-in-Ok-2.ensures.seen (invariant_of-kept g c).1.traced;
      };
    }

pub returns-in-Err-Some-default-clause-called : goal.returns-in-Err-Some-default-clause-called
returns-in-Err-Some-default-clause-called g c =
    noted_as _ _ _ _ _ _ c.note-in-Err-Some-default.ensures.noted (search rules) c.note-in-Err-Some-default.ensures.seen (invariant_of-kept-in-Err-Some-default g c).1.traced
