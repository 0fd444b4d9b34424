use Rattle.std.proofs.Common.{◌<◌, length, rules, sym, ap, subst, refl}
use Rattle.map_join.specs.declared.records.Record.{Record}
use Rattle.slot_tables.specs.Represents.{ShowsArray}
use Rattle.slot_tables.specs.Views.{ArrayView}
use Rattle.tiered_array.specs.Marking.{IsCommitNoted}
use Rattle.array_book.specs.Acts.{IsLed, claim_slot}
use Rattle.array_book.specs.Kept.{KeptView}
use Rattle.step_core.proofs.Placing.{refused_still}
use Rattle.array_book.proofs.Going.{ticket_zero, commit_goes, refused_commit_goes, led_note, noted_as, kept_as}
use Rattle.array_book.proofs.Shown.{kept_with, kept_committed, noted_of, ticket_of_some, emitted_written}
use Rattle.array_book.proofs.kept.commit_in.Goals as goal

pub invariant_of-kept : goal.invariant_of-kept
invariant_of-kept g c =
    let k = c.kept.invariant.0 in
    let a = c.kept.inside.array in
    let w = ticket_of_some k.flat a c.args.ticket k.shows in
    let reported = c.in-Ok.ensures.flat k.flat 0 k.shows (ticket_zero k.flat c.args.ticket w.0 c.kept.invariant.1.traced.idle w.1) in
    let on = commit_goes (λ x. x.0.slot) a c.commit.new.self k.flat c.args.ticket c.args.block c.in-Ok.done.emitted c.in-Ok.done.old k.shows c.kept.invariant.1.traced.idle c.in-Ok.ensures.done.2 reported in
    let same = kept_committed _ _ _ _ 0 c.args.ticket c.args.block c.in-Ok.done.emitted k c.requires c.in-Ok.ensures.done.3.rest.groups c.note.ensures.long
    (subst (λ (r : Record). r.block < length c.kept.inside.planner.ages.order → IsCommitNoted c.commit.new.self.parts.groups c.kept.inside.planner.ages c.note.new.self.ages r)
    c.record.ensures c.note.ensures.noted)
    reported in
    kept_as (IsLed c.note-in-Ok.new.self g.N.Sizes.hands) _ _ _ same on.flat on.shows
    (led_note _ _ _ _ _ _ _ _ c.kept.invariant.1 on c.note-in-Ok.ensures.log (search rules))

pub returns-in-Ok-clause-called : goal.returns-in-Ok-clause-called
returns-in-Ok-clause-called g c = record {
  old = claim_slot (λ x. x.0.slot) c.in-Ok.done.old;
  noted = noted_as _ _ _ _ _ _ c.note-in-Ok.ensures.noted (search rules) c.note-in-Ok.ensures.seen (invariant_of-kept g c).1.traced;
}

pub invariant_of-kept-in-Err : goal.invariant_of-kept-in-Err
invariant_of-kept-in-Err g c =
    let k = c.kept.invariant.0 in
    let a = c.kept.inside.array in
    let w = ticket_of_some k.flat a c.args.ticket k.shows in
    let q = c.in-Err.refused.0 in
    let reported = c.in-Err.ensures.flat k.flat 0 k.shows (ticket_zero k.flat c.args.ticket w.0 c.kept.invariant.1.traced.idle w.1) in
    let on = refused_commit_goes q a c.commit.new.self k.flat c.args.ticket c.args.block k.shows c.kept.invariant.1.traced.idle c.in-Err.ensures.err.1 reported in
    let same = kept_with _ _ _ _ k (refused_still a c.commit.new.self q c.in-Err.ensures.err.1) refl (on.flat, on.shows) in
    kept_as (IsLed c.note-in-Err.new.self g.N.Sizes.hands) _ _ _ same on.flat on.shows
    (led_note _ _ _ _ _ _ _ _ c.kept.invariant.1 on c.note-in-Err.ensures.log (search rules))

pub returns-in-Err-clause-called : goal.returns-in-Err-clause-called
returns-in-Err-clause-called g c = noted_as _ _ _ _ _ _ c.note-in-Err.ensures.noted (search rules) c.note-in-Err.ensures.seen (invariant_of-kept-in-Err g c).1.traced

pub returns-in-Ok-clause-noted : goal.returns-in-Ok-clause-noted
returns-in-Ok-clause-noted g c =
    let k = c.kept.invariant.0 in
    let groups = c.commit.new.self.parts.groups in
    let after = c.note.new.self.ages in
    let w = ticket_of_some k.flat c.kept.inside.array c.args.ticket k.shows in
    let reported = c.in-Ok.ensures.flat k.flat w.0 k.shows w.1 in
    let notes = subst (λ (r : Record). r.block < length c.kept.inside.planner.ages.order → IsCommitNoted groups c.kept.inside.planner.ages after r) c.record.ensures c.note.ensures.noted in
    subst (λ (v : KeptView). IsCommitNoted groups v.planner.ages after c.in-Ok.done.emitted) c.kept.view_is
    (noted_of _ _ (record { array = c.kept.inside.array; planner = c.kept.inside.planner }) groups after w.0 c.args.ticket c.args.block c.in-Ok.done.emitted k reported.0 c.requires reported.1 notes)

pub returns-in-Ok-clause-written : goal.returns-in-Ok-clause-written
returns-in-Ok-clause-written g c =
    let k = c.kept.invariant.0 in
    let w = ticket_of_some k.flat c.kept.inside.array c.args.ticket k.shows in
    let reported = c.in-Ok.ensures.flat k.flat w.0 k.shows w.1 in
    emitted_written c.commit.new.self reported.0 c.kept.inside.array.log c.in-Ok.done.emitted reported.2 (ap (λ (v : ArrayView). v.log) c.in-Ok.ensures.done.0)

pub returns-in-Ok-clause-flat : goal.returns-in-Ok-clause-flat
returns-in-Ok-clause-flat g c F w shows mine =
    c.in-Ok.ensures.flat F w (subst (λ (k : KeptView). ShowsArray k.array F) (sym c.kept.view_is) shows) mine
