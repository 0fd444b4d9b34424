use Rattle.std.proofs.Common.{◌+◌, length, refl, ap, arith, rules, ◌∙◌}
use Rattle.std.proofs.lemmas.List.{length-map}
use Rattle.extent_groups.specs.Groups.{members_of}
use Rattle.extent_groups.specs.Units.{place_of}
use Rattle.extent_groups.proofs.DriveCalls.{keeps_none, keeps_place, keeps_trans}
use Rattle.parity_store.proofs.Laid.{still_laid}
use Rattle.consistency_check.proofs.Adding.{row_more, row_missing}
use Rattle.consistency_check.proofs.rows.add_row.Goals as goal

pub read_place-requires-clause-place : goal.read_place-requires-clause-place
read_place-requires-clause-place g c = keeps_place c.loop-number.invariant.touched (c.requires.laid.row c.loop-number.number c.place-place.result c.place-place.ensures.place)

pub read_place-requires-clause-size : goal.read_place-requires-clause-size
read_place-requires-clause-size g c = (still_laid c.loop-number.invariant.touched (c.loop-number.auto.part ∙ c.requires.part) c.requires.laid).size

pub returns-then-not-read_place-clause-sum : goal.returns-then-not-read_place-clause-sum
returns-then-not-read_place-clause-sum g c =
    let wide = length-map (members_of c.args.groups.now c.args.group) (place_of c.args.groups.now.segments c.args.offset) in
    row_missing _ _ c.loop-number.number _ _ _ c.place-place.result c.read_place.new.unit (omega (arith, wide, ap length c.members.ensures.members, c.loop-number-test.true, c.loop-number.auto.number-end)) c.place-place.ensures.place c.if-not-read_place.ensures.read

pub returns-then-not-read_place-clause-touched : goal.returns-then-not-read_place-clause-touched
returns-then-not-read_place-clause-touched g c = keeps_trans c.loop-number.invariant.touched c.read_place.ensures.drives

pub loop-number-preserved : goal.loop-number-preserved
loop-number-preserved g c = record {
  sum = row_more _ c.loop-number.number (c.loop-number.number + 1) _ _ _ c.place-place.result c.loop-number.sum c.read_place.new.unit c.xor_into.new.into refl c.place-place.ensures.place c.if-not-read_place.ensures.read c.loop-number.invariant.sum c.xor_into.ensures;
  touched = keeps_trans c.loop-number.invariant.touched c.read_place.ensures.drives;
}

pub loop-number-init : goal.loop-number-init
loop-number-init g c = record { sum = search rules; touched = keeps_none c.args.drives.now }
