use Rattle.std.proofs.Common.{arith, rules}
use Rattle.extent_groups.proofs.DriveCalls.{keeps_trans}
use Rattle.extent_groups.proofs.StoreCalls.{drives_kept}
use Rattle.consistency_check.proofs.Below.{all_below, below_next}
use Rattle.consistency_check.proofs.search.first_unsound.Goals as goal

pub first_unsound_of-found-requires-clause-drives : goal.first_unsound_of-found-requires-clause-drives
first_unsound_of-found-requires-clause-drives g c = drives_kept c.args.groups.now c.loop-group.invariant.touched c.requires.drives

pub returns-then-is_some-clause-touched : goal.returns-then-is_some-clause-touched
returns-then-is_some-clause-touched g c = keeps_trans c.loop-group.invariant.touched c.first_unsound_of-found.ensures.touched

pub loop-group-preserved : goal.loop-group-preserved
loop-group-preserved g c = record {
  below = below_next c.args.groups.now _ c.loop-group.group (c.first_unsound_of-found.ensures.none c.loop-group.invariant.below (search rules));
  touched = keeps_trans c.loop-group.invariant.touched c.first_unsound_of-found.ensures.touched;
}

pub returns-clause-none : goal.returns-clause-none
returns-clause-none g c = λ none. all_below c.args.groups.now _ c.requires.groups (λ slot low. c.loop-group.invariant.below slot (omega (arith, low, c.loop-group-test.false, c.loop-group.auto.group-end)))

pub returns-then-is_some-clause-drives : goal.returns-then-is_some-clause-drives
returns-then-is_some-clause-drives g c = drives_kept c.args.groups.now (keeps_trans c.loop-group.invariant.touched c.first_unsound_of-found.ensures.touched) c.requires.drives

pub returns-clause-drives : goal.returns-clause-drives
returns-clause-drives g c = drives_kept c.args.groups.now c.loop-group.invariant.touched c.requires.drives
