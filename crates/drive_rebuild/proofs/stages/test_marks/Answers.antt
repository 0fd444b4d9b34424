use Rattle.std.proofs.Common.{inl, inr, sym, ◌∙◌, ap, arith}
use Rattle.array_recovery.specs.Found.{is_marked}
use Rattle.extent_groups.proofs.Places.{same_or_not}
use Rattle.drive_rebuild.proofs.stages.test_marks.Goals as goal

pub loop-drive-init : goal.loop-drive-init
loop-drive-init c = record { others = λ d low ne. absurd (omega (arith, low)) }

pub loop-drive-preserved : goal.loop-drive-preserved
loop-drive-preserved c = record {
  others = λ d low ne. elim (same_or_not d c.loop-drive.drive) [
    | inl here ↦ ap (λ k. is_marked c.args.marks.now k) here ∙ c.in_ok-test_other.ensures (λ e. ne (here ∙ e))
    | inr other ↦ c.loop-drive.invariant.others d (grind arith) ne
  ];
}

pub returns : goal.returns
returns c = record {
  inside = c.if-number-drives.false;
  marked = sym c.if-not-has_mark.ensures;
  others = λ d low ne. c.loop-drive.invariant.others d (omega (arith, low, c.loop-drive-test.false)) ne;
}
