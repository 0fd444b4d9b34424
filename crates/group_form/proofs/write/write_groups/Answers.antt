use Rattle.std.proofs.Common.{◌∙◌, arith}
use Rattle.extent_groups.specs.Planned.{after}
use Rattle.group_form.proofs.Writing.{all_put, more_put, others_more}
use Rattle.group_form.proofs.write.write_groups.Goals as goal

pub returns-in_err-put_unit-clause-others : goal.returns-in_err-put_unit-clause-others
returns-in_err-put_unit-clause-others c = λ d. others_more (after d c.args.batch.now) (after d c.loop-index.batch) (after d c.put_unit.new.batch)
    (c.put_unit.ensures.others d) (c.loop-index.invariant.others d)

pub loop-index-preserved : goal.loop-index-preserved
loop-index-preserved c = record {
  first = more_put c.args.groups.now c.loop-index.batch c.put_unit.new.batch c.loop-index.index c.deref.result.now c.in_ok-put_unit.ensures.put
      (c.deref.ensures.value ∙ c.in_ok-put_group_unit.ensures) (omega (arith, c.loop-index-test.true)) c.loop-index.invariant.first;
  others = λ d. others_more (after d c.args.batch.now) (after d c.loop-index.batch) (after d c.put_unit.new.batch) (c.put_unit.ensures.others d) (c.loop-index.invariant.others d);
}

pub returns-in_err-put_unit-2-clause-others : goal.returns-in_err-put_unit-2-clause-others
returns-in_err-put_unit-2-clause-others c = λ d. others_more (after d c.args.batch.now) (after d c.loop-index.batch) (after d c.put_unit-2.new.batch)
    (c.put_unit-2.ensures.others d) (c.loop-index.invariant.others d)

pub returns-clause-spelled : goal.returns-clause-spelled
returns-clause-spelled c = all_put c.args.groups.now c.args.drives c.loop-index.batch c.put_unit-2.new.batch c.deref-2.result.now c.in_ok-put_unit-2.ensures.put
    (c.deref-2.ensures.value ∙ c.in_ok-put_count.ensures) (λ d there u low. c.loop-index.invariant.first d there u (omega (arith, low, c.loop-index-test.false)))

pub returns-clause-others : goal.returns-clause-others
returns-clause-others c = λ d. others_more (after d c.args.batch.now) (after d c.loop-index.batch) (after d c.put_unit-2.new.batch)
    (c.put_unit-2.ensures.others d) (c.loop-index.invariant.others d)
