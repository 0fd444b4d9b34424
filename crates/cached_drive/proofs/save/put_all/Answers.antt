use Rattle.std.proofs.Common.{◌≡◌, ◌+◌, ◌++◌, ◌∷◌, [], suc, arith, ap, subst, ◌∙◌}
use Rattle.extents.specs.Condition.{Held}
use Rattle.cached_drive.specs.Saving.{writes_at, upto}
use Rattle.cached_drive.proofs.Bringing.{put_more}
use Rattle.cached_drive.proofs.save.put_all.Goals as goal

pub loop-at-preserved : goal.loop-at-preserved
loop-at-preserved c =
    let l = c.loop-at in
    let units = c.args.cache.now.units in
    let drive = c.args.drive in
    let next : suc l.at ≡ l.at + 1 = omega arith in
    record {
      same = c.put_unit.ensures.same ∙ l.invariant.same;
      size = c.put_unit.ensures.size ∙ l.invariant.size;
      put = subst (λ n. c.put_unit.new.batch ≡ c.args.batch.now ++ writes_at drive units (upto n)) next
          (put_more drive units c.args.batch.now l.batch c.put_unit.new.batch (upto l.at) l.at l.invariant.put
          (c.in_ok-put_unit.ensures.ok ∙ ap (λ (h : Held). l.batch ++ writes_at drive h.units (l.at ∷ [])) l.invariant.same));
    }
