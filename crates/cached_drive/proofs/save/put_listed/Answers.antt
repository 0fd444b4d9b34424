use Rattle.std.proofs.Common.{◌≡◌, ◌<◌, ◌+◌, ◌++◌, ◌∷◌, [], suc, arith, length, take, ap, sym, subst, ◌∙◌}
use Rattle.std.specs.Prelude.{slice_index_or}
use Rattle.std.proofs.Math.Seq.{take-suc}
use Rattle.std.proofs.lemmas.List.{get_or_default}
use Rattle.extents.specs.Condition.{Held}
use Rattle.cached_drive.specs.Saving.{writes_at}
use Rattle.cached_drive.proofs.Bringing.{put_more}
use Rattle.cached_drive.proofs.save.put_listed.Goals as goal

pub put_unit-requires-clause-at : goal.put_unit-requires-clause-at
put_unit-requires-clause-at c =
    let l = c.loop-at in
    let at = slice_index_or c.args.addresses.now l.at-index 0 in
    subst (λ (h : Held). at < length h.units) (sym l.invariant.same)
    (c.requires.inside at (l.at-index, c.loop-at-test.true, get_or_default c.args.addresses.now l.at-index at 0 c.loop-at-test.true))

pub loop-at-preserved : goal.loop-at-preserved
loop-at-preserved c =
    let l = c.loop-at in
    let units = c.args.cache.now.units in
    let drive = c.args.drive in
    let at = slice_index_or c.args.addresses.now l.at-index 0 in
    let next : suc l.at-index ≡ l.at-index + 1 = omega arith in
    record {
      same = c.put_unit.ensures.same ∙ l.invariant.same;
      size = c.put_unit.ensures.size ∙ l.invariant.size;
      put = subst (λ n. c.put_unit.new.batch ≡ c.args.batch.now ++ writes_at drive units (take n c.args.addresses.now)) next
          (put_more drive units c.args.batch.now l.batch c.put_unit.new.batch (take l.at-index c.args.addresses.now) at l.invariant.put
          (c.in_ok-put_unit.ensures.ok ∙ ap (λ (h : Held). l.batch ++ writes_at drive h.units (at ∷ [])) l.invariant.same)
          ∙ ap (λ ats. c.args.batch.now ++ writes_at drive units ats) (sym (take-suc c.args.addresses.now l.at-index 0 c.loop-at-test.true)));
    }
