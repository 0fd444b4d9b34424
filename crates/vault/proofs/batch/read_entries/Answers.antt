use Rattle.std.proofs.Common.{◌∙◌, ◌++◌, ◌*◌, drop, [], ◌∷◌, ap, sym, subst}
use Rattle.std.proofs.lemmas.Bool.{true≢false}
use Rattle.vault.specs.declared.batch.Entry.{Entry}
use Rattle.vault.specs.Coding.{entry_at, AreGood, IsGoodEntry}
use Rattle.vault.proofs.Codes.{tail_is, good_at, good_more, at_more}
use Rattle.vault.proofs.batch.read_entries.Goals as goal

pub returns-in_default-clause-is : goal.returns-in_default-clause-is
returns-in_default-clause-is c = (
  λ t. absurd (true≢false (sym t)),
  λ good. absurd (c.in_default.ensures.none (subst (λ l. IsGoodEntry c.args.units (entry_at l)) (sym (tail_is (32 * c.loop-index.index) c.args.table.now))
      (good_at c.args.units c.loop-index.index c.args.count c.args.table.now c.loop-index-test.true good))),
)

pub loop-index-preserved : goal.loop-index-preserved
loop-index-preserved c =
    let es = c.loop-index.entries.items in
    let is = c.in-Some.ensures.some.0 ∙ ap entry_at (tail_is (32 * c.loop-index.index) c.args.table.now) in
    record {
      entries = c.in_ok-push.ensures.items ∙ ap (λ (e : Entry). es ++ e ∷ []) is ∙ ap (λ l. l ++ entry_at (drop (32 * c.loop-index.index) c.args.table.now) ∷ []) c.loop-index.invariant.entries
          ∙ sym (at_more c.loop-index.index c.args.table.now);
      good = subst (AreGood c.args.units) (sym c.in_ok-push.ensures.items) (good_more c.args.units es c.in-Some.entry c.loop-index.invariant.good c.in-Some.ensures.some.1);
    }
