-- What a Taker knows after a read.
use Rattle.std.proofs.Common.{◌≡◌, ℕ, ◌≤◌, inl, inr, refl, sym, ◌∙◌, subst, arith, Contains}
use Rattle.std.proofs.lemmas.List.Elements.{Contains-push}
use Rattle.map_join.specs.declared.records.Record.{Record}
use Rattle.map_join.specs.Record.{key_of}
use Rattle.map_words.specs.declared.view.View.{View}
use Rattle.map_words.specs.TakeRule.{found_at}
use Rattle.map_words.specs.Answers.{HasFound, IsUpperBound}
use Rattle.array_book.specs.Takes.{Took, Knows, Learnt, IsReadRecord}

-- what was found is known
found_known : (before after : View) (r : Record) (block : ℕ) → r.block ≡ block → HasFound before block (key_of r) after → Knows after r
found_known before after r block of found = inr (
  found_at block found.0 (key_of r) (key_of r),
  subst (λ (v : View). Contains v.found (found_at block found.0 (key_of r) (key_of r))) (sym found.1) (Contains-push before.found (found_at block found.0 (key_of r) (key_of r))),
  sym of,
  refl,
)

-- and so is what was taken
took_known : (before after : View) (r : Record) → Took r before after → Knows after r
took_known before after r took = inl (subst (λ (v : View). Contains v.taken r) (sym took.1.1) (Contains-push before.taken r))

-- where a key is at least all that a Taker knows of a block, so is each greater one
newest_above : (taker : View) (block low high : ℕ) → low ≤ high → IsUpperBound taker block low → IsUpperBound taker block high
newest_above taker block low high more is = record {
  taken = λ r has of. let below = is.taken r has of in omega arith;
  found = λ f has of. let below = is.found f has of in omega arith;
}

pub reported_is : (before between after : View) (block : ℕ) (found reported : Record) → found.block ≡ block → reported.block ≡ found.block → key_of found ≤ key_of reported
    → IsUpperBound before block (key_of found) → HasFound before block (key_of found) between → Learnt reported found between after → IsReadRecord before block after reported
reported_is before between after block found reported of same above newest has learnt = (
  same ∙ of,
  go learnt,
  newest_above before block (key_of found) (key_of reported) above newest,
)
  where
    go : Learnt reported found between after → Knows after reported
    go (inl is) = subst (λ (v : View). Knows v reported) (sym is.1) (subst (Knows between) (sym is.0) (found_known before between found block of has))
    go (inr took) = took_known between after reported took.1
