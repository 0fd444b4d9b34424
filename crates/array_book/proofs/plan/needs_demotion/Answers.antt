use Rattle.std.proofs.Common.{◌≡◌, ℕ, ◌+◌, Bool, cond, take, arith, rules}
use Rattle.std.specs.Prelude.{count_by}
use Rattle.std.proofs.lemmas.List.Sums.{count_by_more_yes, sum_by-take-le}
use Rattle.slot_tables.specs.Views.{kept_at, is_kept}
use Rattle.array_book.proofs.plan.needs_demotion.Goals as goal

-- the mirrored slots up to this one already hold one more than allowed, and so do all of them
pub returns-then-spare-eq0 : goal.returns-then-spare-eq0
returns-then-spare-eq0 g c =
    let p : ℕ → Bool = λ s. is_kept (kept_at c.args.kept.now.array s) in
    let xs = c.args.mirrors.now in
    let i = c.loop-slot.slot-index in
    let more : count_by p (take (i + 1) xs) ≡ count_by p (take i xs) + 1 = count_by_more_yes p xs i 0 (search rules) (search rules) in
    let front = sum_by-take-le (λ (x : ℕ). cond (p x) 1 0) xs (i + 1) in
    (λ yes. omega (arith, more, front), λ few. search rules)
