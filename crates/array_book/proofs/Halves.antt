-- A Taker's halves, joined again.
use Rattle.std.proofs.Common.{◌≡◌, ◌+◌, ◌-◌, ◌/◌, ◌++◌, [], ap, ◌∙◌, arith}
use Rattle.std.proofs.lemmas.List.{append-nil}
use Rattle.map_words.specs.declared.view.View.{View}
use Rattle.map_words.specs.TakeRule.{knows}
use Rattle.map_words.specs.Steps.{given_half, kept_half, both_views}

-- they are what was split
pub together_again : (v : View) → both_views (kept_half v) (given_half v) ≡ v
together_again v =
    let share : v.share - v.share / 2 + v.share / 2 ≡ v.share = omega arith in
    ap (λ s. knows s (v.taken ++ []) (v.found ++ [])) share
    ∙ (ap (λ t. knows v.share t (v.found ++ [])) (append-nil v.taken)
    ∙ ap (λ f. knows v.share v.taken f) (append-nil v.found))
