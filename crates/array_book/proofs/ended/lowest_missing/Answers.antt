use Rattle.std.proofs.Common.{◌≡◌, true, false, map, sym, ◌∙◌, rules}
use Rattle.array_book.proofs.Wholes.{has_map, up_to}
use Rattle.array_book.proofs.ended.lowest_missing.Goals as goal

pub returns-then-not-has_hand : goal.returns-then-not-has_hand
returns-then-not-has_hand g c =
    let none : c.has_hand.result ≡ false = search rules in
    let is = sym (has_map (λ e. e.hand) c.args.ended.now c.loop-number.number) ∙ (sym c.has_hand.ensures ∙ none) in
    (is, c.loop-number.invariant, λ some. search rules)

pub loop-number-preserved : goal.loop-number-preserved
loop-number-preserved g c =
    let one : c.has_hand.result ≡ true = search rules in
    let is = sym (has_map (λ e. e.hand) c.args.ended.now c.loop-number.number) ∙ (sym c.has_hand.ensures ∙ one) in
    up_to (map (λ e. e.hand) c.args.ended.now) c.loop-number.number c.loop-number.invariant is
