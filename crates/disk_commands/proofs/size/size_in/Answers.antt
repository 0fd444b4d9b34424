use Rattle.std.proofs.Common.{◌≡◌, ◌∷◌, [], suc, length, take, subst, arith}
use Rattle.std.specs.Str.Parse.{IsNumeral}
use Rattle.std.proofs.Math.ListN.{get_or}
use Rattle.disk_commands.specs.Sizes.{IsUnit, NamesSize}
use Rattle.disk_commands.proofs.Nameless.{by_last, if_none, no_number, no_unit}
use Rattle.disk_commands.proofs.size.size_in.Goals as goal

pub returns-in_err-number_in-in-Some-unit_of-clause-none : goal.returns-in_err-number_in-in-Some-unit_of-clause-none
returns-in_err-number_in-in-Some-unit_of-clause-none c =
    let word = c.args.word.now in
    let last = c.in-Some.last in
    let unit = c.in-Some-unit_of.unit in
    let bytes = c.as_bytes-bytes.ensures.value in
    let low = c.in-Some.ensures.0 in
    let is = c.in-Some.ensures.1 in
    let long : suc last ≡ length word = omega (arith, low, is, c.as_bytes-bytes.ensures.len) in
    rw c.from_residual.ensures (λ size names.
    no_number (take last word) (get_or word last 0) unit (subst (λ b. IsUnit (get_or b last 0 ∷ []) unit) bytes c.in-Some-unit_of.ensures.some)
    (subst (λ b. IsNumeral 10 (take last b) → ⊥) bytes c.in_err-number_in-in-Some-unit_of.ensures.none) size
    (subst (λ w. NamesSize w size) (by_last word last long) names))

pub returns-in-None-clause-none : goal.returns-in-None-clause-none
returns-in-None-clause-none c =
    let word = c.args.word.now in
    let last = c.in-Some.last in
    let bytes = c.as_bytes-bytes.ensures.value in
    let low = c.in-Some.ensures.0 in
    let is = c.in-Some.ensures.1 in
    let long : suc last ≡ length word = omega (arith, low, is, c.as_bytes-bytes.ensures.len) in
    if_none _ _ c.number_in-in-None.result (λ none size names.
    no_unit (take last word) (get_or word last 0) (λ unit. subst (λ b. IsUnit (get_or b last 0 ∷ []) unit → ⊥) bytes (c.in-None.ensures.none unit))
    (subst (λ w. IsNumeral 10 w → ⊥) (by_last word last long) (subst (λ b. IsNumeral 10 b → ⊥) bytes none)) size
    (subst (λ w. NamesSize w size) (by_last word last long) names))
    c.number_in-in-None.ensures.none
