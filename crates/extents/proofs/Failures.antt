-- How drives fare over several calls.
use Rattle.std.proofs.Common.{◌≡◌, ◌+◌, Bool, true, false, refl, ◌∙◌, arith}
use Rattle.extents.specs.Failures.{Failures, CountsFailure, StaysSteady}
use Rattle.extents.specs.Units.{loss}

loss_same : (b : Bool) → loss b b ≡ 0
loss_same true = refl
loss_same false = refl

-- losses add up
loss_more : (a b c : Bool) → (a ≡ true → b ≡ true) → (b ≡ true → c ≡ true) → loss a b + loss b c ≡ loss a c
loss_more true true true h k = refl
loss_more true true false h k = absurd (let both : false ≡ true = k refl in cc)
loss_more true false c h k = absurd (let both : false ≡ true = h refl in cc)
loss_more false true true h k = refl
loss_more false true false h k = absurd (let both : false ≡ true = k refl in cc)
loss_more false false true h k = refl
loss_more false false false h k = refl

-- where nothing happened
pub counts_same : (b : Bool) (f : Failures) → CountsFailure b b f f
counts_same b f = omega (arith, loss_same b)

pub steady_same : (b : Bool) (f : Failures) → StaysSteady b b f f
steady_same b f h = (h, refl)

-- one after another
pub counts_more : (a b c : Bool) (f g h : Failures) → (a ≡ true → b ≡ true) → (b ≡ true → c ≡ true) → CountsFailure a b f g → CountsFailure b c g h → CountsFailure a c f h
counts_more a b c f g h stays still one two = omega (arith, one, two, loss_more a b c stays still)

pub steady_more : (a b c : Bool) (f g h : Failures) → StaysSteady a b f g → StaysSteady b c g h → StaysSteady a c f h
steady_more a b c f g h one two is = let x = one is in let y = two x.0 in (y.0, y.1 ∙ x.1)
