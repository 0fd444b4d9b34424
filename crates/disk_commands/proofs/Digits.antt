-- Numbers that digits spell, read one after the other.
use Rattle.std.proofs.Common.{◌≡◌, ◌+◌, ◌*◌, ◌-◌, ◌^◌, ◌<◌, ◌≤◌, ◌⊎◌, inl, inr, ℕ, List, [], ◌∷◌, length, min, refl, sym, ◌∙◌, ap, subst, arith}
use Rattle.std.specs.Str.Parse.{AllDigits, IsNumeral, digits_value, digits_value_after}
use Rattle.std.specs.Char.{digit_value}
use Rattle.std.proofs.Math.Nat.{min-eq_left, min-eq_right}
use Rattle.std.proofs.lemmas.Bool.{cases_lt}

-- the greatest number
abbrev pub most : ℕ
most = 2 ^ 64 - 1

-- the digits from an index on are digits only if all are, and they go on with this number, or with the greatest where it is greater
pub record IsReadTo (digits rest : List ℕ) (number : ℕ) : Type 0 where
  pub fore : AllDigits 10 digits → AllDigits 10 rest
  pub back : AllDigits 10 rest → AllDigits 10 digits
  pub so_far : ℕ
  pub number_is : number ≡ min so_far most
  pub value : digits_value 10 digits ≡ digits_value_after 10 so_far rest

pub read_none : (digits : List ℕ) → IsReadTo digits digits 0
read_none digits = record { fore = λ all. all; back = λ all. all; so_far = 0; number_is = refl; value = refl }

pub saturated : (n d : ℕ) → min (min (min n most * 10) most + d) most ≡ min (n * 10 + d) most
saturated n d = elim (cases_lt most n) [
  | inl above ↦ ap (λ k. min (min (k * 10) most + d) most) (min-eq_right (omega (arith, above))) ∙ full (n * 10 + d) d (omega (arith, above))
  | inr low ↦ ap (λ k. min (min (k * 10) most + d) most) (min-eq_left low) ∙ elim (cases_lt most (n * 10)) [
    | inl above ↦ ap (λ k. min (k + d) most) (min-eq_right (omega (arith, above))) ∙ full (n * 10 + d) d (omega (arith, above))
    | inr small ↦ ap (λ k. min (k + d) most) (min-eq_left small)
  ]
]
  where
    full : (m d : ℕ) → most ≤ m → min (most + d) most ≡ min m most
    full m d le = min-eq_right (omega arith) ∙ sym (min-eq_right le)

pub read_more : (digits rest : List ℕ) (byte number next : ℕ) → digit_value byte < 10 → next ≡ min (min (number * 10) most + digit_value byte) most → IsReadTo digits (byte ∷ rest) number → IsReadTo digits rest next
read_more digits rest byte number next low is so_far = record {
  fore = λ all. (so_far.fore all).1;
  back = λ all. so_far.back (low, all);
  so_far = so_far.so_far * 10 + digit_value byte;
  number_is = is ∙ ap (λ k. min (min (k * 10) most + digit_value byte) most) so_far.number_is ∙ saturated so_far.so_far (digit_value byte);
  value = so_far.value;
}
