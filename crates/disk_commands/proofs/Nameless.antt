-- Words that name no size.
use Rattle.std.proofs.Common.{◌≡◌, ◌+◌, ◌<◌, ◌≤◌, ◌++◌, ℕ, suc, List, [], ◌∷◌, inl, inr, length, take, refl, sym, ◌∙◌, ap, subst, arith, length-append, Option, Some, None}
use Rattle.std.specs.Prelude.{IfNone}
use Rattle.std.specs.Str.Parse.{AllDigits, IsNumeral}
use Rattle.std.specs.Char.{digit_value}
use Rattle.std.proofs.Math.ListN.{get_or}
use Rattle.std.proofs.Math.Seq.{take-suc}
use Rattle.std.proofs.lemmas.List.{append-nil, take_all}
use Rattle.disk_commands.specs.Sizes.{IsUnit, NamesSize}

abbrev tail : List ℕ → List ℕ
tail [] = []
tail (x ∷ xs) = xs

abbrev head : List ℕ → ℕ
head [] = 0
head (x ∷ xs) = x

-- what follows where a call finds none
pub if_none : {X : Type 0} (P Q : Type 0) (o : Option X) → (P → Q) → IfNone o P → IfNone o Q
if_none P Q None to p = to p
if_none P Q (Some x) to p = tt

-- two words with the same letters have the same last one, and the same before it
pub last_same : (xs ys : List ℕ) (a b : ℕ) → xs ++ a ∷ [] ≡ ys ++ b ∷ [] → (xs ≡ ys) × (a ≡ b)
last_same [] [] a b same = (refl, ap head same)
last_same [] (y ∷ ys) a b same = absurd (let long = ap length same in let more = length-append ys (b ∷ []) in omega (arith, long, more))
last_same (x ∷ xs) [] a b same = absurd (let long = ap length same in let more = length-append xs (a ∷ []) in omega (arith, long, more))
last_same (x ∷ xs) (y ∷ ys) a b same =
    let rest = last_same xs ys a b (ap tail same) in
    (ap (λ h. h ∷ xs) (ap head same) ∙ ap (λ t. y ∷ t) rest.0, rest.1)

-- a word up to its last letter, and that
pub by_last : (word : List ℕ) (last : ℕ) → suc last ≡ length word → word ≡ take last word ++ get_or word last 0 ∷ []
by_last word last long = sym (take_all (suc last) word (omega (arith, long))) ∙ take-suc word last 0 (omega (arith, long))

-- the last of digits is one
last_digit : (xs : List ℕ) (b : ℕ) → AllDigits 10 (xs ++ b ∷ []) → digit_value b < 10
last_digit [] b all = all.0
last_digit (x ∷ xs) b all = last_digit xs b all.1

-- a unit's letter is no digit
no_digit : (b unit : ℕ) → IsUnit (b ∷ []) unit → digit_value b < 10 → ⊥
no_digit b unit (inl k) low = absurd (let is : digit_value 75 < 10 = subst (λ x. digit_value x < 10) k.0 low in omega (arith, is))
no_digit b unit (inr (inl m)) low = absurd (let is : digit_value 77 < 10 = subst (λ x. digit_value x < 10) m.0 low in omega (arith, is))
no_digit b unit (inr (inr g)) low = absurd (let is : digit_value 71 < 10 = subst (λ x. digit_value x < 10) g.0 low in omega (arith, is))

-- before a unit's letter there is no numeral
pub no_number : (rest : List ℕ) (b unit : ℕ) → IsUnit (b ∷ []) unit → (IsNumeral 10 rest → ⊥) → (size : ℕ) → NamesSize (rest ++ b ∷ []) size → ⊥
no_number rest b unit is none size names = by names.digits names.letters names.unit names.word_is names.numeral names.unit_is
  where
    by : (digits letters : List ℕ) (n : ℕ) → rest ++ b ∷ [] ≡ digits ++ letters → IsNumeral 10 digits → IsUnit letters n → ⊥
    by digits [] n word numeral unit_is = no_digit b unit is (last_digit rest b (subst (AllDigits 10) (sym (word ∙ append-nil digits)) numeral.1))
    by digits (l ∷ []) n word numeral unit_is = none (subst (IsNumeral 10) (sym (last_same rest digits b l word).0) numeral)
    by digits (l ∷ (m ∷ more)) n word numeral unit_is = unit_is

-- the last letter is no unit's, and the word no numeral
pub no_unit : (rest : List ℕ) (b : ℕ) → ((unit : ℕ) → IsUnit (b ∷ []) unit → ⊥) → (IsNumeral 10 (rest ++ b ∷ []) → ⊥) → (size : ℕ) → NamesSize (rest ++ b ∷ []) size → ⊥
no_unit rest b never none size names = by names.digits names.letters names.unit names.word_is names.numeral names.unit_is
  where
    by : (digits letters : List ℕ) (n : ℕ) → rest ++ b ∷ [] ≡ digits ++ letters → IsNumeral 10 digits → IsUnit letters n → ⊥
    by digits [] n word numeral unit_is = none (subst (IsNumeral 10) (sym (word ∙ append-nil digits)) numeral)
    by digits (l ∷ []) n word numeral unit_is = never n (subst (λ x. IsUnit (x ∷ []) n) (sym (last_same rest digits b l word).1) unit_is)
    by digits (l ∷ (m ∷ more)) n word numeral unit_is = unit_is
