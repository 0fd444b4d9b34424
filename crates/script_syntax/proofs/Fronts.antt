-- The number at the start of a text, before the first separator.
use Rattle.std.proofs.Common.{◌≡◌, ℕ, zero, suc, ◌+◌, ◌-◌, ◌*◌, ◌<◌, ◌≤◌, ◌^◌, List, [], ◌∷◌, ◌++◌, length, get_or, take, drop, min, refl, sym, ap, ◌∙◌, arith, decimal, length-take, inl, inr, Option, Some, None}
use Rattle.std.specs.Prelude.{IfSome}
use Rattle.std.specs.Int.{IsInRange}
use Rattle.std.specs.List.{All, onto_first, join_with_byte}
use Rattle.std.proofs.lemmas.Bool.{cases_lt, eqb-true}
use Rattle.std.proofs.lemmas.List.{take_more, take_all, get_or-take}
use Rattle.std.proofs.lemmas.List.Elements.{All-from_get_or}
use Rattle.std.proofs.lemmas.List.Splits.{slice_split-cons_no, join_with_byte-slice_split}
use Rattle.script_syntax.specs.Number.{IsNumeral, IsWritable}
use Rattle.script_syntax.specs.Parts.{parts}
use Rattle.script_syntax.proofs.Digits.{read_on, grown, digit_of, length_of, lead_of, reported_number}
use Rattle.script_syntax.proofs.Numbers.{some_part}
use Rattle.script_syntax.proofs.Splits.{Differs, IsThere, cut_after, cut_at, uncut, not_true, one_part, there}

-- the digits before a place, and the number that they spell
pub record IsFront (separator : ℕ) (text : List ℕ) (at number : ℕ) : Type 0 where
  pub few : at ≤ 11
  pub digits : (k : ℕ) → k < at → IsInRange 48 57 (get_or text k 0)
  pub whole : (k : ℕ) → 0 ≤ k → k < at → IsThere separator text k → ⊥
  pub reported : number ≡ read_on 0 (take at text)
  pub small : number < 10 ^ at

pub no_front : (separator : ℕ) (text : List ℕ) → IsFront separator text 0 0
no_front separator text = record {
  few = omega arith;
  digits = λ k below. absurd (omega (arith, below));
  whole = λ k low below. absurd (omega (arith, below));
  reported = refl;
  small = omega arith;
}

-- ---- one digit more

read_end : (n : ℕ) (front : List ℕ) (c : ℕ) → read_on n (front ++ c ∷ []) ≡ 10 * read_on n front + (c - 48)
read_end n [] c = refl
read_end n (d ∷ front) c = read_end (10 * n + (d - 48)) front c

whole_more : (separator : ℕ) (text : List ℕ) (at : ℕ) → (get_or text at 0 ≡ separator → ⊥)
    → ((k : ℕ) → 0 ≤ k → k < at → IsThere separator text k → ⊥)
    → (k : ℕ) → 0 ≤ k → k < at + 1 → IsThere separator text k → ⊥
whole_more separator text at other whole k low below is =
    elim (cases_lt k at) [
      | inl before ↦ whole k low before is
      | inr last ↦
          let e : k ≡ at = omega arith in
          other (rw e at (eqb-true _ _ is))
    ]

digits_more : (text : List ℕ) (at : ℕ) → IsInRange 48 57 (get_or text at 0) → ((k : ℕ) → k < at → IsInRange 48 57 (get_or text k 0))
    → (k : ℕ) → k < at + 1 → IsInRange 48 57 (get_or text k 0)
digits_more text at digit digits k below =
    elim (cases_lt k at) [
      | inl before ↦ digits k before
      | inr last ↦
          let e : k ≡ at = omega arith in
          rw e digit
    ]

pub front_more : (separator : ℕ) (text : List ℕ) (at number value : ℕ) → at < length text → at < 11
    → (get_or text at 0 ≡ separator → ⊥) → IsInRange 48 57 (get_or text at 0) → value ≡ get_or text at 0 - 48
    → IsFront separator text at number → IsFront separator text (at + 1) (10 * number + value)
front_more separator text at number value inside few other digit is front = record {
  few = omega arith;
  digits = digits_more text at digit front.digits;
  whole = whole_more separator text at other front.whole;
  reported = rw (take_more text at 0 inside, front.reported, is) (sym (read_end 0 (take at text) (get_or text at 0)));
  small = rw is (grown number at (get_or text at 0) front.small (omega (arith, digit)));
}

-- ---- the number

-- digits that are a numeral spell a number
pub front_number : (separator : ℕ) (text : List ℕ) (at number : ℕ) → at ≤ length text → IsNumeral text at → IsFront separator text at number
    → IsWritable number × (take at text ≡ decimal number)
front_number separator text at number inside numeral front =
    let long : length (take at text) ≡ at = omega (arith, length-take at text) in
    reported_number (take at text) number
    (λ k below. let before : k < at = omega (arith, long, below) in rw (get_or-take at text k 0 before) (front.digits k before))
    (omega (arith, long, numeral.some)) (omega (arith, long, numeral.few))
    (λ zero_first. only_one zero_first long) (sym front.reported)
  where
    only_one : get_or (take at text) 0 0 ≡ 48 → length (take at text) ≡ at → length (take at text) ≡ 1
    only_one zero_first long =
        elim (cases_lt 1 at) [
          | inl longer ↦ absurd (numeral.lead longer (sym (get_or-take at text 0 0 numeral.some) ∙ zero_first))
          | inr short ↦ omega (arith, numeral.some)
        ]

-- a number and the separator after it
pub number_cut : (separator : ℕ) (text : List ℕ) (at number : ℕ) → at < length text → get_or text at 0 ≡ separator
    → IsNumeral text at → IsFront separator text at number
    → IsWritable number × (parts separator text ≡ decimal number ∷ parts separator (take (length text - (at + 1)) (drop (at + 1) text)))
number_cut separator text at number inside is numeral front =
    let found = front_number separator text at number (omega arith) numeral front in (
      found.0,
      cut_at separator text at inside front.whole (there separator text at is) ∙ ap (λ word. word ∷ parts separator (take (length text - (at + 1)) (drop (at + 1) text))) found.1,
    )

-- a number and nothing after it
pub number_alone : (separator : ℕ) (text : List ℕ) (at number : ℕ) → at ≤ min (length text) 11 → min (length text) 11 ≤ at
    → IsNumeral text (length text) → IsFront separator text at number → IsWritable number × (parts separator text ≡ decimal number ∷ [])
number_alone separator text at number inside end numeral front =
    let e : length text ≡ at = omega (arith, numeral.few) in
    let found = front_number separator text at number (omega arith) (rw e at numeral) front in (
      found.0,
      uncut separator text (λ k low below. front.whole k low (omega (arith, below)))
          ∙ ap (λ word. word ∷ []) (sym (take_all at text (omega arith)) ∙ found.1),
    )

-- ---- no number

-- the first part begins as the text does
begins : (separator x : ℕ) (text word : List ℕ) (rest : List (List ℕ)) → Differs separator x → parts separator (x ∷ text) ≡ word ∷ rest
    → (part : List ℕ) × (parts_left : List (List ℕ)) × (parts separator text ≡ part ∷ parts_left) × (word ≡ x ∷ part)
begins separator x text word rest differs e = go (parts separator text) refl
  where
    go : (found : List (List ℕ)) → parts separator text ≡ found
        → (part : List ℕ) × (parts_left : List (List ℕ)) × (parts separator text ≡ part ∷ parts_left) × (word ≡ x ∷ part)
    go [] none = absurd (some_part separator text none)
    go (part ∷ ps) are =
        let onto : parts separator (x ∷ text) ≡ (x ∷ part) ∷ ps = slice_split-cons_no _ x text differs ∙ ap (onto_first x) are in
        let reported = sym e ∙ onto in
        (part, ps, are, cc)

-- and has the text's bytes up to a place that no separator is before or at
first_has : (separator at : ℕ) (text word : List ℕ) (rest : List (List ℕ)) → at < length text
    → ((k : ℕ) → k ≤ at → Differs separator (get_or text k 0)) → parts separator text ≡ word ∷ rest
    → (at < length word) × ((k : ℕ) → k ≤ at → get_or word k 0 ≡ get_or text k 0)
first_has separator at [] word rest inside differs e = absurd (omega arith)
first_has separator zero (x ∷ text) word rest inside differs e =
    let first = begins separator x text word rest (differs 0 (omega arith)) e in
    let word_is = first.3 in (
      omega (arith, ap length word_is),
      λ k low. let e : k ≡ 0 = omega arith in rw (e, word_is) refl,
    )
first_has separator (suc at) (x ∷ text) word rest inside differs e =
    let first = begins separator x text word rest (differs 0 (omega arith)) e in
    let word_is = first.3 in
    let more = first_has separator at text first.0 first.1 (omega arith) (λ k low. differs (suc k) (omega arith)) first.2 in (
      omega (arith, ap length word_is, more.0),
      same word_is more.1,
    )
  where
    same : {part : List ℕ} → word ≡ x ∷ part → ((k : ℕ) → k ≤ at → get_or part k 0 ≡ get_or text k 0)
        → (k : ℕ) → k ≤ suc at → get_or word k 0 ≡ get_or (x ∷ text) k 0
    same word_is more zero low = rw word_is refl
    same word_is more (suc k) low = rw word_is (more k (omega arith))

-- where the first part is a number, a next byte that isn't the separator is a digit
pub next_digit : (separator : ℕ) (text : List ℕ) (at number : ℕ) → at < length text → (get_or text at 0 ≡ separator → ⊥)
    → IsFront separator text at number → (n : ℕ) (rest : List (List ℕ)) → IsWritable n → parts separator text ≡ decimal n ∷ rest
    → IsInRange 48 57 (get_or text at 0)
next_digit separator text at number inside other front n rest short spelled =
    let has = first_has separator at text (decimal n) rest inside
    (λ k low. not_true _ (whole_more separator text at other front.whole k (omega arith) (omega (arith, low)))) spelled in
    let same = has.1 at (omega arith) in
    rw same at (digit_of (decimal n) n short refl at has.0)

-- the digits of a writable number, at the start of a text, are a numeral
numeral_of : (text : List ℕ) (at n : ℕ) → at ≤ length text → IsWritable n → take at text ≡ decimal n → IsNumeral text at
numeral_of text at n inside short e =
    let long : length (take at text) ≡ at = omega (arith, length-take at text) in
    let sized = length_of (take at text) n short e in
    let some : 0 < at = omega (arith, long, sized) in
    record {
      some = some;
      few = omega (arith, long, sized);
      lead = λ more zero_first.
          let alone = lead_of (take at text) n short e (get_or-take at text 0 0 some ∙ zero_first) in
          omega (arith, alone, long, more);
    }

-- where the bytes before the separator are no numeral, the first part isn't a number
pub not_cut : (separator : ℕ) (text : List ℕ) (at number : ℕ) → at < length text → get_or text at 0 ≡ separator
    → IsFront separator text at number → (IsNumeral text at → ⊥)
    → (n : ℕ) (rest : List (List ℕ)) → IsWritable n → parts separator text ≡ decimal n ∷ rest → ⊥
not_cut separator text at number inside is front none n rest short spelled =
    let cut = cut_at separator text at inside front.whole (there separator text at is) in
    let both = sym cut ∙ spelled in
    let word : take at text ≡ decimal n = cc in
    none (numeral_of text at n (omega arith) short word)

-- nor is it where the whole text is no numeral
not_whole : (separator : ℕ) (text : List ℕ) (at number : ℕ) → length text ≤ at → IsFront separator text at number
    → (IsNumeral text (length text) → ⊥)
    → (n : ℕ) (rest : List (List ℕ)) → IsWritable n → parts separator text ≡ decimal n ∷ rest → ⊥
not_whole separator text at number end front none n rest short spelled =
    let whole = uncut separator text (λ k low below. front.whole k low (omega (arith, below))) in
    let both = sym whole ∙ spelled in
    let word : text ≡ decimal n = cc in
    none (numeral_of text (length text) n (omega arith) short (take_all (length text) text (omega arith) ∙ word))

-- nor where the text begins with eleven digits
too_long : (separator : ℕ) (text : List ℕ) (at number : ℕ) → 11 ≤ at → 11 ≤ length text → IsFront separator text at number
    → (n : ℕ) (rest : List (List ℕ)) → IsWritable n → parts separator text ≡ decimal n ∷ rest → ⊥
too_long separator text at number most inside front n rest short spelled =
    let has = first_has separator 10 text (decimal n) rest (omega arith)
    (λ k low. not_true _ (front.whole k (omega arith) (omega (arith, low, most)))) spelled in
    let few = length_of (decimal n) n short refl in
    omega (arith, has.0, few)

pub not_ended : (separator : ℕ) (text : List ℕ) (at number : ℕ) → at ≤ min (length text) 11 → min (length text) 11 ≤ at
    → IsFront separator text at number → (IsNumeral text (length text) → ⊥)
    → (n : ℕ) (rest : List (List ℕ)) → IsWritable n → parts separator text ≡ decimal n ∷ rest → ⊥
not_ended separator text at number inside end front none n rest short spelled =
    elim (cases_lt at 11) [
      | inl less ↦ not_whole separator text at number (omega arith) front none n rest short spelled
      | inr most ↦ too_long separator text at number (omega arith) (omega arith) front n rest short spelled
    ]

-- ---- a word that is a number

no_space : (n : ℕ) → IsWritable n → All (Differs 32) (decimal n)
no_space n short =
    let digits = digit_of (decimal n) n short refl in
    All-from_get_or (Differs 32) (decimal n) 0 (λ k below. let digit = digits k below in grind (arith))

-- a number is one word
pub one_number : (word : List ℕ) (n : ℕ) → IsWritable n → word ≡ decimal n → parts 32 word ≡ decimal n ∷ []
one_number word n short e = rw e (one_part 32 (decimal n) (no_space n short))

-- and where a space follows it, it is the first word
pub first_number : (text : List ℕ) (at n : ℕ) → at < length text → get_or text at 0 ≡ 32 → IsWritable n → take at text ≡ decimal n
    → parts 32 text ≡ decimal n ∷ parts 32 (take (length text - (at + 1)) (drop (at + 1) text))
first_number text at n inside is short spelled =
    cut_after 32 text at inside (rw spelled (no_space n short)) is
    ∙ ap (λ word. word ∷ parts 32 (take (length text - (at + 1)) (drop (at + 1) text))) spelled

-- a text whose bytes up to its end are a number is that number alone
pub only_number : (text : List ℕ) (count : ℕ) (found : Option ℕ) → length text ≤ count
    → IfSome found (λ n. IsWritable n × (take count text ≡ decimal n)) → IfSome found (λ n. IsWritable n × (parts 32 text ≡ decimal n ∷ []))
only_number text count None end found = tt
only_number text count (Some n) end found = (found.0, one_number text n found.0 (sym (take_all count text end) ∙ found.1))

-- a text of one word is that word
pub word_alone : (word part : List ℕ) → parts 32 word ≡ part ∷ [] → word ≡ part
word_alone word part e = sym (join_with_byte-slice_split 32 word) ∙ ap (join_with_byte 32) e

-- a word that is a number has no words after it
pub not_alone : (word : List ℕ) (n m : ℕ) (rest : List ℕ) → IsWritable n → word ≡ decimal n → parts 32 word ≡ decimal m ∷ parts 32 rest → ⊥
not_alone word n m rest short e found =
    let both = sym (one_number word n short e) ∙ found in
    some_part 32 rest (cc)
