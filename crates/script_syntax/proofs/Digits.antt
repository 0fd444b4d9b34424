-- Reading a number digit by digit gives the number that is written so, and no other word is one.
use Rattle.std.proofs.Common.{◌≡◌, ℕ, zero, suc, ◌+◌, ◌-◌, ◌*◌, ◌<◌, ◌≤◌, ◌^◌, List, [], ◌∷◌, length, get_or, sym, ap, ◌∙◌, arith, add-one, rules, decimal}
use Rattle.std.proofs.Math.Nat.{pow-suc}
use Rattle.std.specs.Int.{IsInRange}
use Rattle.std.proofs.lemmas.Fmt.{decimal-digits_value, decimal_nonempty, decimal_digit, first_decimal, length-decimal-le, digits_decimal}
use Rattle.std.proofs.lemmas.Str.Parse.{IsNumeralModel, tells_by_index, numerals_by_fold, digits_value_short}
use Rattle.script_syntax.specs.Number.{IsWritable}

-- the number that digits spell from the left, after the number so far
abbrev pub read_on : ℕ → List ℕ → ℕ
read_on n [] = n
read_on n (c ∷ cs) = read_on (10 * n + (c - 48)) cs

-- each byte is a digit
abbrev pub AreDigits : List ℕ → Type 0
AreDigits word = (i : ℕ) → i < length word → IsInRange 48 57 (get_or word i 0)

pub own : IsNumeralModel AreDigits (read_on 0)
own = numerals_by_fold AreDigits tells_by_index read_on (search rules)

-- one digit more stays below the next power
pub grown : (n i d : ℕ) → n < 10 ^ i → d ≤ 57 → 10 * n + (d - 48) < 10 ^ (i + 1)
grown n i d small digit =
    let e : 10 ^ (i + 1) ≡ 10 ^ i * 10 = rw add-one (pow-suc 10 i) in
    omega (arith, e)

-- digits without a leading zero are the number that they spell
pub reported_number : (word : List ℕ) (n : ℕ) → AreDigits word → 0 < length word → length word ≤ 10
    → (get_or word 0 0 ≡ 48 → length word ≡ 1) → read_on 0 word ≡ n → IsWritable n × (word ≡ decimal n)
reported_number word n digits some few lead reported =
    let small = digits_value_short own word 10 digits few in
    let e = decimal-digits_value own word digits some lead (omega arith) in
    (rw (← reported) small, sym (ap decimal (sym reported) ∙ e))

-- a short number is spelled by digits
pub digit_of : (word : List ℕ) (n : ℕ) → IsWritable n → word ≡ decimal n → AreDigits word
digit_of word n short e = rw e (digits_decimal own n (omega arith))

-- and by one to ten of them
pub length_of : (word : List ℕ) (n : ℕ) → IsWritable n → word ≡ decimal n → (0 < length word) × (length word ≤ 10)
length_of word n short e = rw e (decimal_nonempty n (omega arith), length-decimal-le 10 n (omega arith) short (omega arith))

-- and begins with no zero, but for zero itself
pub lead_of : (word : List ℕ) (n : ℕ) → IsWritable n → word ≡ decimal n → get_or word 0 0 ≡ 48 → length word ≡ 1
lead_of word zero short e lead = rw e (ap length (decimal_digit 0 (omega arith)))
lead_of word (suc n) short e lead =
    let first = first_decimal (suc n) (omega arith) (omega arith) in
    let same : get_or word 0 0 ≡ get_or (decimal (suc n)) 0 0 = ap (λ t. get_or t 0 0) e in
    absurd (omega arith)
