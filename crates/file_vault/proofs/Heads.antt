-- The numbers of a record's head.
use Rattle.std.proofs.Common.{◌≡◌, ◌≤◌, ◌<◌, ℕ, zero, suc, ◌+◌, ◌-◌, ◌*◌, ◌/◌, ◌%◌, ◌^◌, Bool, true, false, if◌then◌else◌, List, [], ◌∷◌, ◌++◌, refl, sym, ◌∙◌, ap, arith, length, take, get_or}
use Rattle.std.specs.Prelude.{◌&&◌, nat_le}
use Rattle.std.proofs.Math.Nat.{div-add-mod'}
use Rattle.std.proofs.lemmas.Bool.{le-leb, lt-leb, false≢true}
use Rattle.std.proofs.lemmas.List.{take-append-drop, take_rest, take_more, take_more_set, take_all, append-nil}
use Rattle.std.proofs.lemmas.Grind.{pow_more}
use Rattle.std.proofs.Math.Nat.{pow-le-pow_right}
use Rattle.std.proofs.Common.{◌==◌, append_assoc, drop, drop-cons, take-add}
use Rattle.std.proofs.lemmas.List.{length-set}
use Rattle.std.specs.Prelude.{set}
use mir.Val.{bool_byte}
use Rattle.std.specs.Prelude.{not}
use Rattle.file_vault.specs.Records.{digits, from_digits, are_digits, one_unless_zero, nonzero}

pub length_digits : (count n : ℕ) → length (digits count n) ≡ count
length_digits zero n = refl
length_digits (suc count) n = ap (λ m. suc m) (length_digits count (n / 128))

div_below : (n m : ℕ) → n < 128 * m → n / 128 < m
div_below n m low = let whole = div-add-mod' n 128 in omega (arith, whole, low)

pub back : (count n : ℕ) → n < 128 ^ count → from_digits (digits count n) ≡ n
back zero n low = omega (arith, low)
back (suc count) n low =
    let whole = div-add-mod' n 128 in
    let rest = back count (n / 128) (div_below n (128 ^ count) (omega (arith, low))) in
    omega (arith, whole, rest)

pub are : (count n : ℕ) → are_digits (digits count n) ≡ true
are zero n = refl
are (suc count) n = ap (λ b. b && are_digits (digits count (n / 128))) (le-leb 128 (128 + n % 128) (omega arith)) ∙ are count (n / 128)

pub never : (b : Bool) → (b && false) ≡ false
never true = refl
never false = refl

pub and_both : (b c : Bool) → (b && c) ≡ true → (b ≡ true) × (c ≡ true)
and_both true true is = (refl, refl)
and_both true false is = absurd (false≢true is)
and_both false c is = absurd (false≢true is)

pub are_both : (xs ys : List ℕ) → are_digits xs ≡ true → are_digits ys ≡ true → are_digits (xs ++ ys) ≡ true
are_both [] ys one two = two
are_both (x ∷ xs) ys one two = let both = and_both (nat_le 128 x) (are_digits xs) one in ap (λ b. b && are_digits (xs ++ ys)) both.0 ∙ are_both xs ys both.1 two

-- one byte more is counted
pub nonzero_both : (xs ys : List ℕ) → nonzero (xs ++ ys) ≡ nonzero xs + nonzero ys
nonzero_both [] ys = omega arith
nonzero_both (x ∷ xs) ys = let rest = nonzero_both xs ys in omega (arith, rest)

pub nonzero_more : (bs : List ℕ) (i : ℕ) → i < length bs → nonzero (take (i + 1) bs) ≡ nonzero (take i bs) + one_unless_zero (get_or bs i 0)
nonzero_more bs i low =
    let one : nonzero (get_or bs i 0 ∷ []) ≡ one_unless_zero (get_or bs i 0) = omega arith in
    ap nonzero (take_more bs i 0 low) ∙ nonzero_both (take i bs) (get_or bs i 0 ∷ []) ∙ ap (λ n. nonzero (take i bs) + n) one

-- a number is written, byte by byte
pub digits_next : (out out2 : List ℕ) (i rest : ℕ) (all : List ℕ) → i < length out → out2 ≡ set out i (128 + rest % 128) → take i out ++ digits (length out - i) rest ≡ all → take (i + 1) out2 ++ digits (length out2 - (i + 1)) (rest / 128) ≡ all
digits_next out out2 i rest all low made so_far =
    let more : length out - i ≡ suc (length out - (i + 1)) = omega (arith, low) in
    let long : length out2 ≡ length out = ap length made ∙ length-set out i (128 + rest % 128) in
    ap (λ n. take (i + 1) out2 ++ digits (n - (i + 1)) (rest / 128)) long
    ∙ ap (λ l. l ++ digits (length out - (i + 1)) (rest / 128)) (ap (λ l. take (i + 1) l) made ∙ take_more_set out i (128 + rest % 128) low)
    ∙ append_assoc (take i out) ((128 + rest % 128) ∷ []) (digits (length out - (i + 1)) (rest / 128))
    ∙ sym (ap (λ n. take i out ++ digits n rest) more)
    ∙ so_far

pub digits_all : (out : List ℕ) (i rest : ℕ) (all : List ℕ) → length out ≤ i → take i out ++ digits (length out - i) rest ≡ all → out ≡ all
digits_all out i rest all done so_far =
    sym (take_all i out done) ∙ sym (append-nil (take i out)) ∙ ap (λ n. take i out ++ digits n rest) (let none : 0 ≡ length out - i = omega (arith, done) in none) ∙ so_far

-- a number is read, byte by byte from the last on
pub digits_before : (bs : List ℕ) (i n b : ℕ) → length bs ≡ 9 → i < 9 → b ≡ get_or bs (8 - i) 0 → 128 ≤ b → b < 256 → n ≡ from_digits (drop (9 - i) bs) → are_digits (drop (9 - i) bs) ≡ true → n < 128 ^ i
    → (n * 128 + (b - 128) ≡ from_digits (drop (9 - (i + 1)) bs)) × (are_digits (drop (9 - (i + 1)) bs) ≡ true) × (n * 128 + (b - 128) < 128 ^ (i + 1))
digits_before bs i n b long low is high small so_far are low_n =
    let at : 9 - (i + 1) ≡ 8 - i = omega arith in
    let next : suc (8 - i) ≡ 9 - i = omega (arith, low) in
    let there : drop (9 - (i + 1)) bs ≡ b ∷ drop (9 - i) bs = ap (λ m. drop m bs) at ∙ drop-cons bs (8 - i) 0 (omega (arith, long)) ∙ ap (λ c. c ∷ drop (suc (8 - i)) bs) (sym is) ∙ ap (λ m. b ∷ drop m bs) next in
    let power = pow_more 128 i in (
      (let rest : from_digits (b ∷ drop (9 - i) bs) ≡ (b - 128) + 128 * n = ap (λ m. (b - 128) + 128 * m) (sym so_far) in sym (ap from_digits there ∙ rest ∙ omega arith)),
      ap are_digits there ∙ ap (λ c. c && are_digits (drop (9 - i) bs)) (le-leb 128 b high) ∙ are,
      omega (arith, power, low_n, high, small),
    )

pub low_power : (i n : ℕ) → i ≤ 8 → n < 128 ^ i → n < 128 ^ 8
low_power i n le low = let more = pow-le-pow_right {n = 128} (omega arith) le in omega (arith, more, low)

-- a byte that is none of a number's
pub no_digit : (bs : List ℕ) (k b : ℕ) → k < length bs → b ≡ get_or bs k 0 → b < 128 → are_digits bs ≡ false
no_digit [] k b low is small = absurd (omega (arith, low))
no_digit (c ∷ bs) zero b low is small = ap (λ d. d && are_digits bs) (lt-leb 128 c (omega (arith, small, is)))
no_digit (c ∷ bs) (suc k) b low is small = ap (λ d. nat_le 128 c && d) (no_digit bs k b (omega (arith, low)) is small) ∙ never (nat_le 128 c)

-- a test, as a number
pub one_if : (b : Bool) → bool_byte (not b) ≡ (if b then 0 else 1)
one_if true = refl
one_if false = refl

pub one_most : (b : Bool) → bool_byte (not b) ≤ 1
one_most true = omega arith
one_most false = omega arith

pub counted_next : (bs : List ℕ) (i n m : ℕ) → i < length bs → n ≡ nonzero (take i bs) → m ≡ one_unless_zero (get_or bs i 0) → n + m ≡ nonzero (take (i + 1) bs)
counted_next bs i n m low so_far one = ap (λ k. k + m) so_far ∙ ap (λ k. nonzero (take i bs) + k) one ∙ sym (nonzero_more bs i low)

-- no more than there are
pub nonzero_most : (bs : List ℕ) → nonzero bs ≤ length bs
nonzero_most [] = omega arith
nonzero_most (b ∷ bs) = let rest = nonzero_most bs in let one = at_most (b == 0) in omega (arith, rest, one)
  where
    at_most : (c : Bool) → (if c then 0 else 1) ≤ 1
    at_most true = omega arith
    at_most false = omega arith

-- counted piece by piece
pub nonzero_parts : (bs xs : List ℕ) (i n m : ℕ) → xs ≡ drop i bs → n ≡ nonzero (take i bs) → m ≡ nonzero xs → n + m ≡ nonzero bs
nonzero_parts bs xs i n m is one two =
    ap (λ k. k + m) one ∙ ap (λ k. nonzero (take i bs) + k) (two ∙ ap nonzero is) ∙ sym (nonzero_both (take i bs) (drop i bs)) ∙ ap nonzero (take-append-drop i bs)

pub piece_next : (bs xs : List ℕ) (i j n m : ℕ) → j ≡ i + 128 → xs ≡ take 128 (drop i bs) → n ≡ nonzero (take i bs) → m ≡ nonzero xs → n + m ≡ nonzero (take j bs)
piece_next bs xs i j n m next is one two =
    ap (λ k. k + m) one ∙ ap (λ k. nonzero (take i bs) + k) (two ∙ ap nonzero is) ∙ sym (nonzero_both (take i bs) (take 128 (drop i bs))) ∙ ap nonzero (sym (ap (λ k. take k bs) next ∙ take-add i 128 bs))

pub part_most : (bs : List ℕ) (i n : ℕ) → n ≡ nonzero (take i bs) → n ≤ length bs
part_most bs i n is =
    let all : nonzero bs ≡ nonzero (take i bs) + nonzero (drop i bs) = sym (ap nonzero (take-append-drop i bs)) ∙ nonzero_both (take i bs) (drop i bs) in
    let most = nonzero_most bs in omega (arith, all, most, is)

-- the last of them
pub last_part : (bs : List ℕ) (i j n m : ℕ) → j ≤ i → i ≤ j → n ≡ nonzero (take (128 * i) bs) → m ≡ nonzero (take (length bs - 128 * j) (drop (128 * j) bs)) → n + m ≡ nonzero bs
last_part bs i j n m le ge one two =
    let same : i ≡ j = omega (arith, le, ge) in
    nonzero_parts bs (drop (128 * j) bs) (128 * j) n m refl (one ∙ ap (λ k. nonzero (take (128 * k) bs)) same) (two ∙ ap nonzero (take_rest bs (128 * j)))
