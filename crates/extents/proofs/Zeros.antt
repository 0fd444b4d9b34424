-- Whether bytes are all zero, by the or of them all.
use Rattle.std.proofs.Common.{◌≡◌, ◌==◌, ◌&&◌, ◌↔◌, ℕ, zero, suc, ◌+◌, ◌<◌, ◌≤◌, Bool, true, false, IsTrue, List, [], ◌∷◌, drop, length, slice_index, replicate, bit_or, refl, sym, ap, ◌∙◌, arith}
use Rattle.std.proofs.lemmas.Bool.Decides.{nat_tests}
use Rattle.std.proofs.lemmas.List.{at_drop_more, drop_all}
use Rattle.std.proofs.lemmas.Nat.{le_or_l, le_or_r}
use Rattle.std.specs.List.{list_all}

abbrev pub is_zero : ℕ → Bool
is_zero byte = byte == 0

-- what is or'ed so far and what is left are zero exactly where all bytes are
abbrev pub IsLeft : List ℕ → ℕ → ℕ → Type 0
IsLeft bytes any at = (is_zero any && list_all is_zero (drop at bytes)) ≡ list_all is_zero bytes

or_is_zero : (a b : ℕ) → is_zero (bit_or a b) ≡ (is_zero a && is_zero b)
or_is_zero zero zero = refl
or_is_zero zero (suc b) = let l = le_or_r 0 (suc b) in grind (arith, nat_tests)
or_is_zero (suc a) b = let l = le_or_l (suc a) b in grind (arith, nat_tests)

pub one_more : (bytes : List ℕ) (any at byte : ℕ) → at < length bytes → slice_index bytes at ≡ byte → IsLeft bytes any at → IsLeft bytes (bit_or any byte) (at + 1)
one_more bytes any at byte l is so =
    ap (λ t. t && list_all is_zero (drop (at + 1) bytes)) (or_is_zero any byte)
    ∙ shift (is_zero any) (is_zero byte) (list_all is_zero (drop (at + 1) bytes))
    ∙ sym (ap (λ t. is_zero any && t) next) ∙ so
  where
    next : list_all is_zero (drop at bytes) ≡ (is_zero byte && list_all is_zero (drop (at + 1) bytes))
    next = at_drop_more (list_all is_zero) bytes at 0 l ∙ ap (λ b. is_zero b && list_all is_zero (drop (at + 1) bytes)) is

    shift : (s t u : Bool) → (s && t && u) ≡ (s && (t && u))
    shift true t u = refl
    shift false t u = refl

zeros_all : (bytes : List ℕ) → list_all is_zero bytes ≡ true → bytes ≡ replicate (length bytes) 0
zeros_all [] all = refl
zeros_all (zero ∷ bytes) all = ap (λ bs. 0 ∷ bs) (zeros_all bytes all)
zeros_all (suc b ∷ bytes) all = absurd (apart (is_zero (suc b)) (some b) all)
  where
    some : (n : ℕ) → is_zero (suc n) ≡ false
    some n = grind (arith, nat_tests)

    apart : (t : Bool) → t ≡ false → (t && list_all is_zero bytes) ≡ true → ⊥
    apart true one other = cc
    apart false one other = cc

all_zeros : (n : ℕ) → list_all is_zero (replicate n 0) ≡ true
all_zeros zero = refl
all_zeros (suc n) = all_zeros n

pub are_all : (bytes : List ℕ) (any at : ℕ) (t : Bool) → length bytes ≤ at → IsLeft bytes any at → t ≡ is_zero any → IsTrue t ↔ (bytes ≡ replicate (length bytes) 0)
are_all bytes any at t past so is = (to, from)
  where
    whole : t ≡ list_all is_zero bytes
    whole = is ∙ right (is_zero any) ∙ sym (ap (λ rest. is_zero any && list_all is_zero rest) (drop_all at bytes past)) ∙ so
      where
        right : (s : Bool) → s ≡ (s && true)
        right true = refl
        right false = refl

    to : IsTrue t → bytes ≡ replicate (length bytes) 0
    to is_true = zeros_all bytes (sym whole ∙ is_true)

    from : bytes ≡ replicate (length bytes) 0 → IsTrue t
    from same = whole ∙ ap (list_all is_zero) same ∙ all_zeros (length bytes)
