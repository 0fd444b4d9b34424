-- Whole records that lie one after the other in a journal's file.
use Rattle.std.proofs.Common.{◌≡◌, ◌≤◌, ◌<◌, ℕ, zero, suc, ◌+◌, ◌*◌, ◌^◌, ◌==◌, true, List, [], ◌∷◌, ◌++◌, refl, sym, ◌∙◌, ap, subst, arith, length}
use Rattle.std.specs.Prelude.{◌&&◌}
use Rattle.extent_groups.specs.Planned.{Intended}
use Rattle.vault.specs.Coding.{decoded, IsCode}
use Rattle.file_vault.specs.Folders.{Bytes, part}
use Rattle.file_vault.specs.Records.{from_digits, are_digits, nonzero, length_at, nonzero_at, body_at, next_at, is_whole}
use Rattle.file_vault.specs.Journals.{AreAt, place_after, most}

-- the same bytes where they are read
pub part_same : (f g : Bytes) (at count : ℕ) → ((k : ℕ) → at ≤ k → k < at + count → g k ≡ f k) → part g at count ≡ part f at count
part_same f g at zero same = refl
part_same f g at (suc count) same =
    ap (λ b. b ∷ part g (suc at) count) (same at (omega arith) (omega arith))
    ∙ ap (λ bs. f at ∷ bs) (part_same f g (suc at) count (λ k low high. same k (omega (arith, low)) (omega (arith, high))))

-- a record lies before the next place
pub at_before : (f : Bytes) (at : ℕ) → at + 18 ≤ next_at f at
at_before f at = omega arith

pub end_past : (f : Bytes) (at : ℕ) (places : List ℕ) (batches : List (List Intended)) (end : ℕ) → AreAt f at places batches end → at + 18 * length places ≤ end
end_past f at [] [] end e = omega (arith, e)
end_past f at [] (b ∷ bs) end e = absurd e
end_past f at (s ∷ ss) [] end e = absurd e
end_past f at (s ∷ ss) (b ∷ bs) end (is, whole, code, back, more) = let later = end_past f (next_at f at) ss bs end more in omega (arith, later, at_before f at)

pub as_many : (f : Bytes) (at : ℕ) (places : List ℕ) (batches : List (List Intended)) (end : ℕ) → AreAt f at places batches end → length batches ≡ length places
as_many f at [] [] end e = refl
as_many f at [] (b ∷ bs) end e = absurd e
as_many f at (s ∷ ss) [] end e = absurd e
as_many f at (s ∷ ss) (b ∷ bs) end (is, whole, code, back, more) = ap (λ n. suc n) (as_many f (next_at f at) ss bs end more)

-- so many batches can be read
pub few_places : (f : Bytes) (places : List ℕ) (batches : List (List Intended)) (end : ℕ) → AreAt f 4096 places batches end → end ≤ 2 ^ 62 → length places + 2 < most
unfolding most
few_places f places batches end are inside = let past = end_past f 4096 places batches end are in omega (arith, past, inside)

-- the place of a record is no further than the end
pub place_within : (f : Bytes) (at count : ℕ) (places : List ℕ) (batches : List (List Intended)) (end : ℕ) → AreAt f at places batches end → count ≤ length places → (at ≤ place_after places end count) × (place_after places end count ≤ end)
place_within f at zero [] [] end are le = (omega (arith, are), omega arith)
place_within f at zero (s ∷ ss) (b ∷ bs) end are le = let past = end_past f at (s ∷ ss) (b ∷ bs) end are in let is = are.0 in (omega (arith, is), omega (arith, is, past))
place_within f at zero [] (b ∷ bs) end are le = absurd are
place_within f at zero (s ∷ ss) [] end are le = absurd are
place_within f at (suc count) [] bs end are le = absurd (omega (arith, le))
place_within f at (suc count) (s ∷ ss) [] end are le = absurd are
place_within f at (suc count) (s ∷ ss) (b ∷ bs) end (is, whole, code, back, more) le =
    let later = place_within f (next_at f at) count ss bs end more (omega (arith, le)) in let low = later.0 in (omega (arith, low, at_before f at), later.1)

-- a record where files are the same up to the next place
pub length_same : (f g : Bytes) (at : ℕ) → ((k : ℕ) → at ≤ k → k < at + 18 → g k ≡ f k) → length_at g at ≡ length_at f at
length_same f g at same = ap from_digits (part_same f g at 9 (λ k low high. same k low (omega (arith, high))))

pub nonzero_same : (f g : Bytes) (at : ℕ) → ((k : ℕ) → at ≤ k → k < at + 18 → g k ≡ f k) → nonzero_at g at ≡ nonzero_at f at
nonzero_same f g at same = ap from_digits (part_same f g (at + 9) 9 (λ k low high. same k (omega (arith, low)) (omega (arith, high))))

pub next_same : (f g : Bytes) (at : ℕ) → ((k : ℕ) → at ≤ k → k < at + 18 → g k ≡ f k) → next_at g at ≡ next_at f at
next_same f g at same = ap (λ n. at + 18 + n) (length_same f g at same)

pub body_same : (f g : Bytes) (at : ℕ) → ((k : ℕ) → at ≤ k → k < next_at f at → g k ≡ f k) → body_at g at ≡ body_at f at
body_same f g at same =
    ap (λ n. part g (at + 18) n) (length_same f g at (λ k low high. same k low (omega (arith, high, at_before f at))))
    ∙ part_same f g (at + 18) (length_at f at) (λ k low high. same k (omega (arith, low)) (omega (arith, high)))

pub whole_same : (f g : Bytes) (at : ℕ) → ((k : ℕ) → at ≤ k → k < next_at f at → g k ≡ f k) → is_whole g at ≡ is_whole f at
whole_same f g at same =
    let head : (k : ℕ) → at ≤ k → k < at + 18 → g k ≡ f k = λ k low high. same k low (omega (arith, high, at_before f at)) in
    ap (λ (l : List ℕ). are_digits l && (nonzero (body_at g at) == nonzero_at g at)) (part_same f g at 18 head)
    ∙ ap (λ (l : List ℕ). are_digits (part f at 18) && (nonzero l == nonzero_at g at)) (body_same f g at same)
    ∙ ap (λ n. are_digits (part f at 18) && (nonzero (body_at f at) == n)) (nonzero_same f g at head)

-- the same records in files that are the same up to the end
pub are_same : (f g : Bytes) (at : ℕ) (places : List ℕ) (batches : List (List Intended)) (end : ℕ) → AreAt f at places batches end → ((k : ℕ) → at ≤ k → k < end → g k ≡ f k) → AreAt g at places batches end
are_same f g at [] [] end are same = are
are_same f g at [] (b ∷ bs) end are same = absurd are
are_same f g at (s ∷ ss) [] end are same = absurd are
are_same f g at (s ∷ ss) (b ∷ bs) end (is, whole, code, back, more) same =
    let past = end_past f (next_at f at) ss bs end more in
    let here : (k : ℕ) → at ≤ k → k < next_at f at → g k ≡ f k = λ k low high. same k low (omega (arith, high, past)) in
    let body = body_same f g at here in
    let next = next_same f g at (λ k low high. here k low (omega (arith, high, at_before f at))) in (
      is,
      whole_same f g at here ∙ whole,
      subst IsCode (sym body) code,
      ap decoded body ∙ back,
      subst (λ n. AreAt g n ss bs end) (sym next) (are_same f g (next_at f at) ss bs end more (λ k low high. same k (omega (arith, low, at_before f at)) high)),
    )

-- one record more
pub one_more : (f : Bytes) (at : ℕ) (places : List ℕ) (batches : List (List Intended)) (end : ℕ) → AreAt f at places batches end → is_whole f end ≡ true → IsCode (body_at f end)
    → AreAt f at (places ++ end ∷ []) (batches ++ decoded (body_at f end) ∷ []) (next_at f end)
one_more f at [] [] end are full code =
    (sym are, ap (λ n. is_whole f n) are ∙ full, subst (λ n. IsCode (body_at f n)) (sym are) code, ap (λ n. decoded (body_at f n)) are, ap (λ n. next_at f n) are)
one_more f at [] (b ∷ bs) end are full code = absurd are
one_more f at (s ∷ ss) [] end are full code = absurd are
one_more f at (s ∷ ss) (b ∷ bs) end (is, whole, was, back, more) full code = (is, whole, was, back, one_more f (next_at f at) ss bs end more full code)
