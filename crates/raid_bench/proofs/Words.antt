-- What one word and three words ask for, and what others do.
use Rattle.std.proofs.Common.{◌≡◌, ℕ, ◌<◌, ◌≤◌, List, [], ◌∷◌, length, map, slice_index_or, sym, ap, arith}

pub one_word : {A : Type 0} (f : A → List ℕ) (words : List A) (w : A) → 1 ≤ length words → length words < 2 → w ≡ slice_index_or words 0 w
    → map f words ≡ f w ∷ []
one_word f [] w some few is = absurd (omega arith)
one_word f (v ∷ []) w some few is = ap (λ x. f x ∷ []) (sym is)
one_word f (v ∷ u ∷ words) w some few is = absurd (omega arith)
