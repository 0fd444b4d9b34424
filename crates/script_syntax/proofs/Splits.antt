-- Cutting a text at its first separator gives its first part.
use Rattle.std.proofs.Common.{◌≡◌, ℕ, suc, ◌+◌, ◌-◌, ◌<◌, ◌≤◌, ◌==◌, Bool, true, false, List, [], ◌∷◌, ◌++◌, length, get_or, take, drop, refl, sym, ap, ◌∙◌, arith, add-one, eqb-true, rules, length-drop, length-take}
use Rattle.std.proofs.Math.Seq.{split_at}
use Rattle.std.specs.List.{All}
use Rattle.std.proofs.lemmas.List.{take_all, get_or-take}
use Rattle.std.proofs.lemmas.List.Elements.{All-from_get_or}
use Rattle.std.proofs.lemmas.List.Splits.{slice_split_at, slice_split_none}
use Rattle.script_syntax.specs.Parts.{parts}

-- the byte isn't the separator
abbrev pub Differs : ℕ → ℕ → Type 0
Differs separator byte = (byte == separator) ≡ false

-- the byte at a place is the separator
abbrev pub IsThere : ℕ → List ℕ → ℕ → Type 0
IsThere separator text k = (get_or text k 0 == separator) ≡ true

pub not_true : (b : Bool) → (b ≡ true → ⊥) → b ≡ false
not_true true h = absurd (h refl)
not_true false h = refl

-- a text without a separator is one part
pub one_part : (separator : ℕ) (text : List ℕ) → All (Differs separator) text → parts separator text ≡ text ∷ []
one_part separator text none = slice_split_none (λ byte. byte == separator) text none

-- what is before a separator is the first part
pub first_part : (separator : ℕ) (front back : List ℕ) → All (Differs separator) front
    → parts separator (front ++ separator ∷ back) ≡ front ∷ parts separator back
first_part separator front back none =
    slice_split_at (λ byte. byte == separator) front separator back none (search rules)

-- in a text without the separator each byte differs from it
pub all_differ : (separator : ℕ) (text : List ℕ) → ((k : ℕ) → 0 ≤ k → k < length text → IsThere separator text k → ⊥)
    → All (Differs separator) text
all_differ separator text none =
    All-from_get_or (Differs separator) text 0 (λ k below. not_true _ (none k (omega arith) below))

-- a text with no separator is its own first part
pub uncut : (separator : ℕ) (text : List ℕ) → ((k : ℕ) → 0 ≤ k → k < length text → IsThere separator text k → ⊥)
    → parts separator text ≡ text ∷ []
uncut separator text none = one_part separator text (all_differ separator text none)

-- the bytes before the first separator all differ from it
pub front_differs : (separator : ℕ) (text : List ℕ) (at : ℕ) → at < length text
    → ((k : ℕ) → 0 ≤ k → k < at → IsThere separator text k → ⊥) → All (Differs separator) (take at text)
front_differs separator text at inside none =
    All-from_get_or (Differs separator) (take at text) 0 (λ k below.
    let front : k < at = omega (arith, length-take at text) in
    rw (get_or-take at text k 0 front) (not_true _ (none k (omega arith) front)))

-- a separator after bytes that differ from it ends the first part, and the parts of what follows it are the others
pub cut_after : (separator : ℕ) (text : List ℕ) (at : ℕ) → at < length text → All (Differs separator) (take at text)
    → get_or text at 0 ≡ separator
    → parts separator text ≡ take at text ∷ parts separator (take (length text - (at + 1)) (drop (at + 1) text))
cut_after separator text at inside differs is =
    let back : take (length text - (at + 1)) (drop (at + 1) text) ≡ drop (at + 1) text =
    take_all _ _ (omega (arith, length-drop (at + 1) text)) in
    let cut : text ≡ take at text ++ separator ∷ drop (at + 1) text =
    split_at text at 0 inside ∙ ap (λ b. take at text ++ b ∷ drop (suc at) text) is ∙ rw add-one refl in
    ap (parts separator) cut ∙ first_part separator _ _ differs
    ∙ ap (λ rest. take at text ∷ parts separator rest) (sym back)

-- as does the first separator
pub cut_at : (separator : ℕ) (text : List ℕ) (at : ℕ) → at < length text
    → ((k : ℕ) → 0 ≤ k → k < at → IsThere separator text k → ⊥) → IsThere separator text at
    → parts separator text ≡ take at text ∷ parts separator (take (length text - (at + 1)) (drop (at + 1) text))
cut_at separator text at inside none there =
    cut_after separator text at inside (front_differs separator text at inside none) (eqb-true _ _ there)

pub there : (separator : ℕ) (text : List ℕ) (at : ℕ) → get_or text at 0 ≡ separator → IsThere separator text at
there separator text at e = grind (arith)
