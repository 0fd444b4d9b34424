-- Bytes that are appended one after the other.
use Rattle.std.proofs.Common.{◌≡◌, ℕ, List, ◌++◌, Result, Ok, Err, ◌∙◌, append_assoc}
use Rattle.std.specs.Prelude.{OnOk}

pub three_put : {E : Type 0} (r : Result (Unit {0}) E) (old one two three a b c : List ℕ) → one ≡ old ++ a → two ≡ one ++ b
    → OnOk r (three ≡ two ++ c) → OnOk r (three ≡ old ++ (a ++ (b ++ c)))
three_put (Ok u) old one two three a b c first second third = third ∙ simp (second, first, append_assoc)
three_put (Err f) old one two three a b c first second third = tt

pub four_put : {E : Type 0} (r : Result (Unit {0}) E) (old one two three four a b c d : List ℕ) → one ≡ old ++ a → two ≡ one ++ b
    → three ≡ two ++ c → OnOk r (four ≡ three ++ d) → OnOk r (four ≡ old ++ (a ++ (b ++ (c ++ d))))
four_put (Ok u) old one two three four a b c d first second third fourth = fourth ∙ simp (third, second, first, append_assoc)
four_put (Err f) old one two three four a b c d first second third fourth = tt

pub five_put : {E : Type 0} (r : Result (Unit {0}) E) (old one two three four five a b c d e : List ℕ) → one ≡ old ++ a
    → two ≡ one ++ b → three ≡ two ++ c → four ≡ three ++ d → OnOk r (five ≡ four ++ e)
    → OnOk r (five ≡ old ++ (a ++ (b ++ (c ++ (d ++ e)))))
five_put (Ok u) old one two three four five a b c d e first second third fourth fifth =
    fifth ∙ simp (fourth, third, second, first, append_assoc)
five_put (Err f) old one two three four five a b c d e first second third fourth fifth = tt

-- two pairs
pub pairs_put : {E : Type 0} (r : Result (Unit {0}) E) (old one two three four a b c d : List ℕ) → one ≡ old ++ a → two ≡ one ++ b
    → three ≡ two ++ c → OnOk r (four ≡ three ++ d) → OnOk r (four ≡ old ++ ((a ++ b) ++ (c ++ d)))
pairs_put (Ok u) old one two three four a b c d first second third fourth = fourth ∙ simp (third, second, first, append_assoc)
pairs_put (Err f) old one two three four a b c d first second third fourth = tt
