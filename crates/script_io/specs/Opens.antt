-- Text in which no line ends, and text of whole lines.
use Rattle.std.specs.Prelude.{◌≡◌, ℕ, ◌==◌, false, List, [], ◌∷◌, ◌++◌, ◌⊎◌}
use Rattle.std.specs.List.{All}

-- no line ends in the text
abbrev pub HasNoNewline : List ℕ → Type 0
HasNoNewline text = All (λ byte. (byte == 10) ≡ false) text

-- every line of the text has its end
abbrev pub AreLines : List ℕ → Type 0
AreLines text = (text ≡ []) ⊎ ((front : List ℕ) × (text ≡ front ++ 10 ∷ []))
