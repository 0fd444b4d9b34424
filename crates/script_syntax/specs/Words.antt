-- The words of a line.
use Rattle.std.specs.Prelude.{ℕ, List, Option}
use Rattle.script_syntax.specs.Parts.{parts, parts_left}

-- the words of a text: its parts between spaces
abbrev pub words : List ℕ → List (List ℕ)
words text = parts 32 text

-- the words of the rest of a text; no words if there is no rest
abbrev pub words_left : Option (List ℕ) → List (List ℕ)
words_left text = parts_left 32 text
