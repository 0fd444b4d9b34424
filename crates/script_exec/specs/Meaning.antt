-- What a line means: nothing, a command, or a fault.
use Rattle.std.specs.Prelude.{◌≡◌, ℕ, ◌<◌, ◌≤◌, ◌==◌, Bool, true, false, List, [], ◌∷◌, ◌++◌, length, codes, decimal}
use Rattle.script_syntax.specs.Order.{Order}
use Rattle.script_syntax.specs.Spelling.{SpellsCommand}
use Rattle.script_exec.specs.State.{State, IsAdmissible, IsInRange, block_count}
use Rattle.script_exec.specs.declared.why.Why.{Why}
use Rattle.script_exec.specs.declared.why.Why.TheVariants.{Many, Long, Form, Range}

-- the most lines of a script, and the most bytes of a line before its end
abbrev pub most_lines : ℕ
most_lines = 1000000

abbrev pub most_bytes : ℕ
most_bytes = 131200

-- an empty line and a comment are skipped
abbrev pub is_skipped : List ℕ → Bool
is_skipped [] = true
is_skipped (byte ∷ rest) = byte == 35

-- what a line is: nothing, a command, or wrong
pub data Meaning : Type 0 where
  Skip : Meaning
  Do : Order → Meaning
  Wrong : Why → Meaning

-- line n is read for its words: it isn't one too many, nor too long, nor skipped
pub record IsParsedLine (n : ℕ) (line : List ℕ) : Type 0 where
  pub soon : n ≤ most_lines
  pub short : length line ≤ most_bytes
  pub said : is_skipped line ≡ false

-- the line spells a command that is allowed in this state
pub record IsSaid (state : State) (line : List ℕ) (order : Order) : Type 0 where
  pub spells : SpellsCommand order line
  pub due : IsAdmissible state order

-- what line n is in a state; the faults come in this order: many, long, form, range
abbrev pub Means : ℕ → State → List ℕ → Meaning → Type 0
Means n state line Skip = (n ≤ most_lines) × (length line ≤ most_bytes) × (is_skipped line ≡ true)
Means n state line (Do order) = IsParsedLine n line × IsSaid state line order × IsInRange (block_count state) order
Means n state line (Wrong Many) = most_lines < n
Means n state line (Wrong Long) = (n ≤ most_lines) × (most_bytes < length line)
Means n state line (Wrong Form) = IsParsedLine n line × ((order : Order) → IsSaid state line order → ⊥)
Means n state line (Wrong Range) =
    IsParsedLine n line × ((order : Order) × IsSaid state line order × (IsInRange (block_count state) order → ⊥))

-- the name of a fault
abbrev pub name_of : Why → List ℕ
name_of Many = codes "many"
name_of Long = codes "long"
name_of Form = codes "form"
name_of Range = codes "range"

-- the line that reports a fault of line n, with its end
abbrev pub fault_line : ℕ → Why → List ℕ
fault_line n why = codes "fault " ++ (decimal n ++ (codes " " ++ (name_of why ++ 10 ∷ [])))
