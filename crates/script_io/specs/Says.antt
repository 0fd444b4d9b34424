-- What a script says: which bytes are its answers, and how it ends.
use Rattle.std.specs.Prelude.{◌≡◌, ℕ, ◌+◌, ◌==◌, if◌then◌else◌, List, [], ◌∷◌, ◌++◌, None}
use Rattle.script_exec.specs.State.{State}
use Rattle.script_io.specs.declared.end.End.{End}
use Rattle.script_io.specs.declared.end.End.TheVariants as end
use Rattle.script_exec.specs.Answers.{Answers}
use Rattle.script_exec.specs.Meaning.{Meaning, Skip, Do, Wrong, Means, fault_line}

-- how it goes on after line n: a command is answered by a line, and a fault is the end
abbrev pub Goes : ℕ → State → Meaning → (State → List ℕ → Type 0) → List ℕ → End → Type 0
Goes n state Skip rest out last = rest state out
Goes n state (Do order) rest out last =
    (text : List ℕ) × (t : State) × (more : List ℕ) × Answers state order text t × (out ≡ text ++ 10 ∷ more) × rest t more
Goes n state (Wrong why) rest out last = (out ≡ fault_line n why) × (last ≡ end.Fault)

-- the answers to lines from the n-th on, and the end
abbrev pub IsTranscript : ℕ → State → List (List ℕ) → List ℕ → End → Type 0
IsTranscript n state [] out last = (out ≡ []) × (last ≡ end.Whole)
IsTranscript n state (line ∷ lines) out last =
    (meaning : Meaning) × Means n state line meaning × Goes n state meaning (λ t more. IsTranscript (n + 1) t lines more last) out last

-- the lines of a text: each ends with a line feed (10), and after the last one there is a line only where bytes are left
abbrev pub onto_line : ℕ → List (List ℕ) → List (List ℕ)
onto_line byte [] = (byte ∷ []) ∷ []
onto_line byte (line ∷ lines) = (byte ∷ line) ∷ lines

abbrev pub lines_of : List ℕ → List (List ℕ)
lines_of [] = []
lines_of (byte ∷ bytes) = if byte == 10 then [] ∷ lines_of bytes else onto_line byte (lines_of bytes)

-- a script's answers, and how it ends
abbrev pub Says : List ℕ → List ℕ → End → Type 0
Says script out last = IsTranscript 1 None (lines_of script) out last
