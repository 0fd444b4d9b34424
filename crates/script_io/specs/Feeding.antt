-- How a script is fed in pieces: the lines that end in a piece are answered, and the rest is kept as the open line.
use Rattle.std.specs.Prelude.{◌≡◌, ℕ, ◌+◌, ◌-◌, ◌*◌, ◌≤◌, List, [], ◌∷◌, ◌++◌, length, Result, Ok, Err, Option}
use Rattle.script_exec.specs.declared.bench.Bench.{Bench}
use Rattle.script_io.specs.Opens.{AreLines, HasNoNewline}
use Rattle.script_exec.specs.State.{State}
use Rattle.script_exec.specs.Carrying.{MatchesState}
use Rattle.script_exec.specs.Meaning.{fault_line, most_bytes, most_lines}
use Rattle.script_io.specs.Says.{IsTranscript, lines_of}
use Rattle.script_io.specs.declared.end.End.{End}
use Rattle.script_io.specs.declared.end.End.TheVariants as end
use Rattle.script_io.specs.declared.stop.Stop.{Stop}
use Rattle.script_io.specs.declared.stop.Stop.TheVariants as stop
use Rattle.script_exec.specs.declared.why.Why.{Why}
use Rattle.script_io.specs.declared.script.Script.{Script}

-- a fault was reported, unless out of memory
abbrev pub ReportsFault : Result (Unit {0}) Stop → ℕ → Why → List ℕ → List ℕ → Type 0
ReportsFault (Ok _) number why old new = ⊥
ReportsFault (Err stop.Memory) number why old new = Unit {0}
ReportsFault (Err stop.Fault) number why old new = new ≡ old ++ fault_line number why

-- a fault of a script's open line was reported; if out of memory, the answers are as they were
abbrev pub Faults : Result (Unit {0}) Stop → Why → Script → Script → Type 0
Faults (Ok _) why old new = ⊥
Faults (Err stop.Memory) why old new = new.out.items ≡ old.out.items
Faults (Err stop.Fault) why old new = new.out.items ≡ old.out.items ++ fault_line old.number why

-- line n was answered, and the bench represents a state after it
pub record IsLineReported (n : ℕ) (state : State) (bench : Option Bench) (line old new : List ℕ) : Type 0 where
  pub next : State
  pub matches : MatchesState bench next
  pub bytes : List ℕ
  pub out : new ≡ old ++ bytes
  pub reported : (lines : List (List ℕ)) (more : List ℕ) (last : End) → IsTranscript (n + 1) next lines more last
      → IsTranscript n state (line ∷ lines) (bytes ++ more) last

-- line n is at fault, with any lines after it
pub record IsLineWrong (n : ℕ) (state : State) (line old new : List ℕ) : Type 0 where
  pub bytes : List ℕ
  pub out : new ≡ old ++ bytes
  pub reported : (lines : List (List ℕ)) → IsTranscript n state (line ∷ lines) bytes end.Fault

-- what was done with line n, by the outcome
abbrev pub LineComes : Result (Unit {0}) Stop → ℕ → State → Option Bench → List ℕ → List ℕ → List ℕ → Type 0
LineComes (Ok _) n state bench line old new = IsLineReported n state bench line old new
LineComes (Err stop.Memory) n state bench line old new = Unit {0}
LineComes (Err stop.Fault) n state bench line old new = IsLineWrong n state line old new

-- the answers to the open line, the bytes after it and all later lines
abbrev pub Left : ℕ → State → List ℕ → List ℕ → List ℕ → End → Type 0
Left n state line rest out last = IsTranscript n state (lines_of (line ++ rest)) out last

-- the answers to whole lines lead from line n and a state to a later line and state: the answers from there complete them
abbrev pub Advances : ℕ → State → List ℕ → List ℕ → ℕ → State → Type 0
Advances n state whole out later next = (more reported : List ℕ) (last : End) → IsTranscript later next (lines_of more) reported last
    → IsTranscript n state (lines_of (whole ++ more)) (out ++ reported) last

-- what a script keeps: a line's number that can be counted on, a buffer for the longest payload, and an open line
pub record IsScript (script : Script) : Type 0 where
  pub number : script.number ≤ 1000001
  pub room : 65536 ≤ length script.payload.items
  pub short : length script.line.items ≤ 131200
  pub soon : 1 ≤ length script.line.items → script.number ≤ 1000000
  pub open_line : HasNoNewline script.line.items

-- how many bytes may still come before a line is too long or one too many, each line with its end
abbrev pub most_left : Script → ℕ
most_left script = (most_lines + 1 - script.number) * (most_bytes + 1) - length script.line.items

-- of the chunk all but the rest was read: whole lines were answered, and after them a line is open
pub record IsAlong (old : Script) (state : State) (new : Script) (chunk rest : List ℕ) : Type 0 where
  pub next : State
  pub matches : MatchesState new.bench next
  pub whole : List ℕ
  pub lines : AreLines whole
  pub text_is : old.line.items ++ chunk ≡ whole ++ (new.line.items ++ rest)
  pub counted : new.number ≡ old.number + length (lines_of whole)
  pub bytes : List ℕ
  pub out : new.out.items ≡ old.out.items ++ bytes
  pub leads : Advances old.number state whole bytes new.number next

-- the chunk holds a fault, with any bytes after it
pub record IsFaulted (old : Script) (state : State) (new : Script) (chunk : List ℕ) : Type 0 where
  pub bytes : List ℕ
  pub out : new.out.items ≡ old.out.items ++ bytes
  pub reported : (more : List ℕ) → Left old.number state old.line.items (chunk ++ more) bytes end.Fault

-- the answers are those to a prefix of whole lines of a text, which begins at line n
pub record IsCut (n : ℕ) (state : State) (text out : List ℕ) : Type 0 where
  pub whole : List ℕ
  pub rest : List ℕ
  pub text_is : text ≡ whole ++ rest
  pub lines : AreLines whole
  pub reported : IsTranscript n state (lines_of whole) out end.Whole

-- out of memory: whole lines were answered, and nothing else was appended
pub record IsUnfinished (old : Script) (state : State) (new : Script) (chunk : List ℕ) : Type 0 where
  pub bytes : List ℕ
  pub out : new.out.items ≡ old.out.items ++ bytes
  pub cut : IsCut old.number state (old.line.items ++ chunk) bytes

-- what was done with a chunk, by the outcome
abbrev pub Feeds : Result (Unit {0}) Stop → Script → State → Script → List ℕ → Type 0
Feeds (Ok _) old state new chunk = IsAlong old state new chunk []
Feeds (Err stop.Memory) old state new chunk = IsUnfinished old state new chunk
Feeds (Err stop.Fault) old state new chunk = IsFaulted old state new chunk

-- the input ended after the open line
pub record IsInputEnded (old : Script) (state : State) (new : Script) (last : End) : Type 0 where
  pub bytes : List ℕ
  pub out : new.out.items ≡ old.out.items ++ bytes
  pub reported : Left old.number state old.line.items [] bytes last

-- what was done at the end of the input, by the outcome
abbrev pub Closes : Result (Unit {0}) Stop → Script → State → Script → Type 0
Closes (Ok _) old state new = IsInputEnded old state new end.Whole
Closes (Err stop.Memory) old state new = IsUnfinished old state new []
Closes (Err stop.Fault) old state new = IsInputEnded old state new end.Fault

-- the line was answered: a new one is open
pub record IsLineAnswered (old : Script) (state : State) (line : List ℕ) (new : Script) : Type 0 where
  pub number : new.number ≡ old.number + 1
  pub none : new.line.items ≡ []
  pub reported : IsLineReported old.number state new.bench line old.out.items new.out.items

-- what was done with a whole line, by the outcome; if out of memory, nothing is appended
abbrev pub Answered : Result (Unit {0}) Stop → Script → State → List ℕ → Script → Type 0
Answered (Ok _) old state line new = IsLineAnswered old state line new
Answered (Err stop.Memory) old state line new = new.out.items ≡ old.out.items
Answered (Err stop.Fault) old state line new = IsLineWrong old.number state line old.out.items new.out.items
