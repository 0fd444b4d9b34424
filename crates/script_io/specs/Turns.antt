-- Turns of a script: one read, the answers to the lines that ended in it, and one write.
use Rattle.std.specs.Prelude.{◌≡◌, ℕ, ◌+◌, ◌<◌, ◌≤◌, List, [], ◌++◌, length, Option, Some, None, ◌⊎◌}
use Rattle.std.specs.Io.KnownBytes.{Appends}
use Rattle.script_io.specs.Opens.{AreLines, HasNoNewline}
use Rattle.script_exec.specs.State.{State}
use Rattle.script_exec.specs.Carrying.{MatchesState}
use Rattle.script_exec.specs.Meaning.{most_bytes, most_lines}
use Rattle.script_io.specs.Says.{Says, IsTranscript, lines_of}
use Rattle.script_io.specs.Feeding.{IsCut, Advances, Left}
use Rattle.script_io.specs.declared.end.End.{End}
use Rattle.script_io.specs.declared.end.End.TheVariants as end
use Rattle.script_io.specs.declared.halt.Halt.{Halt}
use Rattle.script_io.specs.declared.halt.Halt.TheVariants as halt
use Rattle.script_io.specs.declared.script.Script.{Script}

-- how a script ends by what halts it
abbrev pub end_of : Halt → End
end_of halt.Whole = end.Whole
end_of halt.Fault = end.Fault
end_of halt.Memory = end.Memory
end_of (halt.ReadBroke broke) = end.ReadFault
end_of (halt.WriteBroke broke) = end.WriteFault

-- a proper prefix of the bytes was written
pub record IsPartWritten (held now : Option (List ℕ)) (bytes : List ℕ) : Type 0 where
  pub written : List ℕ
  pub unwritten : List ℕ
  pub bytes_is : bytes ≡ written ++ unwritten
  pub some : 0 < length unwritten
  pub wrote : Appends held now written

-- of the input all but the rest was read: the answers to its whole lines are written, and after them a line is open
pub record IsPartSaid (old : Script) (state : State) (new : Script) (input rest : List ℕ) (held now : Option (List ℕ)) : Type 0 where
  pub next : State
  pub matches : MatchesState new.bench next
  pub whole : List ℕ
  pub lines : AreLines whole
  pub text_is : old.line.items ++ input ≡ whole ++ (new.line.items ++ rest)
  pub counted : new.number ≡ old.number + length (lines_of whole)
  pub open_line : HasNoNewline new.line.items
  pub short : length new.line.items ≤ most_bytes
  pub soon : 1 ≤ length new.line.items → new.number ≤ most_lines
  pub bytes : List ℕ
  pub wrote : Appends held now bytes
  pub leads : Advances old.number state whole bytes new.number next

-- out of memory: the answers to a prefix of the input, of whole lines, are written
pub record IsCutSaid (old : Script) (state : State) (input : List ℕ) (held now : Option (List ℕ)) : Type 0 where
  pub bytes : List ℕ
  pub wrote : Appends held now bytes
  pub cut : IsCut old.number state (old.line.items ++ input) bytes

-- the answers are those to a prefix of a text which begins at line n; the prefix is of whole lines, or the whole text
pub record IsFronted (n : ℕ) (state : State) (text out : List ℕ) : Type 0 where
  pub front : List ℕ
  pub rest : List ℕ
  pub text_is : text ≡ front ++ rest
  pub ends : AreLines front ⊎ (rest ≡ [])
  pub last : End
  pub reported : IsTranscript n state (lines_of front) out last

-- all of the input was answered and written
pub record IsAllSaid (old : Script) (state : State) (input : List ℕ) (held now : Option (List ℕ)) (last : End) : Type 0 where
  pub out : List ℕ
  pub wrote : Appends held now out
  pub reported : Left old.number state old.line.items input out last

-- a write failed: a prefix of the input's answers is written
pub record IsBrokenOff (old : Script) (state : State) (input : List ℕ) (held now : Option (List ℕ)) : Type 0 where
  pub bytes : List ℕ
  pub part : IsPartWritten held now bytes
  pub fronted : IsFronted old.number state (old.line.items ++ input) bytes

-- what was done with the rest of the input, by what halted the script
abbrev pub Concludes : Halt → Script → State → List ℕ → Option (List ℕ) → Option (List ℕ) → Type 0
Concludes halt.Whole old state input held now = IsAllSaid old state input held now end.Whole
Concludes halt.Fault old state input held now = IsAllSaid old state input held now end.Fault
Concludes halt.Memory old state input held now = IsCutSaid old state input held now
Concludes (halt.WriteBroke broke) old state input held now = IsBrokenOff old state input held now
Concludes (halt.ReadBroke broke) old state input held now = ⊥

-- what was done with a part of the input, by whether the reader's bytes are known
abbrev pub PartSaid : Option (List ℕ) → Option (List ℕ) → Script → State → Script → Option (List ℕ) → Option (List ℕ) → Type 0
PartSaid None rest old state new held now = (next : State) × MatchesState new.bench next
PartSaid (Some input) None old state new held now = ⊥
PartSaid (Some input) (Some rest) old state new held now = IsPartSaid old state new input rest held now

-- what was done with the rest of the input, if the reader's bytes are known
abbrev pub AllSaid : Halt → Option (List ℕ) → Script → State → Option (List ℕ) → Option (List ℕ) → Type 0
AllSaid last None old state held now = Unit {0}
AllSaid last (Some input) old state held now = Concludes last old state input held now

-- what was done in some turns, by what halted the script, if anything did
abbrev pub TurnsTo : Option Halt → Option (List ℕ) → Option (List ℕ) → Script → State → Script → Option (List ℕ) → Option (List ℕ) → Type 0
TurnsTo None before after old state new held now = PartSaid before after old state new held now
TurnsTo (Some (halt.ReadBroke broke)) before after old state new held now = PartSaid before after old state new held now
TurnsTo (Some last) before after old state new held now = AllSaid last before old state held now

-- all answers of the script are written, and its end is the one that `Says` gives
pub record IsSaidOf (script : List ℕ) (held now : Option (List ℕ)) (last : End) : Type 0 where
  pub out : List ℕ
  pub wrote : Appends held now out
  pub says : Says script out last

-- what is written are the answers to a prefix of the script, of whole lines
pub record IsSaidBefore (script : List ℕ) (held now : Option (List ℕ)) : Type 0 where
  pub whole : List ℕ
  pub rest : List ℕ
  pub script_is : script ≡ whole ++ rest
  pub lines : AreLines whole
  pub out : List ℕ
  pub wrote : Appends held now out
  pub says : Says whole out end.Whole

-- what is written are the answers to all whole lines that were read: what is left is known, and before it one line is open
pub record IsSaidSoFar (script : List ℕ) (left held now : Option (List ℕ)) : Type 0 where
  pub whole : List ℕ
  pub line : List ℕ
  pub rest : List ℕ
  pub script_is : script ≡ whole ++ (line ++ rest)
  pub left_is : left ≡ Some rest
  pub lines : AreLines whole
  pub open_line : HasNoNewline line
  pub short : length line ≤ most_bytes
  pub soon : 1 ≤ length line → length (lines_of whole) + 1 ≤ most_lines
  pub out : List ℕ
  pub wrote : Appends held now out
  pub says : Says whole out end.Whole

-- what is written is a proper prefix of the answers to a prefix of the script, which is whole lines or all of it
pub record IsSaidInPart (script : List ℕ) (held now : Option (List ℕ)) : Type 0 where
  pub front : List ℕ
  pub rest : List ℕ
  pub script_is : script ≡ front ++ rest
  pub ends : AreLines front ⊎ (rest ≡ [])
  pub out : List ℕ
  pub last : End
  pub says : Says front out last
  pub part : IsPartWritten held now out

-- what a run of a script wrote, by how it ends and what is left to read
abbrev pub SaysBy : End → List ℕ → Option (List ℕ) → Option (List ℕ) → Option (List ℕ) → Type 0
SaysBy end.Whole script left held now = IsSaidOf script held now end.Whole
SaysBy end.Fault script left held now = IsSaidOf script held now end.Fault
SaysBy end.Memory script left held now = IsSaidBefore script held now
SaysBy end.ReadFault script left held now = IsSaidSoFar script left held now
SaysBy end.WriteFault script left held now = IsSaidInPart script held now
