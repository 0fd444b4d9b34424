-- What was done with a chunk.
use Rattle.std.proofs.Common.{ℕ, List, [], ◌++◌, Option, Some, None}
use Rattle.std.specs.Io.KnownBytes.{Appends}
use Rattle.script_exec.specs.State.{State}
use Rattle.script_io.specs.Feeding.{Left}
use Rattle.script_io.specs.Turns.{IsCutSaid, IsFronted, IsPartSaid, IsPartWritten}
use Rattle.script_io.specs.declared.end.End.TheVariants as end
use Rattle.script_io.specs.declared.halt.Halt.{Halt}
use Rattle.script_io.specs.declared.halt.Halt.TheVariants as halt
use Rattle.script_io.specs.declared.script.Script.{Script}

-- a chunk with a fault was answered and written
pub record IsFaultSaid (old : Script) (state : State) (chunk : List ℕ) (held now : Option (List ℕ)) : Type 0 where
  pub bytes : List ℕ
  pub wrote : Appends held now bytes
  pub reported : (more : List ℕ) → Left old.number state old.line.items (chunk ++ more) bytes end.Fault

-- a write failed: a prefix of the answers is written, with any bytes after the chunk
pub record IsBroken (old : Script) (state : State) (chunk : List ℕ) (held now : Option (List ℕ)) : Type 0 where
  pub bytes : List ℕ
  pub part : IsPartWritten held now bytes
  pub fronted : (more : List ℕ) → IsFronted old.number state (old.line.items ++ (chunk ++ more)) bytes

-- what was done with a chunk, by what halted the script, if anything did
abbrev pub GoesOn : Option Halt → Script → State → Script → List ℕ → Option (List ℕ) → Option (List ℕ) → Type 0
GoesOn None old state new chunk held now = IsPartSaid old state new chunk [] held now
GoesOn (Some halt.Fault) old state new chunk held now = IsFaultSaid old state chunk held now
GoesOn (Some halt.Memory) old state new chunk held now = IsCutSaid old state chunk held now
GoesOn (Some (halt.WriteBroke broke)) old state new chunk held now = IsBroken old state chunk held now
GoesOn (Some halt.Whole) old state new chunk held now = ⊥
GoesOn (Some (halt.ReadBroke broke)) old state new chunk held now = ⊥
