-- What carrying out a command does: to the world and the maps, and to the text of the answers.
use Rattle.std.specs.Prelude.{◌≡◌, ℕ, ◌<◌, ◌≤◌, List, ◌++◌, slice_index_or, Result, Ok, Err, Option, Some, None}
use Rattle.map_join.specs.declared.records.Record.{Record}
use Rattle.map_join.specs.Maps.{Entries, at, IsMapOf}
use Rattle.tiered_array.specs.Matches.{RepresentsTiers}
use Rattle.script_syntax.specs.Order.{Order}
use Rattle.script_exec.specs.State.{Position, State, IsAdmissible, IsInRange, block_count}
use Rattle.script_exec.specs.Answers.{Answers}
use Rattle.script_exec.specs.declared.bench.Bench.{Bench}
use Rattle.script_exec.specs.declared.why.Failure.{Failure}
use Rattle.script_exec.specs.declared.why.Failure.TheVariants as failure
use Rattle.script_exec.specs.declared.why.Why.TheVariants as why

-- the number is that of a map: a script has four, from 0 on
abbrev pub IsMap : ℕ → Type 0
IsMap map = map ≤ 3

-- each of the four maps is that of the records that it took
abbrev pub AreMapsOf : List Entries → (ℕ → List Record) → Type 0
AreMapsOf maps taken = (map : ℕ) (d : Entries) → map < 4 → IsMapOf (taken map) (at (slice_index_or maps map d))

-- the array with what is kept next to it, and the maps, represent the script's position
pub record MatchesAt (bench : Bench) (P : Position) : Type 0 where
  pub tiers : RepresentsTiers bench.tiers P.tiers
  pub maps : AreMapsOf bench.maps P.taken

-- no bench before the array is made; after that, one that represents the script's position
abbrev pub MatchesState : Option Bench → State → Type 0
MatchesState None None = Unit {0}
MatchesState (Some bench) (Some P) = MatchesAt bench P
MatchesState _ _ = ⊥

-- the command was carried out: its answer is appended, and the bench represents a state that the answer leads to
pub record IsCarried (state : State) (bench : Option Bench) (order : Order) (old new : List ℕ) : Type 0 where
  pub text : List ℕ
  pub next : State
  pub answers : Answers state order text next
  pub matches : MatchesState bench next
  pub out : new ≡ old ++ text

-- the command was carried out from each position that the first bench represents
abbrev pub Carries : Bench → Bench → Order → List ℕ → List ℕ → Type 0
Carries before after order old new = (P : Position) → MatchesAt before P → IsCarried (Some P) (Some after) order old new

-- a command that may come and is within the limits was carried out
pub record IsExecuted (state : State) (bench : Option Bench) (order : Order) (old new : List ℕ) : Type 0 where
  pub due : IsAdmissible state order
  pub range : IsInRange (block_count state) order
  pub carried : IsCarried state bench order old new

-- a number of the command is out of its limits
pub record IsOut (state : State) (order : Order) (old new : List ℕ) : Type 0 where
  pub due : IsAdmissible state order
  pub range : IsInRange (block_count state) order → ⊥
  pub out : new ≡ old

-- the outcome of the command that makes the array
abbrev pub MakesBench : Result Bench Failure → Order → List ℕ → List ℕ → Type 0
MakesBench (Ok bench) order old new = IsExecuted None (Some bench) order old new
MakesBench (Err failure.Memory) order old new = Unit {0}
MakesBench (Err (failure.Wrong why.Range)) order old new = IsOut None order old new
MakesBench (Err (failure.Wrong _)) order old new = ⊥
