-- What is replied to a line that is read for its words.
use Rattle.std.specs.Prelude.{◌≡◌, ℕ, List, Result, Ok, Err, Option, Some, None}
use Rattle.script_exec.specs.declared.bench.Bench.{Bench}
use Rattle.script_syntax.specs.Order.{Order}
use Rattle.script_syntax.specs.Spelling.{SpellsCommand}
use Rattle.script_exec.specs.State.{State}
use Rattle.script_exec.specs.Meaning.{IsSaid}
use Rattle.script_exec.specs.Carrying.{IsExecuted, IsOut}
use Rattle.script_exec.specs.declared.why.Failure.{Failure}
use Rattle.script_exec.specs.declared.why.Failure.TheVariants as failure
use Rattle.script_exec.specs.declared.why.Why.TheVariants as why

-- the line's command was answered
pub record IsReplied (state : State) (bench : Option Bench) (line old new : List ℕ) : Type 0 where
  pub order : Order
  pub spells : SpellsCommand order line
  pub answered : IsExecuted state bench order old new

-- a number of the line's command is out of its limits
pub record IsBeyond (state : State) (line old new : List ℕ) : Type 0 where
  pub order : Order
  pub spells : SpellsCommand order line
  pub limits : IsOut state order old new

-- the line spells no command that may come
pub record IsUnsaid (state : State) (line old new : List ℕ) : Type 0 where
  pub none : (order : Order) → IsSaid state line order → ⊥
  pub out : new ≡ old

-- what is replied in a state, by the outcome
abbrev pub Replies : Result (Unit {0}) Failure → State → Option Bench → List ℕ → List ℕ → List ℕ → Type 0
Replies (Ok _) state bench line old new = IsReplied state bench line old new
Replies (Err failure.Memory) state bench line old new = Unit {0}
Replies (Err (failure.Wrong why.Range)) state bench line old new = IsBeyond state line old new
Replies (Err (failure.Wrong why.Form)) state bench line old new = IsUnsaid state line old new
Replies (Err (failure.Wrong _)) state bench line old new = ⊥

-- what is replied to a line before there is an array, by the outcome: the bench that it made, or why it made none
abbrev pub Starts : Result Bench Failure → List ℕ → List ℕ → List ℕ → Type 0
Starts (Ok bench) line old new = IsReplied None (Some bench) line old new
Starts (Err f) line old new = Replies (Err f) None None line old new
