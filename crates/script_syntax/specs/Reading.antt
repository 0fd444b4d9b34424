-- What reading a line finds.
use Rattle.std.specs.Prelude.{◌≡◌, ℕ, List, Bool, true, false}
use Rattle.script_syntax.specs.Order.{Order, command_order, verb_of}
use Rattle.script_syntax.specs.Spelling.{FollowsVerb, HasSizedPayload, SpellsCommand}
use Rattle.script_syntax.specs.declared.command.Command.{Command}
use Rattle.script_syntax.specs.declared.verb.Verb.{Verb}

-- the words after the verb are this command's
pub record IsParsedAs (verb : Verb) (size : ℕ) (ws : List (List ℕ)) (order : Order) : Type 0 where
  pub asked : verb_of order ≡ verb
  pub sized : HasSizedPayload size order
  pub follows : FollowsVerb order ws

-- the answer says whether the words spell a command of the verb; if they do, it is this one
abbrev pub Finds : Verb → ℕ → List (List ℕ) → List ℕ → Command → Bool → Type 0
Finds verb size ws bytes command true = IsParsedAs verb size ws (command_order command bytes)
Finds verb size ws bytes command false = (order : Order) → IsParsedAs verb size ws order → ⊥

-- the line spells this command, and its payload, if it has one, is of this size
pub record IsParsed (size : ℕ) (line : List ℕ) (order : Order) : Type 0 where
  pub spells : SpellsCommand order line
  pub sized : HasSizedPayload size order

-- the answer says whether the line spells a command; if it does, it is this one
abbrev pub ParsesLine : ℕ → List ℕ → List ℕ → Command → Bool → Type 0
ParsesLine size line bytes command true = IsParsed size line (command_order command bytes)
ParsesLine size line bytes command false = (order : Order) → IsParsed size line order → ⊥
