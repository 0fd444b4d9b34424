-- Words that say what a worker has in hand.
use Rattle.std.specs.Prelude.{ℕ, ◌/◌, ◌%◌, ◌==◌, if◌then◌else◌, List, map}
use Rattle.slot_tables.specs.declared.hand.Hand.{Hand}
use Rattle.slot_tables.specs.declared.hand.Hand.TheVariants.{Empty, Holds, Waits}

-- a hand by its kind, 1 for a claim and 2 for a ticket, and the worker's number
abbrev pub hand_by : ℕ → ℕ → Hand
hand_by kind worker = if kind == 1 then Holds worker else if kind == 2 then Waits worker else Empty

-- a word is 256 times the kind, and the worker's number
abbrev pub hand_of : ℕ → Hand
hand_of word = hand_by (word / 256) (word % 256)

-- what the words of all slots say
abbrev pub hands_of : List ℕ → List Hand
hands_of words = map hand_of words
