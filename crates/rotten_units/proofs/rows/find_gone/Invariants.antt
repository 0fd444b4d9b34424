use Rattle.vault.specs.Marks.{Has}
use Rattle.rotten_units.specs.Rows.{AreNotedOnceBelow}
use Rattle.rotten_units.proofs.rows.find_gone.Given as goal

-- the first slots have one rotten unit at most
abbrev pub invariant-loop-number : goal.invariant-loop-number
invariant-loop-number l = AreNotedOnceBelow (Has l.rotten.marks.items) l.groups l.number
