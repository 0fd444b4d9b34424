use Rattle.slot_tables.proofs.Placing.{AreFewestBelow}
use Rattle.slot_tables.proofs.ready.places_for.Given as goal

abbrev pub invariant-loop-group : goal.invariant-loop-group
invariant-loop-group l = AreFewestBelow l.groups l.group l.places
