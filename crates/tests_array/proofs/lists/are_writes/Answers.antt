use Rattle.std.proofs.Common.{subst}
use Rattle.unit_store.specs.Memory.{held_units}
use Rattle.unit_store.specs.Micros.{AreWrites}
use Rattle.tests_array.proofs.Written.{each_write}
use Rattle.tests_array.proofs.lists.are_writes.Goals as goal

pub returns : goal.returns
returns c = λ yes.
    subst (λ l. AreWrites held_units c.args.parts.now l) c.deref.ensures.value (each_write held_units c.args.parts.now _ (c.is_each_write.ensures yes))
