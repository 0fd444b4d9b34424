use Rattle.std.proofs.Common.{◌≡◌, ℕ, true}
use Rattle.slot_tables.specs.Shut.{IsGiven}
use Rattle.slot_tables.proofs.Shutting.{is_first}
use Rattle.disk_array.proofs.array.Array.unmake_fault.Given as goal

abbrev pub invariant-loop-index : goal.invariant-loop-index
invariant-loop-index g l = (slot : ℕ) → is_first l.fn.group l.index slot ≡ true → IsGiven g.C.Hold.names l.self l.claims slot
