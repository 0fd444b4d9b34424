use Rattle.std.proofs.Common.{◌≡◌, ℕ, ◌≤◌, vec_len, vec_capacity}
use Rattle.slot_tables.specs.Claims.{how_many}
use Rattle.slot_tables.specs.declared.hold.Plain.{Plain}
use Rattle.slot_tables.specs.Shut.{one_of}
use Rattle.step_core.proofs.unmake.claims_of.Given as goal

abbrev pub invariant-loop-index : goal.invariant-loop-index
invariant-loop-index l = record {
  all : (slot : ℕ) → how_many (λ (c : Plain). c.slot) l.claims.items slot ≡ one_of l.fn.group l.index slot;
  many : vec_len l.claims ≡ l.index;
  room : l.fn.count ≤ vec_capacity l.claims;
}
