-- A flat state in which a worker has one claim more.
use Rattle.std.specs.Prelude.{ℕ}
use Rattle.flat_machine.specs.Flat.{Flat, Worker, with_pair}

-- the state in which the worker has a claim of the slot too
abbrev pub with_claim : Flat → ℕ → ℕ → Flat
with_claim F slot worker = record F { held = with_pair F.held slot (Worker worker) }
