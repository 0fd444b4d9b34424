-- What a read of a block returns.
use Rattle.std.proofs.Common.{◌≡◌, ℕ, List, replicate, Option, Some, None, Result, Ok, Err, refl, arith}
use Rattle.flat_machine.specs.declared.refusal.Refusal.{Refusal}
use Rattle.flat_machine.specs.Flat.{Flat, Write, Content, Payload, Trim, bytes_of}
use Rattle.flat_machine.specs.Steps as step
use Rattle.flat_machine.specs.Cases.{Case, found_in, found_of}
use Rattle.step_core.specs.Reported.{read_answer}
use Rattle.step_core.proofs.Worlds.{refused_leaves}
use Rattle.array_store.specs.Blocks.{bytes_in}
use Rattle.array_store.proofs.Writing.{Keeps, keeps_left}

-- a payload that a read finds is that of the write
found_payload : (size n v : ℕ) (bytes : List ℕ) (x : Content) → Some (record { version = n; payload = bytes }) ≡ found_in v x → bytes ≡ bytes_of size x
found_payload size n v bytes (Payload x) e = grind arith
found_payload size n v bytes Trim e = grind arith

pub found_bytes : (size n : ℕ) (bytes : List ℕ) (w : Option Write) → Some (record { version = n; payload = bytes }) ≡ found_of w → bytes ≡ bytes_in size w
found_bytes size n bytes None e = grind arith
found_bytes size n bytes (Some w) e = found_payload size n w.version bytes w.content e

-- where it finds nothing there is no write, or a trim
nothing_payload : (size v : ℕ) (x : Content) → None ≡ found_in v x → replicate size 0 ≡ bytes_of size x
nothing_payload size v (Payload x) e = grind arith
nothing_payload size v Trim e = refl

pub nothing_bytes : (size : ℕ) (w : Option Write) → None ≡ found_of w → replicate size 0 ≡ bytes_in size w
nothing_bytes size None e = refl
nothing_bytes size (Some w) e = nothing_payload size w.version w.content e

-- a read leaves the writes, whatever it returns
pub read_keeps : (F G : Flat) (b : ℕ) (r : Result (Option ℕ) Refusal) (bytes : List ℕ) → Case F (step.Read b) (read_answer r bytes) G → Keeps F G
read_keeps F G b (Ok found) bytes case = keeps_left F G case.2
read_keeps F G b (Err k) bytes case = keeps_left F G (refused_leaves F G (step.Read b) k case)
