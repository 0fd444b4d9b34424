-- What a turn did, by how its chunk was fed.
use Rattle.std.proofs.Common.{◌≡◌, ℕ, List, [], Option, Result, Err, subst}
use Rattle.std.specs.Io.KnownBytes.{Appends}
use Rattle.script_exec.specs.State.{State}
use Rattle.script_io.specs.Feeding.{Feeds, IsAlong, IsScript}
use Rattle.script_io.specs.Turns.{IsCutSaid, IsPartSaid}
use Rattle.script_io.specs.declared.script.Script.{Script}
use Rattle.script_io.specs.declared.stop.Stop.{Stop}
use Rattle.script_io.specs.declared.stop.Stop.TheVariants as stop
use Rattle.script_io.proofs.Chunks.{IsFaultSaid}
use Rattle.script_io.proofs.Writes.{wrote_bytes}

-- a chunk with a fault was answered and written
pub fault_said : (fed : Result (Unit {0}) Stop) (old : Script) (state : State) (new : Script) (chunk : List ℕ) (held now : Option (List ℕ)) (wrote : List ℕ) → fed ≡ Err stop.Fault → Feeds fed old state new chunk
    → Appends held now wrote → wrote ≡ new.out.items → old.out.items ≡ [] → IsFaultSaid old state chunk held now
fault_said fed old state new chunk held now wrote is along appended wrote_is empty =
    let done = subst (λ r. Feeds r old state new chunk) is along in record {
      bytes = done.bytes;
      wrote = wrote_bytes held now wrote new.out.items old.out.items done.bytes appended wrote_is done.out empty;
      reported = done.reported;
    }

-- out of memory in a chunk, whose earlier lines were answered and written
pub cut_said : (fed : Result (Unit {0}) Stop) (old : Script) (state : State) (new : Script) (chunk : List ℕ) (held now : Option (List ℕ)) (wrote : List ℕ) → fed ≡ Err stop.Memory → Feeds fed old state new chunk
    → Appends held now wrote → wrote ≡ new.out.items → old.out.items ≡ [] → IsCutSaid old state chunk held now
cut_said fed old state new chunk held now wrote is along appended wrote_is empty =
    let done = subst (λ r. Feeds r old state new chunk) is along in record {
      bytes = done.bytes;
      wrote = wrote_bytes held now wrote new.out.items old.out.items done.bytes appended wrote_is done.out empty;
      cut = done.cut;
    }

-- a chunk was answered and written
pub part_said : (old : Script) (state : State) (new : Script) (chunk : List ℕ) (held now : Option (List ℕ)) (wrote : List ℕ) → IsAlong old state new chunk [] → IsScript new
    → Appends held now wrote → wrote ≡ new.out.items → old.out.items ≡ [] → IsPartSaid old state new chunk [] held now
part_said old state new chunk held now wrote fed keeps appended is empty = record {
  next = fed.next;
  matches = fed.matches;
  whole = fed.whole;
  lines = fed.lines;
  text_is = fed.text_is;
  counted = fed.counted;
  open_line = keeps.open_line;
  short = keeps.short;
  soon = keeps.soon;
  bytes = fed.bytes;
  wrote = wrote_bytes held now wrote new.out.items old.out.items fed.bytes appended is fed.out empty;
  leads = fed.leads;
}
