-- Bytes that were written, one prefix after the other.
use Rattle.std.proofs.Common.{◌≡◌, ℕ, ◌-◌, ◌<◌, List, [], ◌++◌, length, take, drop, Option, Some, None, Result, Ok, Err, refl, sym, ap, ◌∙◌, inl, inr, arith, append_assoc, append-nil, take-append-drop, length-drop}
use Rattle.std.specs.Io.KnownBytes.{Appends, Keeps}
use Rattle.std.proofs.KnownBytes.{Appends-trans}
use Rattle.std.proofs.lemmas.List.{take_all}
use Rattle.script_exec.specs.State.{State}
use Rattle.script_io.specs.Says.{IsTranscript, lines_of}
use Rattle.script_io.specs.Feeding.{Closes, Feeds, IsCut}
use Rattle.script_io.specs.Turns.{IsBrokenOff, IsFronted, IsPartWritten}
use Rattle.script_io.specs.declared.end.End.{End}
use Rattle.script_io.specs.declared.end.End.TheVariants as end
use Rattle.script_io.specs.declared.script.Script.{Script}
use Rattle.script_io.specs.declared.stop.Stop.{Stop}
use Rattle.script_io.specs.declared.stop.Stop.TheVariants as stop
use Rattle.script_io.proofs.Chunks.{IsBroken}
use Rattle.script_io.proofs.Feeds.{cut_along}

-- what was written is a prefix of the bytes
abbrev pub IsWritten : Option (List ℕ) → Option (List ℕ) → List ℕ → List ℕ → Type 0
IsWritten held now bytes rest = (done : List ℕ) × Appends held now done × (bytes ≡ done ++ rest)

-- a write took the first n bytes of the rest
pub wrote_more : (held mid now : Option (List ℕ)) (bytes rest : List ℕ) (n : ℕ) → IsWritten held mid bytes rest
    → Appends mid now (take n rest) → IsWritten held now bytes (drop n rest)
wrote_more held mid now bytes rest n before wrote = (
  before.0 ++ take n rest,
  Appends-trans held mid now before.0 (take n rest) before.1 wrote,
  before.2 ∙ ap (λ xs. before.0 ++ xs) (sym (take-append-drop n rest)) ∙ sym (append_assoc before.0 (take n rest) (drop n rest)),
)

-- a slice from its n-th byte on
pub following : (rest : List ℕ) (n : ℕ) → take (length rest - n) (drop n rest) ≡ drop n rest
following rest n = take_all _ _ (omega (arith, length-drop n rest))

-- a failed write took nothing
pub wrote_none : (held mid now : Option (List ℕ)) (bytes rest : List ℕ) → IsWritten held mid bytes rest → Keeps mid now
    → IsWritten held now bytes rest
wrote_none None mid now bytes rest before kept = (before.0, tt, before.2)
wrote_none (Some xs) None now bytes rest before kept = absurd before.1
wrote_none (Some xs) (Some ys) None bytes rest before kept = absurd kept
wrote_none (Some xs) (Some ys) (Some zs) bytes rest before kept = (before.0, kept ∙ before.1, before.2)

-- bytes are left when a write takes none, or answers an error
pub part_written : (held now : Option (List ℕ)) (bytes rest : List ℕ) → IsWritten held now bytes rest → 0 < length rest
    → IsPartWritten held now bytes
part_written held now bytes rest written some = record {
  written = written.0;
  unwritten = rest;
  bytes_is = written.2;
  some = some;
  wrote = written.1;
}

-- what was written are the bytes that were appended to nothing
pub wrote_bytes : (held now : Option (List ℕ)) (wrote out old bytes : List ℕ) → Appends held now wrote → wrote ≡ out
    → out ≡ old ++ bytes → old ≡ [] → Appends held now bytes
wrote_bytes held now wrote out old bytes appended reported grown empty =
    let same : wrote ≡ bytes = reported ∙ grown ∙ ap (λ xs. xs ++ bytes) empty in
    rw same at appended

-- a part written of some bytes is a part written of equal bytes
part_of : (held now : Option (List ℕ)) (wrote bytes : List ℕ) → IsPartWritten held now wrote → wrote ≡ bytes → IsPartWritten held now bytes
part_of held now wrote bytes part same = record {
  written = part.written;
  unwritten = part.unwritten;
  bytes_is = sym same ∙ part.bytes_is;
  some = part.some;
  wrote = part.wrote;
}

-- whole lines, as a prefix of what was read
fronted_cut : (n : ℕ) (state : State) (line chunk out more : List ℕ) → IsCut n state (line ++ chunk) out
    → IsFronted n state (line ++ (chunk ++ more)) out
fronted_cut n state line chunk out more cut = record {
  front = cut.whole;
  rest = cut.rest ++ more;
  text_is = sym (append_assoc line chunk more) ∙ ap (λ xs. xs ++ more) cut.text_is ∙ append_assoc cut.whole cut.rest more;
  ends = inl cut.lines;
  last = end.Whole;
  reported = cut.reported;
}

-- all that is read, as a prefix of it
fronted_all : (n : ℕ) (state : State) (text out : List ℕ) (last : End) → IsTranscript n state (lines_of text) out last → IsFronted n state text out
fronted_all n state text out last reported = record {
  front = text;
  rest = [];
  text_is = sym (append-nil text);
  ends = inr refl;
  last = last;
  reported = reported;
}

-- the answers were the bytes that were appended to nothing
reported_bytes : (wrote out old bytes : List ℕ) → wrote ≡ out → out ≡ old ++ bytes → old ≡ [] → wrote ≡ bytes
reported_bytes wrote out old bytes reported grown empty = reported ∙ grown ∙ ap (λ xs. xs ++ bytes) empty

-- a write that failed after a chunk
pub broken_fed : (r : Result (Unit {0}) Stop) (old : Script) (state : State) (new : Script) (chunk : List ℕ) (held now : Option (List ℕ))
    (wrote : List ℕ) → Feeds r old state new chunk → wrote ≡ new.out.items → old.out.items ≡ [] → IsPartWritten held now wrote
    → IsBroken old state chunk held now
broken_fed (Ok u) old state new chunk held now wrote fed reported empty part =
    let cut = cut_along old.number state (old.line.items ++ chunk) fed.whole fed.bytes new.number fed.next (new.line.items ++ []) fed.lines
    fed.leads fed.text_is in record {
      bytes = fed.bytes;
      part = part_of held now wrote fed.bytes part (reported_bytes wrote new.out.items old.out.items fed.bytes reported fed.out empty);
      fronted = λ more. fronted_cut old.number state old.line.items chunk fed.bytes more cut;
    }
broken_fed (Err stop.Memory) old state new chunk held now wrote fed reported empty part = record {
  bytes = fed.bytes;
  part = part_of held now wrote fed.bytes part (reported_bytes wrote new.out.items old.out.items fed.bytes reported fed.out empty);
  fronted = λ more. fronted_cut old.number state old.line.items chunk fed.bytes more fed.cut;
}
broken_fed (Err stop.Fault) old state new chunk held now wrote fed reported empty part = record {
  bytes = fed.bytes;
  part = part_of held now wrote fed.bytes part (reported_bytes wrote new.out.items old.out.items fed.bytes reported fed.out empty);
  fronted = λ more. fronted_all old.number state (old.line.items ++ (chunk ++ more)) fed.bytes end.Fault (fed.reported more);
}

-- a write that failed after the input's end
pub broken_closed : (r : Result (Unit {0}) Stop) (old : Script) (state : State) (new : Script) (held now : Option (List ℕ))
    (wrote : List ℕ) → Closes r old state new → wrote ≡ new.out.items → old.out.items ≡ [] → IsPartWritten held now wrote
    → IsBrokenOff old state [] held now
broken_closed (Ok u) old state new held now wrote closed reported empty part = record {
  bytes = closed.bytes;
  part = part_of held now wrote closed.bytes part (reported_bytes wrote new.out.items old.out.items closed.bytes reported closed.out empty);
  fronted = fronted_all old.number state (old.line.items ++ []) closed.bytes end.Whole closed.reported;
}
broken_closed (Err stop.Memory) old state new held now wrote closed reported empty part = record {
  bytes = closed.bytes;
  part = part_of held now wrote closed.bytes part (reported_bytes wrote new.out.items old.out.items closed.bytes reported closed.out empty);
  fronted = fronted_cut old.number state old.line.items [] closed.bytes [] closed.cut;
}
broken_closed (Err stop.Fault) old state new held now wrote closed reported empty part = record {
  bytes = closed.bytes;
  part = part_of held now wrote closed.bytes part (reported_bytes wrote new.out.items old.out.items closed.bytes reported closed.out empty);
  fronted = fronted_all old.number state (old.line.items ++ []) closed.bytes end.Fault closed.reported;
}
