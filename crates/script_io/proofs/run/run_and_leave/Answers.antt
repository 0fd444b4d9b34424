use Rattle.std.proofs.Common.{◌≡◌, ◌<◌, None, Some, Err, length, ap, refl, arith, rules}
use Rattle.script_exec.specs.Carrying.{MatchesState}
use Rattle.script_io.specs.declared.halt.Halt.TheVariants as halt
use Rattle.script_io.specs.declared.stop.Stop.TheVariants as stop
use Rattle.script_io.specs.Turns.{TurnsTo}
use Rattle.script_io.proofs.Ends.{run_said, turn_after, turn_closed, turn_on}
use Rattle.script_io.proofs.Turns.{cut_said, fault_said, part_said}
use Rattle.script_io.proofs.Writes.{broken_fed}
use Rattle.script_io.proofs.run.run_and_leave.Goals as goal

pub returns-in-Ok-eq0 : goal.returns-in-Ok-eq0
returns-in-Ok-eq0 g c =
    let matches : MatchesState c.new-script.result.bench None = rw c.new-script.ensures.bench tt in
    let none = c.in-Ok-eq0.field-0-test in
    let lent = ap length c.deref_mut-chunk.ensures.value in
    let room : 0 < length c.read_some.new.buffer = omega (arith, c.in-Ok.ensures, lent, c.loop-writer.auto.chunk, c.read_some.auto.buffer) in
    let bytes = rw none at c.in-Ok-eq0.ensures.bytes in
    rw c.left_by.ensures (run_said c.close-halt.result _ _ c.new-script.result c.close-halt.new.script _ _ c.new-script.ensures.number c.new-script.ensures.line
    (turn_after (Some c.close-halt.result) _ _ _ c.new-script.result None c.loop-writer.script c.close-halt.new.script _ _ _
    (c.loop-writer.invariant.said None matches)
    (λ s on. turn_closed c.close-halt.result _ _ c.read_some.new.buffer c.loop-writer.script s c.close-halt.new.script _ _ bytes.0 (bytes.1 refl room)
    (c.close-halt.ensures s on))))

pub returns-in-Err-write_out : goal.returns-in-Err-write_out
returns-in-Err-write_out g c =
    let matches : MatchesState c.new-script.result.bench None = rw c.new-script.ensures.bench tt in
    rw c.left_by-in-Err-write_out.ensures (run_said (halt.WriteBroke c.in-Err-write_out.broke) _ (g.R.Read.remaining c.read_some.new.reader) c.new-script.result c.feed-fed.new.self _ _ c.new-script.ensures.number c.new-script.ensures.line
    (turn_after (Some (halt.WriteBroke c.in-Err-write_out.broke)) _ _ (g.R.Read.remaining c.read_some.new.reader) c.new-script.result None c.loop-writer.script c.feed-fed.new.self _ _ _
    (c.loop-writer.invariant.said None matches)
    (λ s on. turn_on (Some (halt.WriteBroke c.in-Err-write_out.broke)) _ (g.R.Read.remaining c.read_some.new.reader) _ c.loop-writer.script s c.feed-fed.new.self _ _ c.in-Ok-read_some.ensures.bytes.0
    (broken_fed c.feed-fed.result c.loop-writer.script s c.feed-fed.new.self _ _ _ c.deref.result.now (c.feed-fed.ensures.fed s on) c.deref.ensures.value c.loop-writer.invariant.written
    c.in-Err-write_out.ensures.part))))

pub returns-in-Err-Fault : goal.returns-in-Err-Fault
returns-in-Err-Fault g c =
    let matches : MatchesState c.new-script.result.bench None = rw c.new-script.ensures.bench tt in
    let failed : c.feed-fed.result ≡ Err stop.Fault = search rules in
    rw c.left_by-in-Err-Fault.ensures (run_said halt.Fault _ (g.R.Read.remaining c.read_some.new.reader) c.new-script.result c.feed-fed.new.self _ _ c.new-script.ensures.number c.new-script.ensures.line
    (turn_after (Some halt.Fault) _ _ (g.R.Read.remaining c.read_some.new.reader) c.new-script.result None c.loop-writer.script c.feed-fed.new.self _ _ _
    (c.loop-writer.invariant.said None matches)
    (λ s on. turn_on (Some halt.Fault) _ (g.R.Read.remaining c.read_some.new.reader) _ c.loop-writer.script s c.feed-fed.new.self _ _ c.in-Ok-read_some.ensures.bytes.0
    (fault_said c.feed-fed.result c.loop-writer.script s c.feed-fed.new.self _ _ _ c.deref.result.now failed (c.feed-fed.ensures.fed s on) c.in-Ok-write_out.ensures.whole c.deref.ensures.value
    c.loop-writer.invariant.written))))

pub returns-in-Err-Memory : goal.returns-in-Err-Memory
returns-in-Err-Memory g c =
    let matches : MatchesState c.new-script.result.bench None = rw c.new-script.ensures.bench tt in
    let failed : c.feed-fed.result ≡ Err stop.Memory = search rules in
    rw c.left_by-in-Err-Memory.ensures (run_said halt.Memory _ (g.R.Read.remaining c.read_some.new.reader) c.new-script.result c.feed-fed.new.self _ _ c.new-script.ensures.number c.new-script.ensures.line
    (turn_after (Some halt.Memory) _ _ (g.R.Read.remaining c.read_some.new.reader) c.new-script.result None c.loop-writer.script c.feed-fed.new.self _ _ _
    (c.loop-writer.invariant.said None matches)
    (λ s on. turn_on (Some halt.Memory) _ (g.R.Read.remaining c.read_some.new.reader) _ c.loop-writer.script s c.feed-fed.new.self _ _ c.in-Ok-read_some.ensures.bytes.0
    (cut_said c.feed-fed.result c.loop-writer.script s c.feed-fed.new.self _ _ _ c.deref.result.now failed (c.feed-fed.ensures.fed s on) c.in-Ok-write_out.ensures.whole c.deref.ensures.value
    c.loop-writer.invariant.written))))

pub returns-in-Err : goal.returns-in-Err
returns-in-Err g c =
    let matches : MatchesState c.new-script.result.bench None = rw c.new-script.ensures.bench tt in
    let said = c.loop-writer.invariant.said None matches in
    let turned : TurnsTo (Some (halt.ReadBroke c.in-Err.broke)) (g.R.Read.remaining c.args.reader.now) (g.R.Read.remaining c.read_some.new.reader) c.new-script.result None c.loop-writer.script
    (g.W.Write.contents c.args.writer.now) (g.W.Write.contents c.loop-writer.writer) = search (rules, said) in
    rw c.left_by-in-Err.ensures (run_said (halt.ReadBroke c.in-Err.broke) _ (g.R.Read.remaining c.read_some.new.reader) c.new-script.result c.loop-writer.script _ _ c.new-script.ensures.number c.new-script.ensures.line turned)

pub loop-writer-preserved : goal.loop-writer-preserved
loop-writer-preserved g c = record {
  good = search rules;
  written = search rules;
  said = λ state matches.
      turn_after None _ _ _ c.new-script.result state c.loop-writer.script _ _ _ _
      (c.loop-writer.invariant.said state matches)
      (λ s on. turn_on None _ _ _ c.loop-writer.script s _ _ _ c.in-Ok-read_some.ensures.bytes.0
      (let said = part_said c.loop-writer.script s c.feed-fed.new.self _ _ _ c.deref.result.now (c.in-Ok-fed.ensures.fed s on) c.in-Ok-fed.ensures.keeps c.in-Ok-write_out.ensures.whole c.deref.ensures.value
      c.loop-writer.invariant.written in
      record {
        next = said.next;
        matches = said.matches;
        whole = said.whole;
        lines = said.lines;
        text_is = said.text_is;
        counted = said.counted;
        open_line = said.open_line;
        short = said.short;
        soon = said.soon;
        bytes = said.bytes;
        wrote = said.wrote;
        leads = said.leads;
      }));
}
