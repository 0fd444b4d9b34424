use Rattle.std.proofs.Common.{◌≡◌, ◌+◌, ◌≤◌, length, arith}
use Rattle.std.proofs.lemmas.Simd.{run_in_chunk_fails, run_in_chunk_stops}
use Rattle.memchr.specs.Find.{is_byte}
use Rattle.script_io.proofs.split.line_end.Goals as goal

pub returns-then-front-lt-LOOK : goal.returns-then-front-lt-LOOK
returns-then-front-lt-LOOK c =
    let text = c.args.text.now in
    let front = c.open_bytes-front.result in
    let room : 0 + 32 ≤ length text = omega arith in
    let same : 0 + front ≡ front = omega arith in (
      record {
        low = omega arith;
        high = omega arith;
        before = λ k low below is.
            let other = run_in_chunk_fails (is_byte 10) text 0 32 front 0 room c.open_bytes-front.ensures k low (omega (arith, below)) in
            absurd (cc (other, is));
      },
      rw same at (run_in_chunk_stops (is_byte 10) text 0 32 front 0 room c.open_bytes-front.ensures c.if-front-lt-LOOK.true),
    )
