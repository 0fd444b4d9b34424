use Rattle.std.proofs.Common.{◌≡◌, ◌==◌, ◌+◌, ◌≤◌, length, arith}
use Rattle.std.proofs.lemmas.Simd.{run_in_chunk_fails, run_in_chunk_stops}
use Rattle.script_syntax.proofs.Splits.{cut_at}
use Rattle.script_syntax.proofs.parts.cut.Goals as goal

pub returns-then-front-lt-LOOK : goal.returns-then-front-lt-LOOK
returns-then-front-lt-LOOK c =
    let text = c.args.text.now in
    let front = c.bytes_before-front.result in
    let counted = c.bytes_before-front.ensures in
    let room : 0 + 8 ≤ length text = omega arith in
    let same : 0 + front ≡ front = omega arith in
    cut_at c.args.separator text front (omega arith)
    (λ k low below is.
    let other = run_in_chunk_fails (λ byte. byte == c.args.separator) text 0 8 front 0 room counted k low (omega (arith, below)) in
    absurd (cc (other, is)))
    (rw same at (run_in_chunk_stops (λ byte. byte == c.args.separator) text 0 8 front 0 room counted c.if-front-lt-LOOK.true))
