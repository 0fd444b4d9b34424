use Rattle.std.proofs.Common.{rules, ◌≡◌, ◌+◌, ◌*◌, ◌≤◌, length, slice_index, subst, ap, arith}
use Rattle.std.proofs.lemmas.List.{places}
use Rattle.array_store.specs.Blocks.{IsBlockOf}
use Rattle.array_store.proofs.Pieces.{on_ok, piece_read}
use Rattle.array_store.proofs.block.read_piece.Goals as goal

pub returns-then-count-buffer-clause-read : goal.returns-then-count-buffer-clause-read
returns-then-count-buffer-clause-read g c =
    let a = c.args in
    let out = c.read_block.new.out in
    let whole : length a.out.now ≡ length a.buffer.now = c.if-count-buffer.true in
    let long : length out ≡ length a.out.now = c.read_block.auto.out in
    let inside = c.requires.inside in
    on_ok c.read_block.result (λ read bytes holds within.
    let fits : a.from + length out ≤ length a.buffer.now = omega arith in
    let ends : a.block * length a.buffer.now + a.from + length out ≤ length bytes = omega arith in
    piece_read (length a.buffer.now) a.block a.from bytes out out (subst (λ n. IsBlockOf n bytes a.block out) whole (read bytes holds)) fits ends
    (λ k below. let same : k ≡ a.from + k = omega arith in ap (slice_index out) same)) c.read_block.ensures.read

pub returns-clause-read : goal.returns-clause-read
returns-clause-read g c = λ bytes holds within.
    let a = c.args in
    let out = c.copy_from_slice.new.self in
    let block = c.read_block-2.new.out in
    let same : length block ≡ length a.buffer.now = c.read_block-2.auto.out in
    let inside = c.requires.inside in
    let after = c.copy_from_slice.ensures.after in
    let long : length out ≡ length a.out.now = search rules in
    let fits : a.from + length out ≤ length a.buffer.now = omega arith in
    let ends : a.block * length a.buffer.now + a.from + length out ≤ length bytes = omega arith in
    piece_read (length a.buffer.now) a.block a.from bytes block out (c.in_ok-read_block.ensures.read bytes holds) fits ends
    (λ k below. search (rules, places))
