use Rattle.std.proofs.Common.{◌≡◌, ◌+◌, ◌-◌, ◌*◌, ap, arith, rules, take, drop}
use Rattle.file_vault.proofs.Heads.{nonzero_most, part_most, last_part, piece_next}
use Rattle.file_vault.proofs.record.nonzero.Goals as goal

pub overflow_add-count : goal.overflow_add-count
overflow_add-count c =
    let i = 128 * c.loop-piece.piece in
    let same : i + 128 - i ≡ 128 = omega arith in
    let next = piece_next c.args.bytes.now (take (i + 128 - i) (drop i c.args.bytes.now)) i (128 * (c.loop-piece.piece + 1)) c.loop-piece.count c.nonzero_in_piece-count.result (omega arith)
    (ap (λ k. take k (drop i c.args.bytes.now)) same) c.loop-piece.invariant c.nonzero_in_piece-count.ensures in
    let most = part_most c.args.bytes.now (128 * (c.loop-piece.piece + 1)) (c.loop-piece.count + c.nonzero_in_piece-count.result) next in
    search (rules, most)

pub loop-piece-preserved : goal.loop-piece-preserved
loop-piece-preserved c =
    let i = 128 * c.loop-piece.piece in
    let same : i + 128 - i ≡ 128 = omega arith in
    let next = piece_next c.args.bytes.now (take (i + 128 - i) (drop i c.args.bytes.now)) i (128 * (c.loop-piece.piece + 1)) c.loop-piece.count c.nonzero_in_piece-count.result (omega arith)
    (ap (λ k. take k (drop i c.args.bytes.now)) same) c.loop-piece.invariant c.nonzero_in_piece-count.ensures in
    next

pub overflow_add-result : goal.overflow_add-result
overflow_add-result c =
    let all = last_part c.args.bytes.now c.loop-piece.piece _ c.loop-piece.count c.nonzero_in_piece.result c.loop-piece-test.false c.loop-piece.auto.piece-end c.loop-piece.invariant c.nonzero_in_piece.ensures in
    let most = nonzero_most c.args.bytes.now in
    grind (arith, all, most)

pub returns : goal.returns
returns c = last_part c.args.bytes.now c.loop-piece.piece _ c.loop-piece.count c.nonzero_in_piece.result c.loop-piece-test.false c.loop-piece.auto.piece-end c.loop-piece.invariant c.nonzero_in_piece.ensures
