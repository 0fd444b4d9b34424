use Rattle.std.proofs.Common.{rules, ◌≡◌, ◌+◌, ◌-◌, ◌*◌, ◌<◌, ◌≤◌, length, take, ◌++◌, slice_index, sym, ap, ◌∙◌, arith}
use Rattle.std.proofs.lemmas.List.{places, drop-drop}
use borrow.Rule.Slice.PartMut.{put_mid}
use Rattle.byte_store.specs.Flat.{written_over}
use Rattle.array_store.proofs.Holding.{follows_more}
use Rattle.array_store.proofs.Loops.{read_all, read_more, read_part}
use Rattle.array_store.proofs.Over.{over_long}
use Rattle.array_store.proofs.disk.DiskByteStore.read.Goals as goal

pub loop-done-preserved : goal.loop-done-preserved
loop-done-preserved g c =
    let part = c.read_piece.new.out in
    let size : length c.deref_mut.result.now ≡ c.shape-shape.result.payload = search rules in
    let place = c.piece_at-piece.ensures.place in
    let count = c.piece_at-piece.ensures.count.1 in
    let within = c.requires.within in
    let at : c.piece_at-piece.result.block * length c.deref_mut.result.now + c.piece_at-piece.result.from ≡ c.args.offset + c.loop-done.done =
    ap (λ n. c.piece_at-piece.result.block * n + c.piece_at-piece.result.from) size ∙ place in
    let some = c.loop-done.invariant.some in
    let same = c.loop-done.invariant.long in
    let more : c.loop-done.done + c.piece_at-piece.result.count ≤ length c.args.out.now = omega arith in
    let room = c.in_ok-read_piece.ensures.room in
    let long : length c.read_piece.new.out ≡ c.piece_at-piece.result.count = search (rules, places) in
    let fits : c.loop-done.done + length c.read_piece.new.out ≤ length c.loop-done.out = omega (arith, long, more, same) in
    let cut : c.loop-done.done + c.piece_at-piece.result.count - c.loop-done.done ≡ length c.read_piece.new.out = omega (arith, long) in
    let over : put_mid c.loop-done.done (c.loop-done.done + c.piece_at-piece.result.count - c.loop-done.done) c.loop-done.out c.read_piece.new.out
    ≡ written_over c.loop-done.out c.loop-done.done c.read_piece.new.out =
    ap (λ n. put_mid c.loop-done.done n c.loop-done.out c.read_piece.new.out) cut
    ∙ ap (λ ys. take c.loop-done.done c.loop-done.out ++ (c.read_piece.new.out ++ ys)) (drop-drop (length c.read_piece.new.out) c.loop-done.done c.loop-done.out) in
    record {
      long = ap length over ∙ (over_long c.loop-done.out c.loop-done.done c.read_piece.new.out fits ∙ same);
      some = more;
      room = record { payload = room.payload ∙ c.loop-done.invariant.room.payload; blocks = room.blocks ∙ c.loop-done.invariant.room.blocks };
      bytes = c.loop-done.invariant.bytes;
      noted = c.loop-done.invariant.noted;
      kept = λ bytes holds. c.in_ok-read_piece.ensures.kept bytes (c.loop-done.invariant.kept bytes holds);
      read = λ bytes holds is k below.
          let ends : c.piece_at-piece.result.block * length c.deref_mut.result.now + c.piece_at-piece.result.from + length c.read_piece.new.out ≤ length bytes =
          omega (arith, at, long, more, within, is) in
          let piece = read_part bytes c.read_piece.new.out _ _ _ (c.in_ok-read_piece.ensures.read bytes (c.loop-done.invariant.kept bytes holds)) (sym c.read_piece.auto.out) ends in
          let lower : k < c.loop-done.done + length c.read_piece.new.out = omega (arith, long, below) in
          ap (λ xs. slice_index xs k) over ∙ read_more bytes c.loop-done.out c.read_piece.new.out c.args.offset c.loop-done.done _ fits at piece
          (c.loop-done.invariant.read bytes holds is) k lower;
      stays = λ bytes holds.
          follows_more _ _ _ (c.loop-done.invariant.stays bytes holds) (c.in_ok-read_piece.ensures.stays bytes (c.loop-done.invariant.kept bytes holds));
    }

pub returns-clause-value : goal.returns-clause-value
returns-clause-value g c = λ F is.
    let some = c.loop-done.invariant.some in
    let same = c.loop-done.invariant.long in
    let over = c.loop-done-test.false in
    let within = c.requires.within in
    let bytes = is.long in
    let done : c.loop-done.done ≡ length c.args.out.now = omega arith in
    let read = c.loop-done.invariant.read F.bytes is.holds is.long in
    read_all F.bytes c.loop-done.out c.args.offset (length c.args.out.now) same (omega (arith, within, bytes))
    (λ k below. let low : k < c.loop-done.done = omega (arith, done, below) in read k low)

pub returns-in_err-read_piece-clause-stays : goal.returns-in_err-read_piece-clause-stays
returns-in_err-read_piece-clause-stays g c = λ F is.
    follows_more _ _ _ (c.loop-done.invariant.stays F.bytes is.holds) (c.in_err-read_piece.ensures.stays _ (c.loop-done.invariant.kept F.bytes is.holds))

pub returns-clause-stays : goal.returns-clause-stays
returns-clause-stays g c = λ F is. c.loop-done.invariant.stays F.bytes is.holds
