use Rattle.std.proofs.Common.{inr, rules, ◌≡◌, ◌+◌, ◌-◌, ◌*◌, ◌<◌, ◌≤◌, length, take, drop, true, refl, subst, sym, ap, ◌∙◌, arith}
use Rattle.std.proofs.lemmas.List.{places, length-take-le, get_or-take, take_all, length-drop}
use Rattle.std.proofs.lemmas.Result.{err_from_is_err_and}
use Rattle.byte_store.specs.Flat.{written_over}
use Rattle.array_store.specs.Blocks.{Holds}
use Rattle.array_store.proofs.Holding.{follows_more}
use Rattle.array_store.proofs.Loops.{write_more, torn}
use Rattle.array_store.proofs.Over.{over_long}
use Rattle.array_store.proofs.disk.DiskByteStore.write.Goals as goal

pub loop-done-preserved : goal.loop-done-preserved
loop-done-preserved g c =
    let p = c.piece_at-piece.result in
    let o = c.args.offset in
    let d = c.loop-done.done in
    let size : length c.deref_mut.result.now ≡ c.shape-shape.result.payload = search rules in
    let place = c.piece_at-piece.ensures.place in
    let count = c.piece_at-piece.ensures.count.1 in
    let within = c.requires.within in
    let at : c.piece_at-piece.result.block * length c.deref_mut.result.now + c.piece_at-piece.result.from ≡ c.args.offset + c.loop-done.done =
    ap (λ n. c.piece_at-piece.result.block * n + c.piece_at-piece.result.from) size ∙ place in
    let some = c.loop-done.invariant.some in
    let more : c.loop-done.done + c.piece_at-piece.result.count ≤ length c.args.bytes.now = omega arith in
    let room = c.in_ok-write_piece.ensures.room in
    let len_first : length (take c.loop-done.done c.args.bytes.now) ≡ c.loop-done.done = length-take-le c.loop-done.done c.args.bytes.now some in
    let len_all : length (take (c.loop-done.done + c.piece_at-piece.result.count) c.args.bytes.now) ≡ c.loop-done.done + c.piece_at-piece.result.count = length-take-le (c.loop-done.done + c.piece_at-piece.result.count) c.args.bytes.now more in
    let start : c.piece_at-piece.result.block * length c.deref_mut.result.now + c.piece_at-piece.result.from ≡ c.args.offset + length (take c.loop-done.done c.args.bytes.now) = omega (arith, at, len_first) in
    record {
      some = more;
      room = record { payload = room.payload ∙ c.loop-done.invariant.room.payload; blocks = room.blocks ∙ c.loop-done.invariant.room.blocks };
      bytes = c.loop-done.invariant.bytes;
      noted = c.loop-done.invariant.noted;
      wrote = λ bytes holds is.
          let fits : c.args.offset + length (take (c.loop-done.done + c.piece_at-piece.result.count) c.args.bytes.now) ≤ length bytes = omega (arith, len_all, more, within, is) in
          write_more _ _ _ _ _ _ _ bytes c.args.offset (take c.loop-done.done c.args.bytes.now) (take (c.loop-done.done + c.piece_at-piece.result.count) c.args.bytes.now) c.in_ok-write_piece.ensures.put refl (c.loop-done.invariant.wrote bytes holds is) start fits
          (let part : length (take (c.loop-done.done + c.piece_at-piece.result.count - c.loop-done.done) (drop c.loop-done.done c.args.bytes.now)) ≡ c.piece_at-piece.result.count =
          length-take-le _ _ (let rest = length-drop c.loop-done.done c.args.bytes.now in omega arith) ∙ omega arith in omega (arith, part, len_first, len_all))
          (λ j below. let low : j < c.loop-done.done = omega (arith, len_first, below) in search (rules, places)) (λ j below. search (rules, places));
      stays = λ bytes holds is.
          follows_more _ _ _ (c.loop-done.invariant.stays bytes holds is) (c.in_ok-write_piece.ensures.stays _ (c.loop-done.invariant.wrote bytes holds is));
    }

pub returns-in_err-write_piece-clause-change : goal.returns-in_err-write_piece-clause-change
returns-in_err-write_piece-clause-change g c = λ F is.
    let within = c.requires.within in
    let some = c.loop-done.invariant.some in
    let len_first : length (take c.loop-done.done c.args.bytes.now) ≡ c.loop-done.done = length-take-le c.loop-done.done c.args.bytes.now some in
    let len_all : length c.args.bytes.now ≡ length c.args.bytes.now = refl in
    let fits : c.args.offset + length c.args.bytes.now ≤ length F.bytes = let long = is.long in omega (arith, within, long, len_all) in
    let less : length (take c.loop-done.done c.args.bytes.now) ≤ length c.args.bytes.now = omega (arith, len_first, len_all, some) in
    let fits_first : c.args.offset + length (take c.loop-done.done c.args.bytes.now) ≤ length F.bytes = omega (arith, less, fits) in
    let holds = c.in_err-write_piece.ensures.kept (written_over F.bytes c.args.offset (take c.loop-done.done c.args.bytes.now)) (c.loop-done.invariant.wrote F.bytes is.holds is.long) in
    let long = over_long F.bytes c.args.offset (take c.loop-done.done c.args.bytes.now) fits_first in
    let p = err_from_is_err_and c.from_residual.result c.from_residual.ensures.1 in
    rw p.1 (
      record { bytes = written_over F.bytes c.args.offset (take c.loop-done.done c.args.bytes.now); unsynced = true },
      record { holds = holds; long = long ∙ (is.long ∙ sym c.loop-done.invariant.bytes); noted = sym c.loop-done.invariant.noted },
      record {
        size = long;
        each = torn F.bytes c.args.offset (take c.loop-done.done c.args.bytes.now) c.args.bytes.now fits less (λ j below. let low : j < c.loop-done.done = omega (arith, len_first, below) in get_or-take c.loop-done.done c.args.bytes.now j 0 low);
        unsynced = inr refl;
      },
    )

pub returns-clause-change : goal.returns-clause-change
returns-clause-change g c = λ F is.
    let some = c.loop-done.invariant.some in
    let over = c.loop-done-test.false in
    let within = c.requires.within in
    let done : c.loop-done.done ≡ length c.args.bytes.now = omega arith in
    let len_all : length c.args.bytes.now ≡ length c.args.bytes.now = refl in
    let fits : c.args.offset + length c.args.bytes.now ≤ length F.bytes = let long = is.long in omega (arith, within, long, len_all) in
    let wrote = c.loop-done.invariant.wrote F.bytes is.holds is.long in
    let all : (take c.loop-done.done c.args.bytes.now) ≡ c.args.bytes.now = take_all c.loop-done.done c.args.bytes.now (omega arith) in (
      record { bytes = written_over F.bytes c.args.offset c.args.bytes.now; unsynced = true },
      record {
        holds = subst (λ ys. Holds c.loop-done.self.tiers (written_over F.bytes c.args.offset ys)) all wrote;
        long = over_long F.bytes c.args.offset c.args.bytes.now fits ∙ (is.long ∙ sym c.loop-done.invariant.bytes);
        noted = sym c.loop-done.invariant.noted;
      },
      record { bytes_are = refl; unsynced = refl },
    )

pub returns-in_err-write_piece-clause-stays : goal.returns-in_err-write_piece-clause-stays
returns-in_err-write_piece-clause-stays g c = λ F is.
    follows_more _ _ _ (c.loop-done.invariant.stays F.bytes is.holds is.long) (c.in_err-write_piece.ensures.stays _ (c.loop-done.invariant.wrote F.bytes is.holds is.long))
