use Rattle.std.proofs.Common.{inr, rules, ◌≡◌, ◌+◌, ◌*◌, ◌≤◌, ℕ, length, replicate, true, refl, subst, sym, ap, ◌∙◌, arith}
use Rattle.std.proofs.lemmas.List.{places, length-replicate}
use Rattle.std.proofs.lemmas.Result.{err_from_is_err_and}
use Rattle.byte_store.specs.Flat.{written_over}
use Rattle.array_store.specs.Blocks.{Holds}
use Rattle.array_store.proofs.Holding.{follows_more}
use Rattle.array_store.proofs.Loops.{write_more, torn}
use Rattle.array_store.proofs.Over.{over_long}
use Rattle.array_store.proofs.disk.DiskByteStore.zero.Goals as goal

pub loop-done-preserved : goal.loop-done-preserved
loop-done-preserved g c =
    let p = c.piece_at-piece.result in
    let o = c.args.offset in
    let d = c.loop-done.done in
    let size : length c.deref_mut.result.now ≡ c.shape-shape.result.payload = search rules in
    let place = c.piece_at-piece.ensures.place in
    let count = c.piece_at-piece.ensures.count.1 in
    let within = c.requires.within in
    let at : c.piece_at-piece.result.block * length c.deref_mut.result.now + c.piece_at-piece.result.from ≡ c.args.offset + c.loop-done.done =
    ap (λ n. c.piece_at-piece.result.block * n + c.piece_at-piece.result.from) size ∙ place in
    let some = c.loop-done.invariant.some in
    let more : c.loop-done.done + c.piece_at-piece.result.count ≤ c.args.length = omega arith in
    let room = c.in_ok-zero_piece.ensures.room in
    let len_first : length (replicate {A = ℕ} c.loop-done.done 0) ≡ c.loop-done.done = length-replicate c.loop-done.done _ in
    let len_all : length (replicate {A = ℕ} (c.loop-done.done + c.piece_at-piece.result.count) 0) ≡ c.loop-done.done + c.piece_at-piece.result.count = length-replicate (c.loop-done.done + c.piece_at-piece.result.count) _ in
    let start : c.piece_at-piece.result.block * length c.deref_mut.result.now + c.piece_at-piece.result.from ≡ c.args.offset + length (replicate {A = ℕ} c.loop-done.done 0) = omega (arith, at, len_first) in
    record {
      some = more;
      room = record { payload = room.payload ∙ c.loop-done.invariant.room.payload; blocks = room.blocks ∙ c.loop-done.invariant.room.blocks };
      bytes = c.loop-done.invariant.bytes;
      noted = c.loop-done.invariant.noted;
      wrote = λ bytes holds is.
          let fits : c.args.offset + length (replicate {A = ℕ} (c.loop-done.done + c.piece_at-piece.result.count) 0) ≤ length bytes = omega (arith, len_all, more, within, is) in
          write_more _ _ _ _ _ _ _ bytes c.args.offset (replicate {A = ℕ} c.loop-done.done 0) (replicate {A = ℕ} (c.loop-done.done + c.piece_at-piece.result.count) 0) c.in_ok-zero_piece.ensures.put (sym (length-replicate c.piece_at-piece.result.count _)) (c.loop-done.invariant.wrote bytes holds is) start fits
          (let part : length (replicate {A = ℕ} c.piece_at-piece.result.count 0) ≡ c.piece_at-piece.result.count = length-replicate c.piece_at-piece.result.count _ in
          omega (arith, part, len_first, len_all))
          (λ j below. search (rules, places)) (λ j below. search (rules, places));
      stays = λ bytes holds is.
          follows_more _ _ _ (c.loop-done.invariant.stays bytes holds is) (c.in_ok-zero_piece.ensures.stays _ (c.loop-done.invariant.wrote bytes holds is));
    }

pub returns-in_err-zero_piece-clause-change : goal.returns-in_err-zero_piece-clause-change
returns-in_err-zero_piece-clause-change g c = λ F is.
    let within = c.requires.within in
    let some = c.loop-done.invariant.some in
    let len_first : length (replicate {A = ℕ} c.loop-done.done 0) ≡ c.loop-done.done = length-replicate c.loop-done.done _ in
    let len_all : length (replicate {A = ℕ} c.args.length 0) ≡ c.args.length = length-replicate c.args.length _ in
    let fits : c.args.offset + length (replicate {A = ℕ} c.args.length 0) ≤ length F.bytes = let long = is.long in omega (arith, within, long, len_all) in
    let less : length (replicate {A = ℕ} c.loop-done.done 0) ≤ length (replicate {A = ℕ} c.args.length 0) = omega (arith, len_first, len_all, some) in
    let fits_first : c.args.offset + length (replicate {A = ℕ} c.loop-done.done 0) ≤ length F.bytes = omega (arith, less, fits) in
    let holds = c.in_err-zero_piece.ensures.kept (written_over F.bytes c.args.offset (replicate {A = ℕ} c.loop-done.done 0)) (c.loop-done.invariant.wrote F.bytes is.holds is.long) in
    let long = over_long F.bytes c.args.offset (replicate {A = ℕ} c.loop-done.done 0) fits_first in
    let p = err_from_is_err_and c.from_residual.result c.from_residual.ensures.1 in
    rw p.1 (
      record { bytes = written_over F.bytes c.args.offset (replicate {A = ℕ} c.loop-done.done 0); unsynced = true },
      record { holds = holds; long = long ∙ (is.long ∙ sym c.loop-done.invariant.bytes); noted = sym c.loop-done.invariant.noted },
      record {
        size = long;
        each = torn F.bytes c.args.offset (replicate {A = ℕ} c.loop-done.done 0) (replicate {A = ℕ} c.args.length 0) fits less (λ j below. search (rules, places));
        unsynced = inr refl;
      },
    )

pub returns-clause-change : goal.returns-clause-change
returns-clause-change g c = λ F is.
    let some = c.loop-done.invariant.some in
    let over = c.loop-done-test.false in
    let within = c.requires.within in
    let done : c.loop-done.done ≡ c.args.length = omega arith in
    let len_all : length (replicate {A = ℕ} c.args.length 0) ≡ c.args.length = length-replicate c.args.length _ in
    let fits : c.args.offset + length (replicate {A = ℕ} c.args.length 0) ≤ length F.bytes = let long = is.long in omega (arith, within, long, len_all) in
    let wrote = c.loop-done.invariant.wrote F.bytes is.holds is.long in
    let all : (replicate {A = ℕ} c.loop-done.done 0) ≡ (replicate {A = ℕ} c.args.length 0) = ap (λ n. replicate {A = ℕ} n 0) done in (
      record { bytes = written_over F.bytes c.args.offset (replicate {A = ℕ} c.args.length 0); unsynced = true },
      record {
        holds = subst (λ ys. Holds c.loop-done.self.tiers (written_over F.bytes c.args.offset ys)) all wrote;
        long = over_long F.bytes c.args.offset (replicate {A = ℕ} c.args.length 0) fits ∙ (is.long ∙ sym c.loop-done.invariant.bytes);
        noted = sym c.loop-done.invariant.noted;
      },
      record { bytes_are = refl; unsynced = refl },
    )

pub returns-in_err-zero_piece-clause-stays : goal.returns-in_err-zero_piece-clause-stays
returns-in_err-zero_piece-clause-stays g c = λ F is.
    follows_more _ _ _ (c.loop-done.invariant.stays F.bytes is.holds is.long) (c.in_err-zero_piece.ensures.stays _ (c.loop-done.invariant.wrote F.bytes is.holds is.long))
