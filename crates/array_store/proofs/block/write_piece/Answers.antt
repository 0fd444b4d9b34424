use Rattle.std.proofs.Common.{◌≡◌, ◌+◌, ◌*◌, length, subst, sym, ◌∙◌, arith}
use Rattle.byte_store.specs.Flat.{written_over}
use Rattle.array_store.specs.Blocks.{IsPut}
use Rattle.array_store.proofs.Holding.{follows_more}
use Rattle.array_store.proofs.Pieces.{on_ok, patch_put, whole_put}
use Rattle.array_store.proofs.block.write_piece.Goals as goal

pub returns-then-part-buffer-clause-put : goal.returns-then-part-buffer-clause-put
returns-then-part-buffer-clause-put g c =
    let a = c.args in
    let whole : length a.part.now ≡ length a.buffer.now = c.if-part-buffer.true in
    let inside = c.requires.inside in
    let start : a.from ≡ 0 = omega arith in
    on_ok c.put.result (λ put bytes holds within.
    let new = written_over bytes (a.block * length a.buffer.now + a.from) a.part.now in
    put bytes new holds (subst (λ n. IsPut n bytes a.block a.part.now new) c.requires.size
    (whole_put (length a.buffer.now) a.block a.from bytes a.part.now c.requires.some whole start within))) c.put.ensures.put

pub returns-clause-put : goal.returns-clause-put
returns-clause-put g c =
    let a = c.args in
    let block = c.read_block.new.out in
    let same : length block ≡ length a.buffer.now = c.read_block.auto.out in
    let payload : length a.buffer.now ≡ c.read_block.new.tiers.world.array.parts.groups.payload = c.requires.size ∙ sym c.in_ok-read_block.ensures.room.payload in
    on_ok c.put-2.result (λ put bytes holds within.
    let new = written_over bytes (a.block * length a.buffer.now + a.from) a.part.now in
    let patched = patch_put (length a.buffer.now) a.block a.from bytes block a.part.now c.requires.some (c.in_ok-read_block.ensures.read bytes holds) same c.requires.inside within in
    let held : IsPut (length a.buffer.now) bytes a.block c.overlay.new.held new = subst (λ h. IsPut (length a.buffer.now) bytes a.block h new) (sym c.overlay.ensures) patched in
    put bytes new (c.in_ok-read_block.ensures.kept bytes holds) (subst (λ n. IsPut n bytes a.block c.overlay.new.held new) payload held)) c.put-2.ensures.put

pub returns-clause-stays : goal.returns-clause-stays
returns-clause-stays g c = λ bytes holds.
    follows_more _ _ _ (c.in_ok-read_block.ensures.stays bytes holds) (c.put-2.ensures.stays bytes (c.in_ok-read_block.ensures.kept bytes holds))
