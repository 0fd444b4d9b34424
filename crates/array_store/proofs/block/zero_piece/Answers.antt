use Rattle.std.proofs.Common.{◌≡◌, ◌+◌, ◌*◌, ◌≤◌, ℕ, length, replicate, subst, sym, ◌∙◌, arith}
use Rattle.std.proofs.lemmas.List.{length-replicate}
use Rattle.byte_store.specs.Flat.{written_over}
use Rattle.array_store.specs.Blocks.{IsPut}
use Rattle.array_store.proofs.Holding.{follows_more}
use Rattle.array_store.proofs.Pieces.{on_ok, patch_put, zero_put}
use Rattle.array_store.proofs.block.zero_piece.Goals as goal

pub returns-then-count-buffer-clause-put : goal.returns-then-count-buffer-clause-put
returns-then-count-buffer-clause-put g c =
    let a = c.args in
    let whole : a.count ≡ length a.buffer.now = c.if-count-buffer.true in
    let inside = c.requires.inside in
    let start : a.from ≡ 0 = omega arith in
    on_ok c.put.result (λ put bytes holds within.
    let new = written_over bytes (a.block * length a.buffer.now + a.from) (replicate a.count 0) in
    put bytes new holds (subst (λ n. IsPut n bytes a.block (replicate n 0) new) c.requires.size
    (zero_put (length a.buffer.now) a.block a.from a.count bytes c.requires.some whole start within))) c.put.ensures.put

pub returns-clause-put : goal.returns-clause-put
returns-clause-put g c =
    let a = c.args in
    let block = c.read_block.new.out in
    let same : length block ≡ length a.buffer.now = c.read_block.auto.out in
    let zero : ℕ = 0 in
    let long : length (replicate a.count zero) ≡ a.count = length-replicate a.count zero in
    let inside = c.requires.inside in
    let payload : length a.buffer.now ≡ c.read_block.new.tiers.world.array.parts.groups.payload = c.requires.size ∙ sym c.in_ok-read_block.ensures.room.payload in
    on_ok c.put-2.result (λ put bytes holds within.
    let new = written_over bytes (a.block * length a.buffer.now + a.from) (replicate a.count 0) in
    let fits : a.from + length (replicate a.count 0) ≤ length a.buffer.now = omega (arith, long, inside) in
    let ends : a.block * length a.buffer.now + a.from + length (replicate a.count 0) ≤ length bytes = omega (arith, long, within) in
    let patched = patch_put (length a.buffer.now) a.block a.from bytes block (replicate a.count 0) c.requires.some (c.in_ok-read_block.ensures.read bytes holds) same fits ends in
    let held : IsPut (length a.buffer.now) bytes a.block c.clear.new.held new = subst (λ h. IsPut (length a.buffer.now) bytes a.block h new) (sym c.clear.ensures) patched in
    put bytes new (c.in_ok-read_block.ensures.kept bytes holds) (subst (λ n. IsPut n bytes a.block c.clear.new.held new) payload held)) c.put-2.ensures.put

pub returns-clause-stays : goal.returns-clause-stays
returns-clause-stays g c = λ bytes holds.
    follows_more _ _ _ (c.in_ok-read_block.ensures.stays bytes holds) (c.put-2.ensures.stays bytes (c.in_ok-read_block.ensures.kept bytes holds))
