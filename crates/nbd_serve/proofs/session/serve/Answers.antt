use Rattle.std.proofs.Common.{◌≡◌, ℕ, List, Option, Ok, inr, subst}
use Rattle.byte_store.specs.Flat.{Sizes}
use Rattle.nbd_serve.specs.Handshaking.{Handshakes}
use Rattle.nbd_serve.specs.Sessions.{export_of}
use Rattle.nbd_serve.proofs.session.serve.Goals as goal

-- the export has the sizes that the store says
of_sizes : (size block : ℕ) (sizes : Sizes) (before after held now : Option (List ℕ)) → size ≡ sizes.bytes → block ≡ sizes.block
    → Handshakes (Ok tt) (record { size = size; block = block }) before after held now
    → Handshakes (Ok tt) (export_of sizes) before after held now
of_sizes size block sizes before after held now size_is block_is shaken =
    let P : ℕ → Type 0 = λ n. Handshakes (Ok tt) (record { size = n; block = block }) before after held now in
    let Q : ℕ → Type 0 = λ n. Handshakes (Ok tt) (record { size = sizes.bytes; block = n }) before after held now in
    subst Q block_is (subst P size_is shaken)

pub returns-in-Ok : goal.returns-in-Ok
returns-in-Ok g c = λ F a is. inr (record {
  left = _;
  written = _;
  handshakes = of_sizes c.size.result c.block_bytes.result (g.S.ByteStore.sizes c.args.store.now) _ _ _ _ c.size.ensures.size c.block_bytes.ensures.size c.in-Ok.ensures;
  serves = c.transmit.ensures F a is;
})
