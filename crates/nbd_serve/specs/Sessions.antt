-- A whole session with a client: a handshake, and then requests.
use Rattle.std.specs.Prelude.{◌≡◌, ℕ, ◌⊎◌, List, Option, Ok, Err}
use Rattle.byte_store.specs.declared.fault.StoreFault.{StoreFault}
use Rattle.byte_store.specs.Flat.{StoreState, Sizes}
use Rattle.byte_store.specs.Lasting.{Shown}
use Rattle.nbd_wire.specs.declared.options.Export.{Export}
use Rattle.nbd_serve.specs.Handshaking.{Handshakes}
use Rattle.nbd_serve.specs.Serving.{Serves}
use Rattle.nbd_serve.specs.Stopping.{StoreType}
use Rattle.nbd_serve.specs.declared.end.End.{End}

-- the export that a store of these sizes is
abbrev pub export_of : Sizes → Export
export_of sizes = record { size = sizes.bytes; block = sizes.block }

-- the session ended in the handshake, and the store is as it was
pub record IsTurnedAway {S : Type 0} (represents : S → StoreState → Type 0) (sizes : Sizes) (F : StoreState) (old new : S) (last : End) (before after held now : Option (List ℕ)) : Type 0 where
  pub handshakes : Handshakes (Err last) (export_of sizes) before after held now
  pub represented : represents new F
  pub same : new ≡ old

-- the handshake was made, and requests were answered
pub record IsServed {S : Type 0} (type : StoreType S) (may : StoreFault → Type 0) (sizes : Sizes) (F : StoreState) (first : Shown) (old new : S) (last : End) (before after held now : Option (List ℕ)) : Type 0 where
  pub left : Option (List ℕ)
  pub written : Option (List ℕ)
  pub handshakes : Handshakes (Ok tt) (export_of sizes) before left held written
  pub serves : Serves type may sizes.bytes F first old new last left after written now

-- what a session with a store in state F reads and writes, and what becomes of the store, by how it ends
abbrev pub Session : {S : Type 0} → StoreType S → (StoreFault → Type 0) → Sizes → StoreState → Shown → S → S → End → Option (List ℕ) → Option (List ℕ) → Option (List ℕ) → Option (List ℕ) → Type 0
Session type may sizes F first old new last before after held now =
    IsTurnedAway type.represents sizes F old new last before after held now
    ⊎ IsServed type may sizes F first old new last before after held now
