-- How a session goes on after the handshake: exchanges, and what it stops at.
use Rattle.std.specs.Prelude.{◌≡◌, ◌≢◌, ◌-◌, ◌^◌, ℕ, ◌<◌, ◌⊎◌, List, ◌++◌, length, Option}
use Rattle.std.specs.List.{flat_map}
use Rattle.std.specs.Io.KnownBytes.{Appends, Consumes}
use Rattle.byteorder.specs.Endian.{big_number}
use Rattle.byte_store.specs.declared.fault.StoreFault.{StoreFault}
use Rattle.byte_store.specs.Flat.{StoreState}
use Rattle.byte_store.specs.Lasting.{Shown}
use Rattle.nbd_wire.specs.declared.request.Command.TheVariants as command
use Rattle.nbd_wire.specs.declared.request.Request.{Request}
use Rattle.nbd_wire.specs.Requests.{SpellsRequest, carried_len, request_magic}
use Rattle.nbd_serve.specs.Streams.{IsPartWritten, LeavesNone}
use Rattle.nbd_serve.specs.Exchanges.{Exchange, IsExchange, RunsSession, asked_by, replied_by}
use Rattle.nbd_serve.specs.Stopping.{StoreType}
use Rattle.nbd_serve.specs.Enduring.{Endures}
use Rattle.nbd_serve.specs.declared.end.End.{End}
use Rattle.nbd_serve.specs.declared.end.End.TheVariants as end

-- the request to disconnect was read
pub record IsDisconnect (before after : Option (List ℕ)) : Type 0 where
  pub head : List ℕ
  pub whole : length head ≡ 28
  pub request : Request
  pub spells : SpellsRequest head request
  pub leaves : request.command ≡ command.Disconnect
  pub read : Consumes before after head

-- 28 bytes were read that are no request
pub record IsGarbage (before after : Option (List ℕ)) : Type 0 where
  pub head : List ℕ
  pub whole : length head ≡ 28
  pub wrong : big_number 4 head ≢ request_magic
  pub read : Consumes before after head

-- the 28 bytes of a request, and fewer bytes than it carries
pub record IsHeadAndPart (part : List ℕ) : Type 0 where
  pub head : List ℕ
  pub whole : length head ≡ 28
  pub request : Request
  pub spells : SpellsRequest head request
  pub carried : List ℕ
  pub few : length carried < carried_len request
  pub part_is : part ≡ head ++ carried

-- less than a whole request was read
pub record IsCutOff (last : End) (before after : Option (List ℕ)) : Type 0 where
  pub part : List ℕ
  pub read : Consumes before after part
  pub few : (length part < 28) ⊎ IsHeadAndPart part
  pub ended : LeavesNone last after

-- a request was carried out, and a proper prefix of the reply was written
pub record IsAnsweredInPart (may : StoreFault → Type 0) (size : ℕ) (F : StoreState) (before after held now : Option (List ℕ)) (G : StoreState) : Type 0 where
  pub exchange : Exchange
  pub is : IsExchange may size F exchange G
  pub read : Consumes before after (asked_by exchange)
  pub part : IsPartWritten held now exchange.reply

-- nothing was written, and the state stays
pub record IsSilent (F : StoreState) (held now : Option (List ℕ)) (G : StoreState) : Type 0 where
  pub held_is : now ≡ held
  pub same : G ≡ F

-- what a session stops at while it reads or answers a request, by how it ends
abbrev pub Breaks : End → (StoreFault → Type 0) → ℕ → StoreState → Option (List ℕ) → Option (List ℕ) → Option (List ℕ) → Option (List ℕ) → StoreState → Type 0
Breaks end.Disconnected may size F before after held now G = IsDisconnect before after × IsSilent F held now G
Breaks end.Garbage may size F before after held now G = IsGarbage before after × IsSilent F held now G
Breaks end.Cut may size F before after held now G = IsCutOff end.Cut before after × IsSilent F held now G
Breaks end.ReadFault may size F before after held now G = IsCutOff end.ReadFault before after × IsSilent F held now G
Breaks end.WriteFault may size F before after held now G = IsAnsweredInPart may size F before after held now G
Breaks end.Limit may size F before after held now G = ⊥
Breaks end.Aborted may size F before after held now G = ⊥
Breaks end.Memory may size F before after held now G = ⊥

-- after how many requests a session stops
abbrev pub most_requests : ℕ
most_requests = 2 ^ 64 - 1

-- what a session stops at after n exchanges, by how it ends: at the limit, without memory for its buffers, or at a request
abbrev pub Stops : End → ℕ → (StoreFault → Type 0) → ℕ → StoreState → Option (List ℕ) → Option (List ℕ) → Option (List ℕ) → Option (List ℕ) → StoreState → Type 0
Stops end.Limit n may size F before after held now G = (n ≡ most_requests) × (after ≡ before) × IsSilent F held now G
Stops end.Memory n may size F before after held now G = (n ≡ 0) × (after ≡ before) × IsSilent F held now G
Stops last n may size F before after held now G = Breaks last may size F before after held now G

-- from state F on: whole exchanges, and then what the session stops at. The store represents the state at the end
pub record Serves {S : Type 0} (type : StoreType S) (may : StoreFault → Type 0) (size : ℕ) (F : StoreState) (first : Shown) (old new : S) (last : End) (before after held now : Option (List ℕ)) : Type 0 where
  pub exchanges : List Exchange
  pub state : StoreState
  pub runs : RunsSession may size F exchanges state
  pub left : Option (List ℕ)
  pub read : Consumes before left (flat_map asked_by exchanges)
  pub written : Option (List ℕ)
  pub wrote : Appends held written (flat_map replied_by exchanges)
  pub final : StoreState
  pub represented : type.represents new final
  pub stops : Stops last (length exchanges) may size state left after written now final
  pub endures : Endures type may size F exchanges state runs final first old new
