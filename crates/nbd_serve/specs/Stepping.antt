-- One request of a session.
use Rattle.std.specs.Prelude.{ℕ, List, Option, Some, None}
use Rattle.std.specs.Io.KnownBytes.{Appends, Consumes}
use Rattle.byte_store.specs.declared.fault.StoreFault.{StoreFault}
use Rattle.byte_store.specs.Flat.{StoreState}
use Rattle.nbd_wire.specs.declared.request.Request.{Request}
use Rattle.nbd_serve.specs.Exchanges.{Exchange, IsExchange, asked_by}
use Rattle.nbd_serve.specs.Serving.{Breaks}
use Rattle.nbd_serve.specs.declared.end.End.{End}
use Rattle.nbd_serve.specs.Halts.{end_of}
use Rattle.nbd_serve.specs.declared.halt.Halt.{Halt}

-- a whole exchange. `leaves` says more of the next state, by the request and the reply
pub record IsWholeExchange (leaves : Request → List ℕ → StoreState → Type 0) (may : StoreFault → Type 0) (size : ℕ) (F : StoreState) (before after held now : Option (List ℕ)) : Type 0 where
  pub exchange : Exchange
  pub next : StoreState
  pub next_is : leaves exchange.request exchange.reply next
  pub is : IsExchange may size F exchange next
  pub read : Consumes before after (asked_by exchange)
  pub wrote : Appends held now exchange.reply

-- what the session stops at. `ends` says more of the final state
pub record IsStop (ends : StoreState → Type 0) (last : End) (may : StoreFault → Type 0) (size : ℕ) (F : StoreState) (before after held now : Option (List ℕ)) : Type 0 where
  pub final : StoreState
  pub final_is : ends final
  pub stops : Breaks last may size F before after held now final

-- an exchange, or a stop
abbrev pub IsDoneOrStop : (Request → List ℕ → StoreState → Type 0) → (StoreState → Type 0) → Option Halt → (StoreFault → Type 0) → ℕ → StoreState → Option (List ℕ) → Option (List ℕ) → Option (List ℕ) → Option (List ℕ) → Type 0
IsDoneOrStop leaves ends None may size F before after held now = IsWholeExchange leaves may size F before after held now
IsDoneOrStop leaves ends (Some last) may size F before after held now = IsStop ends (end_of last) may size F before after held now
