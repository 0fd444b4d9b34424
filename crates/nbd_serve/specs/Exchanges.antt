-- Runs of requests and their replies.
use Rattle.std.specs.Prelude.{◌≡◌, ◌≢◌, ℕ, List, [], ◌∷◌, ◌++◌, length}
use Rattle.byte_store.specs.declared.fault.StoreFault.{StoreFault}
use Rattle.byte_store.specs.Flat.{StoreState}
use Rattle.nbd_wire.specs.declared.request.Command.TheVariants as command
use Rattle.nbd_wire.specs.declared.request.Request.{Request}
use Rattle.nbd_wire.specs.Requests.{SpellsRequest, carried_len}
use Rattle.nbd_serve.specs.Answers.{AnswersRequest}

-- a request's 28 bytes and what they spell, the bytes that it carries, and the reply to it
pub record Exchange : Type 0 where
  pub head : List ℕ
  pub request : Request
  pub carried : List ℕ
  pub reply : List ℕ

-- a whole request, and the answer to it in state F, which leaves G
pub record IsExchange (may : StoreFault → Type 0) (size : ℕ) (F : StoreState) (x : Exchange) (G : StoreState) : Type 0 where
  pub whole : length x.head ≡ 28
  pub spells : SpellsRequest x.head x.request
  pub stays : x.request.command ≢ command.Disconnect
  pub carries : length x.carried ≡ carried_len x.request
  pub answers : AnswersRequest may size F x.request x.carried x.reply G

-- exchanges, each from the state that the one before it left
abbrev pub RunsSession : (StoreFault → Type 0) → ℕ → StoreState → List Exchange → StoreState → Type 0
RunsSession may size F [] H = H ≡ F
RunsSession may size F (x ∷ xs) H = (G : StoreState) × IsExchange may size F x G × RunsSession may size G xs H

-- the bytes of the requests, and those of the replies
abbrev pub asked_by : Exchange → List ℕ
asked_by x = x.head ++ x.carried

abbrev pub replied_by : Exchange → List ℕ
replied_by x = x.reply
