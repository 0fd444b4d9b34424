-- Parts of the answer to a request.
use Rattle.std.specs.Prelude.{◌≡◌, ℕ, List, ◌++◌, length, Option, Result}
use Rattle.std.specs.Io.KnownBytes.{Consumes}
use Rattle.byte_store.specs.Flat.{StoreState}
use Rattle.byte_store.specs.declared.fault.StoreFault.{StoreFault}
use Rattle.nbd_wire.specs.declared.request.Command.TheVariants as command
use Rattle.nbd_wire.specs.declared.request.Request.{Request}
use Rattle.nbd_wire.specs.Requests.{carried_len, is_forced}
use Rattle.nbd_wire.specs.Replies.{reply_bytes}
use Rattle.nbd_serve.specs.Refusals.{error_of}
use Rattle.nbd_serve.specs.Answers.{AnswersRequest, Causes, Stores, bytes_read}

-- the reply to a read, by some outcome
pub record IsReadReply (may : StoreFault → Type 0) (F : StoreState) (r : Request) (reply : List ℕ) : Type 0 where
  pub outcome : Result (Unit {0}) StoreFault
  pub cause : Causes may command.Read outcome
  pub reply_is : reply ≡ reply_bytes (error_of outcome) r.cookie ++ bytes_read outcome F r

-- the bytes that a write carries were read, and were written to the store with an outcome. `leaves` says more of the next state
pub record IsWriteServed (may : StoreFault → Type 0) (leaves : StoreState → Type 0) (outcome : Result (Unit {0}) StoreFault) (F : StoreState) (r : Request) (before after : Option (List ℕ)) : Type 0 where
  pub carried : List ℕ
  pub size : length carried ≡ r.length
  pub read : Consumes before after carried
  pub cause : Causes may command.Write outcome
  pub next : StoreState
  pub next_is : leaves next
  pub stores : Stores outcome (is_forced r) F r.offset carried next

-- the bytes that a request carries were read, and it was answered. `leaves` says more of the next state, by the request and the reply
pub record IsAnswered (leaves : Request → List ℕ → StoreState → Type 0) (may : StoreFault → Type 0) (size : ℕ) (F : StoreState) (r : Request) (before after : Option (List ℕ)) (reply : List ℕ) : Type 0 where
  pub carried : List ℕ
  pub carries : length carried ≡ carried_len r
  pub read : Consumes before after carried
  pub next : StoreState
  pub next_is : leaves r reply next
  pub answers : AnswersRequest may size F r carried reply next
