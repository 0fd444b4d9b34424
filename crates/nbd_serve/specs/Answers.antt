-- What a request makes of a flat store, and the reply to it.
use Rattle.std.specs.Prelude.{◌≡◌, ℕ, ◌+◌, ◌⊎◌, List, [], ◌++◌, replicate, slice_range, Bool, not, IsTrue, IfErr, MatchOption, Some, Result, Ok, Err}
use Rattle.byte_store.specs.Flat.{StoreState, written_over}
use Rattle.byte_store.specs.Changes.{IsFlushed, IsTornWrite, IsOverwritten}
use Rattle.byte_store.specs.declared.fault.StoreFault.{StoreFault}
use Rattle.byte_store.specs.declared.fault.StoreFault.TheVariants as fault
use Rattle.nbd_wire.specs.declared.reply.Errno.{Errno}
use Rattle.nbd_wire.specs.declared.request.Command.{Command}
use Rattle.nbd_wire.specs.declared.request.Command.TheVariants as command
use Rattle.nbd_wire.specs.declared.request.Request.{Request}
use Rattle.nbd_wire.specs.Requests.{is_forced}
use Rattle.nbd_wire.specs.Replies.{reply_bytes}
use Rattle.nbd_serve.specs.Refusals.{error_of, refusal_of}

-- bytes were written, and are durable if FUA was set
pub record IsStored (forced : Bool) (F : StoreState) (offset : ℕ) (bytes : List ℕ) (G : StoreState) : Type 0 where
  pub bytes_are : G.bytes ≡ written_over F.bytes offset bytes
  pub unsynced : G.unsynced ≡ not forced

-- a write by its outcome. It was refused in its middle, or all of it was written and the flush for FUA was refused
abbrev pub Stores : Result (Unit {0}) StoreFault → Bool → StoreState → ℕ → List ℕ → StoreState → Type 0
Stores (Ok _) forced F offset bytes G = IsStored forced F offset bytes G
Stores (Err _) forced F offset bytes G = IsTornWrite F offset bytes G ⊎ (IsTrue forced × IsOverwritten F offset bytes G)

-- a read by its outcome: the bytes of the range, or none
abbrev pub bytes_read : Result (Unit {0}) StoreFault → StoreState → Request → List ℕ
bytes_read (Ok _) F r = slice_range F.bytes r.offset (r.offset + r.length)
bytes_read (Err _) F r = []

-- what a command does, by its outcome, to a flat store with the bytes that came with it: the bytes that it reads, and the state after it
abbrev pub Does : Command → Result (Unit {0}) StoreFault → StoreState → Request → List ℕ → List ℕ → StoreState → Type 0
Does command.Read outcome F r carried read G = (read ≡ bytes_read outcome F r) × (G ≡ F)
Does command.Write outcome F r carried read G = (read ≡ []) × Stores outcome (is_forced r) F r.offset carried G
Does command.Trim outcome F r carried read G = (read ≡ []) × Stores outcome (is_forced r) F r.offset (replicate r.length 0) G
Does command.WriteZeroes outcome F r carried read G = (read ≡ []) × Stores outcome (is_forced r) F r.offset (replicate r.length 0) G
Does command.Flush outcome F r carried read G = (read ≡ []) × IsFlushed outcome F G
Does command.Cache outcome F r carried read G = (read ≡ []) × (outcome ≡ Ok tt) × (G ≡ F)
Does command.Disconnect outcome F r carried read G = ⊥
Does command.Other outcome F r carried read G = ⊥

-- a refusal has a cause: the store may refuse so. A read or a write is also refused if there is no memory for its bytes
abbrev pub Causes : (StoreFault → Type 0) → Command → Result (Unit {0}) StoreFault → Type 0
Causes may command.Read outcome = IfErr outcome (λ reason. may reason ⊎ (reason ≡ fault.Memory))
Causes may command.Write outcome = IfErr outcome (λ reason. may reason ⊎ (reason ≡ fault.Memory))
Causes may _ outcome = IfErr outcome may

-- the store was asked: the reply has the request's cookie, the error of the outcome, and the bytes that were read
pub record IsCarriedOut (may : StoreFault → Type 0) (F : StoreState) (r : Request) (carried reply : List ℕ) (G : StoreState) : Type 0 where
  pub outcome : Result (Unit {0}) StoreFault
  pub cause : Causes may r.command outcome
  pub read : List ℕ
  pub does : Does r.command outcome F r carried read G
  pub reply_is : reply ≡ reply_bytes (error_of outcome) r.cookie ++ read

-- the request was refused: the reply has its cookie and the error, and nothing changes
pub record IsErrorReply (F : StoreState) (r : Request) (error : Errno) (reply : List ℕ) (G : StoreState) : Type 0 where
  pub reply_is : reply ≡ reply_bytes (Some error) r.cookie
  pub same : G ≡ F

-- a store of `size` bytes in state F answers a request, and is then in state G
abbrev pub AnswersRequest : (StoreFault → Type 0) → ℕ → StoreState → Request → List ℕ → List ℕ → StoreState → Type 0
AnswersRequest may size F r carried reply G = MatchOption (refusal_of size r) (IsCarriedOut may F r carried reply G) (λ error. IsErrorReply F r error reply G)
