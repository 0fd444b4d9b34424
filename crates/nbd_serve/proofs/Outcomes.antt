-- Answers to requests that the store was asked for.
use Rattle.std.proofs.Common.{◌≡◌, ℕ, List, [], length, replicate, Bool, true, false, if◌then◌else◌, ◌⊎◌, Option, Some, None, Result, Ok, Err, refl, sym, ap, subst, ◌∙◌, inl, inr}
use Rattle.std.specs.Prelude.{IfErr, MatchOption}
use Rattle.std.proofs.KnownBytes.{Consumes-nil}
use Rattle.byte_store.specs.Flat.{StoreState}
use Rattle.byte_store.specs.Changes.{IsFlushed}
use Rattle.byte_store.specs.declared.fault.StoreFault.{StoreFault}
use Rattle.nbd_wire.specs.declared.reply.Errno.{Errno}
use Rattle.nbd_wire.specs.declared.reply.Errno.TheVariants as errno
use Rattle.nbd_wire.specs.declared.request.Command.{Command}
use Rattle.nbd_wire.specs.declared.request.Command.TheVariants as command
use Rattle.nbd_wire.specs.declared.request.Request.{Request}
use Rattle.nbd_wire.specs.Requests.{carried_by, carried_len, has_known_flags, is_forced}
use Rattle.nbd_wire.specs.Replies.{reply_bytes}
use Rattle.nbd_serve.specs.Refusals.{error_of, refusal_by, refusal_of}
use Rattle.nbd_serve.specs.Answers.{AnswersRequest, Causes, Does, IsCarriedOut, IsErrorReply, Stores, bytes_read}
use Rattle.nbd_serve.specs.Answering.{IsAnswered, IsReadReply, IsWriteServed}
use Rattle.nbd_serve.specs.Streams.{Skips}
use Rattle.nbd_serve.proofs.Replying.{no_bytes_written}

-- an answer by what the request's refusal is
not_refused : (may : StoreFault → Type 0) (size : ℕ) (F : StoreState) (r : Request) (carried reply : List ℕ) (G : StoreState) → refusal_of size r ≡ None
    → IsCarriedOut may F r carried reply G → AnswersRequest may size F r carried reply G
not_refused may size F r carried reply G asked out =
    let P : Option Errno → Type 0 = λ o. MatchOption o (IsCarriedOut may F r carried reply G) (λ error. IsErrorReply F r error reply G) in
    subst P (sym asked) out

-- the cause of a command's refusal
causes_by : (may : StoreFault → Type 0) (is : Command) (outcome : Result (Unit {0}) StoreFault) (r : Request) → r.command ≡ is
    → Causes may is outcome → Causes may r.command outcome
causes_by may is outcome r same cause = let P : Command → Type 0 = λ c. Causes may c outcome in subst P (sym same) cause

-- what a command does, and how many bytes it carries
does_by : (is : Command) (outcome : Result (Unit {0}) StoreFault) (F : StoreState) (r : Request) (carried read : List ℕ) (G : StoreState)
    → r.command ≡ is → Does is outcome F r carried read G → Does r.command outcome F r carried read G
does_by is outcome F r carried read G same does =
    let P : Command → Type 0 = λ c. Does c outcome F r carried read G in subst P (sym same) does

carries_by : (is : Command) (r : Request) (carried : List ℕ) → r.command ≡ is → length carried ≡ carried_by is r.length
    → length carried ≡ carried_len r
carries_by is r carried same size = size ∙ ap (λ c. carried_by c r.length) (sym same)

-- a write is refused as the store refuses it
pub write_cause : (may : StoreFault → Type 0) (outcome : Result (Unit {0}) StoreFault) → IfErr outcome may → Causes may command.Write outcome
write_cause may (Ok u) cause = tt
write_cause may (Err reason) cause = inl cause

-- a write. `says` is what the reply says of the state that it left
pub write_answered : (stored : StoreState → Type 0) (leaves : Request → List ℕ → StoreState → Type 0) (may : StoreFault → Type 0) (size : ℕ) (F : StoreState) (r : Request)
    (outcome : Result (Unit {0}) StoreFault) (before after : Option (List ℕ)) (error : Option Errno) (reply : List ℕ) → refusal_of size r ≡ None
    → r.command ≡ command.Write → IsWriteServed may stored outcome F r before after → ((G : StoreState) → stored G → leaves r reply G) → error ≡ error_of outcome
    → reply ≡ reply_bytes error r.cookie → IsAnswered leaves may size F r before after reply
write_answered stored leaves may size F r outcome before after error reply asked is taken says same written = record {
  carried = taken.carried;
  carries = carries_by command.Write r taken.carried is taken.size;
  read = taken.read;
  next = taken.next;
  next_is = says taken.next taken.next_is;
  answers = not_refused may size F r taken.carried reply taken.next asked (record {
    outcome = outcome;
    cause = causes_by may command.Write outcome r is taken.cause;
    read = [];
    does = does_by command.Write outcome F r taken.carried [] taken.next is (refl, taken.stores);
    reply_is = no_bytes_written error r.cookie outcome reply same written;
  });
}

-- a command that carries and reads no bytes
quiet_answered : (is : Command) (leaves : Request → List ℕ → StoreState → Type 0) (may : StoreFault → Type 0) (size : ℕ) (F : StoreState) (r : Request) (outcome : Result (Unit {0}) StoreFault)
    (before : Option (List ℕ)) (error : Option Errno) (reply : List ℕ) (G : StoreState) → refusal_of size r ≡ None → r.command ≡ is
    → 0 ≡ carried_by is r.length → Causes may is outcome → leaves r reply G → Does is outcome F r [] [] G → error ≡ error_of outcome
    → reply ≡ reply_bytes error r.cookie → IsAnswered leaves may size F r before before reply
quiet_answered is leaves may size F r outcome before error reply G asked same none cause next_is does error_is written = record {
  carried = [];
  carries = carries_by is r [] same none;
  read = Consumes-nil before;
  next = G;
  next_is = next_is;
  answers = not_refused may size F r [] reply G asked (record {
    outcome = outcome;
    cause = causes_by may is outcome r same cause;
    read = [];
    does = does_by is outcome F r [] [] G same does;
    reply_is = no_bytes_written error r.cookie outcome reply error_is written;
  });
}

pub trim_answered : (stored : StoreState → Type 0) (leaves : Request → List ℕ → StoreState → Type 0) (may : StoreFault → Type 0) (size : ℕ) (F : StoreState) (r : Request)
    (outcome : Result (Unit {0}) StoreFault) (before : Option (List ℕ)) (error : Option Errno) (reply : List ℕ) → refusal_of size r ≡ None
    → (r.command ≡ command.Trim) ⊎ (r.command ≡ command.WriteZeroes)
    → IfErr outcome may → (G : StoreState) × stored G × Stores outcome (is_forced r) F r.offset (replicate r.length 0) G
    → ((G : StoreState) → stored G → leaves r reply G) → error ≡ error_of outcome → reply ≡ reply_bytes error r.cookie
    → IsAnswered leaves may size F r before before reply
trim_answered stored leaves may size F r outcome before error reply asked (inl is) cause left says error_is written =
    quiet_answered command.Trim leaves may size F r outcome before error reply left.0 asked is refl cause (says left.0 left.1) (refl, left.2)
    error_is written
trim_answered stored leaves may size F r outcome before error reply asked (inr is) cause left says error_is written =
    quiet_answered command.WriteZeroes leaves may size F r outcome before error reply left.0 asked is refl cause (says left.0 left.1) (refl, left.2)
    error_is written

pub flush_answered : (represents : StoreState → Type 0) (leaves : Request → List ℕ → StoreState → Type 0) (may : StoreFault → Type 0) (size : ℕ) (F : StoreState) (r : Request)
    (outcome : Result (Unit {0}) StoreFault) (before : Option (List ℕ)) (error : Option Errno) (reply : List ℕ) → refusal_of size r ≡ None
    → r.command ≡ command.Flush → IfErr outcome may → (G : StoreState) × represents G × IsFlushed outcome F G
    → ((G : StoreState) → represents G → IsFlushed outcome F G → leaves r reply G) → error ≡ error_of outcome → reply ≡ reply_bytes error r.cookie
    → IsAnswered leaves may size F r before before reply
flush_answered represents leaves may size F r outcome before error reply asked is cause flushed says error_is written =
    quiet_answered command.Flush leaves may size F r outcome before error reply flushed.0 asked is refl cause (says flushed.0 flushed.1 flushed.2)
    (refl, flushed.2) error_is written

pub cache_answered : (leaves : Request → List ℕ → StoreState → Type 0) (may : StoreFault → Type 0) (size : ℕ) (F : StoreState) (r : Request) (before : Option (List ℕ)) (reply : List ℕ)
    → refusal_of size r ≡ None → r.command ≡ command.Cache → leaves r reply F → reply ≡ reply_bytes None r.cookie
    → IsAnswered leaves may size F r before before reply
cache_answered leaves may size F r before reply asked is next_is written =
    quiet_answered command.Cache leaves may size F r (Ok tt) before None reply F asked is refl tt next_is (refl, refl, refl) refl written

-- a read
pub read_answered : (leaves : Request → List ℕ → StoreState → Type 0) (may : StoreFault → Type 0) (size : ℕ) (F : StoreState) (r : Request) (before : Option (List ℕ)) (reply : List ℕ)
    → refusal_of size r ≡ None → r.command ≡ command.Read → leaves r reply F → IsReadReply may F r reply → IsAnswered leaves may size F r before before reply
read_answered leaves may size F r before reply asked is next_is read = record {
  carried = [];
  carries = carries_by command.Read r [] is refl;
  read = Consumes-nil before;
  next = F;
  next_is = next_is;
  answers = not_refused may size F r [] reply F asked (record {
    outcome = read.outcome;
    cause = causes_by may command.Read read.outcome r is read.cause;
    read = bytes_read read.outcome F r;
    does = does_by command.Read read.outcome F r [] (bytes_read read.outcome F r) F is (refl, refl);
    reply_is = read.reply_is;
  });
}

-- a request that was refused
pub refused_answered : (leaves : Request → List ℕ → StoreState → Type 0) (may : StoreFault → Type 0) (size : ℕ) (F : StoreState) (r : Request) (before after : Option (List ℕ)) (error : Errno) (reply : List ℕ)
    → refusal_of size r ≡ Some error → Skips before after (carried_len r) → leaves r reply F → reply ≡ reply_bytes (Some error) r.cookie
    → IsAnswered leaves may size F r before after reply
refused_answered leaves may size F r before after error reply refused skipped next_is written =
    let P : Option Errno → Type 0 = λ o. MatchOption o (IsCarriedOut may F r skipped.bytes reply F) (λ error. IsErrorReply F r error reply F) in
    record {
      carried = skipped.bytes;
      carries = skipped.size;
      read = skipped.read;
      next = F;
      next_is = next_is;
      answers = subst P (sym refused) (record { reply_is = written; same = refl });
    }

-- the other commands are refused
no_refusal : (known : Bool) (refusal : Errno) → (if known then Some refusal else Some errno.Invalid) ≡ None → ⊥
no_refusal true refusal none = cc
no_refusal false refusal none = cc

pub leaving_refused : (size : ℕ) (r : Request) → refusal_of size r ≡ None → r.command ≡ command.Disconnect → ⊥
leaving_refused size r asked is =
    let P : Command → Type 0 = λ c. (if has_known_flags r then refusal_by c size r else Some errno.Invalid) ≡ None in
    no_refusal (has_known_flags r) errno.Invalid (subst P is asked)

pub other_refused : (size : ℕ) (r : Request) → refusal_of size r ≡ None → r.command ≡ command.Other → ⊥
other_refused size r asked is =
    let P : Command → Type 0 = λ c. (if has_known_flags r then refusal_by c size r else Some errno.Invalid) ≡ None in
    no_refusal (has_known_flags r) errno.Invalid (subst P is asked)
