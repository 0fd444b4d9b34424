-- What stops leave behind a request, by the reply to it.
use Rattle.std.proofs.Common.{◌≡◌, ℕ, List, get_or, Bool, true, false, Option, Some, None, Result, Ok, Err, inl, refl, sym, ap, ◌∙◌, arith}
use Rattle.std.specs.Prelude.{IsOk, IsTrue}
use Rattle.std.proofs.lemmas.Bool.{false≢true}
use Rattle.byte_store.specs.Flat.{StoreState}
use Rattle.byte_store.specs.Lasting.{Shown}
use Rattle.byte_store.specs.declared.fault.StoreFault.{StoreFault}
use Rattle.byte_store.specs.declared.fault.StoreFault.TheVariants as fault
use Rattle.nbd_wire.specs.declared.reply.Errno.{Errno}
use Rattle.nbd_wire.specs.declared.reply.Errno.TheVariants as errno
use Rattle.nbd_wire.specs.declared.request.Command.{Command}
use Rattle.nbd_wire.specs.declared.request.Command.TheVariants as command
use Rattle.nbd_wire.specs.declared.request.Request.{Request}
use Rattle.nbd_wire.specs.Requests.{is_forced}
use Rattle.nbd_wire.specs.Replies.{reply_bytes}
use Rattle.nbd_serve.specs.Refusals.{error_of}
use Rattle.nbd_serve.specs.Stopping.{IsStoreAt, LeavesBy, LeavesShown, LeavesStore, StoreType, is_change, secures}
use Rattle.nbd_serve.proofs.Stopping.{came_none}

-- the lowest byte of an error's number
error_byte : (error other : Option Errno) (cookie : ℕ) → reply_bytes error cookie ≡ reply_bytes other cookie → get_or (reply_bytes error cookie) 7 0 ≡ get_or (reply_bytes other cookie) 7 0
unfolding reply_bytes
error_byte error other cookie same = ap (λ bytes. get_or bytes 7 0) same

-- a reply with an error is none without
pub has_error : (error : Errno) (cookie : ℕ) → reply_bytes (Some error) cookie ≡ reply_bytes None cookie → ⊥
unfolding reply_bytes
has_error errno.Io cookie same = let byte : 5 ≡ 0 = error_byte (Some errno.Io) None cookie same in omega (arith, byte)
has_error errno.Memory cookie same = let byte : 12 ≡ 0 = error_byte (Some errno.Memory) None cookie same in omega (arith, byte)
has_error errno.Invalid cookie same = let byte : 22 ≡ 0 = error_byte (Some errno.Invalid) None cookie same in omega (arith, byte)
has_error errno.NoSpace cookie same = let byte : 28 ≡ 0 = error_byte (Some errno.NoSpace) None cookie same in omega (arith, byte)

-- a reply without an error is to an outcome without one
ok_by : (outcome : Result (Unit {0}) StoreFault) (cookie : ℕ) → reply_bytes (error_of outcome) cookie ≡ reply_bytes None cookie → IsOk outcome
ok_by (Ok u) cookie same = refl
ok_by (Err fault.NoSpace) cookie same = absurd (has_error errno.NoSpace cookie same)
ok_by (Err fault.Memory) cookie same = absurd (has_error errno.Memory cookie same)
ok_by (Err fault.Gone) cookie same = absurd (has_error errno.Io cookie same)
ok_by (Err fault.Sync) cookie same = absurd (has_error errno.Io cookie same)

ok_by_reply : (outcome : Result (Unit {0}) StoreFault) (error : Option Errno) (cookie : ℕ) (reply : List ℕ) → error ≡ error_of outcome → reply ≡ reply_bytes error cookie
    → reply ≡ reply_bytes None cookie → IsOk outcome
ok_by_reply outcome error cookie reply error_is written says =
    ok_by outcome cookie (ap (λ e. reply_bytes e cookie) (sym error_is) ∙ sym written ∙ says)

-- a command that changes bytes makes all durable if that was asked for
secures_change : (c : Command) (forced : Bool) → is_change c ≡ true → secures c forced ≡ forced
secures_change command.Write forced is = refl
secures_change command.Trim forced is = refl
secures_change command.WriteZeroes forced is = refl
secures_change command.Read forced is = absurd (false≢true is)
secures_change command.Flush forced is = absurd (false≢true is)
secures_change command.Cache forced is = absurd (false≢true is)
secures_change command.Disconnect forced is = absurd (false≢true is)
secures_change command.Other forced is = absurd (false≢true is)

-- a request that changed bytes
pub change_says : {S : Type 0} (type : StoreType S) (before : Shown) (old new : S) (r : Request)
    (outcome : Result (Unit {0}) StoreFault) (error : Option Errno) (reply : List ℕ) → is_change r.command ≡ true → error ≡ error_of outcome → reply ≡ reply_bytes error r.cookie
    → (G : StoreState) → LeavesStore type (IsOk outcome) (IsOk outcome × IsTrue (is_forced r)) before old new G → LeavesBy type before old new r reply G
change_says type before old new r outcome error reply is error_is written G left = record {
  came = left.came;
  now = left.now;
  is = left.is;
  survives = left.survives;
  acknowledged = λ says. left.acknowledged (ok_by_reply outcome error r.cookie reply error_is written says.1);
  flushed = λ says.
      left.flushed (ok_by_reply outcome error r.cookie reply error_is written says.1, sym (secures_change r.command (is_forced r) is) ∙ says.0);
}

-- a flush
pub flush_says : {S : Type 0} (type : StoreType S) (what : Shown) (old new : S) (r : Request)
    (outcome : Result (Unit {0}) StoreFault) (error : Option Errno) (reply : List ℕ) → r.command ≡ command.Flush → error ≡ error_of outcome → reply ≡ reply_bytes error r.cookie
    → (G : StoreState) → LeavesShown type (IsOk outcome) what old new G → LeavesBy type what old new r reply G
flush_says type what old new r outcome error reply is error_is written G left = record {
  came = left.came;
  now = what;
  is = left.is;
  survives = left.survives;
  acknowledged = λ says. absurd (false≢true (sym (ap is_change is) ∙ says.0));
  flushed = λ says. left.flushed (ok_by_reply outcome error r.cookie reply error_is written says.1);
}

-- a request of which nothing was said
pub quiet_says : {S : Type 0} (type : StoreType S) (before : Shown) (old new : S) (r : Request) (reply : List ℕ) (G : StoreState)
    → (is_change r.command ≡ false) → ((forced : Bool) → secures r.command forced ≡ false) → LeavesStore type ⊥ ⊥ before old new G → LeavesBy type before old new r reply G
quiet_says type before old new r reply G none never left = record {
  came = left.came;
  now = left.now;
  is = left.is;
  survives = left.survives;
  acknowledged = λ says. absurd (false≢true (sym none ∙ says.0));
  flushed = λ says. absurd (false≢true (sym (never (is_forced r)) ∙ says.0));
}

-- a request that was refused
pub refusal_says : {S : Type 0} (type : StoreType S) (F : StoreState) (what : Shown) (store : S) (r : Request) (error : Errno) (reply : List ℕ)
    → reply ≡ reply_bytes (Some error) r.cookie → IsStoreAt type store F what → LeavesBy type what store store r reply F
refusal_says type F what store r error reply written is = record {
  came = came_none type.stays store store refl;
  now = what;
  is = is;
  survives = inl (refl, refl);
  acknowledged = λ says. absurd (has_error error r.cookie (sym written ∙ says.1));
  flushed = λ says. absurd (has_error error r.cookie (sym written ∙ says.1));
}
