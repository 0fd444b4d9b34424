-- What a kill or a loss of power leaves of a store that was called for a request.
use Rattle.std.specs.Prelude.{◌≡◌, ℕ, ◌⊎◌, List, [], ◌∷◌, Bool, true, false, IsTrue, None}
use Rattle.byte_store.specs.Flat.{StoreState}
use Rattle.byte_store.specs.Lasting.{Acknowledges, Flushes, Lasts, Shown, ShowsState}
use Rattle.nbd_wire.specs.declared.request.Command.{Command}
use Rattle.nbd_wire.specs.declared.request.Command.TheVariants as command
use Rattle.nbd_wire.specs.declared.request.Request.{Request}
use Rattle.nbd_wire.specs.Requests.{is_forced}
use Rattle.nbd_wire.specs.Replies.{reply_bytes}

-- What a type of stores says of its values: the flat stores that one represents, its keys, what each call leaves as it is, and what it
-- shows again after a stop now, or at some moment since t: one of the first list after a kill, of the second after a loss of power.
pub record StoreType (S : Type 0) : Type 1 where
  pub represents : S → StoreState → Type 0
  pub keys : S → List ℕ
  pub stays : S → S → Type 0
  pub outlasts : S → List Shown → List Shown → Type 0
  pub moment : S → ℕ
  pub outlasts_since : S → ℕ → List Shown → List Shown → Type 0

abbrev pub store_type : {S : Type 0} → (S → StoreState → Type 0) → (S → List ℕ) → (S → S → Type 0) → (S → List Shown → List Shown → Type 0) → (S → ℕ)
    → (S → ℕ → List Shown → List Shown → Type 0) → StoreType S
store_type represents keys stays outlasts moment outlasts_since =
    record { represents = represents; keys = keys; stays = stays; outlasts = outlasts; moment = moment; outlasts_since = outlasts_since }

-- a store represents a flat state, and shows this in it
pub record IsStoreAt {S : Type 0} (type : StoreType S) (store : S) (F : StoreState) (what : Shown) : Type 0 where
  pub represented : type.represents store F
  pub shown : ShowsState (type.keys store) F what

-- a store comes from another by calls, each of which left it as its type says; the list has the store after each
abbrev pub Path : {S : Type 0} → (S → S → Type 0) → S → List S → S → Type 0
Path stays old [] new = new ≡ old
Path stays old (s ∷ after) new = stays old s × Path stays s after new

abbrev pub Comes : {S : Type 0} → (S → S → Type 0) → S → S → Type 0
Comes {S} stays old new = (after : List S) × Path stays old after new

-- the store is the one before, or it was called, and the change is there whole or not at all
abbrev pub Survives : {S : Type 0} → StoreType S → Shown → Shown → S → S → Type 0
Survives type before now old new = ((new ≡ old) × (now ≡ before)) ⊎ Lasts type.outlasts type.moment type.outlasts_since before now old new

-- A request to a store that showed `before` left it in state G. If it changed bytes, a kill leaves what the store shows now; if it made
-- all durable, any stop does.
pub record LeavesStore {S : Type 0} (type : StoreType S) (changed durable : Type 0) (before : Shown) (old new : S) (G : StoreState) : Type 0 where
  pub came : Comes type.stays old new
  pub now : Shown
  pub is : IsStoreAt type new G now
  pub survives : Survives type before now old new
  pub acknowledged : changed → Acknowledges type.outlasts before now old new
  pub flushed : durable → Flushes type.outlasts now old new

-- a call that leaves what is shown, and if it made all durable, any stop does
pub record LeavesShown {S : Type 0} (type : StoreType S) (durable : Type 0) (what : Shown) (old new : S) (G : StoreState) : Type 0 where
  pub came : Comes type.stays old new
  pub is : IsStoreAt type new G what
  pub survives : Survives type what what old new
  pub flushed : durable → Flushes type.outlasts what old new

-- a request to change bytes
abbrev pub is_change : Command → Bool
is_change command.Write = true
is_change command.Trim = true
is_change command.WriteZeroes = true
is_change _ = false

-- a request after which all bytes are durable: a flush, or a change with FUA set
abbrev pub secures : Command → Bool → Bool
secures command.Flush forced = true
secures command.Write forced = forced
secures command.Trim forced = forced
secures command.WriteZeroes forced = forced
secures _ forced = false

-- the reply says that bytes were changed, and that all are durable
abbrev pub SaysChanged : Request → List ℕ → Type 0
SaysChanged r reply = IsTrue (is_change r.command) × (reply ≡ reply_bytes None r.cookie)

abbrev pub SaysDurable : Request → List ℕ → Type 0
SaysDurable r reply = IsTrue (secures r.command (is_forced r)) × (reply ≡ reply_bytes None r.cookie)

-- what a request left, by the reply to it
abbrev pub LeavesBy : {S : Type 0} → StoreType S → Shown → S → S → Request → List ℕ → StoreState → Type 0
LeavesBy type before old new r reply G = LeavesStore type (SaysChanged r reply) (SaysDurable r reply) before old new G
