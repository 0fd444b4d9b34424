-- What stops leave of a store after one call, and then after another.
use Rattle.std.proofs.Common.{◌≡◌, ℕ, List, [], ◌∷◌, ◌++◌, Bool, true, false, if◌then◌else◌, Result, Ok, Err, inl, inr, refl, sym, ap, subst, ◌∙◌, arith}
use Rattle.std.specs.Prelude.{Contains, IsOk, OnOk, not}
use Rattle.std.proofs.lemmas.Bool.{false≢true}
use Rattle.std.proofs.lemmas.List.Elements.{Contains-append_right, Contains-get_or}
use Rattle.byte_store.specs.Flat.{StoreState}
use Rattle.byte_store.specs.Lasting.{Acknowledges, Covers, Flushes, Lasts, SameKeys, Shown, ShowsState}
use Rattle.byte_store.proofs.Lasts.{covering, lasts_ahead}
use Rattle.byte_store.specs.declared.fault.StoreFault.{StoreFault}
use Rattle.byte_store.specs.Changes.{IsFlushed, IsOverwritten}
use Rattle.nbd_serve.specs.Answers.{Stores}
use Rattle.nbd_serve.specs.Forcing.{Forces}
use Rattle.nbd_serve.specs.Stopping.{Comes, IsStoreAt, LeavesShown, LeavesStore, Path, StoreType, Survives}

-- the head of a list, and what the rest has
pub has_head : {X : Type 0} (x : X) (xs : List X) → Contains (x ∷ xs) x
has_head x xs = Contains-get_or (x ∷ xs) 0 x (omega arith)

pub has_rest : {X : Type 0} (x b : X) (xs : List X) → Contains xs b → Contains (x ∷ xs) b
has_rest x b xs has = Contains-append_right (x ∷ []) xs b has

-- a list covers itself
pub covers_itself : {X : Type 0} (more some : List X) (before now : X) → Covers more some before now → Covers more more now now
covers_itself more some before now covers = record { each = λ b has. has; has_before = covers.has_now; has_now = covers.has_now }

-- calls one after another
pub path_more : {S : Type 0} (stays : S → S → Type 0) (after : List S) (old mid new : S) → Path stays old after mid → Comes stays mid new → Comes stays old new
path_more {S} stays [] old mid new same more = let P : S → Type 0 = λ s. Comes stays s new in subst P same more
path_more stays (s ∷ after) old mid new first more =
    let rest = path_more stays after s mid new first.1 more in (s ∷ rest.0, (first.0, rest.1))

pub comes_on : {S : Type 0} (stays : S → S → Type 0) (old mid new : S) → Comes stays old mid → Comes stays mid new → Comes stays old new
comes_on stays old mid new first more = path_more stays first.0 old mid new first.1 more

-- one call, and none
pub came_one : {S : Type 0} (stays : S → S → Type 0) (old new : S) → stays old new → Comes stays old new
came_one stays old new is = (new ∷ [], (is, refl))

pub came_none : {S : Type 0} (stays : S → S → Type 0) (old new : S) → new ≡ old → Comes stays old new
came_none stays old new same = ([], same)

-- a store always shows the bytes of its state and its keys
pub at_own : {S : Type 0} (type : StoreType S) (store : S) (F : StoreState) → type.represents store F → IsStoreAt type store F (record { bytes = F.bytes; keys = type.keys store })
at_own type store F represented = record { represented = represented; shown = record { bytes_are = refl; keys_are = λ k. refl } }

-- what a kill leaves, after one more call
pub acknowledges_on : {S : Type 0} (type : StoreType S) (before now : Shown) (old mid new : S)
    → Acknowledges type.outlasts before now old mid → Lasts type.outlasts type.moment type.outlasts_since now now mid new → Acknowledges type.outlasts before now old new
acknowledges_on type before now old mid new first second = λ killed cut more_cut holds covers.
    second.following (now ∷ []) more_cut (now ∷ []) more_cut (first killed cut more_cut holds covers)
    (record { each = λ b has. has; has_before = has_head now []; has_now = has_head now [] }) (covers_itself more_cut cut before now covers)

-- a call, and then none or one more that leaves what is shown
pub survives_on : {S : Type 0} (type : StoreType S) (before now : Shown) (old mid new : S)
    → Lasts type.outlasts type.moment type.outlasts_since before now old mid → Survives type now now mid new
    → Lasts type.outlasts type.moment type.outlasts_since before now old new
survives_on {S} type before now old mid new first (inl still) =
    let P : S → Type 0 = λ s. Lasts type.outlasts type.moment type.outlasts_since before now old s in subst P (sym still.0) first
survives_on {S} type before now old mid new first (inr second) = lasts_ahead type.outlasts type.moment type.outlasts_since before now old mid new first second

-- what a kill leaves, after none or one more
pub acknowledged_on : {S : Type 0} (type : StoreType S) (before now : Shown) (old mid new : S)
    → Acknowledges type.outlasts before now old mid → Survives type now now mid new → Acknowledges type.outlasts before now old new
acknowledged_on {S} type before now old mid new first (inl still) =
    let P : S → Type 0 = λ s. Acknowledges type.outlasts before now old s in subst P (sym still.0) first
acknowledged_on {S} type before now old mid new first (inr second) = acknowledges_on type before now old mid new first second

-- what a flush leaves, after a call
pub flushed_on : {S : Type 0} (type : StoreType S) (before now : Shown) (old mid new : S)
    → Lasts type.outlasts type.moment type.outlasts_since before now old mid → Flushes type.outlasts now mid new → Flushes type.outlasts now old new
flushed_on type before now old mid new first second = λ killed cut holds.
    second (killed ++ before ∷ now ∷ []) (cut ++ before ∷ now ∷ [])
    (first.following killed cut (killed ++ before ∷ now ∷ []) (cut ++ before ∷ now ∷ []) holds (covering killed before now) (covering cut before now))

-- bytes that were changed, and then made durable if that was asked for
pub leaves_on : {S : Type 0} (type : StoreType S) (changed durable : Type 0) (before now : Shown) (G : StoreState) (old mid new : S)
    → Comes type.stays old mid → Lasts type.outlasts type.moment type.outlasts_since before now old mid → (changed → Acknowledges type.outlasts before now old mid)
    → LeavesShown type durable now mid new G → LeavesStore type changed durable before old new G
leaves_on type changed durable before now G old mid new came lasts acknowledged forced = record {
  came = comes_on type.stays old mid new came forced.came;
  now = now;
  is = forced.is;
  survives = inr (survives_on type before now old mid new lasts forced.survives);
  acknowledged = λ done. acknowledged_on type before now old mid new (acknowledged done) forced.survives;
  flushed = λ done. flushed_on type before now old mid new lasts (forced.flushed done);
}

-- one call that was refused
pub leaves_refused : {S : Type 0} (type : StoreType S) (outcome : Result (Unit {0}) StoreFault) → (IsOk outcome → ⊥) → (durable : Type 0) (before now : Shown) (G : StoreState) (old new : S) → type.stays old new → IsStoreAt type new G now
    → Lasts type.outlasts type.moment type.outlasts_since before now old new → LeavesStore type (IsOk outcome) (IsOk outcome × durable) before old new G
leaves_refused type outcome never durable before now G old new stays is lasts = record {
  came = came_one type.stays old new stays;
  now = now;
  is = is;
  survives = inr lasts;
  acknowledged = λ ok. absurd (never ok);
  flushed = λ done. absurd (never done.0);
}

-- one call of which nothing was said
pub leaves_one : {S : Type 0} (type : StoreType S) (before now : Shown) (G : StoreState) (old new : S) → type.stays old new → IsStoreAt type new G now
    → Lasts type.outlasts type.moment type.outlasts_since before now old new → LeavesStore type ⊥ ⊥ before old new G
leaves_one type before now G old new stays is lasts = record {
  came = came_one type.stays old new stays;
  now = now;
  is = is;
  survives = inr lasts;
  acknowledged = λ never. absurd never;
  flushed = λ never. absurd never;
}

-- a flush
pub on_ok : (outcome : Result (Unit {0}) StoreFault) (P : Type 0) → OnOk outcome P → IsOk outcome → P
on_ok (Ok u) P holds ok = holds
on_ok (Err reason) P holds ok = absurd (false≢true ok)

flushed_bytes : (outcome : Result (Unit {0}) StoreFault) (F G : StoreState) → IsFlushed outcome F G → G.bytes ≡ F.bytes
flushed_bytes (Ok u) F G flushed = flushed.0
flushed_bytes (Err reason) F G flushed = ap (λ (H : StoreState). H.bytes) flushed

pub flush_leaves : {S : Type 0} (type : StoreType S) (outcome : Result (Unit {0}) StoreFault) (F G : StoreState) (what : Shown) (old new : S) → ShowsState (type.keys old) F what
    → type.stays old new → SameKeys (type.keys new) (type.keys old) → Lasts type.outlasts type.moment type.outlasts_since what what old new
    → OnOk outcome (Flushes type.outlasts what old new) → type.represents new G → IsFlushed outcome F G → LeavesShown type (IsOk outcome) what old new G
flush_leaves type outcome F G what old new shown stays keys lasts flushes represented flushed = record {
  came = came_one type.stays old new stays;
  is = record {
    represented = represented;
    shown = record { bytes_are = shown.bytes_are ∙ sym (flushed_bytes outcome F G flushed); keys_are = λ k. shown.keys_are k ∙ sym (keys k) };
  };
  survives = inr lasts;
  flushed = on_ok outcome (Flushes type.outlasts what old new) flushes;
}

-- durable only if it was flushed
pub flushed_if : {S : Type 0} (type : StoreType S) {ok : Type 0} (durable : Type 0) → (durable → ok) → (what : Shown) (old new : S) (G : StoreState)
    → LeavesShown type ok what old new G → LeavesShown type durable what old new G
flushed_if type durable to what old new G left = record { came = left.came; is = left.is; survives = left.survives; flushed = λ done. left.flushed (to done) }

-- one that was not asked for
pub unflushed_leaves : {S : Type 0} (type : StoreType S) (durable : Type 0) (F : StoreState) (what : Shown) (store : S) → (durable → ⊥) → IsStoreAt type store F what
    → LeavesShown type durable what store store F
unflushed_leaves type durable F what store never is =
    record { came = came_none type.stays store store refl; is = is; survives = inl (refl, refl); flushed = λ done. absurd (never done) }

-- bytes await a flush unless one was made
unless_forced : (forced unsynced : Bool) → unsynced ≡ true → (if forced then false else unsynced) ≡ not forced
unless_forced true unsynced is = refl
unless_forced false unsynced is = is

-- bytes that were written, and then flushed if that was asked for
pub stored_on : (outcome : Result (Unit {0}) StoreFault) (forced : Bool) (F M G : StoreState) (offset : ℕ) (bytes : List ℕ) → IsOverwritten F offset bytes M → Forces outcome forced M G
    → Stores outcome forced F offset bytes G
stored_on (Ok u) forced F M G offset bytes written forces = record {
  bytes_are = forces.bytes_are ∙ written.bytes_are;
  unsynced = forces.unsynced ∙ unless_forced forced M.unsynced written.unsynced;
}
stored_on (Err fault) forced F M G offset bytes written forces =
    let P : StoreState → Type 0 = λ H. IsOverwritten F offset bytes H in
    inr (forces.1, subst P (sym forces.0) written)

-- no call
pub untouched : {S : Type 0} (type : StoreType S) (F : StoreState) (what : Shown) (old new : S) → new ≡ old → IsStoreAt type old F what → LeavesStore type ⊥ ⊥ what old new F
untouched {S} type F what old new same is =
    let P : S → Type 0 = λ s. IsStoreAt type s F what in record {
      came = came_none type.stays old new same;
      now = what;
      is = subst P (sym same) is;
      survives = inl (same, refl);
      acknowledged = λ never. absurd never;
      flushed = λ never. absurd never;
    }

-- a reply that wasn't whole says nothing
pub unsaid : {S : Type 0} (type : StoreType S) (changed durable : Type 0) (before : Shown) (old new : S) (G : StoreState) → LeavesStore type changed durable before old new G
    → LeavesStore type ⊥ ⊥ before old new G
unsaid type changed durable before old new G left = record {
  came = left.came;
  now = left.now;
  is = left.is;
  survives = left.survives;
  acknowledged = λ never. absurd never;
  flushed = λ never. absurd never;
}

-- a flush by whether it was asked for
pub forces_flush : (outcome : Result (Unit {0}) StoreFault) (forced : Bool) (F G : StoreState) → forced ≡ true → IsFlushed outcome F G → Forces outcome forced F G
forces_flush (Ok u) true F G is flushed = record { bytes_are = flushed.0; unsynced = flushed.1 }
forces_flush (Ok u) false F G is flushed = absurd (false≢true is)
forces_flush (Err reason) forced F G is flushed = (flushed, is)

pub forces_none : (forced : Bool) (F : StoreState) → forced ≡ false → Forces (Ok tt) forced F F
forces_none true F is = absurd (false≢true (sym is))
forces_none false F is = record { bytes_are = refl; unsynced = refl }
