-- How exchanges follow one another.
use Rattle.std.proofs.Common.{◌≡◌, ◌≢◌, ℕ, ◌+◌, List, [], ◌∷◌, ◌++◌, length, inr, Option, refl, sym, ap, subst, ◌∙◌, append_assoc, append-nil}
use Rattle.std.proofs.lemmas.List.{length_push}
use Rattle.std.specs.List.{flat_map}
use Rattle.std.specs.Io.KnownBytes.{Appends, Consumes}
use Rattle.std.proofs.KnownBytes.{Appends-nil, Appends-trans, Consumes-nil, Consumes-trans}
use Rattle.byte_store.specs.declared.fault.StoreFault.{StoreFault}
use Rattle.byte_store.specs.Flat.{StoreState}
use Rattle.byte_store.specs.Lasting.{Lasts, Shown, ShowsState}
use Rattle.byte_store.proofs.Lasts.{lasts_as_now}
use Rattle.nbd_serve.specs.Exchanges.{Exchange, RunsSession, asked_by, replied_by}
use Rattle.nbd_serve.specs.Serving.{Breaks, IsCutOff, Serves, Stops, most_requests}
use Rattle.nbd_serve.specs.Streams.{IsPartWritten, IsShort, end_by}
use Rattle.nbd_serve.specs.Answering.{IsAnswered}
use Rattle.nbd_serve.specs.declared.calls.Short.{Short}
use Rattle.nbd_serve.specs.declared.calls.Short.TheVariants as short
use Rattle.nbd_wire.specs.declared.request.Command.TheVariants as command
use Rattle.nbd_wire.specs.declared.request.Request.{Request}
use Rattle.nbd_wire.specs.Requests.{SpellsRequest, carried_len}
use Rattle.nbd_serve.specs.Stepping.{IsWholeExchange, IsStop}
use Rattle.nbd_serve.specs.Stopping.{IsStoreAt, LeavesBy, LeavesStore, StoreType}
use Rattle.nbd_serve.proofs.Stopping.{at_own, came_one}
use Rattle.nbd_serve.specs.Enduring.{Endures}
use Rattle.nbd_serve.proofs.Enduring.{AtLast, endures_last, endures_more, endures_none, runs_more, shown_last}
use Rattle.nbd_serve.specs.declared.end.End.{End}
use Rattle.nbd_serve.specs.declared.end.End.TheVariants as end

-- n exchanges were made, and the store rested after each
pub record IsAlong {S : Type 0} (type : StoreType S) (may : StoreFault → Type 0) (size n : ℕ) (F : StoreState) (first : Shown) (old new : S) (before after held now : Option (List ℕ)) : Type 0 where
  pub exchanges : List Exchange
  pub count : length exchanges ≡ n
  pub state : StoreState
  pub runs : RunsSession may size F exchanges state
  pub read : Consumes before after (flat_map asked_by exchanges)
  pub wrote : Appends held now (flat_map replied_by exchanges)
  pub endures : Endures type may size F exchanges state runs state first old new
  pub at : AtLast type may size F exchanges state runs first old new endures

-- none was made
pub along_none : {S : Type 0} (type : StoreType S) (may : StoreFault → Type 0) (size : ℕ) (F : StoreState) (first : Shown) (store : S) (before held : Option (List ℕ)) → IsStoreAt type store F first
    → IsAlong type may size 0 F first store store before before held held
along_none type may size F first store before held is = record {
  exchanges = [];
  count = refl;
  state = F;
  runs = refl;
  read = Consumes-nil before;
  wrote = Appends-nil held;
  endures = (endures_none type may size F first store is).0;
  at = (endures_none type may size F first store is).1;
}

-- the bytes of one more
bytes_more : (f : Exchange → List ℕ) (xs : List Exchange) (x : Exchange) → flat_map f (xs ++ x ∷ []) ≡ flat_map f xs ++ f x
bytes_more f [] x = append-nil (f x)
bytes_more f (y ∷ xs) x = ap (λ bytes. f y ++ bytes) (bytes_more f xs x) ∙ sym (append_assoc (f y) (flat_map f xs) (f x))

-- one exchange after n, after which the store rested
pub along_more : {S : Type 0} (type : StoreType S) (may : StoreFault → Type 0) (size n : ℕ) (F : StoreState) (first : Shown) (old store rests new : S) (before mid after held written now : Option (List ℕ))
    → IsAlong type may size n F first old store before mid held written
    → ((G : StoreState) (b : Shown) → IsStoreAt type store G b → IsWholeExchange (LeavesBy type b store rests) may size G mid after written now)
    → ((G : StoreState) → type.represents rests G → type.represents new G) → ((G : StoreState) → type.represents rests G → type.stays rests new)
    → ((G : StoreState) (b : Shown) → type.represents rests G → ShowsState (type.keys new) G b → Lasts type.outlasts type.moment type.outlasts_since b b rests new)
    → IsAlong type may size (n + 1) F first old new before after held now
along_more type may size n F first old store rests new before mid after held written now along step kept stays lasts =
    let e = along.endures in
    let done = step along.state (shown_last first e.rounds) (subst (λ (b : Shown). IsStoreAt type store along.state b) along.at e.is) in
    let asked = bytes_more asked_by along.exchanges done.exchange in
    let replied = bytes_more replied_by along.exchanges done.exchange in
    let left = done.next_is in
    let there = at_own type new done.next (kept done.next left.is.represented) in
    let next = endures_more type may size F along.exchanges along.state done.exchange done.next along.runs done.is first
    old store rests new e along.at left _ (came_one type.stays rests new (stays done.next left.is.represented)) there
    (lasts_as_now type.outlasts type.moment type.outlasts_since left.now _ rests new (lasts done.next _ left.is.represented there.shown)) in
    let P : List ℕ → Type 0 = λ xs. Consumes before after xs in
    let Q : List ℕ → Type 0 = λ xs. Appends held now xs in record {
      exchanges = along.exchanges ++ done.exchange ∷ [];
      count = length_push along.exchanges done.exchange ∙ ap (λ k. k + 1) along.count;
      state = done.next;
      runs = runs_more may size F along.exchanges along.state done.exchange done.next along.runs done.is;
      read = subst P (sym asked) (Consumes-trans before mid after _ _ along.read done.read);
      wrote = subst Q (sym replied) (Appends-trans held written now _ _ along.wrote done.wrote);
      endures = next.0;
      at = next.1;
    }

-- a stop at a request
stop_at : (last : End) (n : ℕ) (may : StoreFault → Type 0) (size : ℕ) (F : StoreState) (before after held now : Option (List ℕ)) (G : StoreState)
    → Breaks last may size F before after held now G → Stops last n may size F before after held now G
stop_at end.Disconnected n may size F before after held now G stops = stops
stop_at end.Garbage n may size F before after held now G stops = stops
stop_at end.Cut n may size F before after held now G stops = stops
stop_at end.ReadFault n may size F before after held now G stops = stops
stop_at end.WriteFault n may size F before after held now G stops = stops
stop_at end.Limit n may size F before after held now G stops = absurd stops
stop_at end.Aborted n may size F before after held now G stops = absurd stops
stop_at end.Memory n may size F before after held now G stops = absurd stops

-- exchanges, and a stop
pub served : {S : Type 0} (type : StoreType S) (last : End) (may : StoreFault → Type 0) (size n : ℕ) (F : StoreState) (first : Shown) (old store new : S) (before mid after held written now : Option (List ℕ))
    → IsAlong type may size n F first old store before mid held written
    → ((G : StoreState) (b : Shown) → IsStoreAt type store G b → IsStop (LeavesStore type ⊥ ⊥ b store new) last may size G mid after written now)
    → Serves type may size F first old new last before after held now
served type last may size n F first old store new before mid after held written now along step =
    let e = along.endures in
    let stop = step along.state (shown_last first e.rounds) (subst (λ (b : Shown). IsStoreAt type store along.state b) along.at e.is) in record {
      exchanges = along.exchanges;
      state = along.state;
      runs = along.runs;
      left = mid;
      read = along.read;
      written = written;
      wrote = along.wrote;
      final = stop.final;
      represented = stop.final_is.is.represented;
      stops = stop_at last (length along.exchanges) may size along.state mid after written now stop.final stop.stops;
      endures = endures_last type may size F along.exchanges along.state along.runs stop.final first old store new e along.at stop.final_is;
    }

-- as many exchanges as a session may have
pub served_most : {S : Type 0} (type : StoreType S) (may : StoreFault → Type 0) (size n : ℕ) (F : StoreState) (first : Shown) (old new : S) (before after held now : Option (List ℕ))
    → IsAlong type may size n F first old new before after held now → n ≡ most_requests → Serves type may size F first old new end.Limit before after held now
served_most type may size n F first old new before after held now along most = record {
  exchanges = along.exchanges;
  state = along.state;
  runs = along.runs;
  left = after;
  read = along.read;
  written = now;
  wrote = along.wrote;
  final = along.state;
  represented = along.endures.is.represented;
  stops = (along.count ∙ most, refl, record { held_is = refl; same = refl });
  endures = along.endures;
}

-- no exchange, where there is no memory
pub served_none : {S : Type 0} (type : StoreType S) (may : StoreFault → Type 0) (size : ℕ) (F : StoreState) (first : Shown) (store : S) (before held : Option (List ℕ)) → IsStoreAt type store F first
    → Serves type may size F first store store end.Memory before before held held
served_none type may size F first store before held is = record {
  exchanges = [];
  state = F;
  runs = refl;
  left = before;
  read = Consumes-nil before;
  written = held;
  wrote = Appends-nil held;
  final = F;
  represented = is.represented;
  stops = (refl, refl, record { held_is = refl; same = refl });
  endures = (endures_none type may size F first store is).0;
}

-- a stop where a request is cut off
cut_of : (ends : StoreState → Type 0) (reason : Short) (may : StoreFault → Type 0) (size : ℕ) (F : StoreState) (before after held : Option (List ℕ)) → IsCutOff (end_by reason) before after
    → ends F → IsStop ends (end_by reason) may size F before after held held
cut_of ends short.Ended may size F before after held cut represented = record {
  final = F;
  final_is = represented;
  stops = (cut, record { held_is = refl; same = refl });
}
cut_of ends (short.Failed broke) may size F before after held cut represented = record {
  final = F;
  final_is = represented;
  stops = (cut, record { held_is = refl; same = refl });
}

cut_by : (ends : StoreState → Type 0) (reason : Short) (last : End) (may : StoreFault → Type 0) (size : ℕ) (F : StoreState) (before after held : Option (List ℕ))
    → IsCutOff (end_by reason) before after → last ≡ end_by reason → ends F → IsStop ends last may size F before after held held
cut_by ends reason last may size F before after held cut last_is represented =
    let P : End → Type 0 = λ e. IsStop ends e may size F before after held held in
    subst P (sym last_is) (cut_of ends reason may size F before after held cut represented)

-- a reply that is whole
pub exchange_done : (leaves : Request → List ℕ → StoreState → Type 0) (may : StoreFault → Type 0) (size : ℕ) (F : StoreState) (head : List ℕ) (r : Request) (before mid after held now : Option (List ℕ))
    (reply wrote : List ℕ) → length head ≡ 28 → SpellsRequest head r → r.command ≢ command.Disconnect → Consumes before mid head
    → IsAnswered leaves may size F r mid after reply → wrote ≡ reply → Appends held now wrote → IsWholeExchange leaves may size F before after held now
exchange_done leaves may size F head r before mid after held now reply wrote whole spells stays read answered same written =
    let P : List ℕ → Type 0 = λ xs. Appends held now xs in record {
      exchange = record { head = head; request = r; carried = answered.carried; reply = reply };
      next = answered.next;
      next_is = answered.next_is;
      is = record { whole = whole; spells = spells; stays = stays; carries = answered.carries; answers = answered.answers };
      read = Consumes-trans before mid after head answered.carried read answered.read;
      wrote = subst P same written;
    }

-- one that was written in part
pub exchange_broken : (leaves : Request → List ℕ → StoreState → Type 0) (ends : StoreState → Type 0) (may : StoreFault → Type 0) (size : ℕ) (F : StoreState) (head : List ℕ) (r : Request) (before mid after held now : Option (List ℕ))
    (reply wrote : List ℕ) → length head ≡ 28 → SpellsRequest head r → r.command ≢ command.Disconnect → Consumes before mid head
    → IsAnswered leaves may size F r mid after reply → wrote ≡ reply → IsPartWritten held now wrote
    → ((G : StoreState) → leaves r reply G → ends G)
    → IsStop ends end.WriteFault may size F before after held now
exchange_broken leaves ends may size F head r before mid after held now reply wrote whole spells stays read answered same written breaks =
    let P : List ℕ → Type 0 = λ xs. IsPartWritten held now xs in record {
      final = answered.next;
      final_is = breaks answered.next answered.next_is;
      stops = record {
        exchange = record { head = head; request = r; carried = answered.carried; reply = reply };
        is = record { whole = whole; spells = spells; stays = stays; carries = answered.carries; answers = answered.answers };
        read = Consumes-trans before mid after head answered.carried read answered.read;
        part = subst P same written;
      };
    }

-- a request whose bytes are not all there
pub exchange_cut : (ends : StoreState → Type 0) (reason : Short) (last : End) (may : StoreFault → Type 0) (size : ℕ) (F : StoreState) (head : List ℕ) (r : Request)
    (before mid after held : Option (List ℕ)) → length head ≡ 28 → SpellsRequest head r → Consumes before mid head
    → IsShort (end_by reason) mid after (carried_len r) → last ≡ end_by reason → ends F → IsStop ends last may size F before after held held
exchange_cut ends reason last may size F head r before mid after held whole spells read short last_is represented =
    let cut : IsCutOff (end_by reason) before after = record {
      part = head ++ short.part;
      read = Consumes-trans before mid after head short.part read short.read;
      few = inr (record { head = head; whole = whole; request = r; spells = spells; carried = short.part; few = short.few; part_is = refl });
      ended = short.ended;
    } in
    cut_by ends reason last may size F before after held cut last_is represented
