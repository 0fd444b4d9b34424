-- A session with the array of a vault, and what stops leave of the vault since a moment before it.
use Rattle.std.specs.Prelude.{◌≡◌, ℕ, ◌≤◌, ◌⊎◌, List, [], ◌∷◌, length, Option, false}
use mathlib.Core.Logic.{inl, inr}
use Rattle.extent_groups.specs.Groups.{Groups}
use Rattle.vault.specs.Images.{Image, recovered}
use Rattle.vault.specs.declared.store.Stop.{Stop}
use Rattle.vault.specs.declared.store.Stop.TheVariants.{Killed}
use Rattle.byte_store.specs.Flat.{Sizes, StoreState}
use Rattle.byte_store.specs.Lasting.{Shown}
use Rattle.byte_store.specs.declared.fault.StoreFault.{StoreFault}
use Rattle.tiered_array.specs.Views.{TiersView}
use Rattle.journaled_store.specs.Left.{HasBoth}
use Rattle.journaled_store.specs.Outlasting.{OpensAs, Outlasts, OutlastsSince, Point, parts_of}
use Rattle.nbd_serve.specs.Enduring.{Rise, Round, passed}
use Rattle.nbd_serve.specs.Exchanges.{Exchange}
use Rattle.nbd_serve.specs.Sessions.{Session}
use Rattle.nbd_serve.specs.Stopping.{IsStoreAt, SaysChanged, SaysDurable, StoreType}
use Rattle.nbd_serve.specs.declared.end.End.{End}

-- an array has these groups, and so many drives
pub record IsOn (groups : Groups) (drives : ℕ) (tiers : TiersView) : Type 0 where
  pub groups_are : (parts_of tiers).groups ≡ groups
  pub many : length (parts_of tiers).drives ≡ drives

-- the state of a store with these bytes, all of which are durable
abbrev pub durable : Shown → StoreState
durable what = record { bytes = what.bytes; unsynced = false }

-- A stop of a kind since a moment leaves a vault from which an array on these groups is opened, whichever of its drives are absent then, that
-- shows one of a list: bytes and block map, of one state.
abbrev pub Opens : {V : Type 0} → (V → Stop → ℕ → Image → Type 0) → Groups → ℕ → V → Stop → ℕ → List Shown → Type 0
Opens left_since groups drives vault stop t list = (i : Image) → left_since vault stop t i → OpensAs HasBoth list groups drives (recovered i)

-- a stop since a moment leaves what a store shows, and one now does
pub record HasBegun {V : Type 0} (known : V → Type 0) (seen : V → Image) (may_leave : V → Stop → Image → Type 0) (moment : V → ℕ) (left_since : V → Stop → ℕ → Image → Type 0)
    (since : ℕ) (what : Shown) (p : Point V) : Type 0 where
  pub early : since ≤ moment p.vault
  pub now : Outlasts HasBoth known seen may_leave p (what ∷ []) (what ∷ [])
  pub then : OutlastsSince HasBoth left_since p since (what ∷ []) (what ∷ [])

-- By what the reply to an exchange says, a stop since the moment when it was answered leaves what was shown then or later: a kill if bytes
-- were changed, and any stop if all are durable.
pub record IsExchangeFound (opens : Stop → ℕ → List Shown → Type 0) (t : ℕ) (x : Exchange) (later : List Shown) : Type 0 where
  pub changed : SaysChanged x.request x.reply → opens Killed t later
  pub durable : SaysDurable x.request x.reply → (stop : Stop) → opens stop t later

-- so it is of each exchange
abbrev pub AreFound : {S : Type 0} → (Stop → ℕ → List Shown → Type 0) → (S → ℕ) → Shown → List Exchange → List (Round S) → Type 0
AreFound opens moment final [] [] = Unit {0}
AreFound opens moment final (x ∷ xs) (r ∷ rs) = IsExchangeFound opens (moment r.answered) x (final ∷ r.then ∷ passed r.after rs) × AreFound opens moment final xs rs
AreFound opens moment final [] (r ∷ rs) = ⊥
AreFound opens moment final (x ∷ xs) [] = ⊥

-- What stops leave of a session that began with `first` and ended with `final`. The exchanges' moments rise from `since` to `ended`.
pub record Outlived {S : Type 0} (opens : Stop → ℕ → List Shown → Type 0) (moment : S → ℕ) (since ended : ℕ) (flushed : Type 0) (first final : Shown) (xs : List Exchange)
    (rounds : List (Round S)) : Type 0 where
  -- what was shown before the session, in it, or at its end
  pub lasts : (stop : Stop) → opens stop since (final ∷ passed first rounds)
  pub rise : Rise moment since rounds ended
  pub found : AreFound opens moment final xs rounds
  -- once all was flushed, what was shown at its end
  pub secured : flushed → (stop : Stop) → opens stop ended (final ∷ [])

-- the same of a session that ended in the handshake, and of one with exchanges
abbrev pub StopsLeave : {S : Type 0} {type : StoreType S} {may : StoreFault → Type 0} {sizes : Sizes} {F : StoreState} {old new : S} {last : End} {before after held now : Option (List ℕ)}
    → (Stop → ℕ → List Shown → Type 0) → (S → ℕ) → (since ended : ℕ) → Type 0 → (first : Shown) → Session type may sizes F first old new last before after held now → Type 0
StopsLeave opens moment since ended flushed first (inl turned) = Outlived opens moment since ended flushed first first [] []
StopsLeave opens moment since ended flushed first (inr served) =
    Outlived opens moment since ended flushed first served.serves.endures.final served.serves.exchanges served.serves.endures.rounds

-- A session with a store that showed `what`: the exchanges and their replies are those of the flat store. If the vault was sound, stops leave what
-- was shown in it.
pub record IsServedFrom {S : Type 0} (type : StoreType S) (may : StoreFault → Type 0) (sound : Type 0) (opens : Stop → ℕ → List Shown → Type 0) (since ended : ℕ) (flushed : Type 0)
    (what : Shown) (last : End) (before after held now : Option (List ℕ)) : Type 0 where
  pub opened : S
  pub closed : S
  pub shown : IsStoreAt type opened (durable what) what
  pub sizes : Sizes
  pub sized : sizes.bytes ≡ length what.bytes
  pub session : Session type may sizes (durable what) what opened closed last before after held now
  pub stops : sound → StopsLeave opens type.moment since ended flushed what session
