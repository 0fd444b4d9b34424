-- What an array's calls leave of a store that notes for itself what is unsynced.
use Rattle.std.proofs.Common.{◌≡◌, inr, ℕ, Bool, true, false, List, length, refl, sym, ◌∙◌, ap, subst}
use Rattle.std.specs.Prelude.{Result, Ok, Err, OnOk, is_err, slice_get}
use Rattle.std.proofs.lemmas.Bool.{true≢false}
use Rattle.byte_store.specs.Flat.{StoreState, Sizes}
use Rattle.byte_store.specs.Changes.{IsChanged, IsFlushed, IsTornWrite}
use Rattle.byte_store.specs.Lasting.{SameKeys, Shown, ShowsState}
use Rattle.tiered_array.specs.Views.{TiersView}
use Rattle.array_store.specs.Blocks.{Holds}
use Rattle.journaled_store.specs.Left.{HasBoth}
use Rattle.array_store.specs.Stores.{Follows, IsStoreOf, StoreView}
use Rattle.array_store.proofs.Holding.{follows_same}

-- a result that is no error
pub unless_err : {T E P : Type 0} (r : Result T E) → is_err r ≡ false → OnOk r P → P
unless_err (Ok x) is p = p
unless_err (Err e) is p = absurd (true≢false is)

-- the flat store with the note that a store has
abbrev pub noting : Bool → StoreState → StoreState
noting unsynced F = record { bytes = F.bytes; unsynced = unsynced }

-- a write of an array that isn't published is one that stopped somewhere
pub torn_over : {E : Type 0} (r : Result (Unit {0}) E) (F G : StoreState) (was : Bool) (offset : ℕ) (bytes : List ℕ) → length G.bytes ≡ length F.bytes
    → IsChanged r (noting was F) offset bytes G → IsTornWrite F offset bytes (noting true G)
torn_over (Ok x) F G was offset bytes long written = record { size = long; each = λ k. inr (ap (λ xs. slice_get xs k) written.bytes_are); unsynced = inr refl }
torn_over (Err e) F G was offset bytes long torn = record { size = long; each = torn.each; unsynced = inr refl }

-- one that is published is what the array made of it
pub changed_over : {E : Type 0} (r : Result (Unit {0}) E) (F G : StoreState) (was : Bool) (offset : ℕ) (bytes : List ℕ) → length G.bytes ≡ length F.bytes
    → IsChanged r (noting was F) offset bytes G → IsChanged r F offset bytes (noting true G)
changed_over (Ok x) F G was offset bytes long written = record { bytes_are = written.bytes_are; unsynced = refl }
changed_over (Err e) F G was offset bytes long torn = torn_over (Err e) F G was offset bytes long torn

-- a flush leaves the bytes
pub flushed_bytes : {E : Type 0} (r : Result (Unit {0}) E) (F G : StoreState) → IsFlushed r F G → G.bytes ≡ F.bytes
flushed_bytes (Ok x) F G flushed = flushed.0
flushed_bytes (Err e) F G same = ap (λ (f : StoreState). f.bytes) same

-- a store with another note
pub with_note : (s : StoreView) (unsynced : Bool) (F : StoreState) → IsStoreOf s.tiers s.size unsynced F → IsStoreOf s.tiers s.size s.unsynced (noting s.unsynced F)
with_note s unsynced F is = record { holds = is.holds; long = is.long; noted = refl }

pub own_note : (s : StoreView) (was unsynced : Bool) (F : StoreState) → F.unsynced ≡ unsynced → IsStoreOf s.tiers s.size s.unsynced (noting was F) → IsStoreOf s.tiers s.size unsynced F
own_note s was unsynced F noted is = record { holds = is.holds; long = is.long; noted = noted }

module _ {E : Type 0} (was now : StoreView) (unsynced : Bool) (r : Result (Unit {0}) E) (F : StoreState) (is : IsStoreOf was.tiers was.size unsynced F) where
  pub flushed_store : ((H : StoreState) → IsStoreOf was.tiers was.size was.unsynced H → (G : StoreState) × IsStoreOf now.tiers now.size now.unsynced G × IsFlushed r H G)
      → IsStoreOf now.tiers now.size unsynced F
  flushed_store change =
      let made = change (noting was.unsynced F) (with_note was unsynced F is) in
      let same : made.0.bytes ≡ F.bytes = flushed_bytes r (noting was.unsynced F) made.0 made.2 in
      record { holds = subst (λ bs. Holds now.tiers bs) same made.1.holds; long = ap length (sym same) ∙ made.1.long; noted = is.noted }

  -- the bytes after a write, also where it isn't published
  pub written_store : (offset : ℕ) (bytes : List ℕ) → now.size ≡ was.size
      → ((H : StoreState) → IsStoreOf was.tiers was.size was.unsynced H → (G : StoreState) × IsStoreOf now.tiers now.size now.unsynced G × IsChanged r H offset bytes G)
      → (G : StoreState) × IsStoreOf now.tiers now.size true G × IsTornWrite F offset bytes G × IsChanged r F offset bytes G
  written_store offset bytes size change =
      let made = change (noting was.unsynced F) (with_note was unsynced F is) in
      let long : length made.0.bytes ≡ length F.bytes = made.1.long ∙ size ∙ sym is.long in (
        noting true made.0,
        record { holds = made.1.holds; long = made.1.long; noted = refl },
        torn_over r F made.0 was.unsynced offset bytes long made.2,
        changed_over r F made.0 was.unsynced offset bytes long made.2,
      )

-- no call
pub follows_self : (t : TiersView) → Follows t t
follows_self t = follows_same t

-- what an array shows that represents a flat store
pub has_both : (t : TiersView) (F : StoreState) (what : Shown) → Holds t F.bytes → ShowsState t.world.array.keys F what → HasBoth t what
has_both t F what holds shows = record { holds = subst (Holds t) (sym shows.bytes_are) holds; keys_are = shows.keys_are }

-- with the same keys it shows the same
pub shows_on : (old new : List ℕ) (F : StoreState) (what : Shown) → SameKeys new old → ShowsState old F what → ShowsState new F what
shows_on old new F what same shows = record { bytes_are = shows.bytes_are; keys_are = λ k. shows.keys_are k ∙ sym (same k) }

-- what a store shows after a flush
pub flushed_both : {E : Type 0} (was now : StoreView) {u : Bool} (r : Result (Unit {0}) E) (F : StoreState) (what : Shown) → (G : StoreState) × IsStoreOf now.tiers now.size u G × IsFlushed r F G
    → SameKeys now.tiers.world.array.keys was.tiers.world.array.keys → ShowsState was.tiers.world.array.keys F what → HasBoth now.tiers what
flushed_both was now r F what made same shows =
    has_both now.tiers F what (subst (Holds now.tiers) (flushed_bytes r F made.0 made.2) made.1.holds)
    (shows_on was.tiers.world.array.keys now.tiers.world.array.keys F what same shows)

-- what a store is that was published, and before it
pub published_store : (was now : StoreView) (u w : Bool) (F : StoreState) → now ≡ was → w ≡ u → IsStoreOf now.tiers now.size w F → IsStoreOf was.tiers was.size u F
published_store was now u w F same note is = subst (λ (s : StoreView). IsStoreOf s.tiers s.size u F) same (subst (λ b. IsStoreOf now.tiers now.size b F) note is)

-- stores that are the same in each part
pub same_parts : (was now : StoreView) → (now.tiers ≡ was.tiers) × (now.size ≡ was.size) × (now.unsynced ≡ was.unsynced) → now ≡ was
same_parts was now same =
    ap (λ t. let s : StoreView = record { tiers = t; size = now.size; unsynced = now.unsynced } in s) same.0
    ∙ ap (λ n. let s : StoreView = record { tiers = was.tiers; size = n; unsynced = now.unsynced } in s) same.1
    ∙ ap (λ u. let s : StoreView = record { tiers = was.tiers; size = was.size; unsynced = u } in s) same.2

-- the sizes of stores whose parts are the same
pub same_sizes : (was now : StoreView) → (now.size ≡ was.size) × (now.tiers.world.array.parts.groups.payload ≡ was.tiers.world.array.parts.groups.payload)
    → ◌≡◌ {A = Sizes} (record { bytes = now.size; block = now.tiers.world.array.parts.groups.payload }) (record { bytes = was.size; block = was.tiers.world.array.parts.groups.payload })
same_sizes was now same =
    ap (λ n. let s : Sizes = record { bytes = n; block = now.tiers.world.array.parts.groups.payload } in s) same.0
    ∙ ap (λ n. let s : Sizes = record { bytes = was.size; block = n } in s) same.1
