-- What a block holds is its last acknowledged write.
use Rattle.std.proofs.Common.{◌≡◌, ◌≢◌, ℕ, ◌^◌, ◌<◌, ◌≤◌, sym, ap, ◌∙◌, arith, ◌⊎◌, inl, inr, Some, None}
use Rattle.std.proofs.lemmas.Option.{same_Some}
use Rattle.map_join.specs.declared.records.Record.{Record}
use Rattle.map_join.specs.Record.{record_of, record_at}
use Rattle.flat_machine.specs.Flat.{Flat, Write, Stored, content_in, last_write}
use Rattle.flat_machine.specs.Cases.{found_in, found_of}
use Rattle.flat_machine.proofs.Newest.{reported_at, untold_at, reported_key}
use Rattle.unit_store.specs.Slots.{IsSlot}
use Rattle.flat_machine.specs.Groups.{class_at}
use Rattle.slot_tables.proofs.Wholes.{slot_of_class}
use Rattle.slot_tables.specs.Views.{Nothing, Newest, Unmade, ArrayView, kept_at, key_at, IsWhole}
use Rattle.slot_tables.specs.Represents.{ShowsArray}

sizes : (k : ℕ) → (k < 2 ^ 32) ⊎ (2 ^ 32 ≤ k)
sizes k = grind arith

-- a block without a record was never written
pub read_none : (a : ArrayView) (F : Flat) (b : ℕ) → IsWhole a → ShowsArray a F → record_at b (key_at a b) ≡ None → None ≡ found_of (last_write F.writes b)
read_none a F b whole shows none = go (sizes (key_at a b))
  where
    go : (key_at a b < 2 ^ 32) ⊎ (2 ^ 32 ≤ key_at a b) → None ≡ found_of (last_write F.writes b)
    go (inr big) = let bad : Some (record_of b (key_at a b)) ≡ None = sym (reported_at b (key_at a b) big) ∙ none in absurd (cc)
    go (inl small) = sym (ap found_of ((shows.history.written b).0 (zero (positive (key_at a b)))))
      where
        positive : (k : ℕ) → (k ≡ 0) ⊎ (0 < k)
        positive k = grind arith

        zero : (key_at a b ≡ 0) ⊎ (0 < key_at a b) → key_at a b ≡ 0
        zero (inl e) = e
        zero (inr some) = let big = whole.keys b some in absurd (omega arith)

-- the unit at a block's newest place has the content of its last write
pub newest_write : (a : ArrayView) (F : Flat) (b : ℕ) (r : Record) → ShowsArray a F → record_at b (key_at a b) ≡ Some r
    → (w : Write) × (last_write F.writes b ≡ Some w) × ((u : Stored) → F.units r.place ≡ Some u → content_in u ≡ w.content) × (w.version ≡ r.version)
newest_write a F b r shows found =
    let reported = reported_key b (key_at a b) r found in
    let big = reported.0 in
    let y = (shows.history.written b).1 (omega arith) in (
      y.0,
      y.1,
      λ u unit. ap content_in (same_Some _ _ (sym unit ∙ ap (λ (q : Record). F.units q.place) (sym reported.1) ∙ y.2.unit.there)) ∙ y.2.unit.content,
      y.2.version ∙ ap (λ (q : Record). q.version) reported.1,
    )

-- a block with a record holds what its unit does
pub read_some : (a : ArrayView) (F : Flat) (b : ℕ) (r : Record) (u : Stored) → ShowsArray a F → record_at b (key_at a b) ≡ Some r → F.units r.place ≡ Some u
    → found_in r.version (content_in u) ≡ found_of (last_write F.writes b)
read_some a F b r u shows is unit =
    let x = newest_write a F b r shows is in
    sym (ap found_of x.1 ∙ λ i. found_in (x.3 i) ((sym (x.2 u unit)) i))

-- the newest place is a slot of a group
pub read_there : (a : ArrayView) (b : ℕ) (r : Record) → IsWhole a → record_at b (key_at a b) ≡ Some r → class_at a.parts.groups r.place ≢ None
read_there a b r whole is = go (sizes (key_at a b))
  where
    go : (key_at a b < 2 ^ 32) ⊎ (2 ^ 32 ≤ key_at a b) → class_at a.parts.groups r.place ≢ None
    go (inl small) = let bad : None ≡ Some r = sym (untold_at b (key_at a b) small) ∙ is in absurd (cc)
    go (inr big) =
        let same : record_of b (key_at a b) ≡ r = same_Some _ _ (sym (reported_at b (key_at a b) big) ∙ is) in
        let kept : kept_at a r.place ≡ Newest b = ap (λ (q : Record). kept_at a q.place) (sym same) ∙ whole.newest b (omega arith) in
        whole.there r.place (λ e. let bad : Newest b ≡ Nothing = sym kept ∙ e in cc) (λ e. let bad : Newest b ≡ Unmade = sym kept ∙ e in cc)

pub read_slot : (a : ArrayView) (b : ℕ) (r : Record) → IsWhole a → record_at b (key_at a b) ≡ Some r → IsSlot a.parts.groups r.place
read_slot a b r whole is = slot_of_class a.parts.groups r.place (read_there a b r whole is)
