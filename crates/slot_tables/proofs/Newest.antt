-- The newest record of a block, from the array's key.
use Rattle.std.proofs.Common.{◌≡◌, ◌≢◌, ℕ, zero, suc, ◌<◌, ◌≤◌, List, [], ◌∷◌, length, get_or, refl, sym, ap, ◌∙◌, subst, arith, ◌⊎◌, inl, inr, Option, Some, None}
use Rattle.map_join.specs.declared.records.Record.{Record}
use Rattle.map_join.specs.Record.{record_of, record_at}
use Rattle.map_join.specs.Live.{IsLive, IsBlockAt}
use Rattle.map_join.specs.Maps.{IsSame}
use Rattle.flat_machine.specs.Flat.{Flat, IsNewest}
use Rattle.flat_machine.proofs.Newest as flat
use Rattle.slot_tables.specs.Views.{Kept, Nothing, Pending, Moving, Newest, Unmade, ArrayView, newest_block_in, kept_at, key_at, IsRoomy, IsWhole}
use Rattle.slot_tables.specs.Represents.{ShowsArray}

-- the block's key is that of its newest record
pub newest_reported : (a : ArrayView) (F : Flat) (block : ℕ) → ShowsArray a F → IsNewest F.emitted block (record_at block (key_at a block))
newest_reported a F block shows = flat.newest_reported F.emitted (key_at a) block shows.history.records shows.history.map

pub newest_is : (a : ArrayView) (F : Flat) (block : ℕ) (o : Option Record) → ShowsArray a F → record_at block (key_at a block) ≡ o → IsNewest F.emitted block o
newest_is a F block o shows found = subst (IsNewest F.emitted block) found (newest_reported a F block shows)

-- past its end a list has nothing
get_or_past : {X : Type 0} (xs : List X) (i : ℕ) (d : X) → length xs ≤ i → get_or xs i d ≡ d
get_or_past [] zero d past = refl
get_or_past [] (suc i) d past = refl
get_or_past (x ∷ xs) zero d past = absurd (omega arith)
get_or_past (x ∷ xs) (suc i) d past = get_or_past xs i d (omega arith)

-- a map that has the keys of all blocks below a number that no block reaches, and no more, is the table's
pub map_whole : (a : ArrayView) (M : ℕ → ℕ) (i : ℕ) → IsRoomy a → a.parts.groups.blocks ≤ i
    → ((b : ℕ) → b < i → M b ≡ key_at a b) → ((b : ℕ) → i ≤ b → M b ≡ 0) → IsSame M (key_at a)
map_whole a M i room end before rest b = go (side b i)
  where
    side : (m n : ℕ) → (m < n) ⊎ (n ≤ m)
    side m n = grind arith

    go : (b < i) ⊎ (i ≤ b) → M b ≡ key_at a b
    go (inl h) = before b h
    go (inr h) = let e = room.keys in rest b h ∙ sym (get_or_past a.keys b 0 (omega arith))

-- a slot that is a block's newest place is kept as that block's, and no other slot is live
pub lies_at : (a : ArrayView) (s : ℕ) → IsWhole a → IsBlockAt (key_at a) s (newest_block_in (kept_at a s))
lies_at a s whole = go (kept_at a s) refl
  where
    other : (k : Kept) → kept_at a s ≡ k → ((b : ℕ) → k ≢ Newest b) → IsLive (key_at a) s → ⊥
    other k e nobody live =
        let key = flat.reported_key live.0 (key_at a live.0) live.1.0 live.1.1 in
        let is : kept_at a (record_of live.0 (key_at a live.0)).place ≡ Newest live.0 = whole.newest live.0 (omega (arith, key.0)) in
        let same : (record_of live.0 (key_at a live.0)).place ≡ s = ap (λ (r : Record). r.place) key.1 ∙ live.1.2 in
        nobody live.0 (sym e ∙ (sym (ap (kept_at a) same) ∙ is))

    go : (k : Kept) → kept_at a s ≡ k → IsBlockAt (key_at a) s (newest_block_in k)
    go Nothing e = other Nothing e (λ b is. cc)
    go (Pending k) e = other (Pending k) e (λ b is. cc)
    go Unmade e = other Unmade e (λ b is. cc)
    go (Moving r k) e = other (Moving r k) e (λ b is. cc)
    go (Newest b) e =
        let only = whole.only s b e in
        (record_of b (key_at a b), flat.reported_at b (key_at a b) (whole.keys b only.0), only.1)

-- a number past the array's blocks has no record
pub reported_past : (a : ArrayView) (b : ℕ) → IsRoomy a → a.parts.groups.blocks ≤ b → record_at b (key_at a b) ≡ None
reported_past a b room past =
    let wide = room.keys in
    ap (record_at b) (get_or_past a.keys b 0 (omega (arith, wide)))

-- so a block that has one is one of the array's
pub block_inside : (a : ArrayView) (b : ℕ) (r : Record) → IsRoomy a → record_at b (key_at a b) ≡ Some r → b < a.parts.groups.blocks
block_inside a b r room is = go (side b a.parts.groups.blocks)
  where
    side : (m n : ℕ) → (m < n) ⊎ (n ≤ m)
    side m n = grind arith

    go : (b < a.parts.groups.blocks) ⊎ (a.parts.groups.blocks ≤ b) → b < a.parts.groups.blocks
    go (inl l) = l
    go (inr past) = let none : None ≡ Some r = sym (reported_past a b room past) ∙ is in absurd (cc)
