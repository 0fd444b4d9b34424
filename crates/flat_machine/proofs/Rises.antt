-- Records whose blocks rise, so that each block has one of them, and the writes made of them.
use Rattle.std.proofs.Common.{◌≡◌, ℕ, ◌+◌, ◌<◌, ◌≤◌, List, [], ◌∷◌, ◌++◌, map, length, get_or, Contains, All, append_assoc, refl, sym, ap, ◌∙◌, subst, arith, Option, Some, None}
use Rattle.std.specs.List.Sorted.{IsStrictlyIncreasing}
use Rattle.std.proofs.lemmas.List.{length-append, length-map, map-append, get_or-map, get_or_append_left}
use Rattle.std.proofs.Math.Seq.{get_or-append_seam}
use Rattle.std.proofs.lemmas.List.Elements.{All-contains, All-contains_itself, All-map, All-weaker}
use Rattle.std.proofs.lemmas.List.Kept.{AllPairs-from_increasing}
use Rattle.std.proofs.lemmas.Map.Keys.{sorted_from_strictly_increasing}
use Rattle.std.proofs.lemmas.Map.Views.{length-le_from_below}
use Rattle.map_join.specs.declared.records.Record.{Record}
use Rattle.flat_machine.specs.Flat.{Write, Stored, last_write}
use Rattle.flat_machine.specs.History.{IsChain, IsWriteChain}
use Rattle.flat_machine.specs.Restarted.{write_at}
use Rattle.flat_machine.proofs.Writes.{IsMost, last_there, write_most}

-- each element's image is in the list of images, and what is there is one's image
mapped : {X Y : Type 0} (g : X → Y) (xs : List X) (x : X) → Contains xs x → Contains (map g xs) (g x)
mapped g xs x has =
    let long = length-map xs g in
    let low = has.1 in
    (has.0, omega arith, get_or-map g xs has.0 x (g x) has.1 ∙ ap g has.2)

all_mapped : {X Y : Type 0} (P : Y → Type 0) (g : X → Y) (xs : List X) → ((x : X) → Contains xs x → P (g x)) → All P (map g xs)
all_mapped P g xs each = All-map P g xs (All-weaker (Contains xs) (λ x. P (g x)) each xs (All-contains_itself xs))

unmapped : {X Y : Type 0} (g : X → Y) (xs : List X) (y : Y) → Contains (map g xs) y → (x : X) × (Contains xs x) × (g x ≡ y)
unmapped {X} {Y} g xs y has = All-contains IsImage (map g xs) y (all_mapped IsImage g xs (λ x there. (x, there, refl))) has
  where
    IsImage : Y → Type 0
    IsImage z = (x : X) × (Contains xs x) × (g x ≡ z)

-- the blocks of the records rise
abbrev pub blocks_of : List Record → List ℕ
blocks_of records = map (λ (r : Record). r.block) records

abbrev pub Rise : List Record → Type 0
Rise records = IsStrictlyIncreasing (blocks_of records)

-- the records before one are of lower blocks
below : (before : List Record) (r : Record) (log : List Record) → Rise (before ++ r ∷ log) → (q : Record) → Contains before q → q.block < r.block
below before r log rises q has = omega (arith, rising, first, last)
  where
    long : length (before ++ r ∷ log) ≡ length before + length (r ∷ log)
    long = length-append before (r ∷ log)

    images : length (blocks_of (before ++ r ∷ log)) ≡ length (before ++ r ∷ log)
    images = length-map (before ++ r ∷ log) (λ (p : Record). p.block)

    first : get_or (blocks_of (before ++ r ∷ log)) has.0 0 ≡ q.block
    first = let low = has.1 in
        get_or-map (λ (p : Record). p.block) (before ++ r ∷ log) has.0 q 0 (omega (arith, low, long))
        ∙ ap (λ (p : Record). p.block) (get_or_append_left before (r ∷ log) q has.0 has.1 ∙ has.2)

    last : get_or (blocks_of (before ++ r ∷ log)) (length before) 0 ≡ r.block
    last = get_or-map (λ (p : Record). p.block) (before ++ r ∷ log) (length before) r 0 (omega (arith, long))
        ∙ ap (λ (p : Record). p.block) (get_or-append_seam before r log r)

    rising : get_or (blocks_of (before ++ r ∷ log)) has.0 0 < get_or (blocks_of (before ++ r ∷ log)) (length before) 0
    rising = AllPairs-from_increasing (blocks_of (before ++ r ∷ log)) rises has.0 (length before) 0 has.1 (omega (arith, long, images))

-- the same list, one record further on
further : (before : List Record) (r : Record) (log : List Record) → Rise (before ++ r ∷ log) → Rise ((before ++ r ∷ []) ++ log)
further before r log rises = subst Rise (sym (append_assoc before (r ∷ []) log)) rises

-- there are no more such records than blocks
pub few : (records : List Record) (blocks : ℕ) → Rise records → ((r : Record) → Contains records r → r.block < blocks) → length records ≤ blocks
few records blocks rises within = omega (arith, same, most)
  where
    same : length (blocks_of records) ≡ length records
    same = length-map records (λ (r : Record). r.block)

    most : length (blocks_of records) ≤ blocks
    most = length-le_from_below blocks (blocks_of records) (sorted_from_strictly_increasing (blocks_of records) rises)
        (all_mapped (λ b. b < blocks) (λ (r : Record). r.block) records within)

-- such records are a chain: none before one is of its block
pub rising_chain : (before log : List Record) → Rise (before ++ log) → IsChain before log
rising_chain before [] rises = tt
rising_chain before (r ∷ log) rises = (
  λ n newest. let low = below before r log rises n newest.0 in let same = newest.1 in absurd (omega arith),
  rising_chain (before ++ r ∷ []) log (further before r log rises),
)

module _ (units : ℕ → Option Stored) where
  -- the writes made of such records are a chain
  pub rising_writes : (before log : List Record) → Rise (before ++ log) → IsWriteChain (map (write_at units) before) (map (write_at units) log)
  rising_writes before [] rises = tt
  rising_writes before (r ∷ log) rises = (
    none,
    subst (λ ws. IsWriteChain ws (map (write_at units) log)) (map-append (write_at units) before (r ∷ []))
        (rising_writes (before ++ r ∷ []) log (further before r log rises)),
  )
    where
      none : (x : Write) → last_write (map (write_at units) before) r.block ≡ Some x → r.version ≡ x.version + 1
      none x last =
          let there = last_there (map (write_at units) before) r.block x last in
          let q = unmapped (write_at units) before x there.0 in
          let low = below before r log rises q.0 q.1 in
          let same : q.0.block ≡ r.block = ap (λ (w : Write). w.block) q.2 ∙ there.1 in
          absurd (omega arith)

  -- each write that is made is of one of the records
  pub write_reported : (records : List Record) (w : Write) → Contains (map (write_at units) records) w → (r : Record) × (Contains records r) × (write_at units r ≡ w)
  write_reported records w has = unmapped (write_at units) records w has

  -- where a block has no record, it has no write
  pub last_none : (records : List Record) (block : ℕ) → ((r : Record) → Contains records r → r.block ≡ block → ⊥) → last_write (map (write_at units) records) block ≡ None
  last_none records block none = go (last_write (map (write_at units) records) block) refl
    where
      go : (o : Option Write) → last_write (map (write_at units) records) block ≡ o → last_write (map (write_at units) records) block ≡ None
      go None e = e
      go (Some w) e =
          let there = last_there (map (write_at units) records) block w e in
          let q = unmapped (write_at units) records w there.0 in
          absurd (none q.0 q.1 (ap (λ (v : Write). v.block) q.2 ∙ there.1))

  -- where it has one record, the block's last write is made of that record
  pub last_one : (records : List Record) (r : Record) → Rise records → Contains records r → ((q : Record) → Contains records q → q.block ≡ r.block → q ≡ r)
      → last_write (map (write_at units) records) r.block ≡ Some (write_at units r)
  last_one records r rises has one =
      let there = last_there (map (write_at units) records) r.block most.newest most.last in
      let q = unmapped (write_at units) records most.newest there.0 in
      let same : q.0 ≡ r = one q.0 q.1 (ap (λ (v : Write). v.block) q.2 ∙ there.1) in
      most.last ∙ ap (λ (v : Write). Some v) (sym q.2 ∙ ap (write_at units) same)
    where
      most : IsMost (map (write_at units) records) (write_at units r)
      most = write_most (map (write_at units) records) (write_at units r) (rising_writes [] records rises) (mapped (write_at units) records r has)
