-- What a plan chooses is one: a slot, a group, a block.
use Rattle.std.proofs.Common.{◌≡◌, ◌⊎◌, inl, inr, ℕ, ◌<◌, ◌≤◌, true, refl, sym, ap, ◌∙◌, subst, arith, Option, Some, None}
use Rattle.std.proofs.lemmas.Option.{same_Some}
use Rattle.map_join.specs.declared.records.Record.{Record}
use Rattle.map_join.specs.Record.{record_at, record_of}
use Rattle.map_join.specs.Live.{MapsTo}
use Rattle.extent_groups.specs.Groups.{Groups}
use Rattle.flat_machine.specs.Flat.{Flat, Block, for_block}
use Rattle.flat_machine.specs.History.{IsHistory}
use Rattle.flat_machine.proofs.Newest.{reported_key}
use Rattle.migrator.specs.First.{IsLowest, IsFirst, IsFirstAppend, IsFreeFollowing, IsFreeFresh}
use Rattle.migrator.specs.Slots.{End}
use Rattle.cleaner.specs.declared.moves.Move.{Move}
use Rattle.cleaner.specs.Counts as counts
use Rattle.cleaner.specs.Counts.{HasLive}
use Rattle.cleaner.specs.Choosing.{IsMost, IsFewest}
use Rattle.cleaner.specs.Plans.{IsHoled, IsSource, IsPlug, IsPlugPlan, IsClean, IsCleanPlan}

-- ---- the lowest slot, and the first where the log goes on

-- a lowest number is one
lowest_once : (P : ℕ → Type 0) (m n : ℕ) → IsLowest P m → IsLowest P n → m ≡ n
lowest_once P m n a b = let up = a.least n b.holds in let down = b.least m a.holds in omega arith

pub first_once : (P : ℕ → Type 0) (m n : Option ℕ) → IsFirst P m → IsFirst P n → m ≡ n
first_once P None None a b = refl
first_once P None (Some n) a b = absurd (a n b.holds)
first_once P (Some m) None a b = absurd (b m a.holds)
first_once P (Some m) (Some n) a b = ap (λ (k : ℕ). Some k) (lowest_once P m n a b)

pub append_once : (end : End) (groups : Groups) (keys : ℕ → ℕ) (free : ℕ → Type 0) (m n : Option ℕ) → IsFirstAppend end groups keys free m
    → IsFirstAppend end groups keys free n → m ≡ n
append_once end groups keys free None None a b = refl
append_once end groups keys free None (Some n) a (inl b) = absurd (a n (inl b.holds.0) b.holds.1)
append_once end groups keys free None (Some n) a (inr b) = absurd (a n (inr b.1.holds.0) b.1.holds.1)
append_once end groups keys free (Some m) None (inl a) b = absurd (b m (inl a.holds.0) a.holds.1)
append_once end groups keys free (Some m) None (inr a) b = absurd (b m (inr a.1.holds.0) a.1.holds.1)
append_once end groups keys free (Some m) (Some n) (inl a) (inl b) = ap (λ (k : ℕ). Some k) (lowest_once (IsFreeFollowing end groups keys free) m n a b)
append_once end groups keys free (Some m) (Some n) (inl a) (inr b) = absurd (b.0 m a.holds)
append_once end groups keys free (Some m) (Some n) (inr a) (inl b) = absurd (a.0 n b.holds)
append_once end groups keys free (Some m) (Some n) (inr a) (inr b) = ap (λ (k : ℕ). Some k) (lowest_once (IsFreeFresh end groups keys free) m n a.1 b.1)

-- ---- the fullest and the emptiest group

fewest_once : (offers : ℕ → ℕ → Type 0) (g h l k : ℕ) → IsFewest offers g l → IsFewest offers h k → (g ≡ h) × (l ≡ k)
fewest_once offers g h l k a b = by (a.best h k b.offered) (b.best g l a.offered)
  where
    by : (l < k) ⊎ ((l ≡ k) × (g ≤ h)) → (k < l) ⊎ ((k ≡ l) × (h ≤ g)) → (g ≡ h) × (l ≡ k)
    by (inl x) (inl y) = absurd (omega arith)
    by (inl x) (inr y) = absurd (omega (arith, x, y.0))
    by (inr x) (inl y) = absurd (omega (arith, x.0, y))
    by (inr x) (inr y) = (omega (arith, x.1, y.1), x.0)

most_once : (offers : ℕ → ℕ → Type 0) (g h l k : ℕ) → IsMost offers g l → IsMost offers h k → (g ≡ h) × (l ≡ k)
most_once offers g h l k a b = by (a.best h k b.offered) (b.best g l a.offered)
  where
    by : (k < l) ⊎ ((l ≡ k) × (g ≤ h)) → (l < k) ⊎ ((k ≡ l) × (h ≤ g)) → (g ≡ h) × (l ≡ k)
    by (inl x) (inl y) = absurd (omega arith)
    by (inl x) (inr y) = absurd (omega (arith, x, y.0))
    by (inr x) (inl y) = absurd (omega (arith, x.0, y))
    by (inr x) (inr y) = (omega (arith, x.1, y.1), x.0)

-- ---- the block at a slot

-- a block that has a record in the map has a key, and is one of the array's
pub key_there : (b key : ℕ) (r : Record) → record_at b key ≡ Some r → 0 < key
key_there b key r at = let large = (reported_key b key r at).0 in omega arith

pub block_there : (F : Flat) (keys : ℕ → ℕ) (b : ℕ) (r : Record) → IsHistory F keys → record_at b (keys b) ≡ Some r → b < F.groups.blocks
block_there F keys b r is at =
    let reported = is.map.reported b (key_there b (keys b) r at) in
    let low = is.blocks reported.0 reported.1 in
    let same = reported.2 in
    omega (arith, low, same)

-- no two blocks lie at one slot
lies_once : (F : Flat) (keys : ℕ → ℕ) (s b c : ℕ) → IsHistory F keys → MapsTo keys b s → MapsTo keys c s → b ≡ c
lies_once F keys s b c is x y =
    let same : Block b ≡ Block c = (is.holders s).once (Block b) (Block c) (for_block b) (for_block c) (held b x) (held c y) in
    cc
  where
    held : (d : ℕ) → MapsTo keys d s → F.held s (Block d) ≡ true
    held d lies =
        let key = reported_key d (keys d) lies.0 lies.1 in
        let place : (record_of d (keys d)).place ≡ s = ap (λ (r : Record). r.place) key.1 ∙ lies.2 in
        subst (λ n. F.held n (Block d) ≡ true) place ((is.written d).1 (key_there d (keys d) lies.0 lies.1)).2.place

-- ---- the plans

-- a move is its three numbers
same_move : (m n : Move) → m.block ≡ n.block → m.from ≡ n.from → m.to ≡ n.to → m ≡ n
same_move m n blocks froms tos = λ i. record { block = blocks i; from = froms i; to = tos i }

-- the lowest slot of a group
lowest_count : (P : ℕ → Type 0) (m n : ℕ) → counts.IsLowest P m → counts.IsLowest P n → m ≡ n
lowest_count P m n a b = let up = a.least n b.holds in let down = b.least m a.holds in omega arith

module _ (F : Flat) (keys : ℕ → ℕ) (is : IsHistory F keys) (write : Option ℕ) where
  plug_move : (t s u v m l n k : ℕ) (x y : Move) → IsPlug F.groups keys write t m s l x → IsPlug F.groups keys write u n v k y → x ≡ y
  plug_move t s u v m l n k x y a b = same_move x y block slot hole
    where
      into : (t ≡ u) × (m ≡ n)
      into = most_once (IsHoled F.groups keys write) t u m n a.into b.into

      moved : IsFewest (IsSource F.groups keys u n) s l
      moved = subst (λ g. IsFewest (IsSource F.groups keys g n) s l) into.0 (subst (λ c. IsFewest (IsSource F.groups keys t c) s l) into.1 a.out)

      out : s ≡ v
      out = (fewest_once (IsSource F.groups keys u n) s v l k moved b.out).0

      slot : x.from ≡ y.from
      slot = lowest_count (counts.IsLiveOf F.groups keys v) x.from y.from (subst (λ g. counts.IsLowest (counts.IsLiveOf F.groups keys g) x.from) out a.slot) b.slot

      hole : x.to ≡ y.to
      hole = lowest_count (counts.IsHoleOf F.groups keys u) x.to y.to (subst (λ g. counts.IsLowest (counts.IsHoleOf F.groups keys g) x.to) into.0 a.hole) b.hole

      block : x.block ≡ y.block
      block = lies_once F keys y.from x.block y.block is (subst (MapsTo keys x.block) slot a.block) b.block

  pub plug_once : (p q : Option Move) → IsPlugPlan F.groups keys write p → IsPlugPlan F.groups keys write q → p ≡ q
  plug_once None None a b = refl
  plug_once None (Some y) a b = absurd (a b.0 b.1 b.2 b.3 b.4.into b.4.out.offered)
  plug_once (Some x) None a b = absurd (b a.0 a.1 a.2 a.3 a.4.into a.4.out.offered)
  plug_once (Some x) (Some y) a b = ap (λ (m : Move). Some m) (plug_move a.0 a.2 b.0 b.2 a.1 a.3 b.1 b.3 x y a.4 b.4)

  clean_move : (append : Option ℕ) (g h l k : ℕ) (x y : Move) → IsClean F.groups keys write append g l x → IsClean F.groups keys write append h k y → x ≡ y
  clean_move append g h l k x y a b = same_move x y block slot (same_Some x.to y.to (sym a.to ∙ b.to))
    where
      out : g ≡ h
      out = (fewest_once (IsHoled F.groups keys write) g h l k a.out b.out).0

      slot : x.from ≡ y.from
      slot = lowest_count (counts.IsLiveOf F.groups keys h) x.from y.from (subst (λ g. counts.IsLowest (counts.IsLiveOf F.groups keys g) x.from) out a.slot) b.slot

      block : x.block ≡ y.block
      block = lies_once F keys y.from x.block y.block is (subst (MapsTo keys x.block) slot a.block) b.block

  pub clean_once : (append : Option ℕ) (p q : Option Move) → IsCleanPlan F.groups keys write append p → IsCleanPlan F.groups keys write append q → p ≡ q
  clean_once append None None a b = refl
  clean_once append None (Some y) a b = absurd (b.2.apart (a b.2.no_plug b.0 b.1 y.to b.2.out b.2.to))
  clean_once append (Some x) None a b = absurd (a.2.apart (b a.2.no_plug a.0 a.1 x.to a.2.out a.2.to))
  clean_once append (Some x) (Some y) a b = ap (λ (m : Move). Some m) (clean_move append a.0 b.0 a.1 b.1 x y a.2 b.2)
