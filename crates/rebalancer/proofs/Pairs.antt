-- The best choice, as one pair of drives after another is looked at.
use Rattle.std.proofs.Common.{◌≡◌, inl, inr, ℕ, ◌+◌, ◌*◌, ◌<◌, Bool, false, Option, Some, None, List, length, arith}
use Rattle.std.proofs.lemmas.Option.{slice_get_within}
use Rattle.extent_groups.proofs.Places.{same_or_not}
use Rattle.extents.specs.Owners.{Owners, lowest_free_of}
use Rattle.extent_groups.specs.Groups.{Groups}
use Rattle.rebalancer.specs.declared.balance.Choice.{Choice}
use Rattle.rebalancer.specs.declared.balance.Pair.{Pair}
use Rattle.rebalancer.specs.declared.groups.Carrier.{Carrier}
use Rattle.rebalancer.specs.Balancing.{IsAllowed, PairBefore, IsBalanceShift}
use Rattle.rebalancer.specs.Choosing.{Beats, IsLowestChoice, IsBestOf}

-- no pair comes before itself
pub never_before_itself : (o : Owners) (f t : ℕ) → PairBefore o f t f t → ⊥
never_before_itself o f t h = grind arith

-- what comes before a pair that comes before another, comes before that
pub before_before : (o : Owners) (a b f t x y : ℕ) → PairBefore o a b f t → PairBefore o f t x y → PairBefore o a b x y
before_before o a b f t x y h i = grind arith

-- what holds of the pairs so far and of the next one holds of all of them
next_pair : (P : ℕ → ℕ → ℕ → Type 0) (from to : ℕ) → to < 16
    → ((f t h : ℕ) → t < 16 → 16 * f + t < 16 * from + to → P f t h) → ((h : ℕ) → P from to h)
    → (f t h : ℕ) → t < 16 → 16 * f + t < 16 * from + to + 1 → P f t h
next_pair P from to low before here f t h within below = elim (same_or_not (16 * f + t) (16 * from + to)) [
  | inl same ↦
      (let giver : f ≡ from = omega (arith, same, within, low) in
      let taker : t ≡ to = omega (arith, same, within, low) in
      rw (giver, taker) (here h))
  | inr apart ↦ before f t h within (omega (arith, apart, below))
]

-- a pair with no allowed shift leaves the best choice as it is
pub best_without : (o : Owners) (g : Groups) (lost : List Bool) (from to : ℕ) (best : Option Choice) → to < 16
    → ((h : ℕ) → IsAllowed o g lost from to h → ⊥)
    → IsBestOf o g lost (16 * from + to) best → IsBestOf o g lost (16 * from + to + 1) best
best_without o g lost from to None low none so = next_pair (λ f t h. IsAllowed o g lost f t h → ⊥) from to low so none
best_without o g lost from to (Some c) low none so =
    next_pair (λ f t h. IsAllowed o g lost f t h → PairBefore o f t c.pair.from c.pair.to → ⊥) from to low so (λ h allowed _. none h allowed)

-- and so does a pair that doesn't beat it
pub best_following : (o : Owners) (g : Groups) (lost : List Bool) (pair : Pair) (best : Option Choice) → pair.to < 16
    → (Beats o pair best → ⊥)
    → IsBestOf o g lost (16 * pair.from + pair.to) best → IsBestOf o g lost (16 * pair.from + pair.to + 1) best
best_following o g lost pair None low following so = absurd (following tt)
best_following o g lost pair (Some c) low following so =
    next_pair (λ f t h. IsAllowed o g lost f t h → PairBefore o f t c.pair.from c.pair.to → ⊥) pair.from pair.to low so (λ h _. following)

-- a pair that beats it is the best choice
pub best_instead : (o : Owners) (g : Groups) (lost : List Bool) (pair : Pair) (carrier : Carrier) (best : Option Choice) → pair.to < 16
    → Beats o pair best
    → IsBestOf o g lost (16 * pair.from + pair.to) best
    → IsBestOf o g lost (16 * pair.from + pair.to + 1) (Some (record { pair = pair; carrier = carrier }))
best_instead o g lost pair carrier None low first so =
    next_pair (λ f t h. IsAllowed o g lost f t h → PairBefore o f t pair.from pair.to → ⊥) pair.from pair.to low
    (λ f t h within below allowed _. so f t h within below allowed)
    (λ h _ before. never_before_itself o pair.from pair.to before)
best_instead o g lost pair carrier (Some c) low first so =
    next_pair (λ f t h. IsAllowed o g lost f t h → PairBefore o f t pair.from pair.to → ⊥) pair.from pair.to low
    (λ f t h within below allowed before. so f t h within below allowed (before_before o f t pair.from pair.to c.pair.from c.pair.to before first))
    (λ h _ before. never_before_itself o pair.from pair.to before)

-- all allowed pairs are among the first 256
pub within_256 : (o : Owners) (g : Groups) (lost : List Bool) (f t h : ℕ) → length lost ≡ 16 → IsAllowed o g lost f t h
    → (t < 16) × (16 * f + t < 256)
within_256 o g lost f t h sixteen allowed =
    let giver : f < length lost = slice_get_within lost f false allowed.drives.giver.sound in
    let taker : t < length lost = slice_get_within lost t false allowed.drives.taker.present.sound in
    (omega (arith, giver, taker, sixteen), omega (arith, giver, taker, sixteen))

-- a choice of all pairs, with its drive's lowest free extent, is the shift that is wanted
pub is_shift : (o : Owners) (g : Groups) (lost : List Bool) (c : Choice) (extent : ℕ) → length lost ≡ 16 → IsLowestChoice o g lost c → IsBestOf o g lost 256 (Some c)
    → lowest_free_of o c.pair.to ≡ Some extent
    → IsBalanceShift o g lost c.pair.from (record { group = c.carrier.group; member = c.carrier.member; to = record { drive = c.pair.to; extent = extent } })
is_shift o g lost c extent sixteen choice best free = record {
  allowed = choice.allowed;
  first = λ f t h allowed before. let low = within_256 o g lost f t h sixteen allowed in best f t h low.0 low.1 allowed before;
  lowest = choice.lowest;
  member = choice.member;
  extent = free;
}
