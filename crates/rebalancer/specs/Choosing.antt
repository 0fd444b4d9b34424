-- The best shift of the pairs that were looked at so far: in order of the giving drive, then of the taking one.
use Rattle.std.specs.Prelude.{◌≡◌, ℕ, ◌+◌, ◌*◌, ◌<◌, ◌≤◌, Bool, Option, Some, None, List, length}
use Rattle.extents.specs.Owners.{Owners, load_of}
use Rattle.extent_groups.specs.Groups.{Groups}
use Rattle.rebalancer.specs.declared.balance.Choice.{Choice}
use Rattle.rebalancer.specs.declared.balance.Pair.{Pair}
use Rattle.rebalancer.specs.Carrying.{member_on, CanGive}
use Rattle.rebalancer.specs.Balancing.{IsAllowed, PairBefore}

-- both drives of a pair exist
abbrev pub AreDrivesInRange : Owners → Pair → Type 0
AreDrivesInRange owners pair = (pair.from < length owners.rows) × (pair.to < length owners.rows)

-- an allowed choice, with the lowest group of its pair
pub record IsLowestChoice (owners : Owners) (groups : Groups) (lost : List Bool) (c : Choice) : Type 0 where
  pub allowed : IsAllowed owners groups lost c.pair.from c.pair.to c.carrier.group
  pub lowest : (h : ℕ) → CanGive groups c.pair.from c.pair.to h → c.carrier.group ≤ h
  pub member : member_on groups c.carrier.group c.pair.from ≡ Some c.carrier.member

-- the choice so far, where there is one, is a choice
abbrev pub MayBeChoice : Owners → Groups → List Bool → Option Choice → Type 0
MayBeChoice owners groups lost None = Unit {0}
MayBeChoice owners groups lost (Some c) = IsLowestChoice owners groups lost c

-- no allowed shift of the first pairs comes before the choice so far, and none is allowed where there is none
abbrev pub IsBestOf : Owners → Groups → List Bool → ℕ → Option Choice → Type 0
IsBestOf owners groups lost pairs None =
    (f t h : ℕ) → t < 16 → 16 * f + t < pairs → IsAllowed owners groups lost f t h → ⊥
IsBestOf owners groups lost pairs (Some c) =
    (f t h : ℕ) → t < 16 → 16 * f + t < pairs → IsAllowed owners groups lost f t h
    → PairBefore owners f t c.pair.from c.pair.to → ⊥

-- the pair comes before that of the best choice so far, if there is one
abbrev pub Beats : Owners → Pair → Option Choice → Type 0
Beats owners pair None = Unit {0}
Beats owners pair (Some c) = PairBefore owners pair.from pair.to c.pair.from c.pair.to

-- the drive has less load than the best so far, if there is one
abbrev pub IsLighter : Owners → ℕ → Option ℕ → Type 0
IsLighter owners drive None = Unit {0}
IsLighter owners drive (Some best) = load_of owners drive < load_of owners best

-- the best drive to move to of the first drives
abbrev pub IsBestBelow : Owners → (ℕ → Type 0) → ℕ → Option ℕ → Type 0
IsBestBelow owners P drives None = (t : ℕ) → t < drives → P t → ⊥
IsBestBelow owners P drives (Some best) =
    (P best) × (best < drives) × ((t : ℕ) → t < drives → P t → (load_of owners best ≤ load_of owners t) × (load_of owners best ≡ load_of owners t → best ≤ t))
