-- The best target, once all drives were looked at.
use Rattle.std.proofs.Common.{◌≡◌, ◌⊎◌, inl, inr, ℕ, ◌<◌, ◌≤◌, Bool, false, Option, Some, None, List, length, arith}
use Rattle.std.specs.Prelude.{IfSome, IfNone}
use Rattle.std.proofs.lemmas.Option.{slice_get_within}
use Rattle.extent_groups.proofs.Places.{same_or_not}
use Rattle.extents.specs.Owners.{Owners, load_of}
use Rattle.extent_groups.specs.Groups.{Groups}
use Rattle.rebalancer.specs.Rebuilding.{IsTarget, IsBestTarget}
use Rattle.rebalancer.specs.Choosing.{IsBestBelow}

-- a target is one of the first 16 drives
target_within : (o : Owners) (g : Groups) (lost : List Bool) (group drive : ℕ) → length lost ≡ 16 → IsTarget o g lost group drive → drive < 16
target_within o g lost group drive sixteen target =
    let within : drive < length lost = slice_get_within lost drive false target.room.present.sound in
    omega (arith, within, sixteen)

-- the lesser of two loads, or the lower of two drives
lighter_or_lower : (l m d e : ℕ) → l ≤ m → (l ≡ m → d ≤ e) → (l < m) ⊎ ((l ≡ m) × (d ≤ e))
lighter_or_lower l m d e most lower = elim (same_or_not l m) [
  | inl same ↦ inr (same, lower same)
  | inr apart ↦ inl (omega (arith, most, apart))
]

pub best_of_all : (o : Owners) (g : Groups) (lost : List Bool) (group : ℕ) (best : Option ℕ) → length lost ≡ 16
    → IsBestBelow o (λ t. IsTarget o g lost group t) 16 best → IfSome best (IsBestTarget o g lost group)
best_of_all o g lost group None sixteen so = tt
best_of_all o g lost group (Some d) sixteen so = record {
  target = so.0;
  best = λ other target. let h = so.2 other (target_within o g lost group other sixteen target) target in
      lighter_or_lower (load_of o d) (load_of o other) d other h.0 h.1;
}

pub none_of_all : (o : Owners) (g : Groups) (lost : List Bool) (group : ℕ) (best : Option ℕ) → length lost ≡ 16
    → IsBestBelow o (λ t. IsTarget o g lost group t) 16 best → IfNone best ((t : ℕ) → IsTarget o g lost group t → ⊥)
none_of_all o g lost group None sixteen so = λ t target. so t (target_within o g lost group t sixteen target) target
none_of_all o g lost group (Some d) sixteen so = tt
