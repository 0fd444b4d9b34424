-- What is joined of two closed maps, compared with an array's.
use Rattle.std.proofs.Common.{◌≡◌, ℕ, List, ◌++◌, refl, sym, subst, Result, Ok, Err, IfErr, OnOk}
use Rattle.map_join.specs.declared.records.Record.{Record}
use Rattle.map_join.specs.Maps.{IsMapOf, IsSame, IsLowestDifference, join}
use Rattle.map_join.proofs.Joins.{together}
use Rattle.map_words.specs.TakeRule.{whole}
use Rattle.flat_machine.proofs.Newest.{same_map}
use Rattle.array_book.specs.declared.settle_fault.SettleFault.{SettleFault}
use Rattle.array_book.specs.declared.settle_fault.SettleFault.TheVariants.{Differs, Memory, NotWhole}
use Rattle.array_book.specs.Settling.{IsUnsettled, IsDiffering}

-- where the join is the array's map, that is the map of all that was taken
pub settled_ok : (r : Result (Unit {0}) SettleFault) (even odd : ℕ) (xs ys : List Record) (M N K : ℕ → ℕ) → OnOk r (IsSame (join M N) K) → IsMapOf xs M → IsMapOf ys N
    → even ≡ whole → odd ≡ whole → OnOk r ((even ≡ whole) × (odd ≡ whole) × IsMapOf (xs ++ ys) K)
settled_ok (Ok u) even odd xs ys M N K same m n one other = (one, other, together xs ys M N K (λ b. sym (same b)) m n)
settled_ok (Err e) even odd xs ys M N K same m n one other = tt

-- and where it isn't, each map of all that was taken differs from it at that block first
pub settled_err : (r : Result (Unit {0}) SettleFault) (even odd : ℕ) (xs ys : List Record) (M N K : ℕ → ℕ) → IfErr r (IsDiffering (join M N) K) → IsMapOf xs M → IsMapOf ys N
    → even ≡ whole → odd ≡ whole → IfErr r (IsUnsettled even odd (xs ++ ys) K)
settled_err (Ok u) even odd xs ys M N K reported m n one other = tt
settled_err (Err (NotWhole share)) even odd xs ys M N K reported m n one other = absurd reported
settled_err (Err Memory) even odd xs ys M N K reported m n one other = (one, other)
settled_err (Err (Differs block)) even odd xs ys M N K reported m n one other = (
  one,
  other,
  λ L is. subst (λ (f : ℕ → ℕ). IsLowestDifference f K block) (same_map (xs ++ ys) (join M N) L (together xs ys M N (join M N) (λ b. refl) m n) is) reported,
)
