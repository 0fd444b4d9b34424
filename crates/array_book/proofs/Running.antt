-- What the jobs of all workers leave.
use Rattle.std.proofs.Common.{◌≡◌, ℕ, ◌<◌, suc, List, [], ◌∷◌, length, map, get_or, subst, arith}
use Rattle.std.specs.Prelude.{Result, Ok, OnOk}
use Rattle.history.specs.Entries.{Carried}
use Rattle.array_book.specs.Acts.{Act}
use Rattle.array_book.specs.declared.fault.WorkFault.{WorkFault}
use Rattle.array_book.specs.Running.{AreDone}

-- where no job failed, each left what it leaves
pub jobs_done : {W : Type 0} (leaves : ℕ → Carried Act → Carried Act → Type 0) (number_of : W → ℕ) (hand_of : W → Carried Act) (outcome_of : W → Result (Unit {0}) WorkFault) (xs ys : List W)
    → length ys ≡ length xs
    → ((i : ℕ) (d : W) → i < length xs → OnOk (outcome_of (get_or ys i d)) (leaves (number_of (get_or xs i d)) (hand_of (get_or xs i d)) (hand_of (get_or ys i d))))
    → ((i : ℕ) (d : W) → i < length ys → outcome_of (get_or ys i d) ≡ Ok tt)
    → AreDone leaves (map number_of xs) (map hand_of xs) (map hand_of ys)
jobs_done leaves number_of hand_of outcome_of [] [] same each ok = tt
jobs_done leaves number_of hand_of outcome_of [] (y ∷ ys) same each ok = absurd (omega (arith, same))
jobs_done leaves number_of hand_of outcome_of (x ∷ xs) [] same each ok = absurd (omega (arith, same))
jobs_done leaves number_of hand_of outcome_of (x ∷ xs) (y ∷ ys) same each ok = (
  subst (λ r. OnOk r (leaves (number_of x) (hand_of x) (hand_of y))) (ok 0 y (omega arith)) (each 0 y (omega arith)),
  jobs_done leaves number_of hand_of outcome_of xs ys (omega (arith, same)) (λ i d low. each (suc i) d (omega (arith, low))) (λ i d low. ok (suc i) d (omega (arith, low))),
)
