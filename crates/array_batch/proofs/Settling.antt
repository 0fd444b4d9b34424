-- A vault that is settled for drives none of which is lost, and a batch that is carried out there.
use Rattle.std.proofs.Common.{◌≡◌, ◌∙◌, ℕ, zero, suc, Bool, false, List, [], replicate, refl, ap}
use Rattle.extent_groups.specs.Cells.{held}
use Rattle.extent_groups.specs.Planned.{Intended, after}
use Rattle.vault.specs.Images.{Image, Matches, is_lost, recovered}
use Rattle.vault.specs.Moments.{AreLogged, IsBeforeOrAfter, IsSettled, LeavesOnly}
use Rattle.vault.specs.declared.store.Stop.{Stop}
use Rattle.vault.proofs.Runs.{weaker}
use Rattle.drive_rebuild.proofs.Underway.{logged_less, matches_less, noted_moment}

pub none_lost : (n d : ℕ) → is_lost (replicate n false) d ≡ false
none_lost zero d = refl
none_lost (suc n) zero = refl
none_lost (suc n) (suc d) = none_lost n d

module _ {V : Type 0} (seen : V → Image) (may_leave : V → Stop → Image → Type 0) (moment : V → ℕ) (left_since : V → Stop → ℕ → Image → Type 0) (counts : List Bool) (none : (d : ℕ) → is_lost counts d ≡ false) where
  pub settled_none : (old mid new : V) → seen mid ≡ seen old → IsSettled seen may_leave counts mid new → IsSettled seen may_leave [] old new
  settled_none old mid new same settled = record {
    empty = settled.empty;
    durable = logged_less seen may_leave moment left_since [] counts new (λ d e. none d) settled.durable;
    cells = λ x on. settled.cells x (none x.drive) ∙ ap (λ (s : Image). held (recovered s) x) same;
  }

  pub logged_all : (v : V) → AreLogged seen may_leave [] v → AreLogged seen may_leave counts v
  logged_all v logged = logged_less seen may_leave moment left_since counts [] v (λ d e. refl) logged

  -- what a stop leaves while a batch that was kept is settled
  pub carried_moment : (old mid new : V) (writes : List Intended) → Matches [] (after (recovered (seen old)) writes) (seen mid) → (stop : Stop)
      → LeavesOnly moment left_since stop old mid (IsBeforeOrAfter [] (recovered (seen old)) writes)
      → LeavesOnly moment left_since stop mid new (Matches counts (recovered (seen mid)))
      → LeavesOnly moment left_since stop old new (IsBeforeOrAfter [] (recovered (seen old)) writes)
  carried_moment old mid new writes kept stop first second =
      noted_moment seen may_leave moment left_since [] old mid new writes kept stop first
      (weaker moment left_since stop mid new (Matches counts (recovered (seen mid))) (Matches [] (recovered (seen mid))) second
      (λ i matches. matches_less [] counts (recovered (seen mid)) i (λ d e. none d) matches))
