-- What a stop leaves of a vault to which a batch is added.
use Rattle.std.proofs.Common.{◌≡◌, ◌≤◌, ◌+◌, ◌⊎◌, inl, inr, ⊎_elim, ℕ, zero, suc, arith, true, Bool, List, [], ◌∷◌, ◌++◌, length, length-append, take, refl, sym, ◌∙◌, subst}
use Rattle.std.specs.Prelude.{Result, Ok, Err, OnOk, is_ok, Some}
use Rattle.std.proofs.lemmas.Bool.{true≢false}
use Rattle.std.proofs.lemmas.List.{take_all, take-append-le}
use Rattle.extent_groups.specs.Cells.{Cells}
use Rattle.extent_groups.specs.Planned.{Intended, after}
use Rattle.vault.specs.Images.{Image, SameUnits, Matches, recovered, flat}
use Rattle.vault.specs.Moments.{IsFront, IsLogged, IsRejected, IsUnchanged, RepresentsSome}
use Rattle.vault.specs.declared.store.VaultError.{VaultError}
use Rattle.vault.specs.declared.store.VaultError.TheVariants as error
use Rattle.vault.specs.declared.store.Stop.{Stop}
use Rattle.vault.proofs.Writes.{after_last, front_matches, same_here}
use Rattle.history.specs.Entries.{Course}
use Rattle.unit_store.specs.Views.{DriveView}
use Rattle.cached_drive.specs.Saving.{Units}
use Rattle.journaled_store.specs.Steps.{HasDrives, HasMarks, IsBeforeOrNow, IsPersisted, IsUpToDate, SameTable, UnlessSync, fault_of}
use Rattle.journaled_store.proofs.Leading.{step_same}

pub when_ok : {T E P : Type 0} (r : Result T E) → is_ok r ≡ true → OnOk r P → P
when_ok (Ok x) is p = p
when_ok (Err e) is p = absurd (true≢false (sym is))

at_most_or_all : (k n : ℕ) → k ≤ n + 1 → (k ≤ n) ⊎ (k ≡ n + 1)
at_most_or_all zero n high = inl (omega arith)
at_most_or_all (suc k) zero high = inr (omega (arith, high))
at_most_or_all (suc k) (suc n) high = ⊎_elim (λ low. inl (omega (arith, low))) (λ is. inr (omega (arith, is))) (at_most_or_all k n (omega (arith, high)))

-- an image that stands for some of the batches stands for some of those of before, or for all
pub before_or_all : (lost : List Bool) (base i : Image) (low : ℕ) (writes : List Intended) → RepresentsSome lost base.cells low (base.journal ++ writes ∷ []) i
    → RepresentsSome lost base.cells low base.journal i ⊎ Matches lost (after (recovered base) writes) i
before_or_all lost base i low writes some =
    ⊎_elim
    (λ few. inl (record {
      count = some.count;
      least = some.least;
      most = few;
      matches = subst (λ b. Matches lost (after base.cells (flat b)) i) (take-append-le some.count base.journal (writes ∷ []) few) some.matches;
    }))
    (λ all. inr (subst (λ (c : Cells). Matches lost c i) (after_last base writes)
    (subst (λ b. Matches lost (after base.cells (flat b)) i) (take_all some.count (base.journal ++ writes ∷ []) (omega (arith, all, length-append base.journal (writes ∷ [])))) some.matches)))
    (at_most_or_all some.count (length base.journal) (let most = some.most in omega (arith, most, length-append base.journal (writes ∷ []))))

-- what a stop leaves now
pub logged_now : {V : Type 0} (seen : V → Image) (may_leave : V → Stop → Image → Type 0) (lost : List Bool) (stop : Stop) (vault : V) (low : ℕ) (drives : List DriveView)
    → IsLogged seen may_leave lost stop vault low → (i : Image) → may_leave vault stop i → IsBeforeOrNow lost (seen vault) low drives i
logged_now seen may_leave lost stop vault low drives is i left = inl (front_matches lost (seen vault) i low (is.leaves i left))

-- a batch that has all that the drives hold
pub kept_by : (lost : List Bool) (drives : List DriveView) (marks : List ℕ) (c : Cells) → HasDrives lost drives c → c 16 0 ≡ Some marks → HasMarks drives marks → IsPersisted lost drives c
kept_by lost drives marks c has noted reported = record { has = has; marks = marks; noted = noted; reported = reported }

pub live_same : (lost : List Bool) (k : Course Units) (marks : List ℕ) (batch : List Intended) (c d : Cells) → ((drive at : ℕ) → d drive at ≡ after c batch drive at)
    → IsUpToDate lost k marks batch c → IsUpToDate lost k marks [] d
live_same lost k marks batch c d same live = record { step = step_same lost k batch c d same live.step; noted = same 16 0 ∙ live.noted; rest = λ at. refl }

-- a refusal by memory or size leaves what holds where nothing changed
pub unless_refused : {T : Type 0} (P : Type 0) (r : Result T VaultError) (e : VaultError) → r ≡ Err e → (IsRejected r → P) → UnlessSync (Err (fault_of e)) P
unless_refused P r error.Memory is same = same (inl is)
unless_refused P r error.Misfit is same = same (inr is)
unless_refused P r error.Journal is same = tt
unless_refused P r (error.Drive d) is same = tt

-- what some batches leave after one was appended, said of the units and batches of before
pub some_appended : (lost : List Bool) (base new i : Image) (low : ℕ) (writes : List Intended) → SameUnits new.cells base.cells → new.journal ≡ base.journal ++ writes ∷ []
    → RepresentsSome lost new.cells low new.journal i → RepresentsSome lost base.cells low (base.journal ++ writes ∷ []) i
some_appended lost base new i low writes same journal some = subst (λ b. RepresentsSome lost base.cells low b i) journal (record {
  count = some.count;
  least = some.least;
  most = some.most;
  matches = λ x live. some.matches x live ∙ same_here (flat (take some.count new.journal)) new.cells base.cells x (same x);
})

-- with a batch that has all that the drives hold
pub before_or_now : (lost : List Bool) (base i : Image) (low : ℕ) (writes : List Intended) (drives : List DriveView) → IsPersisted lost drives (after (recovered base) writes)
    → SameTable (after (recovered base) writes) (recovered base) → RepresentsSome lost base.cells low (base.journal ++ writes ∷ []) i → IsBeforeOrNow lost base low drives i
before_or_now lost base i low writes drives kept rest some =
    ⊎_elim (λ few. inl few) (λ matches. inr (after (recovered base) writes, matches, kept, rest)) (before_or_all lost base i low writes some)

-- a stop leaves what it left before, where nothing changed
pub logged_still : {V : Type 0} (seen : V → Image) (may_leave : V → Stop → Image → Type 0) (lost : List Bool) (stop : Stop) (old new : V) (low : ℕ)
    → IsUnchanged seen may_leave old new → IsLogged seen may_leave lost stop old low → IsLogged seen may_leave lost stop new low
logged_still seen may_leave lost stop old new low same is = record {
  flushed = subst (λ (s : Image). low ≤ length s.journal) (sym same.finds) is.flushed;
  leaves = λ i left. subst (λ (s : Image). IsFront lost s low i) (sym same.finds) (is.leaves i (same.leaves stop i left));
}

pub all_logged_still : {V : Type 0} (seen : V → Image) (may_leave : V → Stop → Image → Type 0) (lost : List Bool) (stop : Stop) (old new : V)
    → IsUnchanged seen may_leave old new → IsLogged seen may_leave lost stop old (length (seen old).journal) → IsLogged seen may_leave lost stop new (length (seen new).journal)
all_logged_still seen may_leave lost stop old new same is =
    subst (λ (s : Image). IsLogged seen may_leave lost stop new (length s.journal)) (sym same.finds) (logged_still seen may_leave lost stop old new (length (seen old).journal) same is)
