-- What is planned where no demotion is due, and which slots a plan tries.
use Rattle.std.proofs.Common.{◌≡◌, ℕ, List, inl, inr, Option, Some, None, subst}
use Rattle.std.specs.Prelude.{MatchOption}
use Rattle.tiered_array.specs.Planning.{IsNextAppend, IsPlugOf, IsCleanOf}
use Rattle.array_book.specs.Kept.{KeptView}
use Rattle.array_book.specs.Planned.{IsRegrouped, IsPlanned, IsDone, IsNext, NoDemotion}
use Rattle.array_book.specs.Outcomes.{LockState, IsTried, HadNoRoom}
use Rattle.array_book.specs.declared.plan.Plan.{Plan}

-- a demotion that is due, by the oldest block
pub due_of : (r : Option ℕ) (W : Type 0) (P : Option ℕ → Type 0) → W → P r → MatchOption r (W → P None) (λ b. W × P (Some b))
due_of None W P needs is = λ w. is
due_of (Some b) W P needs is = (needs, is)

-- what is planned where no demotion is due
pub planned_else : (mirrors : List ℕ) (low : ℕ) (k : KeptView) (r : Option Plan) → NoDemotion k mirrors low
    → MatchOption r (IsPlugOf k.array k.planner None × IsCleanOf k.array k.planner None) (IsRegrouped k) → MatchOption r (IsDone mirrors low k) (IsPlanned mirrors low k)
planned_else mirrors low k None none is = record { demotion = none; plug = is.0; clean = is.1 }
planned_else mirrors low k (Some plan) none is = inr (none, is)

-- the first of some slots where the log goes on is one of these
pub first_is : (k : KeptView) (free : ℕ → Type 0) (r : Option ℕ) → IsNextAppend k.array k.planner free r → MatchOption r (Unit {0}) free
first_is k free None is = tt
first_is k free (Some slot) (inl is) = is.holds.1
first_is k free (Some slot) (inr is) = is.1.holds.1

-- what comes next is tried, and where nothing does there was no room
pub next_tried : (blocks payload : ℕ) (plan : Plan) (before : ℕ) (r : Option ℕ) (slot : ℕ) → (state : LockState blocks payload) × IsNext state.view plan before r
    → r ≡ Some slot → IsTried blocks payload plan slot
next_tried blocks payload plan before r slot seen is =
    inr (seen.0, before, subst (λ (o : Option ℕ). IsNext seen.0.view plan before o) is seen.1)

pub next_none : (blocks payload : ℕ) (plan : Plan) (last : ℕ) (r : Option ℕ) → IsTried blocks payload plan last
    → (state : LockState blocks payload) × IsNext state.view plan last r → r ≡ None → HadNoRoom blocks payload plan
next_none blocks payload plan last r tried seen is =
    inr (seen.0, last, tried, subst (λ (o : Option ℕ). IsNext seen.0.view plan last o) is seen.1)
