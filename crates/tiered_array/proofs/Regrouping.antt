-- Plans of an array, stated over the flat state that it represents.
use Rattle.std.proofs.Common.{◌≡◌, ◌≢◌, ℕ, ◌<◌, Bool, List, refl, sym, ap, ◌∙◌, subst, Option, Some, inr, Result, Ok, Err, IfOk, OnErr}
use Rattle.std.specs.declared.alloc.AllocError.{AllocError}
use Rattle.extent_groups.specs.Groups.{Groups, Agree}
use Rattle.slot_tables.specs.Represents.{Represents}
use Rattle.slot_tables.specs.Views.{WorldView, IsWhole}
use Rattle.flat_machine.specs.Flat.{Flat}
use Rattle.flat_machine.specs.declared.refusal.Refusal.{Refusal}
use Rattle.flat_machine.specs.declared.refusal.Refusal.TheVariants.{Memory}
use Rattle.flat_machine.specs.Cases.{Case, IsAllocating}
use Rattle.flat_machine.specs.Steps.{MoveExtent, MovedExtent}
use Rattle.flat_machine.specs.Steps as step
use Rattle.slot_tables.specs.Changes.{MayRefuse}
use Rattle.flat_machine.specs.Moves.{MovePasses}
use Rattle.rebalancer.specs.declared.shift.Shift.{Shift}
use Rattle.rebalancer.specs.Balancing.{IsBalance}
use Rattle.rebalancer.specs.Rebuilding.{IsRebuild}
use Rattle.step_core.proofs.Refusals.{refused_of, expected_of}
use Rattle.tiered_array.specs.declared.regrouped.Regrouped.{Regrouped}
use Rattle.tiered_array.specs.declared.regrouped.Regrouped.TheVariants.{Moved, Refused, Nothing}
use Rattle.tiered_array.specs.Regrouping.{AreOwners, AreLost, AreLostOf, IsBalanceOf, IsRebuildOf, IfMoved, ShiftCase, BalanceCase, RebuildCase}

module _ (v : WorldView) (F : Flat) (whole : IsWhole v.array) (rep : Represents v F) where
  owners_are : AreOwners F v.array.parts.owners
  owners_are = record {
    agree = subst (λ (z : Groups). Agree z v.array.parts.owners) (sym rep.array.tables.groups) whole.agree;
    rows = whole.rows ∙ sym rep.array.tables.drives;
    wide = whole.wide ∙ ap (λ (z : Groups). z.extents) (sym rep.array.tables.groups);
  }

  lost_are : (lost : List Bool) → AreLostOf v.array.parts lost → AreLost F lost
  lost_are lost are = record { many = are.many; each = λ d low. are.each d low ∙ sym (ap (λ f. f d) rep.array.tables.lost) }

  pub balance_of : (lost : List Bool) (plan : Option Shift) → AreLostOf v.array.parts lost → IsBalance v.array.parts.owners v.array.parts.groups lost plan → IsBalanceOf F plan
  balance_of lost plan are is = record {
    owners = v.array.parts.owners;
    owners_are = owners_are;
    lost = lost;
    lost_are = lost_are lost are;
    is = subst (λ (z : Groups). IsBalance v.array.parts.owners z lost plan) (sym rep.array.tables.groups) is;
  }

  pub rebuild_of : (lost : List Bool) (drive : ℕ) (plan : Option Shift) → AreLostOf v.array.parts lost → IsRebuild v.array.parts.owners v.array.parts.groups lost drive plan → IsRebuildOf F drive plan
  rebuild_of lost drive plan are is = record {
    owners = v.array.parts.owners;
    owners_are = owners_are;
    lost = lost;
    lost_are = lost_are lost are;
    is = subst (λ (z : Groups). IsRebuild v.array.parts.owners z lost drive plan) (sym rep.array.tables.groups) is;
  }

-- what comes of the shift that a plan names is what comes of the plan
pub as_balance : (F G : Flat) (s : Shift) (outcome : Regrouped) → IsBalanceOf F (Some s) → ShiftCase F s outcome G → BalanceCase F outcome G
as_balance F G s (Moved t) plan case = (s, plan, case)
as_balance F G s (Refused r) plan case = (s, plan, case)
as_balance F G s Nothing plan case = absurd case

pub as_rebuild : (F G : Flat) (drive : ℕ) (s : Shift) (outcome : Regrouped) → drive < F.drives → IsRebuildOf F drive (Some s) → ShiftCase F s outcome G → RebuildCase F drive outcome G
as_rebuild F G drive s (Moved t) there plan case = (there, (s, plan, case))
as_rebuild F G drive s (Refused r) there plan case = inr (there, (s, plan, case))
as_rebuild F G drive s Nothing there plan case = absurd case

-- what comes of the shift that a plan names: it is done, refused, or out of memory
pub record WasShift (v w : WorldView) (s : Shift) (result : Result Regrouped AllocError) : Type 0 where
  pub ok : IfOk result (λ outcome. (F : Flat) → Represents v F → (G : Flat) × ShiftCase F s outcome G × Represents w G)
  pub err : OnErr result (w ≡ v)
  pub needs : OnErr result ((F : Flat) → Represents v F → IsAllocating F (MoveExtent s.group s.member s.to))

pub shift_done : (v w : WorldView) (s : Shift)
    → ((F : Flat) → Represents v F → (G : Flat) × Case F (MoveExtent s.group s.member s.to) MovedExtent G × Represents w G) → WasShift v w s (Ok (Moved s))
shift_done v w s does = record { ok = λ F rep. let y = does F rep in (y.0, (refl, y.1), y.2); err = tt; needs = tt }

pub shift_refused : (v w : WorldView) (s : Shift) (r q : Refusal) → q ≡ r → r ≢ Memory
    → ((F : Flat) → Represents v F → MayRefuse r (IsAllocating F (MoveExtent s.group s.member s.to))
    ((G : Flat) × Case F (MoveExtent s.group s.member s.to) (step.Refused r) G × Represents w G))
    → WasShift v w s (Ok (Refused q))
shift_refused v w s r q is ne may = record {
  ok = λ F rep.
      let y = refused_of r (IsAllocating F (MoveExtent s.group s.member s.to))
      ((G : Flat) × Case F (MoveExtent s.group s.member s.to) (step.Refused r) G × Represents w G) (may F rep) ne
      in
      (y.0, subst (λ x. ShiftCase F s (Refused x) y.0) (sym is) y.1, y.2);
  err = tt;
  needs = tt;
}

-- out of memory, it passed all that is tested before
pub shift_needs : (v w : WorldView) (s : Shift) (r : Refusal) → r ≡ Memory
    → ((F : Flat) → Represents v F → MayRefuse r (IsAllocating F (MoveExtent s.group s.member s.to))
    ((G : Flat) × Case F (MoveExtent s.group s.member s.to) (step.Refused r) G × Represents w G))
    → (F : Flat) → Represents v F → IsAllocating F (MoveExtent s.group s.member s.to)
shift_needs v w s r is may F rep = expected_of r (IsAllocating F (MoveExtent s.group s.member s.to))
    ((G : Flat) × Case F (MoveExtent s.group s.member s.to) (step.Refused r) G × Represents w G) (may F rep) is

-- a shift that a plan to balance asks for is that plan's case, in every state that a world represents
pub all_balanced : {E : Type 0} (r : Result Regrouped E) (v w : WorldView) (s : Shift) → ((F : Flat) → Represents v F → IsBalanceOf F (Some s))
    → IfOk r (λ outcome. (F : Flat) → Represents v F → (G : Flat) × ShiftCase F s outcome G × Represents w G)
    → IfOk r (λ outcome. (F : Flat) → Represents v F → (G : Flat) × BalanceCase F outcome G × Represents w G)
all_balanced (Ok outcome) v w s plan ok = λ F rep. let y = ok F rep in (y.0, as_balance F y.0 s outcome (plan F rep) y.1, y.2)
all_balanced (Err e) v w s plan ok = tt

pub all_rebuilt : {E : Type 0} (r : Result Regrouped E) (v w : WorldView) (drive : ℕ) (s : Shift) → ((F : Flat) → Represents v F → drive < F.drives)
    → ((F : Flat) → Represents v F → IsRebuildOf F drive (Some s))
    → IfOk r (λ outcome. (F : Flat) → Represents v F → (G : Flat) × ShiftCase F s outcome G × Represents w G)
    → IfOk r (λ outcome. (F : Flat) → Represents v F → (G : Flat) × RebuildCase F drive outcome G × Represents w G)
all_rebuilt (Ok outcome) v w drive s there plan ok = λ F rep. let y = ok F rep in (y.0, as_rebuild F y.0 drive s outcome (there F rep) (plan F rep) y.1, y.2)
all_rebuilt (Err e) v w drive s there plan ok = tt

-- if the move is out of memory, so is the call by its plan
pub all_expected : {T E : Type 0} (r : Result T E) (v : WorldView) (s : Shift) (P : Flat → Option Shift → Type 0) → ((F : Flat) → Represents v F → P F (Some s))
    → OnErr r ((F : Flat) → Represents v F → MovePasses F s.group s.member s.to)
    → OnErr r ((F : Flat) → Represents v F → (t : Shift) × P F (Some t) × MovePasses F t.group t.member t.to)
all_expected (Ok x) v s P plan needs = tt
all_expected (Err e) v s P plan needs = λ F rep. (s, plan F rep, needs F rep)
