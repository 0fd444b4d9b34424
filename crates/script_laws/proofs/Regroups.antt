-- What comes of a shift by a plan is one outcome and one state.
use Rattle.std.proofs.Common.{◌≡◌, inl, inr, ℕ, ◌<◌, List, Bool, refl, sym, ap, ◌∙◌, subst, arith, Option, Some, None}
use Rattle.extents.specs.Owners.{Owners}
use Rattle.extent_groups.specs.Groups.{Groups}
use Rattle.flat_machine.specs.declared.refusal.Refusal.TheVariants.{BadMember}
use Rattle.flat_machine.specs.Flat.{Flat}
use Rattle.flat_machine.specs.Steps.{FlatAnswer, MoveExtent, MovedExtent}
use Rattle.flat_machine.specs.Steps as step
use Rattle.flat_machine.specs.Cases.{Case}
use Rattle.rebalancer.specs.declared.shift.Shift.{Shift}
use Rattle.rebalancer.specs.Balancing.{IsBalance}
use Rattle.rebalancer.specs.Rebuilding.{IsRebuild}
use Rattle.tiered_array.specs.declared.regrouped.Regrouped.{Regrouped}
use Rattle.tiered_array.specs.declared.regrouped.Regrouped.TheVariants.{Moved, Refused, Nothing}
use Rattle.tiered_array.specs.Regrouping.{AreOwners, AreLost, IsBalanceOf, IsRebuildOf, ShiftCase, BalanceCase, RebuildCase}
use Rattle.script_laws.specs.Once.{Settles}
use Rattle.script_laws.specs.Steady.{IsReached}
use Rattle.script_laws.proofs.Trees.{Ends, Asks, Picks, Then, ends, asks, picks, then, settles_by}
use Rattle.script_laws.proofs.Steps.{step_settles}
use Rattle.script_laws.proofs.Shifts.{owners_once, lost_once, balance_once, rebuild_once}

-- a relation of an outcome and a flat state
abbrev pub Shifts : Type 1
Shifts = Regrouped → Flat → Type 0

-- ---- the plan is one

one_owners : (F : Flat) (o p : Owners) → AreOwners F o → AreOwners F p → o ≡ p
one_owners F o p a b = owners_once F.groups o p a.agree b.agree (a.rows ∙ sym b.rows) (a.wide ∙ sym b.wide)

one_lost : (F : Flat) (xs ys : List Bool) → AreLost F xs → AreLost F ys → xs ≡ ys
one_lost F xs ys a b = lost_once F.lost xs ys a.many b.many a.each b.each

one_balance : (F : Flat) (p q : Option Shift) → IsBalanceOf F p → IsBalanceOf F q → p ≡ q
one_balance F p q a b = balance_once b.owners F.groups b.lost p q
    (subst (λ o. IsBalance o F.groups b.lost p) (one_owners F a.owners b.owners a.owners_are b.owners_are)
    (subst (λ xs. IsBalance a.owners F.groups xs p) (one_lost F a.lost b.lost a.lost_are b.lost_are) a.is)) b.is

one_rebuild : (F : Flat) (drive : ℕ) (p q : Option Shift) → IsRebuildOf F drive p → IsRebuildOf F drive q → p ≡ q
one_rebuild F drive p q a b = rebuild_once b.owners F.groups b.lost drive p q
    (subst (λ o. IsRebuild o F.groups b.lost drive p) (one_owners F a.owners b.owners a.owners_are b.owners_are)
    (subst (λ xs. IsRebuild a.owners F.groups xs drive p) (one_lost F a.lost b.lost a.lost_are b.lost_are) a.is)) b.is

-- ---- its outcome and state are one

-- what comes of an answer to the move
abbrev outcome_in : Shift → FlatAnswer → Regrouped
outcome_in s MovedExtent = Moved s
outcome_in s (step.Refused r) = Refused r
outcome_in s _ = Nothing

-- nothing where there is no shift, else the shift
abbrev shifts_tree : Flat → Option Shift → Shifts
shifts_tree F None = Ends Nothing F
shifts_tree F (Some s) = ShiftCase F s

module _ (z : Groups) (F : Flat) (is : IsReached z F) where
  shift_settles : (s : Shift) → Settles (IsReached z) (ShiftCase F s)
  shift_settles s = settles_by (ShiftCase F s) (Then (Case F (MoveExtent s.group s.member s.to)) (λ a G. Ends (outcome_in s a) G)) to
      (then (step_settles z F (MoveExtent s.group s.member s.to) is tt) (λ a G now. ends now))
    where
      to : (o : Regrouped) (G : Flat) → ShiftCase F s o G → Then (Case F (MoveExtent s.group s.member s.to)) (λ a H. Ends (outcome_in s a) H) o G
      to (Moved t) G c = (MovedExtent, G, c.1, (ap Moved c.0, refl))
      to (Refused r) G c = (step.Refused r, G, c, (refl, refl))
      to Nothing G c = absurd c

  plan_settles : (plan : Option Shift) → Settles (IsReached z) (shifts_tree F plan)
  plan_settles None = ends is
  plan_settles (Some s) = shift_settles s

  pub balance_settles : Settles (IsReached z) (BalanceCase F)
  balance_settles = settles_by (BalanceCase F) (Picks (IsBalanceOf F) (shifts_tree F)) to
      (picks (one_balance F) (λ plan planned. plan_settles plan))
    where
      to : (o : Regrouped) (G : Flat) → BalanceCase F o G → Picks (IsBalanceOf F) (shifts_tree F) o G
      to Nothing G c = (None, c.0, (refl, c.1))
      to (Moved t) G c = (Some c.0, c.1, c.2)
      to (Refused r) G c = (Some c.0, c.1, c.2)

  pub rebuild_settles : (drive : ℕ) → Settles (IsReached z) (RebuildCase F drive)
  rebuild_settles drive = settles_by (RebuildCase F drive)
      (Asks (drive < F.drives) (Picks (IsRebuildOf F drive) (shifts_tree F)) (Ends (Refused BadMember) F)) to
      (asks (picks (one_rebuild F drive) (λ plan planned. plan_settles plan)) (ends is))
    where
      to : (o : Regrouped) (G : Flat) → RebuildCase F drive o G → Asks (drive < F.drives) (Picks (IsRebuildOf F drive) (shifts_tree F)) (Ends (Refused BadMember) F) o G
      to Nothing G c = inl (c.0, (None, c.1, (refl, c.2)))
      to (Moved t) G c = inl (c.0, (Some c.1.0, c.1.1, c.1.2))
      to (Refused r) G (inl c) = inr ((λ there. let past = c.0 in omega (arith, there, past)), (ap Refused c.1, c.2))
      to (Refused r) G (inr c) = inl (c.0, (Some c.1.0, c.1.1, c.1.2))
