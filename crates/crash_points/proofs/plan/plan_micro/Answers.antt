use Rattle.std.proofs.Common.{◌≡◌, ℕ, List, sym, subst}
use Rattle.std.specs.Prelude.{MatchResult}
use Rattle.flat_machine.specs.Cases.{Case, IsAllocating}
use Rattle.flat_machine.specs.Flat.{Flat, Payload}
use Rattle.flat_machine.specs.Steps.{Fill, Filled, Refused}
use Rattle.slot_tables.specs.Changes.{MayRefuse}
use Rattle.slot_tables.specs.Represents.{ShowsArray}
use Rattle.crash_points.specs.declared.intent.Intent.{Intent}
use Rattle.crash_points.specs.Intents.{MayTake, IsTaken, slot_of, step_of}
use Rattle.crash_points.specs.Lists.{IsStepList}
use Rattle.crash_points.proofs.plan.plan_micro.Goals as goal

pub returns-in-Fill-clause-flat : goal.returns-in-Fill-clause-flat
returns-in-Fill-clause-flat g c F w shows may =
    let d = g.D.Drive in
    subst (λ (i : Intent). MatchResult c.plan_fill.result (λ list. IsStepList d.units d.lost d.failures c.plan_fill.new.array F (slot_of i) (step_of w i) (IsTaken i) list.items)
    (λ e. MayRefuse e (IsAllocating F (step_of w i)) ((G : Flat) × Case F (step_of w i) (Refused e) G × ShowsArray c.plan_fill.new.array G))) (sym c.in-Fill.is)
    (subst (λ (p : List ℕ). MatchResult c.plan_fill.result (λ list. IsStepList d.units d.lost d.failures c.plan_fill.new.array F c.in-Fill.slot (Fill w c.in-Fill.slot (Payload p)) (λ answer. answer ≡ Filled c.in-Fill.slot) list.items)
    (λ e. MayRefuse e (IsAllocating F (Fill w c.in-Fill.slot (Payload p))) ((G : Flat) × Case F (Fill w c.in-Fill.slot (Payload p)) (Refused e) G × ShowsArray c.plan_fill.new.array G))) c.deref.ensures.value
    (c.plan_fill.ensures.flat F w shows (subst (MayTake F w) c.in-Fill.is may)))

pub returns-in-Trim-clause-flat : goal.returns-in-Trim-clause-flat
returns-in-Trim-clause-flat g c F w shows may =
    let d = g.D.Drive in
    subst (λ (i : Intent). MatchResult c.plan_trim.result (λ list. IsStepList d.units d.lost d.failures c.plan_trim.new.array F (slot_of i) (step_of w i) (IsTaken i) list.items)
    (λ e. MayRefuse e (IsAllocating F (step_of w i)) ((G : Flat) × Case F (step_of w i) (Refused e) G × ShowsArray c.plan_trim.new.array G))) (sym c.in-Trim.is)
    (c.plan_trim.ensures.flat F w shows (subst (MayTake F w) c.in-Trim.is may))

pub returns-in-Copy-clause-flat : goal.returns-in-Copy-clause-flat
returns-in-Copy-clause-flat g c F w shows may =
    let d = g.D.Drive in
    subst (λ (i : Intent). MatchResult c.plan_copy.result (λ list. IsStepList d.units d.lost d.failures c.plan_copy.new.array F (slot_of i) (step_of w i) (IsTaken i) list.items)
    (λ e. MayRefuse e (IsAllocating F (step_of w i)) ((G : Flat) × Case F (step_of w i) (Refused e) G × ShowsArray c.plan_copy.new.array G))) (sym c.in-Copy.is)
    (c.plan_copy.ensures.flat F w shows (subst (MayTake F w) c.in-Copy.is may))

pub returns-in-Commit-clause-flat : goal.returns-in-Commit-clause-flat
returns-in-Commit-clause-flat g c F w shows may =
    let d = g.D.Drive in
    subst (λ (i : Intent). MatchResult c.plan_commit.result (λ list. IsStepList d.units d.lost d.failures c.plan_commit.new.array F (slot_of i) (step_of w i) (IsTaken i) list.items)
    (λ e. MayRefuse e (IsAllocating F (step_of w i)) ((G : Flat) × Case F (step_of w i) (Refused e) G × ShowsArray c.plan_commit.new.array G))) (sym c.in-Commit.is)
    (c.plan_commit.ensures.flat F w shows (subst (MayTake F w) c.in-Commit.is may))
