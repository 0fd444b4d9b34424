-- A shift by a plan: its outcome is the answer to its command.
use Rattle.std.proofs.Common.{◌≡◌, ℕ, List, ◌++◌, Result, Ok, Err, Some, refl}
use Rattle.std.specs.Prelude.{OnOk}
use Rattle.flat_machine.specs.Flat.{Flat}
use Rattle.tiered_array.specs.declared.regrouped.Regrouped.{Regrouped}
use Rattle.tiered_array.specs.Tiered.{Tiered}
use Rattle.tiered_array.specs.Matches.{RepresentsTiers}
use Rattle.tiered_array.specs.Views.{TiersView}
use Rattle.script_syntax.specs.Order.{Order}
use Rattle.script_exec.specs.State.{Position, State}
use Rattle.script_exec.specs.Answers.{Answers, Regroups, with_flat}
use Rattle.script_exec.specs.Text.{regrouped_text}
use Rattle.script_exec.specs.Carrying.{Carries}
use Rattle.script_exec.specs.declared.bench.Bench.{Bench}

-- a shift by a plan carries its command out
pub reported_regroup : {E : Type 0} (r : Result (Unit {0}) E) (before : Bench) (u : TiersView) (order : Order) (comes : Flat → Regrouped → Flat → Type 0) (outcome : Regrouped) (old new : List ℕ)
    → OnOk r (new ≡ old ++ regrouped_text outcome)
    → ((T : Tiered) → RepresentsTiers before.tiers T → (G : Flat) × comes T.flat outcome G × RepresentsTiers u (record T { flat = G }))
    → ((P : Position) (text : List ℕ) (t : State) → Regroups P (comes P.tiers.flat) text t → Answers (Some P) order text t)
    → OnOk r (Carries before (record before { tiers = u }) order old new)
reported_regroup (Ok x) before u order comes outcome old new ok takes answers = λ P matches.
    let took = takes P.tiers matches.tiers in record {
      text = regrouped_text outcome;
      next = Some (with_flat P took.0);
      answers = answers P (regrouped_text outcome) (Some (with_flat P took.0))
          (record { outcome = outcome; next = took.0; case = took.1; text_is = refl; state_is = refl });
      matches = record { tiers = took.2; maps = matches.maps };
      out = ok;
    }
reported_regroup (Err e) before u order comes outcome old new ok takes answers = tt
