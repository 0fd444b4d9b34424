-- A step that the world took is the answer to its command.
use Rattle.std.proofs.Common.{◌≡◌, ℕ, List, [], ◌∷◌, ◌++◌, codes, slice_index_or, Result, Ok, Err, Some, refl, subst, arith}
use Rattle.std.specs.Prelude.{OnOk}
use Rattle.map_join.specs.declared.records.Record.{Record}
use Rattle.map_join.specs.Record.{record_at}
use Rattle.map_join.specs.Maps.{Entries, at}
use Rattle.flat_machine.specs.Flat.{put}
use Rattle.flat_machine.specs.Steps.{FlatStep, FlatAnswer}
use Rattle.tiered_array.specs.Tiered.{Tiered}
use Rattle.tiered_array.specs.Steps.{TierStep, TierCase, CommitNoted, StepAlone}
use Rattle.tiered_array.specs.Matches.{RepresentsTiers}
use Rattle.tiered_array.specs.declared.outcome.Outcome.{Outcome}
use Rattle.tiered_array.specs.Views.{TiersView}
use Rattle.script_syntax.specs.Order.{Order}
use Rattle.script_syntax.specs.Order as o
use Rattle.script_exec.specs.State.{Position, State}
use Rattle.script_exec.specs.Answers.{Answers, Steps, TierSteps, with_flat, with_taken}
use Rattle.script_exec.specs.Text.{answer_text, asked_version, outcome_text, record_text}
use Rattle.script_exec.specs.Carrying.{AreMapsOf, Carries, IsCarried, IsMap}
use Rattle.script_exec.specs.declared.bench.Bench.{Bench}
use Rattle.script_exec.proofs.Benches.{put_here}

-- a step whose answer is appended carries its command out
pub reported_noted : {E : Type 0} (r : Result (Unit {0}) E) (before : Bench) (u : TiersView) (order : Order) (step : FlatStep) (answer : FlatAnswer)
    (old new : List ℕ) → OnOk r (new ≡ old ++ answer_text (asked_version step) answer)
    → ((T : Tiered) → RepresentsTiers before.tiers T → (U : Tiered) × StepAlone T step answer U × RepresentsTiers u U)
    → ((P : Position) (text : List ℕ) (t : State) → Steps P step text t → Answers (Some P) order text t)
    → OnOk r (Carries before (record before { tiers = u }) order old new)
reported_noted (Ok x) before u order step answer old new ok steps answers = λ P matches.
    let done = steps P.tiers matches.tiers in record {
      text = answer_text (asked_version step) answer;
      next = Some (with_flat P done.1.0);
      answers = answers P (answer_text (asked_version step) answer) (Some (with_flat P done.1.0))
          (record { answer = answer; next = done.1.0; case = done.1.1; text_is = refl; state_is = refl });
      matches = record { tiers = subst (RepresentsTiers u) done.1.2 done.2; maps = matches.maps };
      out = ok;
    }
reported_noted (Err e) before u order step answer old new ok steps answers = tt

-- a commit whose answer is appended
pub reported_commit : {E : Type 0} (r : Result (Unit {0}) E) (before : Bench) (u : TiersView) (worker slot block : ℕ) (answer : FlatAnswer) (old new : List ℕ)
    → OnOk r (new ≡ old ++ answer_text 0 answer)
    → ((T : Tiered) → RepresentsTiers before.tiers T → (U : Tiered) × CommitNoted T worker slot block answer U × RepresentsTiers u U)
    → OnOk r (Carries before (record before { tiers = u }) (o.Commit worker slot block) old new)
reported_commit (Ok x) before u worker slot block answer old new ok commits = λ P matches.
    let done = commits P.tiers matches.tiers in record {
      text = answer_text 0 answer;
      next = Some (record P { tiers = done.0 });
      answers = record { answer = answer; next = done.0; case = done.1; text_is = refl; state_is = refl };
      matches = record { tiers = done.2; maps = matches.maps };
      out = ok;
    }
reported_commit (Err e) before u worker slot block answer old new ok commits = tt

-- a step by a plan whose answer is appended
pub reported_tier : {E : Type 0} (r : Result (Unit {0}) E) (before : Bench) (u : TiersView) (order : Order) (step : TierStep) (outcome : Outcome) (old new : List ℕ)
    → OnOk r (new ≡ old ++ outcome_text outcome)
    → ((T : Tiered) → RepresentsTiers before.tiers T → (U : Tiered) × TierCase T step outcome U × RepresentsTiers u U)
    → ((P : Position) (text : List ℕ) (t : State) → TierSteps P step text t → Answers (Some P) order text t)
    → OnOk r (Carries before (record before { tiers = u }) order old new)
reported_tier (Ok x) before u order step outcome old new ok steps answers = λ P matches.
    let done = steps P.tiers matches.tiers in record {
      text = outcome_text outcome;
      next = Some (record P { tiers = done.0 });
      answers = answers P (outcome_text outcome) (Some (record P { tiers = done.0 }))
          (record { outcome = outcome; next = done.0; case = done.1; text_is = refl; state_is = refl });
      matches = record { tiers = done.2; maps = matches.maps };
      out = ok;
    }
reported_tier (Err e) before u order step outcome old new ok steps answers = tt

-- a record that a map took, and whose answer is appended
pub took_record : (P : Position) (tiers : TiersView) (maps : List Entries) (map : ℕ) (r newest : Record) (old new : List ℕ)
    → IsMap map → RepresentsTiers tiers P.tiers
    → AreMapsOf maps (put P.taken map (P.taken map ++ r ∷ [])) → record_at r.block (at (slice_index_or maps map []) r.block) ≡ Some newest
    → new ≡ old ++ (codes "took " ++ record_text newest)
    → IsCarried (Some P) (Some (record { tiers = tiers; maps = maps })) (o.Take map r) old new
took_record P tiers maps map r newest old new is_map shows are reported out = record {
  text = codes "took " ++ record_text newest;
  next = Some (with_taken P map (P.taken map ++ r ∷ []));
  answers = record {
    keys = at (slice_index_or maps map []);
    newest = newest;
    map_of = rw (put_here P.taken map (P.taken map ++ r ∷ [])) at (are map [] (omega arith));
    newest_is = reported;
    text_is = refl;
    state_is = refl;
  };
  matches = record { tiers = shows; maps = are };
  out = out;
}

-- what follows of a success
pub on_ok : {E : Type 0} (r : Result (Unit {0}) E) (A B : Type 0) → OnOk r A → (A → B) → OnOk r B
on_ok (Ok u) A B a f = f a
on_ok (Err e) A B a f = tt
