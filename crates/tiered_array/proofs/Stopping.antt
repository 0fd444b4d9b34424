-- What a step leaves that runs out of memory: it stopped in the put that it would have made.
use Rattle.std.proofs.Common.{◌≡◌, ℕ, inl, inr, sym, subst, Some, None, Result, Ok, Err}
use Rattle.std.specs.Prelude.{OnErr}
use Rattle.flat_machine.specs.Flat.{Content}
use Rattle.slot_tables.specs.Views.{ArrayView, key_at}
use Rattle.migrator.specs.First.{IsFirst, IsFirstAppend}
use Rattle.cleaner.specs.declared.moves.Move.{Move}
use Rattle.cleaner.specs.Plans.{IsCleanPlan}
use Rattle.tiered_array.specs.Tiered.{Tiered}
use Rattle.tiered_array.specs.Placing.{Fresh, Again}
use Rattle.tiered_array.specs.Steps.{PutStops, DemoteStops, PlugStops, CleanStops, WriteStops, DemoteCase, IsFreeMirror}
use Rattle.tiered_array.specs.Matches.{RepresentsTiers}
use Rattle.tiered_array.specs.Inside.{IsFreeHere}
use Rattle.tiered_array.specs.Planning.{IsNextAppend, IsPlugOf, IsCleanOf}
use Rattle.tiered_array.specs.declared.planner.Planner.{Planner}
use Rattle.tiered_array.specs.declared.outcome.Outcome.{Outcome}
use Rattle.tiered_array.specs.Views.{TiersView}
use Rattle.tiered_array.proofs.Standing.{map_of, OldestIs, append_is, plug_is, as_state, FirstFree}

-- a demotion, a plug and a clean stop in the put of their own block and slot
pub stops_demote : {E : Type 0} (t u : TiersView) (p : Planner) (a : ArrayView) (w b s : ℕ) (r : Result Outcome E) → a ≡ t.world.array → p ≡ t.planner → OldestIs t (Some b)
    → IsNextAppend a p (IsFreeHere t.world) (Some s)
    → OnErr r ((T : Tiered) → RepresentsTiers (record t { planner = p }) T → (U : Tiered) × PutStops T w Again b s U × RepresentsTiers u U)
    → OnErr r ((T : Tiered) → RepresentsTiers t T → (U : Tiered) × DemoteStops T w U × RepresentsTiers u U)
stops_demote t u p a w b s (Ok o) array planner oldest next stopped = tt
stops_demote t u p a w b s (Err e) array planner oldest next stopped = λ T matches.
    let d = stopped T (subst (λ (q : Planner). RepresentsTiers (record t { planner = q }) T) (sym planner) matches) in (
      d.0,
      record {
        keys = key_at t.world.array;
        map_of = map_of t T matches;
        block = b;
        oldest = oldest T matches;
        slot = s;
        first = append_is t p a T (Some s) array planner matches next;
        stops = d.1;
      },
      d.2,
    )

pub stops_plug : {E : Type 0} (t u : TiersView) (a : ArrayView) (w : ℕ) (plan : Move) (r : Result Outcome E) → a ≡ t.world.array → IsPlugOf a t.planner (Some plan)
    → OnErr r ((T : Tiered) → RepresentsTiers t T → (U : Tiered) × PutStops T w Again plan.block plan.to U × RepresentsTiers u U)
    → OnErr r ((T : Tiered) → RepresentsTiers t T → (U : Tiered) × PlugStops T w U × RepresentsTiers u U)
stops_plug t u a w plan (Ok o) array planned stopped = tt
stops_plug t u a w plan (Err e) array planned stopped = λ T matches.
    let d = stopped T matches in (
      d.0,
      record {
        keys = key_at t.world.array;
        map_of = map_of t T matches;
        move = plan;
        planned = plug_is t a T (Some plan) array matches planned;
        stops = d.1;
      },
      d.2,
    )

pub stops_clean : {E : Type 0} (t u : TiersView) (a : ArrayView) (w : ℕ) (plan : Move) (r : Result Outcome E) → a ≡ t.world.array → IsCleanOf a t.planner (Some plan)
    → OnErr r ((T : Tiered) → RepresentsTiers t T → (U : Tiered) × PutStops T w Again plan.block plan.to U × RepresentsTiers u U)
    → OnErr r ((T : Tiered) → RepresentsTiers t T → (U : Tiered) × CleanStops T w U × RepresentsTiers u U)
stops_clean t u a w plan (Ok o) array planned stopped = tt
stops_clean t u a w plan (Err e) array planned stopped = λ T matches.
    let d = stopped T matches in
    let here = subst (λ (x : ArrayView). IsCleanOf x t.planner (Some plan)) array planned in (
      d.0,
      record {
        keys = key_at t.world.array;
        map_of = map_of t T matches;
        append = here.0;
        first = as_state (λ groups end. IsFirstAppend end groups (key_at t.world.array) (λ _. Unit {0}) here.0) t T matches here.1;
        move = plan;
        planned = as_state (λ groups end. IsCleanPlan groups (key_at t.world.array) end.group here.0 (Some plan)) t T matches here.2;
        stops = d.1;
      },
      d.2,
    )

-- a slot that is looked for once more, and a put into it that runs out of memory
abbrev pub StopsAgain : TiersView → TiersView → ℕ → ℕ → Content → Type 0
StopsAgain t u w b x = (T : Tiered) → RepresentsTiers t T
    → (slot : ℕ) × IsFirst (IsFreeMirror T.flat) (Some slot) × ((U : Tiered) × PutStops T w (Fresh x) b slot U × RepresentsTiers u U)

pub stops_again : {E : Type 0} (t m u : TiersView) (w b s : ℕ) (x : Content) (r : Result Outcome E) → FirstFree t m (Some s)
    → OnErr r ((T : Tiered) → RepresentsTiers m T → (U : Tiered) × PutStops T w (Fresh x) b s U × RepresentsTiers u U)
    → OnErr r (StopsAgain t u w b x)
stops_again t m u w b s x (Ok o) first stopped = tt
stops_again t m u w b s x (Err e) first stopped = λ T matches. let f = first T matches in (s, f.0, stopped T f.1)

-- and the ways of a write that runs out of memory
pub stops_here : {E : Type 0} (t m u : TiersView) (w b s : ℕ) (x : Content) (r : Result Outcome E) → FirstFree t m (Some s)
    → OnErr r ((T : Tiered) → RepresentsTiers m T → (U : Tiered) × PutStops T w (Fresh x) b s U × RepresentsTiers u U)
    → OnErr r ((T : Tiered) → RepresentsTiers t T → (U : Tiered) × WriteStops T w b x U × RepresentsTiers u U)
stops_here t m u w b s x (Ok o) first stopped = tt
stops_here t m u w b s x (Err e) first stopped = λ T matches.
    let f = first T matches in
    let d = stopped T f.1 in (d.0, record { slot = Some s; first = f.0; stops = d.1 }, d.2)

pub stops_down : (t m u : TiersView) (w b : ℕ) (x : Content) → FirstFree t m None
    → ((T : Tiered) → RepresentsTiers m T → (U : Tiered) × DemoteStops T w U × RepresentsTiers u U)
    → (T : Tiered) → RepresentsTiers t T → (U : Tiered) × WriteStops T w b x U × RepresentsTiers u U
stops_down t m u w b x none stopped T matches =
    let f = none T matches in
    let d = stopped T f.1 in (d.0, record { slot = None; first = f.0; stops = inl d.1 }, d.2)

pub stops_following : {E : Type 0} (t m v u : TiersView) (w b : ℕ) (x : Content) (demoted : Outcome) (r : Result Outcome E) → FirstFree t m None
    → ((T : Tiered) → RepresentsTiers m T → (V : Tiered) × DemoteCase T w demoted V × RepresentsTiers v V)
    → OnErr r (StopsAgain v u w b x)
    → OnErr r ((T : Tiered) → RepresentsTiers t T → (U : Tiered) × WriteStops T w b x U × RepresentsTiers u U)
stops_following t m v u w b x demoted (Ok o) none down again = tt
stops_following t m v u w b x demoted (Err e) none down again = λ T matches.
    let f = none T matches in
    let d = down T f.1 in
    let a = again d.0 d.2 in (
      a.2.0,
      record {
        slot = None;
        first = f.0;
        stops = inr (record { demoted = demoted; between = d.0; down = d.1; slot = a.0; first = a.1; stops = a.2.1 });
      },
      a.2.2,
    )
