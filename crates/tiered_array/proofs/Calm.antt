-- Steps after which what is kept next to the world is as it was.
use Rattle.std.proofs.Common.{◌≡◌, ℕ, refl, sym, ap, subst, Result, Ok, Err, inl, inr}
use Rattle.std.specs.Prelude.{IfOk, OnErr, OnOk}
use Rattle.flat_machine.specs.Flat.{Flat}
use Rattle.flat_machine.specs.Steps.{FlatStep, FlatAnswer, MovedExtent}
use Rattle.flat_machine.specs.Steps as step
use Rattle.flat_machine.specs.Cases.{Case, Leaves}
use Rattle.flat_machine.specs.Shortened.{IsShortened}
use Rattle.slot_tables.specs.Views.{WorldView, key_at}
use Rattle.slot_tables.specs.Represents.{Represents}
use Rattle.slot_tables.proofs.Fares.{itself}
use Rattle.step_core.specs.declared.step.Answer.{Answer}
use Rattle.step_core.specs.Reported.{flat_answer}
use Rattle.rebalancer.specs.declared.shift.Shift.{Shift}
use Rattle.tiered_array.specs.Marking.{AreMarked}
use Rattle.tiered_array.specs.Regrouping.{ShiftCase, BalanceCase, RebuildCase}
use Rattle.tiered_array.specs.Matches.{RepresentsTiers}
use Rattle.tiered_array.specs.Steps.{StepAlone}
use Rattle.tiered_array.specs.Tiered.{Tiered}
use Rattle.tiered_array.specs.Views.{TiersView}
use Rattle.tiered_array.specs.declared.regrouped.Regrouped.{Regrouped}
use Rattle.tiered_array.specs.declared.regrouped.Regrouped.TheVariants.{Moved, Refused, Nothing}
use Rattle.tiered_array.proofs.Emitting.{IsCalm}
use Rattle.tiered_array.proofs.Moving.{matches_shifted}
use Rattle.tiered_array.proofs.Standing.{matches_with, matches_left}

-- what a failed allocation says of the world's states it says of the whole's
pub still_needs : {A E : Type 0} (t : TiersView) (r : Result A E) (P : Flat → Type 0) → OnErr r ((F : Flat) → Represents t.world F → P F)
    → OnErr r ((T : Tiered) → RepresentsTiers t T → P T.flat)
still_needs t (Ok a) P needs = tt
still_needs t (Err e) P needs = λ T matches. needs T.flat matches.world

-- a step of the world is one of the whole
pub steps_with : (t : TiersView) (v : WorldView) (taken : FlatStep) (answer : FlatAnswer) → IsCalm taken
    → ((F : Flat) → Represents t.world F → (G : Flat) × Case F taken answer G × Represents v G)
    → (T : Tiered) → RepresentsTiers t T → (U : Tiered) × StepAlone T taken answer U × RepresentsTiers (record t { world = v }) U
steps_with t v taken answer calm takes T matches =
    let done = takes T.flat matches.world in
    (record T { flat = done.0 }, (done.0, done.1, refl), matches_with t v T done.0 taken answer calm matches done.2 done.1)

-- so is one of a call that may fail
pub steps_if : {E : Type 0} (t : TiersView) (v : WorldView) (taken : FlatStep) (r : Result Answer E) → IsCalm taken
    → IfOk r (λ a. (F : Flat) → Represents t.world F → (G : Flat) × Case F taken (flat_answer a) G × Represents v G)
    → IfOk r (λ a. (T : Tiered) → RepresentsTiers t T → (U : Tiered) × StepAlone T taken (flat_answer a) U × RepresentsTiers (record t { world = v }) U)
steps_if t v taken (Ok a) calm takes = steps_with t v taken (flat_answer a) calm takes
steps_if t v taken (Err e) calm takes = tt

-- so is a call that may only lose drives
pub syncs : (t : TiersView) (v : WorldView) → ((F : Flat) → Represents t.world F → (G : Flat) × Leaves F G × Represents v G)
    → (T : Tiered) → RepresentsTiers t T → (G : Flat) × Leaves T.flat G × RepresentsTiers (record t { world = v }) (record T { flat = G })
syncs t v leaves T matches =
    let done = leaves T.flat matches.world in
    (done.0, done.1, matches_left t v T done.0 matches done.2 done.1)

-- and one that shortens the log: the order, its marks and the hints stay
pub shortens : {E : Type 0} (t : TiersView) (v : WorldView) (r : Result (Unit {0}) E)
    → OnOk r ((F : Flat) → Represents t.world F → (G : Flat) × IsShortened F G × Represents v G)
    → OnOk r (v ≡ record t.world { array = record t.world.array { log = v.array.log } })
    → OnOk r ((T : Tiered) → RepresentsTiers t T → (G : Flat) × IsShortened T.flat G × RepresentsTiers (record t { world = v }) (record T { flat = G }))
shortens t v (Err e) shows rest = tt
shortens t v (Ok done) shows rest = λ T matches.
    let new = shows T.flat matches.world in
    let keys : key_at v.array ≡ key_at t.world.array = ap (λ (w : WorldView). key_at w.array) rest in (
      new.0,
      new.1,
      subst (λ (G : Flat). Represents v G → RepresentsTiers (record t { world = v }) (record T { flat = G })) (sym new.1.is)
          (λ rep. record {
            world = rep;
            order = matches.order;
            long = matches.long;
            each = matches.each;
            end = matches.end;
            marked = matches.marked;
            marks = subst (λ (k : ℕ → ℕ). AreMarked t.planner.ages.marks T.flat.groups k) (sym keys) matches.marks;
            hints = matches.hints;
            holes = matches.holes;
          }) new.2,
    )

module _ (t : TiersView) (v : WorldView) (T : Tiered) (G : Flat) (matches : RepresentsTiers t T) (rep : Represents v G) where
  same : G ≡ T.flat → RepresentsTiers (record t { world = v }) (record T { flat = G })
  same is = matches_left t v T G matches rep (subst (Leaves T.flat) (sym is) (itself T.flat))

  shifted : (s : Shift) (outcome : Regrouped) → ShiftCase T.flat s outcome G → RepresentsTiers (record t { world = v }) (record T { flat = G })
  shifted s (Moved m) case = matches_shifted t v T G s.group s.member s.to MovedExtent matches rep case.1
  shifted s (Refused r) case = matches_shifted t v T G s.group s.member s.to (step.Refused r) matches rep case
  shifted s Nothing case = absurd case

  -- what is kept next to the world represents the state after either plan
  balanced : (outcome : Regrouped) → BalanceCase T.flat outcome G → RepresentsTiers (record t { world = v }) (record T { flat = G })
  balanced Nothing case = same case.1
  balanced (Moved m) case = shifted case.0 (Moved m) case.2
  balanced (Refused r) case = shifted case.0 (Refused r) case.2

  rebuilt : (drive : ℕ) (outcome : Regrouped) → RebuildCase T.flat drive outcome G → RepresentsTiers (record t { world = v }) (record T { flat = G })
  rebuilt drive Nothing case = same case.2
  rebuilt drive (Moved m) case = shifted case.1.0 (Moved m) case.1.2
  rebuilt drive (Refused r) (inl none) = same none.2
  rebuilt drive (Refused r) (inr there) = shifted there.1.0 (Refused r) there.1.2

-- a plan that was carried out on the world was carried out on the whole
pub balances : {E : Type 0} (t : TiersView) (v : WorldView) (r : Result Regrouped E)
    → IfOk r (λ outcome. (F : Flat) → Represents t.world F → (G : Flat) × BalanceCase F outcome G × Represents v G)
    → IfOk r (λ outcome. (T : Tiered) → RepresentsTiers t T → (G : Flat) × BalanceCase T.flat outcome G × RepresentsTiers (record t { world = v }) (record T { flat = G }))
balances t v (Ok outcome) takes = λ T matches.
    let done = takes T.flat matches.world in (done.0, done.1, balanced t v T done.0 matches done.2 outcome done.1)
balances t v (Err e) takes = tt

pub rebuilds : {E : Type 0} (t : TiersView) (v : WorldView) (drive : ℕ) (r : Result Regrouped E)
    → IfOk r (λ outcome. (F : Flat) → Represents t.world F → (G : Flat) × RebuildCase F drive outcome G × Represents v G)
    → IfOk r (λ outcome. (T : Tiered) → RepresentsTiers t T → (G : Flat) × RebuildCase T.flat drive outcome G × RepresentsTiers (record t { world = v }) (record T { flat = G }))
rebuilds t v drive (Ok outcome) takes = λ T matches.
    let done = takes T.flat matches.world in (done.0, done.1, rebuilt t v T done.0 matches done.2 drive outcome done.1)
rebuilds t v drive (Err e) takes = tt
