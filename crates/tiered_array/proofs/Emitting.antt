-- What a step, and a placing, says of the records and the groups: a commit emits one record, and nothing else emits any.
use Rattle.std.proofs.Common.{◌≡◌, ◌≢◌, ◌⊎◌, inl, inr, ℕ, ◌+◌, ◌<◌, ◌≤◌, arith, List, [], ◌∷◌, ◌++◌, Contains, refl, sym, ap, ◌∙◌, subst, Option, Some, None}
use Rattle.std.proofs.lemmas.List.Elements.{Contains-push, Contains-push_cases}
use Rattle.map_join.specs.declared.records.Record.{Record}
use Rattle.map_join.specs.Record.{key_of, IsRecord}
use Rattle.flat_machine.specs.declared.refusal.Refusal.{Refusal}
use Rattle.flat_machine.specs.Flat.{Flat, Waiting, IsNewest}
use Rattle.flat_machine.specs.Flat as waiting
use Rattle.flat_machine.specs.Steps.{FlatStep, FlatAnswer, Refused, Released}
use Rattle.flat_machine.specs.Steps as step
use Rattle.flat_machine.specs.Cases.{Case, Leaves, Runs, CommitWith, HasCopiedStamp, next_version}
use Rattle.step_core.proofs.Worlds.{refused_leaves}
use Rattle.tiered_array.specs.Placing.{Put, Fresh, Again, PlaceCase, PlaceStops, put_step, put_answer, back_steps, back_answers}
use Rattle.tiered_array.specs.declared.outcome.Outcome.{Outcome}
use Rattle.tiered_array.specs.declared.outcome.Outcome.TheVariants as outcome

-- two states with the same groups and records
pub record IsAlike (F G : Flat) : Type 0 where
  pub groups : G.groups ≡ F.groups
  pub emitted : G.emitted ≡ F.emitted

pub alike_more : (F M G : Flat) → IsAlike F M → IsAlike M G → IsAlike F G
alike_more F M G a b = record { groups = b.groups ∙ a.groups; emitted = b.emitted ∙ a.emitted }

pub alike_left : (F G : Flat) → Leaves F G → IsAlike F G
alike_left F G leaves = record { groups = ap (λ (x : Flat). x.groups) leaves.same; emitted = ap (λ (x : Flat). x.emitted) leaves.same }

alike_same : (F G : Flat) → G ≡ F → IsAlike F G
alike_same F G same = record { groups = ap (λ (x : Flat). x.groups) same; emitted = ap (λ (x : Flat). x.emitted) same }

pub alike_claimed : (F G : Flat) (w s t : ℕ) → Case F (step.Claim w s) (step.Claimed t) G → IsAlike F G
alike_claimed F G w s t case = record { groups = ap (λ (x : Flat). x.groups) case.2.same; emitted = ap (λ (x : Flat). x.emitted) case.2.same }

pub alike_released : (F G : Flat) (w s t : ℕ) → Case F (step.Release w s) (Released t) G → IsAlike F G
alike_released F G w s t case = record { groups = ap (λ (x : Flat). x.groups) case.2.same; emitted = ap (λ (x : Flat). x.emitted) case.2.same }

pub alike_discarded : (F G : Flat) (w s t : ℕ) → Case F (step.Discard w s) (step.Discarded t) G → IsAlike F G
alike_discarded F G w s t case = record { groups = ap (λ (x : Flat). x.groups) case.2.same; emitted = ap (λ (x : Flat). x.emitted) case.2.same }

pub alike_put : (F G : Flat) (what : Put) (w s b : ℕ) → Case F (put_step what w s b) (put_answer what s) G → IsAlike F G
alike_put F G (Fresh x) w s b case = record { groups = ap (λ (x : Flat). x.groups) case.3.same; emitted = ap (λ (x : Flat). x.emitted) case.3.same }
alike_put F G Again w s b case = record { groups = ap (λ (x : Flat). x.groups) case.1.6.same; emitted = ap (λ (x : Flat). x.emitted) case.1.6.same }

alike_refused : (F G : Flat) (taken : FlatStep) (k : Refusal) → Case F taken (Refused k) G → IsAlike F G
alike_refused F G taken k case = alike_left F G (refused_leaves F G taken k case)

alike_given : (F G : Flat) (w s : ℕ) → Runs F (step.Release w s ∷ []) (Released s ∷ []) G → IsAlike F G
alike_given F G w s run = alike_more F run.0 G (alike_released F run.0 w s s run.1) (alike_same run.0 G run.2)

alike_back : (F G : Flat) (w : ℕ) (old : Option Record) → Runs F (back_steps w old) (back_answers old) G → IsAlike F G
alike_back F G w None run = alike_same F G run
alike_back F G w (Some old) run = alike_given F G w old.place run

-- a record was emitted, the newest of its block; all else of records and groups is as before
pub record HasEmitted (F G : Flat) (b : ℕ) (r : Record) : Type 0 where
  pub groups : G.groups ≡ F.groups
  pub emitted : G.emitted ≡ F.emitted ++ r ∷ []
  pub newest : IsNewest G.emitted b (Some r)

-- the record that a commit emits has a greater key than the newest before
above_found : (emitted : List Record) (b : ℕ) (found : Option Record) (r : Record) → ((q : Record) → Contains emitted q → IsRecord q) → IsNewest emitted b found
    → ((n : Record) → found ≡ Some n → key_of n < key_of r) → (q : Record) → Contains emitted q → q.block ≡ b → key_of q ≤ key_of r
above_found emitted b None r all newest above q has at = absurd (newest q has at)
above_found emitted b (Some n) r all newest above q has at = let most = newest.2 q has at in let up = above n refl in omega arith

newest_last : (F G : Flat) (b : ℕ) (found : Option Record) (r : Record) → ((q : Record) → Contains F.emitted q → IsRecord q) → IsNewest F.emitted b found
    → ((n : Record) → found ≡ Some n → key_of n < key_of r) → r.block ≡ b → G.emitted ≡ F.emitted ++ r ∷ [] → IsNewest G.emitted b (Some r)
newest_last F G b found r all newest above block is =
    subst (λ rs. IsNewest rs b (Some r)) (sym is) (Contains-push F.emitted r, block, λ q has at. most q at (Contains-push_cases F.emitted r q has))
  where
    most : (q : Record) → q.block ≡ b → (Contains F.emitted q) ⊎ (r ≡ q) → key_of q ≤ key_of r
    most q at (inl has) = above_found F.emitted b found r all newest above q has at
    most q at (inr same) = let e = ap key_of same in omega arith

pub commit_emits : (F G : Flat) (w s b : ℕ) (r : Record) → ((q : Record) → Contains F.emitted q → IsRecord q) → Case F (step.Commit w s b) (step.Committed r) G → HasEmitted F G b r
commit_emits F G w s b r all case = go (F.tickets s) case.2.2
  where
    found : Option Record
    found = case.2.0

    fields : (n : Record) → found ≡ Some n → IsRecord n
    fields n is = all n ((subst (IsNewest F.emitted b) is case.2.1).0)

    is_fresh : r ≡ record { block = b; version = next_version found; hop = 0; place = s } → (n : Record) → found ≡ Some n → key_of n < key_of r
    is_fresh reported n is =
        let f = fields n is in
        let version : r.version ≡ n.version + 1 = ap (λ (q : Record). q.version) reported ∙ ap next_version is in
        let hop = f.hop in
        let place = f.place in
        omega arith

    go : (c : Option Waiting) → CommitWith F w s b found c (step.Committed r) G → HasEmitted F G b r
    go None with = absurd with
    go (Some (waiting.Fresh x)) with =
        let emitted : G.emitted ≡ F.emitted ++ r ∷ [] = ap (λ (x : Flat). x.emitted) with.4.same in record {
          groups = ap (λ (x : Flat). x.groups) with.4.same;
          emitted = emitted;
          newest = newest_last F G b found r all case.2.1 (is_fresh with.3) (ap (λ (q : Record). q.block) with.3) emitted;
        }
    go (Some (waiting.Moved c v h x)) with =
        let emitted : G.emitted ≡ F.emitted ++ r ∷ [] = ap (λ (x : Flat). x.emitted) with.4.same in record {
          groups = ap (λ (x : Flat). x.groups) with.4.same;
          emitted = emitted;
          newest = newest_last F G b found r all case.2.1 above (ap (λ (q : Record). q.block) with.3) emitted;
        }
      where
        above : (n : Record) → found ≡ Some n → key_of n < key_of r
        above n is =
            let f = fields n is in
            let stamp = subst (λ o. HasCopiedStamp o v h) is with.0 in
            let v_is = stamp.0 in
            let h_is = stamp.1 in
            let version : r.version ≡ v = ap (λ (q : Record). q.version) with.3 in
            let hop : r.hop ≡ h + 1 = ap (λ (q : Record). q.hop) with.3 in
            let place = f.place in
            omega arith

-- a record that was emitted between two states that are alike with others
emits_between : (F H I G : Flat) (b : ℕ) (r : Record) → IsAlike F H → HasEmitted H I b r → IsAlike I G → HasEmitted F G b r
emits_between F H I G b r before is following = record {
  groups = following.groups ∙ is.groups ∙ before.groups;
  emitted = following.emitted ∙ is.emitted ∙ ap (λ rs. rs ++ r ∷ []) before.emitted;
  newest = subst (λ rs. IsNewest rs b (Some r)) (sym following.emitted) is.newest;
}

-- a placing that was refused, or ran out of memory, half-way
pub stops_alike : (F G : Flat) (w s b : ℕ) (what : Put) → PlaceStops F w s b what G → IsAlike F G
stops_alike F G w s b what stops =
    let run = stops.run in
    let claimed = alike_claimed F run.0 w s s run.1 in
    let put = alike_put run.0 run.2.0 what w s b run.2.1 in
    let discarded = alike_discarded run.2.0 run.2.2.0 w s s run.2.2.1 in
    let back = alike_given run.2.2.0 G w s run.2.2.2 in
    alike_more F run.0 G claimed (alike_more run.0 run.2.0 G put (alike_more run.2.0 run.2.2.0 G discarded back))

place_refused : (F G : Flat) (w s b : ℕ) (what : Put) (k : Refusal) → PlaceCase F w s b what (outcome.Refused k) G → IsAlike F G
place_refused F G w s b what k (inl run) =
    let claimed = alike_claimed F run.0 w s s run.1 in
    let refused = alike_refused run.0 run.2.0 (put_step what w s b) k run.2.1 in
    let back = alike_given run.2.0 G w s run.2.2 in
    alike_more F run.0 G claimed (alike_more run.0 run.2.0 G refused back)
place_refused F G w s b what k (inr run) =
    let claimed = alike_claimed F run.0 w s s run.1 in
    let put = alike_put run.0 run.2.0 what w s b run.2.1 in
    let refused = alike_refused run.2.0 run.2.2.0 (step.Commit w s b) k run.2.2.1 in
    let discarded = alike_discarded run.2.2.0 run.2.2.2.0 w s s run.2.2.2.1 in
    let back = alike_given run.2.2.2.0 G w s run.2.2.2.2 in
    alike_more F run.0 G claimed (alike_more run.0 run.2.0 G put (alike_more run.2.0 run.2.2.0 G refused (alike_more run.2.2.0 run.2.2.2.0 G discarded back)))

-- a placing emits its record, and none where it places nothing
pub place_emits : (F G : Flat) (w s b : ℕ) (what : Put) (r : Record) → ((q : Record) → Contains F.emitted q → IsRecord q) → PlaceCase F w s b what (outcome.Placed r) G → HasEmitted F G b r
place_emits F G w s b what r all case =
    let run = case.run in
    let before = alike_more F run.0 run.2.0 (alike_claimed F run.0 w s s run.1) (alike_put run.0 run.2.0 what w s b run.2.1) in
    let later : (q : Record) → Contains run.2.0.emitted q → IsRecord q = λ q has. all q (subst (λ rs. Contains rs q) before.emitted has) in
    emits_between F run.2.0 run.2.2.0 G b r before (commit_emits run.2.0 run.2.2.0 w s b r later run.2.2.1) (alike_back run.2.2.0 G w case.old run.2.2.2)

pub place_alike : (F G : Flat) (w s b : ℕ) (what : Put) (o : Outcome) → ((r : Record) → o ≢ outcome.Placed r) → PlaceCase F w s b what o G → IsAlike F G
place_alike F G w s b what (outcome.Placed r) other case = absurd (other r refl)
place_alike F G w s b what (outcome.Refused k) other case = place_refused F G w s b what k case
place_alike F G w s b what outcome.NoRoom other case = alike_more F case.0 G (alike_left F case.0 case.1.2) (alike_same case.0 G case.2)
place_alike F G w s b what outcome.Nothing other case = absurd case

-- a step that emits no record, changes no group and frees no slot
abbrev pub IsCalm : FlatStep → Type 0
IsCalm (step.Commit w s b) = ⊥
IsCalm (step.Release w s) = ⊥
IsCalm (step.Make class members) = ⊥
IsCalm (step.Unmake w g) = ⊥
IsCalm (step.MoveExtent g k to) = ⊥
IsCalm _ = Unit {0}

pub calm_alike : (F G : Flat) (taken : FlatStep) (answer : FlatAnswer) → IsCalm taken → Case F taken answer G → IsAlike F G
calm_alike F G taken (Refused k) calm case = alike_refused F G taken k case
calm_alike F G (step.Claim w s) (step.Claimed t) calm case = alike_claimed F G w s t case
calm_alike F G (step.Claim w s) (step.Taken t) calm case = alike_left F G case.2
calm_alike F G (step.Fill w s x) (step.Filled t) calm case = record { groups = ap (λ (x : Flat). x.groups) case.3.same; emitted = ap (λ (x : Flat). x.emitted) case.3.same }
calm_alike F G (step.Fill w s x) (step.NotHeld t) calm case = alike_left F G case.2
calm_alike F G (step.Copy w s b) (step.Copied t) calm case = record { groups = ap (λ (x : Flat). x.groups) case.1.6.same; emitted = ap (λ (x : Flat). x.emitted) case.1.6.same }
calm_alike F G (step.Copy w s b) (step.NotHeld t) calm case = alike_left F G case.2
calm_alike F G (step.Discard w s) (step.Discarded t) calm case = alike_discarded F G w s t case
calm_alike F G (step.Read b) (step.Found found) calm case = alike_left F G case.2
calm_alike F G (step.ReadAt r) (step.FoundAt seen) calm case = alike_left F G case.3
calm_alike F G (step.Lose d) (step.LostDrive e) calm case = record { groups = ap (λ (x : Flat). x.groups) case.2.same; emitted = ap (λ (x : Flat). x.emitted) case.2.same }
calm_alike F G step.AddDrive (step.AddedDrive d) calm case = record { groups = ap (λ (x : Flat). x.groups) case.2; emitted = ap (λ (x : Flat). x.emitted) case.2 }
calm_alike F G (step.Commit w s b) answer calm case = absurd calm
calm_alike F G (step.Release w s) answer calm case = absurd calm
calm_alike F G (step.Make class members) answer calm case = absurd calm
calm_alike F G (step.Unmake w g) answer calm case = absurd calm
calm_alike F G (step.MoveExtent g k to) answer calm case = absurd calm
calm_alike F G _ _ calm case = absurd case
