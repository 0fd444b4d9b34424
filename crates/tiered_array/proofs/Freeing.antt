-- Which slots a step or a placing frees: a release frees its slot, a make may free slots of its group, and nothing else frees any.
use Rattle.std.proofs.Common.{◌≡◌, ◌≢◌, ◌⊎◌, inl, inr, ℕ, Bool, true, false, ◌||◌, ◌&&◌, not, ◌/◌, List, [], ◌∷◌, refl, sym, ap, ◌∙◌, subst, Option, Some, None}
use Rattle.std.proofs.lemmas.Bool.{cases_eq}
use Rattle.map_join.specs.declared.records.Record.{Record}
use Rattle.extent_groups.specs.declared.class.Class.{Class}
use Rattle.extent_groups.specs.declared.class.Member.{Member}
use Rattle.flat_machine.specs.declared.refusal.Refusal.{Refusal}
use Rattle.flat_machine.specs.Flat.{Flat, Holder, Worker, Ticket, Block, Shut, Waiting, IsUnheld, with_pair, without_pair, turned, same_holder}
use Rattle.flat_machine.specs.Flat as waiting
use Rattle.flat_machine.specs.Steps.{FlatStep, FlatAnswer, Refused, Released}
use Rattle.flat_machine.specs.Steps as step
use Rattle.flat_machine.specs.Cases.{Case, Leaves, Runs, CommitWith, made, place_passed}
use Rattle.flat_machine.specs.History.{IsHistory}
use Rattle.flat_machine.specs.Moves.{IsIn, HasClaim, unmade}
use Rattle.flat_machine.proofs.Unmakes.{held_else}
use Rattle.extent_groups.specs.Groups.{group_at}
use Rattle.flat_machine.proofs.Pairs.{one_holder, with_here, with_else, without_else, turned_else}
use Rattle.step_core.proofs.Worlds.{refused_leaves}
use Rattle.tiered_array.specs.Placing.{Put, Fresh, Again, PlaceCase, PlaceStops, put_step, put_answer, back_steps, back_answers}
use Rattle.tiered_array.specs.declared.outcome.Outcome.{Outcome}
use Rattle.tiered_array.specs.declared.outcome.Outcome.TheVariants as outcome
use Rattle.tiered_array.proofs.Placings.{holds_turned}
use Rattle.tiered_array.proofs.Emitting.{IsCalm}

-- nobody holds a slot, by a set of pairs
abbrev Nobody : (ℕ → Holder → Bool) → ℕ → Type 0
Nobody held t = (k : Holder) → held t k ≡ false

neither : (a b : Bool) → (a || b) ≡ false → a ≡ false
neither true b h = h
neither false b h = refl

with_free : (held : ℕ → Holder → Bool) (s t : ℕ) (k : Holder) → Nobody (with_pair held s k) t → Nobody held t
with_free held s t k free j = go (cases_eq t s)
  where
    go : (t ≡ s) ⊎ (t ≡ s → ⊥) → held t j ≡ false
    go (inl same) = ap (λ n. held n j) same ∙ neither (held s j) (same_holder j k) (sym (with_here held s k j) ∙ ap (λ n. with_pair held s k n j) (sym same) ∙ free j)
    go (inr other) = sym (ap (λ (h : Holder → Bool). h j) (with_else held s k t other)) ∙ free j

turned_free : (held : ℕ → Holder → Bool) (s t : ℕ) (j k : Holder) → Nobody (turned held s j k) t → Nobody held t
turned_free held s t j k free l = go (cases_eq t s)
  where
    go : (t ≡ s) ⊎ (t ≡ s → ⊥) → held t l ≡ false
    go (inl same) = let both : true ≡ false = sym (holds_turned held s j k) ∙ ap (λ n. turned held s j k n k) (sym same) ∙ free k in absurd (cc)
    go (inr other) = sym (ap (λ (h : Holder → Bool). h l) (turned_else held s j k t other)) ∙ free l

without_free : (held : ℕ → Holder → Bool) (s t : ℕ) (k : Holder) → Nobody (without_pair held s k) t → Nobody held t ⊎ (t ≡ s)
without_free held s t k free = go (cases_eq t s)
  where
    go : (t ≡ s) ⊎ (t ≡ s → ⊥) → Nobody held t ⊎ (t ≡ s)
    go (inl same) = inr same
    go (inr other) = inl (λ j. sym (ap (λ (h : Holder → Bool). h j) (without_else held s k t other)) ∙ free j)

passed_free : (held : ℕ → Holder → Bool) (w b t : ℕ) (found : Option Record) → Nobody (place_passed held w b found) t → Nobody held t
passed_free held w b t None free = free
passed_free held w b t (Some old) free = turned_free held old.place t (Block b) (Worker w) free

-- what is free after a step was free before it
abbrev pub FreesNone : Flat → Flat → Type 0
FreesNone F G = (t : ℕ) → IsUnheld G t → IsUnheld F t

-- the same but for some slots
abbrev pub Frees : Flat → Flat → (ℕ → Type 0) → Type 0
Frees F G P = (t : ℕ) → IsUnheld G t → IsUnheld F t ⊎ P t

held_as : (x G : Flat) (t : ℕ) → Leaves x G → IsUnheld G t → Nobody x.held t
held_as x G t leaves free k = sym (ap (λ (y : Flat). y.held t k) leaves.same) ∙ free k

pub left_frees : (F G : Flat) → Leaves F G → FreesNone F G
left_frees F G leaves t free = held_as F G t leaves free

same_frees : (F G : Flat) → G ≡ F → FreesNone F G
same_frees F G same t free = subst (λ (x : Flat). IsUnheld x t) same free

claim_frees : (F G : Flat) (w s t : ℕ) → Case F (step.Claim w s) (step.Claimed t) G → FreesNone F G
claim_frees F G w s t case n free = with_free F.held s n (Worker w) (held_as _ G n case.2 free)

pub release_frees : (F G : Flat) (w s t : ℕ) → Case F (step.Release w s) (Released t) G → Frees F G (λ n. n ≡ s)
release_frees F G w s t case n free = without_free F.held s n (Worker w) (held_as _ G n case.2 free)

discard_frees : (F G : Flat) (w s t : ℕ) → Case F (step.Discard w s) (step.Discarded t) G → FreesNone F G
discard_frees F G w s t case n free = turned_free F.held s n (Ticket w) (Worker w) (held_as _ G n case.2 free)

put_frees : (F G : Flat) (what : Put) (w s b : ℕ) → Case F (put_step what w s b) (put_answer what s) G → FreesNone F G
put_frees F G (Fresh x) w s b case n free = turned_free F.held s n (Worker w) (Ticket w) (held_as _ G n case.3 free)
put_frees F G Again w s b case n free = turned_free F.held s n (Worker w) (Ticket w) (held_as _ G n case.1.6 free)

pub refused_frees : (F G : Flat) (taken : FlatStep) (k : Refusal) → Case F taken (Refused k) G → FreesNone F G
refused_frees F G taken k case = left_frees F G (refused_leaves F G taken k case)

pub commit_frees : (F G : Flat) (w s b : ℕ) (r : Record) → Case F (step.Commit w s b) (step.Committed r) G → FreesNone F G
commit_frees F G w s b r case = go (F.tickets s) case.2.2
  where
    following : (x : Flat) → x.held ≡ place_passed (turned F.held s (Ticket w) (Block b)) w b case.2.0 → Leaves x G → FreesNone F G
    following x is leaves n free =
        turned_free F.held s n (Ticket w) (Block b)
        (passed_free (turned F.held s (Ticket w) (Block b)) w b n case.2.0 (λ k. sym (ap (λ (h : ℕ → Holder → Bool). h n k) is) ∙ held_as x G n leaves free k))

    go : (c : Option Waiting) → CommitWith F w s b case.2.0 c (step.Committed r) G → FreesNone F G
    go None with = absurd with
    go (Some (waiting.Fresh x)) with = following _ refl with.4
    go (Some (waiting.Moved c v h x)) with = following _ refl with.4

-- a place that is released is free
given_frees : (F G : Flat) (w s : ℕ) → Runs F (step.Release w s ∷ []) (Released s ∷ []) G → Frees F G (λ n. n ≡ s)
given_frees F G w s run n free = release_frees F run.0 w s s run.1 n (same_frees run.0 G run.2 n free)

-- the place of an optional record
abbrev pub IsPlaceIn : Option Record → ℕ → Type 0
IsPlaceIn None n = ⊥
IsPlaceIn (Some r) n = n ≡ r.place

back_frees : (F G : Flat) (w : ℕ) (old : Option Record) → Runs F (back_steps w old) (back_answers old) G → Frees F G (IsPlaceIn old)
back_frees F G w None run n free = inl (same_frees F G run n free)
back_frees F G w (Some old) run n free = given_frees F G w old.place run n free

-- a slot that was claimed and is released was free
again_free : (F H G : Flat) (w s : ℕ) → FreesNone F H → IsUnheld F s → Runs H (step.Release w s ∷ []) (Released s ∷ []) G → FreesNone F G
again_free F H G w s before was run n free = go (given_frees H G w s run n free)
  where
    go : IsUnheld H n ⊎ (n ≡ s) → IsUnheld F n
    go (inl there) = before n there
    go (inr same) = subst (IsUnheld F) (sym same) was

pub stops_free : (F G : Flat) (w s b : ℕ) (what : Put) → PlaceStops F w s b what G → FreesNone F G
stops_free F G w s b what stops =
    let run = stops.run in
    again_free F run.2.2.0 G w s
    (λ n free. claim_frees F run.0 w s s run.1 n (put_frees run.0 run.2.0 what w s b run.2.1 n (discard_frees run.2.0 run.2.2.0 w s s run.2.2.1 n free)))
    run.1.1 run.2.2.2

refused_place : (F G : Flat) (w s b : ℕ) (what : Put) (k : Refusal) → PlaceCase F w s b what (outcome.Refused k) G → FreesNone F G
refused_place F G w s b what k (inl run) =
    again_free F run.2.0 G w s (λ n free. claim_frees F run.0 w s s run.1 n (refused_frees run.0 run.2.0 (put_step what w s b) k run.2.1 n free)) run.1.1 run.2.2
refused_place F G w s b what k (inr run) =
    again_free F run.2.2.2.0 G w s
    (λ n free. claim_frees F run.0 w s s run.1 n (put_frees run.0 run.2.0 what w s b run.2.1 n
    (refused_frees run.2.0 run.2.2.0 (step.Commit w s b) k run.2.2.1 n (discard_frees run.2.2.0 run.2.2.2.0 w s s run.2.2.2.1 n free))))
    run.1.1 run.2.2.2.2

-- a placing frees no slot but the block's old place, and none where it places nothing
pub place_frees : (F G : Flat) (w s b : ℕ) (what : Put) (r : Record) (case : PlaceCase F w s b what (outcome.Placed r) G) → Frees F G (IsPlaceIn case.old)
place_frees F G w s b what r case n free = go (back_frees run.2.2.0 G w case.old run.2.2.2 n free)
  where
    run : Runs F (step.Claim w s ∷ put_step what w s b ∷ step.Commit w s b ∷ back_steps w case.old)
        (step.Claimed s ∷ put_answer what s ∷ step.Committed r ∷ back_answers case.old) G
    run = case.run

    go : IsUnheld run.2.2.0 n ⊎ IsPlaceIn case.old n → IsUnheld F n ⊎ IsPlaceIn case.old n
    go (inl there) =
        inl (claim_frees F run.0 w s s run.1 n (put_frees run.0 run.2.0 what w s b run.2.1 n (commit_frees run.2.0 run.2.2.0 w s b r run.2.2.1 n there)))
    go (inr old) = inr old

pub place_keeps : (F G : Flat) (w s b : ℕ) (what : Put) (o : Outcome) → ((r : Record) → o ≢ outcome.Placed r) → PlaceCase F w s b what o G → FreesNone F G
place_keeps F G w s b what (outcome.Placed r) other case = absurd (other r refl)
place_keeps F G w s b what (outcome.Refused k) other case = refused_place F G w s b what k case
place_keeps F G w s b what outcome.NoRoom other case = λ n free. left_frees F case.0 case.1.2 n (same_frees case.0 G case.2 n free)
place_keeps F G w s b what outcome.Nothing other case = absurd case

-- a step that releases no slot, makes no group and commits nothing
pub step_frees : (F G : Flat) (taken : FlatStep) (answer : FlatAnswer) → IsCalm taken → Case F taken answer G → FreesNone F G
step_frees F G taken (Refused k) calm case = refused_frees F G taken k case
step_frees F G (step.Claim w s) (step.Claimed t) calm case = claim_frees F G w s t case
step_frees F G (step.Claim w s) (step.Taken t) calm case = left_frees F G case.2
step_frees F G (step.Fill w s x) (step.Filled t) calm case = λ n free. turned_free F.held s n (Worker w) (Ticket w) (held_as _ G n case.3 free)
step_frees F G (step.Fill w s x) (step.NotHeld t) calm case = left_frees F G case.2
step_frees F G (step.Copy w s b) (step.Copied t) calm case = λ n free. turned_free F.held s n (Worker w) (Ticket w) (held_as _ G n case.1.6 free)
step_frees F G (step.Copy w s b) (step.NotHeld t) calm case = left_frees F G case.2
step_frees F G (step.Commit w s b) answer calm case = absurd calm
step_frees F G (step.Discard w s) (step.Discarded t) calm case = discard_frees F G w s t case
step_frees F G (step.Read b) (step.Found found) calm case = left_frees F G case.2
step_frees F G (step.ReadAt r) (step.FoundAt seen) calm case = left_frees F G case.3
step_frees F G (step.Lose d) (step.LostDrive e) calm case = λ n free. held_as _ G n case.2 free
step_frees F G step.AddDrive (step.AddedDrive d) calm case = λ n free. subst (λ (x : Flat). IsUnheld x n) case.2 free
step_frees F G (step.Release w s) answer calm case = absurd calm
step_frees F G (step.Make class members) answer calm case = absurd calm
step_frees F G (step.Unmake w g) answer calm case = absurd calm
step_frees F G (step.MoveExtent g k to) answer calm case = absurd calm
step_frees F G _ _ calm case = absurd case

-- where a group is made, a slot of another group that is free then was free
pub made_frees : (F G : Flat) (keys : ℕ → ℕ) (class : Class) (members : List Member) (g : ℕ) → IsHistory F keys → Leaves (made F class members g) G
    → (t : ℕ) → (t / 128 ≡ g → ⊥) → IsUnheld G t → IsUnheld F t
made_frees F G keys class members g history leaves t other free k = go (F.held t k) refl
  where
    kept : (F.held t k && not (same_holder k (Shut g))) ≡ false
    kept = held_as _ G t leaves free k

    shut : (b : Bool) → same_holder k (Shut g) ≡ b → F.held t k ≡ true → (true && not b) ≡ false → ⊥
    shut true same has is =
        let one = one_holder k (Shut g) same in
        other (sym ((history.holders t).shut g (subst (λ (h : Holder). F.held t h ≡ true) one has)).0)
    shut false same has is = let both : true ≡ false = is in absurd (cc)

    go : (b : Bool) → F.held t k ≡ b → F.held t k ≡ false
    go true has = absurd (shut (same_holder k (Shut g)) refl has (ap (λ b. b && not (same_holder k (Shut g))) (sym has) ∙ kept))
    go false has = has

-- and where a group is dissolved
pub unmade_frees : (F G : Flat) (keys : ℕ → ℕ) (w g : ℕ) → IsHistory F keys → group_at F.groups g ≢ None → ((s : ℕ) → IsIn F g s → HasClaim F w s) → Leaves (unmade F w g) G
    → (t : ℕ) → (t / 128 ≡ g → ⊥) → IsUnheld G t → IsUnheld F t
unmade_frees F G keys w g history made claimed leaves t other free k =
    ap (λ (h : Holder → Bool). h k) (sym (held_else F keys w g history made claimed t other)) ∙ held_as (unmade F w g) G t leaves free k
