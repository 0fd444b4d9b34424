-- Runs that grow by a step, and what is true of every state that is represented.
use Rattle.std.proofs.Common.{◌≡◌, ℕ, zero, suc, ◌+◌, ◌<◌, ◌≤◌, List, [], ◌∷◌, ◌++◌, length, take, get_or, map, All, refl, sym, ap, ◌∙◌, subst, arith}
use Rattle.std.proofs.lemmas.List.{map_more, map-append, take_more}
use Rattle.std.proofs.lemmas.List.Elements.{All-get_or}
use Rattle.step_core.specs.declared.step.Step.{Step}
use Rattle.step_core.specs.declared.step.Step.TheVariants as step
use Rattle.step_core.specs.declared.step.Answer.{Answer}
use Rattle.step_core.specs.Reported.{flat_step, flat_answer, FitsStep}
use Rattle.flat_machine.specs.Steps.{FlatStep, FlatAnswer}
use Rattle.extent_groups.specs.Groups.{AreGroups}
use Rattle.flat_machine.specs.Cases.{Case, Runs}
use Rattle.flat_machine.proofs.Gones.{AllStand, all_present}
use Rattle.step_core.specs.Headline.{TellingRun, IsStep, StepsTo}
use Rattle.flat_machine.specs.Flat.{Flat}
use Rattle.slot_tables.specs.Views.{ArrayView, WorldView, SameSizes}

-- a run through states whose groups are well formed
abbrev pub StandingRun : Flat → List FlatStep → List FlatAnswer → Flat → Type 0
StandingRun F steps answers G = (run : Runs F steps answers G) × AllStand F steps answers G run

-- one that goes one step further
pub run_more : (F M G : Flat) (steps : List FlatStep) (answers : List FlatAnswer) (step : FlatStep) (answer : FlatAnswer)
    → StandingRun F steps answers M → Case M step answer G → AreGroups G.groups → StandingRun F (steps ++ step ∷ []) (answers ++ answer ∷ []) G
run_more F M G [] [] step answer run case are =
    ((G, subst (λ (N : Flat). Case N step answer G) run.0 case, refl), (run.1, are))
run_more F M G [] (a ∷ answers) step answer run case are = absurd run.0
run_more F M G (s ∷ steps) [] step answer run case are = absurd run.0
run_more F M G (s ∷ steps) (a ∷ answers) step answer run case are =
    let rest = run_more run.0.0 M G steps answers step answer (run.0.2, run.1.1) case are in
    ((run.0.0, run.0.1, rest.0), (run.1.0, rest.1))

-- no answer of a run through such states is the refusal Gone where no group ever misses two members
pub telling : (F G : Flat) (steps : List FlatStep) (answers : List FlatAnswer) → StandingRun F steps answers G → TellingRun F steps answers G
telling F G steps answers run = record { run = run.0; present = all_present F G steps answers run.0 run.1 }

-- a step that fits an array fits one of the same sizes
fits_same : (a b : ArrayView) (step : Step) → SameSizes a b → FitsStep a.parts.groups step → FitsStep b.parts.groups step
fits_same a b (step.Claim w s) same fits = fits
fits_same a b (step.Release w s) same fits = fits
fits_same a b (step.Fill w s payload) same fits = (fits.0, fits.1 ∙ sym same.payload)
fits_same a b (step.Trim w s) same fits = fits
fits_same a b (step.Copy w s c) same fits = (fits.0, subst (λ n. c < n) (sym same.blocks) fits.1)
fits_same a b (step.Commit w s c) same fits = (fits.0, subst (λ n. c < n) (sym same.blocks) fits.1)
fits_same a b (step.Discard w s) same fits = fits
fits_same a b (step.Read c) same fits = subst (λ n. c < n) (sym same.blocks) fits
fits_same a b (step.ReadAt r) same fits = subst (λ n. r.block < n) (sym same.blocks) fits
fits_same a b (step.Make class members) same fits = fits
fits_same a b (step.Unmake w g) same fits = fits
fits_same a b (step.MoveExtent g k to) same fits = fits
fits_same a b step.AddDrive same fits = fits
fits_same a b (step.Lose d) same fits = fits

pub fits_at : (steps : List Step) (i : ℕ) (one : Step) → i < length steps → one ≡ get_or steps i one → (a b : ArrayView) → SameSizes a b → All (FitsStep a.parts.groups) steps
    → FitsStep b.parts.groups one
fits_at steps i one inside is a b same all =
    fits_same a b one same (subst (FitsStep a.parts.groups) (sym is) (All-get_or (FitsStep a.parts.groups) steps i one inside all))

pub sizes_again : (a b c : ArrayView) → SameSizes a b → SameSizes b c → SameSizes a c
sizes_again a b c one two = record { payload = two.payload ∙ one.payload; blocks = two.blocks ∙ one.blocks }

-- a run over the first steps goes one step further
pub runs_step : (F M G : Flat) (steps : List Step) (answers next : List Answer) (i : ℕ) (step : Step) (answer : Answer)
    → i < length steps → step ≡ get_or steps i step → next ≡ answers ++ answer ∷ []
    → StandingRun F (map flat_step (take i steps)) (map flat_answer answers) M → Case M (flat_step step) (flat_answer answer) G → AreGroups G.groups
    → StandingRun F (map flat_step (take (i + 1) steps)) (map flat_answer next) G
runs_step F M G steps answers next i step answer inside is grown run case are =
    let more : map flat_step (take (i + 1) steps) ≡ map flat_step (take i steps) ++ flat_step step ∷ [] =
    map_more flat_step steps i step inside ∙ ap (λ s. map flat_step (take i steps) ++ flat_step s ∷ []) (sym is)
    in
    let reported : map flat_answer next ≡ map flat_answer answers ++ flat_answer answer ∷ [] = ap (map flat_answer) grown ∙ map-append flat_answer answers (answer ∷ []) in
    subst (λ ss. StandingRun F ss (map flat_answer next) G) (sym more)
    (subst (λ reported. StandingRun F (map flat_step (take i steps) ++ flat_step step ∷ []) reported G) (sym reported)
    (run_more F M G (map flat_step (take i steps)) (map flat_answer answers) (flat_step step) (flat_answer answer) run case are))

-- all of a list
pub take_past : {X : Type 0} (xs : List X) (i : ℕ) → length xs ≤ i → take i xs ≡ xs
take_past [] zero past = refl
take_past [] (suc i) past = refl
take_past (x ∷ xs) zero past = absurd (omega arith)
take_past (x ∷ xs) (suc i) past = ap (λ t. x ∷ t) (take_past xs i (omega arith))

pub some_steps : (n : ℕ) → (n ≡ 0 → ⊥) → 0 < n
some_steps zero none = absurd (none refl)
some_steps (suc n) none = omega arith

-- a list of worlds, each the next step's, that goes one step further
steps_more : (w m v : WorldView) (steps : List Step) (answers : List Answer) (step : Step) (answer : Answer) → StepsTo w steps answers m → IsStep m step answer v → StepsTo w (steps ++ step ∷ []) (answers ++ answer ∷ []) v
steps_more w m v [] [] step answer steps_to is = (v, subst (λ (x : WorldView). IsStep x step answer v) (sym steps_to) is, refl)
steps_more w m v [] (a ∷ answers) step answer steps_to is = absurd steps_to
steps_more w m v (s ∷ steps) [] step answer steps_to is = absurd steps_to
steps_more w m v (s ∷ steps) (a ∷ answers) step answer steps_to is = (steps_to.0, steps_to.1, steps_more steps_to.0 m v steps answers step answer steps_to.2 is)

pub steps_step : (w m v : WorldView) (steps : List Step) (answers next : List Answer) (i : ℕ) (step : Step) (answer : Answer)
    → i < length steps → step ≡ get_or steps i step → next ≡ answers ++ answer ∷ [] → StepsTo w (take i steps) answers m → IsStep m step answer v → StepsTo w (take (i + 1) steps) next v
steps_step w m v steps answers next i step answer inside is grown steps_to one =
    let more : take (i + 1) steps ≡ take i steps ++ step ∷ [] = take_more steps i step inside ∙ ap (λ s. take i steps ++ s ∷ []) (sym is) in
    subst (λ ss. StepsTo w ss next v) (sym more) (subst (λ reported. StepsTo w (take i steps ++ step ∷ []) reported v) (sym grown) (steps_more w m v (take i steps) answers step answer steps_to one))

pub none_past : (n : ℕ) → n ≡ 0 → {X : Type 0} (xs : List X) → take n xs ≡ []
none_past n none xs = ap (λ k. take k xs) none ∙ go xs where
  go : {X : Type 0} (xs : List X) → take 0 xs ≡ []
  go [] = refl
  go (x ∷ xs) = refl

-- a list of no worlds begins and ends with one
pub steps_none : (w v : WorldView) (steps : List Step) (answers : List Answer) → steps ≡ [] → StepsTo w steps answers v → w ≡ v
steps_none w v [] [] none steps_to = steps_to
steps_none w v [] (a ∷ answers) none steps_to = absurd steps_to
steps_none w v (s ∷ steps) answers none steps_to = absurd (let bad : s ∷ steps ≡ [] = none in cc)
