-- A slot that is lost stays lost where drives are lost, and where no group ever misses two members no answer is the refusal Gone.
use Rattle.std.proofs.Common.{◌≡◌, ℕ, Bool, true, List, [], ◌∷◌, All, arith, sym, ap, subst, ◌⊎◌, inl, inr, Option, Some, None}
use Rattle.std.proofs.lemmas.List.Elements.{All-cons}
use Rattle.map_join.specs.declared.records.Record.{Record}
use Rattle.extent_groups.specs.Groups.{Groups, AreGroups}
use Rattle.extent_groups.specs.Units.{Site, Pair, InStripe}
use Rattle.extent_groups.specs.Missing.{IsGone, IsGoneAt, MissAtMostOne}
use Rattle.extent_groups.proofs.LayoutLaw.{layout_law}
use Rattle.extent_groups.proofs.Missing.{never_gone}
use Rattle.flat_machine.specs.declared.refusal.Refusal.TheVariants.{Gone}
use Rattle.flat_machine.specs.Flat.{Flat, Waiting, Fresh, Moved}
use Rattle.flat_machine.specs.Steps.{FlatStep, Claim, Release, Fill, Copy, Commit, Discard, Read, ReadAt, Make, Unmake, MoveExtent, AddDrive, Lose, FlatAnswer, Refused}
use Rattle.flat_machine.specs.Cases.{Leaves, IsGoneIn, CommitWith, Case, Runs, NeverMissesTwo, ReportsPresent}

-- where more drives are lost a slot that is lost stays lost
pub gone_at : (old new : ℕ → Bool) (site : Site) → ((d : ℕ) → old d ≡ true → new d ≡ true) → IsGoneAt old site → IsGoneAt new site
gone_at old new (Pair p q) more gone = (more p.drive gone.0, more q.drive gone.1)
gone_at old new (InStripe row parity i) more gone = (
  (gone.0.0, gone.0.1, more gone.0.0.drive gone.0.2),
  (gone.1.0, gone.1.1, gone.1.2, gone.1.3, more gone.1.1.drive gone.1.4),
)

pub gone_stays : (F G : Flat) (s : ℕ) → Leaves F G → IsGoneIn F s → IsGoneIn G s
gone_stays F G s leaves gone =
    subst (λ (g : Groups). IsGone g G.lost s) (sym (ap (λ (z : Flat). z.groups) leaves.same))
    (gone.0, gone.1, gone_at F.lost G.lost gone.0 (λ d. (leaves.drives d).stays) gone.2)

-- where an answer is the refusal Gone, some slot is lost
reported_commit : (F G : Flat) (w s b : ℕ) (found : Option Record) (ticket : Option Waiting) (t : ℕ) → CommitWith F w s b found ticket (Refused (Gone t)) G → (u : ℕ) × IsGoneIn G u
reported_commit F G w s b found (Some (Fresh x)) t case = (s, case.3)
reported_commit F G w s b found (Some (Moved c v h x)) t case = (s, case.3)
reported_commit F G w s b found None t case = absurd case

reported_gone : (F G : Flat) (step : FlatStep) (t : ℕ) → Case F step (Refused (Gone t)) G → (u : ℕ) × IsGoneIn G u
reported_gone F G (Claim w s) t case = absurd case
reported_gone F G (Release w s) t case = absurd case
reported_gone F G (Fill w s x) t case = (s, case.2)
reported_gone F G (Copy w s b) t case = either case.0.2
  where
    either : (((t ≡ case.0.0.place) × (IsGoneIn G case.0.0.place)) ⊎ ((t ≡ s) × (IsGoneIn F case.0.0.place → ⊥) × (IsGoneIn G s))) → (u : ℕ) × IsGoneIn G u
    either (inl one) = (case.0.0.place, one.1)
    either (inr other) = (s, other.2)
reported_gone F G (Commit w s b) t case = reported_commit F G w s b case.2.0 (F.tickets s) t case.2.2
reported_gone F G (Discard w s) t case = absurd case
reported_gone F G (Read b) t case = (t, case.0.3)
reported_gone F G (ReadAt r) t case = (t, case.2)
reported_gone F G (Make class members) t case = absurd case
reported_gone F G (Unmake w g) t case = absurd case
reported_gone F G (MoveExtent g k to) t case = (t, case.2.gone)
reported_gone F G AddDrive t case = absurd case
reported_gone F G (Lose d) t case = absurd case

-- a state whose groups are well formed, and miss at most one member each, has no slot that is lost
none_gone : (F : Flat) → AreGroups F.groups → MissAtMostOne F.groups F.lost → (t : ℕ) → IsGoneIn F t → ⊥
none_gone F are one t gone = never_gone F.groups F.lost t gone.0 are one gone.1 ((layout_law F.groups are).whole t gone.0 gone.1) gone.2

-- of the state in which a run begins too
first_one : (F G : Flat) (steps : List FlatStep) (answers : List FlatAnswer) (run : Runs F steps answers G) → NeverMissesTwo F steps answers G run → MissAtMostOne F.groups F.lost
first_one F G [] [] run never = never
first_one F G [] (a ∷ answers) run never = absurd never
first_one F G (s ∷ steps) [] run never = absurd never
first_one F G (s ∷ steps) (a ∷ answers) run never = never.0

-- the groups of each state of a run are well formed
abbrev pub AllStand : (F : Flat) (steps : List FlatStep) (answers : List FlatAnswer) (G : Flat) → Runs F steps answers G → Type 0
AllStand F [] [] G run = AreGroups F.groups
AllStand F (step ∷ steps) (answer ∷ answers) G run = (AreGroups F.groups) × (AllStand run.0 steps answers G run.2)
AllStand F [] (answer ∷ answers) G run = ⊥
AllStand F (step ∷ steps) [] G run = ⊥

first_matches : (F G : Flat) (steps : List FlatStep) (answers : List FlatAnswer) (run : Runs F steps answers G) → AllStand F steps answers G run → AreGroups F.groups
first_matches F G [] [] run stand = stand
first_matches F G [] (a ∷ answers) run stand = absurd stand
first_matches F G (s ∷ steps) [] run stand = absurd stand
first_matches F G (s ∷ steps) (a ∷ answers) run stand = stand.0

-- where no group ever misses two members no answer of the run is the refusal Gone
pub all_present : (F G : Flat) (steps : List FlatStep) (answers : List FlatAnswer) (run : Runs F steps answers G) → AllStand F steps answers G run
    → NeverMissesTwo F steps answers G run → All ReportsPresent answers
all_present F G [] [] run stand never = λ k d inside. absurd (omega (arith, inside))
all_present F G [] (a ∷ answers) run stand never = absurd run
all_present F G (s ∷ steps) [] run stand never = absurd run
all_present F G (s ∷ steps) (a ∷ answers) run stand never =
    All-cons ReportsPresent a answers (first a run.1) (all_present run.0 G steps answers run.2 stand.1 never.1)
  where
    first : (b : FlatAnswer) → Case F s b run.0 → ReportsPresent b
    first (Refused (Gone t)) case =
        let u = reported_gone F run.0 s t case in
        none_gone run.0 (first_matches run.0 G steps answers run.2 stand.1) (first_one run.0 G steps answers run.2 never.1) u.0 u.1
    first _ case = tt
