-- Who holds a slot that changed hands, and what a commit alone answers.
use Rattle.std.proofs.Common.{◌≡◌, ℕ, Bool, true, false, ◌||◌, ◌∙◌, refl, Option, Some, None}
use Rattle.map_join.specs.declared.records.Record.{Record}
use Rattle.flat_machine.specs.Flat.{Flat, Holder, Waiting, turned, with_pair, without_pair, same_holder}
use Rattle.flat_machine.specs.Flat as waiting
use Rattle.flat_machine.specs.Steps as step
use Rattle.flat_machine.specs.Cases.{Case, CommitWith}
use Rattle.flat_machine.proofs.Pairs.{itself, with_here}
use Rattle.slot_tables.specs.Views.{WorldView}
use Rattle.slot_tables.specs.Represents.{Represents}
use Rattle.step_core.specs.declared.step.Answer.{Answer}
use Rattle.step_core.specs.declared.step.Answer.TheVariants as answer
use Rattle.step_core.specs.Reported.{flat_answer}
use Rattle.tiered_array.specs.declared.outcome.Outcome.{Outcome}
use Rattle.tiered_array.specs.declared.outcome.Outcome.TheVariants.{Placed, Refused, Nothing}

-- what comes of a commit with this answer
abbrev pub outcome_of : Answer → Outcome
outcome_of (answer.Committed r) = Placed r
outcome_of (answer.Refused k) = Refused k
outcome_of _ = Nothing

-- what comes of a commit
abbrev pub CommitIs : Flat → ℕ → ℕ → ℕ → Outcome → Flat → Type 0
CommitIs F w s b (Placed r) G = Case F (step.Commit w s b) (step.Committed r) G
CommitIs F w s b (Refused k) G = Case F (step.Commit w s b) (step.Refused k) G
CommitIs F w s b _ G = ⊥

-- what is with it holds it, and so does what a slot was turned to
or_last : (b c : Bool) → c ≡ true → (b || c) ≡ true
or_last true c is = refl
or_last false c is = is

holds_with : (held : ℕ → Holder → Bool) (s : ℕ) (k : Holder) → with_pair held s k s k ≡ true
holds_with held s k = with_here held s k k ∙ or_last (held s k) (same_holder k k) (itself k)

pub holds_turned : (held : ℕ → Holder → Bool) (s : ℕ) (j k : Holder) → turned held s j k s k ≡ true
holds_turned held s j k = holds_with (without_pair held s j) s k

-- a commit answers a record or a refusal
commits_else : (F G : Flat) (w s b : ℕ) (found : Option Record) (c : Option Waiting) (a : Answer) → outcome_of a ≡ Nothing → CommitWith F w s b found c (flat_answer a) G → ⊥
commits_else F G w s b found None a other with = with
commits_else F G w s b found c (answer.Committed r) other with = absurd (cc)
commits_else F G w s b found c (answer.Refused k) other with = absurd (cc)
commits_else F G w s b found (Some (waiting.Fresh x)) _ other with = with
commits_else F G w s b found (Some (waiting.Moved c p h x)) _ other with = with

pub commit_is : (F G : Flat) (w s b : ℕ) (a : Answer) → Case F (step.Commit w s b) (flat_answer a) G → CommitIs F w s b (outcome_of a) G
commit_is F G w s b (answer.Committed r) case = case
commit_is F G w s b (answer.Refused k) case = case
commit_is F G w s b (answer.Claimed t) case = commits_else F G w s b case.2.0 (F.tickets s) (answer.Claimed t) refl case.2.2
commit_is F G w s b (answer.Taken t) case = commits_else F G w s b case.2.0 (F.tickets s) (answer.Taken t) refl case.2.2
commit_is F G w s b (answer.Released t) case = commits_else F G w s b case.2.0 (F.tickets s) (answer.Released t) refl case.2.2
commit_is F G w s b (answer.NotHeld t) case = commits_else F G w s b case.2.0 (F.tickets s) (answer.NotHeld t) refl case.2.2
commit_is F G w s b (answer.Filled t) case = commits_else F G w s b case.2.0 (F.tickets s) (answer.Filled t) refl case.2.2
commit_is F G w s b (answer.Copied t) case = commits_else F G w s b case.2.0 (F.tickets s) (answer.Copied t) refl case.2.2
commit_is F G w s b (answer.Discarded t) case = commits_else F G w s b case.2.0 (F.tickets s) (answer.Discarded t) refl case.2.2
commit_is F G w s b (answer.Read found) case = commits_else F G w s b case.2.0 (F.tickets s) (answer.Read found) refl case.2.2
commit_is F G w s b (answer.Found seen) case = commits_else F G w s b case.2.0 (F.tickets s) (answer.Found seen) refl case.2.2
commit_is F G w s b (answer.Made g) case = commits_else F G w s b case.2.0 (F.tickets s) (answer.Made g) refl case.2.2
commit_is F G w s b (answer.Unmade g) case = commits_else F G w s b case.2.0 (F.tickets s) (answer.Unmade g) refl case.2.2
commit_is F G w s b answer.Shifted case = commits_else F G w s b case.2.0 (F.tickets s) answer.Shifted refl case.2.2
commit_is F G w s b (answer.Added d) case = commits_else F G w s b case.2.0 (F.tickets s) (answer.Added d) refl case.2.2
commit_is F G w s b (answer.Lost d) case = commits_else F G w s b case.2.0 (F.tickets s) (answer.Lost d) refl case.2.2

-- what a world does for each state that it represents when it commits
abbrev pub Commits : WorldView → WorldView → ℕ → ℕ → ℕ → Answer → Type 0
Commits u v w s b a = (F : Flat) → Represents u F → (G : Flat) × Case F (step.Commit w s b) (flat_answer a) G × Represents v G
