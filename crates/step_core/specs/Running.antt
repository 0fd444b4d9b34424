-- What is promised of a run of a world over a list of steps.
use Rattle.std.specs.Prelude.{◌≡◌, ◌⊎◌, ◌<◌, List, length, take, map, slice_get, Some, Result, MatchResult, IfErr}
use Rattle.flat_machine.specs.Flat.{Flat, HeldOnce}
use Rattle.flat_machine.specs.Cases.{IsAllocating}
use Rattle.slot_tables.specs.Views.{WorldView}
use Rattle.slot_tables.specs.Represents.{Represents}
use Rattle.step_core.specs.declared.run.Run.{Run}
use Rattle.step_core.specs.declared.run.Stopped.{Stopped}
use Rattle.step_core.specs.declared.step.Step.{Step}
use Rattle.step_core.specs.Headline.{Guarantees, TellingRun, StepsTo, OfEach, HasMaps, IsOneMissed, HasHeaders, ReadsLast, IsMemoryStop}
use Rattle.step_core.specs.Reported.{flat_answer, flat_step}

-- the answers are a run of the flat machine, from each state that the world represents; the world at the end, or where the run
-- stopped out of memory, represents the state at the run's end, and all holds of it that holds of a world
pub record IsRunOf {D : Type 0} (world : WorldView) (steps : List Step) (result : Result (Run D) (Stopped D)) : Type 0 where
  pub run : (F : Flat) → Represents world F → MatchResult result
      (λ run. (G : Flat) × TellingRun F (map flat_step steps) (map flat_answer run.answers.items) G × Represents run.world G × Guarantees run.world G)
      (λ stop. (G : Flat) × TellingRun F (map flat_step (take stop.at steps)) (map flat_answer stop.answers.items) G × Represents stop.world G
      × Guarantees stop.world G
      × (stop.at < length steps)
      × ((stop.at ≡ 0) ⊎ ((step : Step) × (slice_get steps stop.at ≡ Some step) × IsAllocating G (flat_step step))))
  pub worlds : MatchResult result (λ run. StepsTo world steps run.answers.items run.world)
      (λ stop. StepsTo world (take stop.at steps) stop.answers.items stop.world)
  pub answers : MatchResult result (λ run. length run.answers.items ≡ length steps)
      (λ stop. (length stop.answers.items ≡ stop.at) × (stop.at < length steps))
  pub once : MatchResult result (λ run. OfEach run.world HeldOnce) (λ stop. OfEach stop.world HeldOnce)
  pub maps : MatchResult result (λ run. OfEach run.world (HasMaps run.world)) (λ stop. OfEach stop.world (HasMaps stop.world))
  pub headers : (F : Flat) → Represents world F → MatchResult result
      (λ run. IsOneMissed run.world.array.parts → HasHeaders run.world)
      (λ stop. IsOneMissed stop.world.array.parts → HasHeaders stop.world)
  pub reads : MatchResult result (λ run. OfEach run.world (ReadsLast run.world)) (λ stop. OfEach stop.world (ReadsLast stop.world))
  pub stopped : IfErr result (λ stop. (stop.at ≡ 0 → stop.world ≡ world) × OfEach stop.world (IsMemoryStop steps stop.at))
