-- What a run of a script over bytes in memory returns.
use Rattle.std.specs.Prelude.{◌≡◌, ℕ, List}
use Rattle.script_io.specs.Says.{Says}
use Rattle.script_io.specs.declared.end.End.{End}
use Rattle.script_io.specs.declared.end.End.TheVariants as end
use Rattle.raid_c.specs.declared.status.Status.{Status}
use Rattle.raid_c.specs.declared.status.Status.TheVariants as is
use Rattle.raid_c.specs.Lists.{IsBuffered, LacksRoom}

-- a run that came to the script's end or to a fault wrote what the script says
abbrev pub HasRun : End → List ℕ → List ℕ → Type 0
HasRun end.Whole script text = Says script text end.Whole
HasRun end.Fault script text = Says script text end.Fault
HasRun _ script text = Unit {0}

-- the script's answers were written to the buffer, and it ended so; if the buffer is too short the count says how many bytes
-- they are
abbrev pub AnswersScript : Status → List ℕ → List ℕ → List ℕ → ℕ → Type 0
AnswersScript is.Done script old new count = (text : List ℕ) × Says script text end.Whole × IsBuffered text old new count
AnswersScript is.Fault script old new count = (text : List ℕ) × Says script text end.Fault × IsBuffered text old new count
AnswersScript is.Room script old new count = (text : List ℕ) × (last : End) × Says script text last × LacksRoom text old new count
AnswersScript is.Memory script old new count = (new ≡ old) × (count ≡ 0)
AnswersScript _ script old new count = ⊥
