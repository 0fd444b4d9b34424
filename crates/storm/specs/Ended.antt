-- With which status a program ends, once a storm was reported.
use Rattle.std.specs.Prelude.{◌≡◌, ℕ, List, Option, Result}
use Rattle.storm.specs.Telling.{IsReported}
use Rattle.storm.specs.declared.outcome.Storm.{Storm}
use Rattle.storm.specs.declared.outcome.StormFault.{StormFault}
use Rattle.storm.specs.declared.reported.Reported.{Reported}
use Rattle.storm.specs.declared.reported.Reported.TheVariants as reported

-- 0 for maps that agree, 3 for maps that differ, 4 for a storm that ended with a fault, 5 for a line that couldn't be written
abbrev pub storm_status : Reported → ℕ
storm_status reported.Agreed = 0
storm_status reported.Differs = 3
storm_status reported.Nothing = 4
storm_status reported.Unwritten = 5

-- what is written of a storm is reported, and the status is that of the report
abbrev pub IsReportedEnd : Result Storm StormFault → ℕ → Option (List ℕ) → Option (List ℕ) → Type 0
IsReportedEnd ended status held now = (reported : Reported) × (IsReported ended reported held now) × (status ≡ storm_status reported)
