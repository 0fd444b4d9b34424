-- What is written of a storm.
use Rattle.std.specs.Prelude.{◌≡◌, ℕ, List, ◌++◌, codes, decimal, Option, ◌⊎◌, Result, Ok, Err}
use Rattle.std.specs.Io.KnownBytes.{Appends, Keeps}
use Rattle.storm.specs.declared.outcome.Storm.{Storm}
use Rattle.storm.specs.declared.outcome.Storm.TheVariants as storm
use Rattle.storm.specs.declared.outcome.StormFault.{StormFault}
use Rattle.storm.specs.declared.reported.Reported.{Reported}
use Rattle.storm.specs.declared.reported.Reported.TheVariants as reported

-- the text is written, and the result says so, or a write failed
abbrev pub IsLine : List ℕ → Reported → Reported → Option (List ℕ) → Option (List ℕ) → Type 0
IsLine text good result held now = ((result ≡ good) × Appends held now text) ⊎ (result ≡ reported.Unwritten)

-- this is the result where a write was Ok
abbrev pub IsReportedOrNot : {E : Type 0} → Result (Unit {0}) E → Reported → Reported → Type 0
IsReportedOrNot (Ok done) good result = result ≡ good
IsReportedOrNot (Err fault) good result = result ≡ reported.Unwritten

-- that maps agree, or the lowest block at which they differ, is written in a line; nothing is written where the storm ended
-- with a fault
abbrev pub IsReported : Result Storm StormFault → Reported → Option (List ℕ) → Option (List ℕ) → Type 0
IsReported (Ok (storm.Agreed tally)) result held now = IsLine (codes "agreed\n") reported.Agreed result held now
IsReported (Ok (storm.Differs block)) result held now = IsLine (codes "differs " ++ (decimal block ++ codes "\n")) reported.Differs result held now
IsReported (Err fault) result held now = (result ≡ reported.Nothing) × Keeps held now
