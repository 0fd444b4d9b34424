-- The numbers of the faults.
use Rattle.std.specs.Prelude.{ℕ}
use Rattle.storm.specs.declared.outcome.StormFault.{StormFault}
use Rattle.storm.specs.declared.outcome.StormFault.TheVariants.{Setup, Run, Settle, Missing}

abbrev pub number_of : StormFault → ℕ
number_of (Setup refusal) = 1
number_of (Run fault) = 2
number_of (Settle fault) = 3
number_of (Missing hand) = 4
