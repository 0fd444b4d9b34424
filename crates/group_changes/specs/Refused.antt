-- The faults of a change: their numbers, and after which of them the groups are those of before.
use Rattle.std.specs.Prelude.{ℕ}
use Rattle.group_changes.specs.declared.fault.GroupChangeFault.{GroupChangeFault}
use Rattle.group_changes.specs.declared.fault.GroupChangeFault.TheVariants.{Lost, Memory, Misfit, Number, Recovery, Refused, Vault}

-- the number of a fault
abbrev pub number_of : GroupChangeFault → ℕ
number_of Memory = 1
number_of (Vault error) = 2
number_of (Lost drive) = 3
number_of Misfit = 4
number_of (Number group) = 5
number_of (Refused refusal) = 6
number_of (Recovery fault) = 7

-- any fault but a call of the vault that failed
abbrev pub IsRefusal : GroupChangeFault → Type 0
IsRefusal (Vault error) = ⊥
IsRefusal _ = Unit {0}
