-- The numbers of the statuses that calls return.
use Rattle.std.specs.Prelude.{◌≡◌, ℕ}
use Rattle.raid_c.specs.declared.status.Status.{Status}
use Rattle.raid_c.specs.declared.status.Status.TheVariants as is

abbrev pub number_of : Status → ℕ
number_of is.Done = 0
number_of is.Length = 1
number_of is.Fault = 2
number_of is.Room = 3
number_of is.Memory = 4
number_of is.Version = 5
number_of is.NoHeader = 6
number_of is.Differs = 7
number_of is.Range = 8
number_of is.Absent = 9

-- a call returned the number of a status of which this holds
abbrev pub Returns : ℕ → (Status → Type 0) → Type 0
Returns number Holds = (status : Status) × (number ≡ number_of status) × Holds status
