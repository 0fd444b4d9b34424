-- The numbers of the refusals.
use Rattle.std.specs.Prelude.{ℕ}
use Rattle.flat_machine.specs.declared.refusal.Refusal.{Refusal}
use Rattle.flat_machine.specs.declared.refusal.Refusal.TheVariants.{Memory, NoGroup, WrongClass, InUse, NoTicket, Outrun, VersionSpent, HopsSpent, Unwritten, Gone, SlotsHeld, ExtentTaken, SameDrive, DriveLost, Ahead, LogFull, Full, BadMember}

abbrev pub number_of : Refusal → ℕ
number_of Memory = 1
number_of NoGroup = 2
number_of WrongClass = 3
number_of InUse = 4
number_of NoTicket = 5
number_of (Outrun r) = 6
number_of VersionSpent = 7
number_of HopsSpent = 8
number_of Unwritten = 9
number_of (Gone s) = 10
number_of (SlotsHeld s) = 11
number_of ExtentTaken = 12
number_of SameDrive = 13
number_of (DriveLost d) = 14
number_of (Ahead o) = 15
number_of LogFull = 16
number_of Full = 17
number_of BadMember = 18
