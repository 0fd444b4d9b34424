use Rattle.std.proofs.Common.{◌+◌, ◌-◌, length}
use Rattle.tests_book.proofs.rig.lived_after.Given as goal

-- each table that was made has its name
abbrev pub ghosts-live-N-Naming : goal.ghosts-live-N-Naming
ghosts-live-N-Naming g a = record { table = a.tables.0.slots }

abbrev pub ghosts-live-N-Sizes : goal.ghosts-live-N-Sizes
ghosts-live-N-Sizes g a = record { blocks = 16; payload = 40; hands = 1 + (length a.numbers.now - 1) }

abbrev pub ghosts-live-A-Naming : goal.ghosts-live-A-Naming
ghosts-live-A-Naming g a = record { table = a.tables.0.even }

abbrev pub ghosts-live-B-Naming : goal.ghosts-live-B-Naming
ghosts-live-B-Naming g a = record { table = a.tables.0.odd }

abbrev pub ghosts-live-N-Chronicle : goal.ghosts-live-N-Chronicle
ghosts-live-N-Chronicle g a = record { chronicle = a.tables.1 }
