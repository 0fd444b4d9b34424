use Rattle.tests_book.proofs.refused.a_call_that_is_refused_gives_its_slot_back.Given as goal

-- each table that was made has its name
abbrev pub ghosts-refuses-N-Naming : goal.ghosts-refuses-N-Naming
ghosts-refuses-N-Naming g a = record { table = a.tables.0.slots }

abbrev pub ghosts-refuses-N-Sizes : goal.ghosts-refuses-N-Sizes
ghosts-refuses-N-Sizes g a = record { blocks = 16; payload = 40; hands = 1 }

abbrev pub ghosts-refuses-A-Naming : goal.ghosts-refuses-A-Naming
ghosts-refuses-A-Naming g a = record { table = a.tables.0.even }

abbrev pub ghosts-refuses-B-Naming : goal.ghosts-refuses-B-Naming
ghosts-refuses-B-Naming g a = record { table = a.tables.0.odd }

abbrev pub ghosts-refuses-N-Chronicle : goal.ghosts-refuses-N-Chronicle
ghosts-refuses-N-Chronicle g a = record { chronicle = a.tables.1 }
