use Rattle.tests_book.proofs.books.one_after_other.Given as goal

-- each table that was made has its name
abbrev pub ghosts-both-N-Naming : goal.ghosts-both-N-Naming
ghosts-both-N-Naming g a = record { table = a.tables.0.slots }

abbrev pub ghosts-both-N-Sizes : goal.ghosts-both-N-Sizes
ghosts-both-N-Sizes g a = record { blocks = 16; payload = 40; hands = 2 }

abbrev pub ghosts-both-A-Naming : goal.ghosts-both-A-Naming
ghosts-both-A-Naming g a = record { table = a.tables.0.even }

abbrev pub ghosts-both-B-Naming : goal.ghosts-both-B-Naming
ghosts-both-B-Naming g a = record { table = a.tables.0.odd }

abbrev pub ghosts-both-C-Naming : goal.ghosts-both-C-Naming
ghosts-both-C-Naming g a = record { table = a.maps.0 }

abbrev pub ghosts-both-D-Naming : goal.ghosts-both-D-Naming
ghosts-both-D-Naming g a = record { table = a.maps.1 }

abbrev pub ghosts-both-N-Chronicle : goal.ghosts-both-N-Chronicle
ghosts-both-N-Chronicle g a = record { chronicle = a.tables.1 }
