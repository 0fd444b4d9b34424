use Rattle.tests_disk.proofs.journaled.bytes_are_read_as_they_were_kept.Given as goal

-- the history that was made has its name
abbrev pub ghosts-keep_all : goal.ghosts-keep_all
ghosts-keep_all g a = record { chronicle = a.opened }
