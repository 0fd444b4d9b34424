use Rattle.tests_disk.proofs.journaled.each_call_is_one_batch.Given as goal

-- the history that was made has its name
abbrev pub ghosts-write_all : goal.ghosts-write_all
ghosts-write_all g a = record { chronicle = a.opened }
