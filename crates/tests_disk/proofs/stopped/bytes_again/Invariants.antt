use Rattle.tests_disk.proofs.stopped.bytes_again.Given as goal

-- the history that was made has its name
abbrev pub ghosts-read_again : goal.ghosts-read_again
ghosts-read_again g a = record { chronicle = a.opened }
