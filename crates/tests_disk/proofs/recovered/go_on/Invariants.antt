use Rattle.tests_disk.proofs.recovered.go_on.Given as goal

-- the history that was made has its name
abbrev pub ghosts-open_again : goal.ghosts-open_again
ghosts-open_again g a = record { chronicle = a.opened }
