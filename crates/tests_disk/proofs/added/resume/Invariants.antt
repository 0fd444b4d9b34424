use Rattle.tests_disk.proofs.added.resume.Given as goal

-- the history that was made has its name
abbrev pub ghosts-open_found : goal.ghosts-open_found
ghosts-open_found g a = record { chronicle = a.opened }
