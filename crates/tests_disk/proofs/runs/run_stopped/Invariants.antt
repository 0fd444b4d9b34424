use Rattle.tests_disk.proofs.runs.run_stopped.Given as goal

-- the history that was made has its name
abbrev pub ghosts-run : goal.ghosts-run
ghosts-run g a = record { chronicle = a.opened }
