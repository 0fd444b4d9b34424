use Rattle.tests_disk.proofs.recovered.begin.Given as goal

-- the history that was made has its name
abbrev pub ghosts-run_once : goal.ghosts-run_once
ghosts-run_once g a = record { chronicle = a.opened }
