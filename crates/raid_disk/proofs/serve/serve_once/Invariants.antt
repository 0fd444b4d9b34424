use Rattle.raid_disk.proofs.serve.serve_once.Given as goal

-- the history that was made has its name
abbrev pub ghosts-serve_opened : goal.ghosts-serve_opened
ghosts-serve_opened a = record { chronicle = a.opened }
