use Rattle.raid_disk.proofs.replace.replace.Given as goal

-- the history that was made has its name
abbrev pub ghosts-mark_lost : goal.ghosts-mark_lost
ghosts-mark_lost a = record { chronicle = a.opened }
