use Rattle.raid_disk.proofs.remove.remove.Given as goal

-- the history that was made has its name
abbrev pub ghosts-settle_whole : goal.ghosts-settle_whole
ghosts-settle_whole a = record { chronicle = a.opened }
