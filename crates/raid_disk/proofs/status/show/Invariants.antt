use Rattle.raid_disk.proofs.status.show.Given as goal

-- the history that was made has its name
abbrev pub ghosts-show_opened : goal.ghosts-show_opened
ghosts-show_opened a = record { chronicle = a.opened }
