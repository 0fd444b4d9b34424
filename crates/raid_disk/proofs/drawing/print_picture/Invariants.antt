use Rattle.raid_disk.proofs.drawing.print_picture.Given as goal

-- the history that was made has its name
abbrev pub ghosts-draw_opened : goal.ghosts-draw_opened
ghosts-draw_opened a = record { chronicle = a.opened }
