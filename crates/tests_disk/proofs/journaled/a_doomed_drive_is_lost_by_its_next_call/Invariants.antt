use Rattle.tests_disk.proofs.journaled.a_doomed_drive_is_lost_by_its_next_call.Given as goal

-- the history that was made has its name
abbrev pub ghosts-lose_doomed : goal.ghosts-lose_doomed
ghosts-lose_doomed g a = record { chronicle = a.opened }
