use Rattle.tests_disk.proofs.journaled.a_drive_that_fails_the_vault_is_lost.Given as goal

-- the history that was made has its name
abbrev pub ghosts-lose_one : goal.ghosts-lose_one
ghosts-lose_one g a = record { chronicle = a.opened }
