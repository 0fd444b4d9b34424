use Rattle.tests_words.proofs.slots.a_claim_is_released_by_another_thread.Given as goal

-- the table that was made has the name
abbrev pub ghosts-hands_a_claim_over : goal.ghosts-hands_a_claim_over
ghosts-hands_a_claim_over g a = record { table = a.table }
