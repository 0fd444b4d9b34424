use Rattle.tests_words.proofs.slots.a_hundred_slots_count_each_claim_once.Given as goal

-- the table that was made has the name
abbrev pub ghosts-counts_each_claim : goal.ghosts-counts_each_claim
ghosts-counts_each_claim g a = record { table = a.table }
