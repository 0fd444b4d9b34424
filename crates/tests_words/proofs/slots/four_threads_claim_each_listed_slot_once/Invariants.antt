use Rattle.tests_words.proofs.slots.four_threads_claim_each_listed_slot_once.Given as goal

-- the table that was made has the name
abbrev pub ghosts-shares_a_list_among_four : goal.ghosts-shares_a_list_among_four
ghosts-shares_a_list_among_four g a = record { table = a.table }
