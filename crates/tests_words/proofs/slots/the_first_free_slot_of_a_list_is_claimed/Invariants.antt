use Rattle.tests_words.proofs.slots.the_first_free_slot_of_a_list_is_claimed.Given as goal

-- the table that was made has the name
abbrev pub ghosts-finds_a_free_slot_in_a_list : goal.ghosts-finds_a_free_slot_in_a_list
ghosts-finds_a_free_slot_in_a_list g a = record { table = a.table }
