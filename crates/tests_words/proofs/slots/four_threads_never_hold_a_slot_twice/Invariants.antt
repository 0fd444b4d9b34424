use Rattle.tests_words.proofs.slots.four_threads_never_hold_a_slot_twice.Given as goal

-- the table that was made has the name
abbrev pub ghosts-churns_in_four_threads : goal.ghosts-churns_in_four_threads
ghosts-churns_in_four_threads g a = record { table = a.table }
