use Rattle.tests_words.proofs.slots.a_slot_gains_a_generation_with_each_claim.Given as goal

-- the table that was made has the name
abbrev pub ghosts-claims_one_slot_twice : goal.ghosts-claims_one_slot_twice
ghosts-claims_one_slot_twice g a = record { table = a.table }
