use Rattle.tests_words.proofs.slots.a_refused_slot_is_claimed_once_it_is_released.Given as goal

-- the table that was made has the name
abbrev pub ghosts-claims_what_another_released : goal.ghosts-claims_what_another_released
ghosts-claims_what_another_released g a = record { table = a.table }
