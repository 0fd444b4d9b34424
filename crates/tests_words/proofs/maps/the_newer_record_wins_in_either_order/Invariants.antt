use Rattle.tests_words.proofs.maps.the_newer_record_wins_in_either_order.Given as goal

-- the table that was made has the name
abbrev pub ghosts-takes_two : goal.ghosts-takes_two
ghosts-takes_two g a = record { table = a.table }
