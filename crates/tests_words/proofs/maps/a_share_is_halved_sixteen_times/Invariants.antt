use Rattle.tests_words.proofs.maps.a_share_is_halved_sixteen_times.Given as goal

-- the table that was made has the name
abbrev pub ghosts-splits_sixteen_times : goal.ghosts-splits_sixteen_times
ghosts-splits_sixteen_times g a = record { table = a.table }
