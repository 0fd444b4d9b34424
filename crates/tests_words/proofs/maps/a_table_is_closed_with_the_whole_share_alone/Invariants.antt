use Rattle.tests_words.proofs.maps.a_table_is_closed_with_the_whole_share_alone.Given as goal

-- the table that was made has the name
abbrev pub ghosts-closes_after_the_join : goal.ghosts-closes_after_the_join
ghosts-closes_after_the_join g a = record { table = a.table }
