use Rattle.tests_words.proofs.maps.four_threads_leave_the_newest_record_of_each_block.Given as goal

-- the table that was made has the name
abbrev pub ghosts-takes_in_four_threads : goal.ghosts-takes_in_four_threads
ghosts-takes_in_four_threads g a = record { table = a.table }
