use Rattle.tests_history.proofs.shelf.each_item_lies_where_its_call_returned.Given as goal

-- the history that was made has its name
abbrev pub ghosts-append_both : goal.ghosts-append_both
ghosts-append_both g a = record { chronicle = a.opened }
