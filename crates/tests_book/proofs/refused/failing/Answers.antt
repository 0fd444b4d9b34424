use Rattle.tests_book.proofs.refused.failing.Goals as goal

-- the fuses leave a state that the array shows
pub returns-clause-shows : goal.returns-clause-shows
returns-clause-shows g c = let shown = c.remade-array.ensures.shows in c.fail_both.ensures shown.0 shown.1
