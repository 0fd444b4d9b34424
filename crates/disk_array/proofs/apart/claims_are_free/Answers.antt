use Rattle.slot_tables.proofs.OneMore.{shows_one_more, holds_one_more}
use Rattle.disk_array.proofs.apart.claims_are_free.Goals as goal

pub returns-clause-shows : goal.returns-clause-shows
returns-clause-shows c = shows_one_more

pub returns-clause-holds : goal.returns-clause-holds
returns-clause-holds c = holds_one_more
