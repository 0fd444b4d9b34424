use Rattle.std.proofs.Common.{vec_len}
use Rattle.tests_book.proofs.books.both.Given as goal

abbrev pub decreases-loop-claim : goal.decreases-loop-claim
decreases-loop-claim g l = vec_len l.claims
