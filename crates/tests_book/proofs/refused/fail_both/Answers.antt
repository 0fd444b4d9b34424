use Rattle.flat_machine.specs.Moves.{with_fuse}
use Rattle.tests_book.proofs.refused.fail_both.Goals as goal

-- both drives have a fuse
pub returns : goal.returns
returns g c F shows = (with_fuse (with_fuse F 0) 1, c.fuse-2.ensures.flat (with_fuse F 0) (c.fuse.ensures.flat F shows))
