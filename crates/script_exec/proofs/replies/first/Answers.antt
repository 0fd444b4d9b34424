use Rattle.script_exec.proofs.Said.{unsaid_first}
use Rattle.script_exec.proofs.replies.first.Goals as goal

pub returns-then-not-branch-clause-replied : goal.returns-then-not-branch-clause-replied
returns-then-not-branch-clause-replied c =
    unsaid_first _ c.args.line.now c.args.out.now.items (rw c.if-not-branch.true at c.in_ok-read_command.ensures)
