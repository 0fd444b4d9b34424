use Rattle.std.proofs.Common.{◌≡◌, ◌++◌, drop}
use Rattle.script_exec.specs.Answers.{members_named}
use Rattle.script_exec.proofs.limits.members_of.Given as goal

-- the members so far and those that are left are all
abbrev pub invariant-loop-name : goal.invariant-loop-name
invariant-loop-name l = l.members.items ++ members_named (drop l.name-index l.named) ≡ members_named l.named
