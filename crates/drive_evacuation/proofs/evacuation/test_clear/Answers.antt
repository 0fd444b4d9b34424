use Rattle.std.proofs.Common.{inl, inr, List, slice_get, ap, ◌∙◌, sym, arith}
use Rattle.extent_groups.specs.declared.class.Member.{Member}
use Rattle.extent_groups.specs.Groups.{members_of}
use Rattle.extent_groups.proofs.Places.{same_or_not}
use Rattle.drive_evacuation.proofs.evacuation.test_clear.Goals as goal

pub loop-group-preserved : goal.loop-group-preserved
loop-group-preserved c = λ g low on. elim (same_or_not g c.loop-group.group) [
  | inl same ↦
      c.in_ok-test_members.ensures.ok on.0 on.1
      (ap (λ (ms : List Member). slice_get ms on.0) c.members.ensures.members ∙ ap (λ n. slice_get (members_of c.args.groups.now n) on.0) (sym same) ∙ on.2) on.3
  | inr other ↦ c.loop-group.invariant g (omega (arith, low, other)) on
]

pub returns-clause-ok : goal.returns-clause-ok
returns-clause-ok c = λ g low on. let past = c.loop-group-test.false in c.loop-group.invariant g (omega (arith, low, past)) on
