use Rattle.std.proofs.Common.{◌≡◌, ◌+◌, ◌++◌, ◌∷◌, [], None, Some, sym, subst, arith, rules}
use Rattle.map_join.specs.Maps.{IsListOf}
use Rattle.map_join.specs.Record.{record_at}
use Rattle.slot_tables.specs.Views.{key_at}
use Rattle.slot_tables.proofs.Newest.{reported_past}
use Rattle.extent_groups.specs.Groups.{group_at, slots_in}
use Rattle.script_exec.proofs.Newest.{AreListed, none_listed, none_more, one_more, all_listed, no_records}
use Rattle.script_exec.proofs.carry.newest_records.Goals as goal
use Rattle.script_exec.proofs.carry.newest_records.Goals.{in-Some+in_ok-push, in_default}

pub loop-block-preserved : goal.loop-block-preserved
loop-block-preserved g c =
    let keys = key_at c.args.array.now in
    let at = c.loop-block in
    elim c.match-newest.branch [
      | in-Some+in_ok-push w ↦
          (let reported : record_at at.block (keys at.block) ≡ Some w.in-Some.record = search rules in
          let items : c.match-newest.records.items ≡ at.records.items ++ w.in-Some.record ∷ [] = search rules in
          subst (AreListed keys (at.block + 1)) (sym items) (one_more keys at.block at.records.items w.in-Some.record reported at.invariant))
      | in_default w ↦
          (let none : record_at at.block (keys at.block) ≡ None = search rules in
          let items : c.match-newest.records.items ≡ at.records.items = search rules in
          subst (AreListed keys (at.block + 1)) (sym items) (none_more keys at.block at.records.items none at.invariant))
    ]

pub returns : goal.returns
returns g c =
    all_listed (key_at c.args.array.now) c.loop-block.block c.loop-block.records.items
    (λ b past. reported_past c.args.array.now b c.whole.ensures.room (omega (arith, past, c.loop-block-test.false, c.shape-block-end.ensures.of_blocks))) c.loop-block.invariant

pub returns-then-are_zero : goal.returns-then-are_zero
returns-then-are_zero g c =
    let keys = key_at c.args.array.now in
    let empty : c.new-records.result.items ≡ [] = search rules in
    subst (IsListOf keys) (sym empty)
    (all_listed keys 0 []
    (λ b past. no_records keys c.live_counts.result.now (λ group. slots_in c.args.array.now.parts.groups.segments (group_at c.args.array.now.parts.groups group)) c.live_counts.ensures.many (search rules)
    (λ group low. c.live_counts.ensures.each group low _ (omega arith)) b) (none_listed keys))
