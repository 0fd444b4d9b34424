use Rattle.std.proofs.Common.{◌+◌, ◌*◌, ap, ◌∙◌, arith}
use Rattle.slot_tables.proofs.Placing.{fewest_made, fewest_free, fewest_all, tested_made, tested_free}
use Rattle.slot_tables.proofs.ready.places_for.Goals as goal
use Rattle.slot_tables.proofs.ready.places_for.Goals.{then-not-is_free, else-not-is_free}

pub loop-group-preserved : goal.loop-group-preserved
loop-group-preserved c =
    let t = c.args.groups.now in
    let g = c.loop-group.group in
    elim c.if-not-is_free.branch [
      | then-not-is_free w ↦ fewest_made t g c.loop-group.places c.if-not-is_free.places
          (tested_made t g c.is_free.result w.if-not-is_free.true c.is_free.ensures.1 c.members-members.ensures.groups c.loop-group-test.true)
          (w.places-is ∙ ap (λ n. n * (w.from-then-not-is_free.result + 1)) w.from.ensures ∙ ap (λ n. 128 * (n + 1)) w.from-then-not-is_free.ensures) c.loop-group.invariant
      | else-not-is_free w ↦ fewest_free t g c.loop-group.places c.if-not-is_free.places
          (tested_free t g c.is_free.result w.if-not-is_free.false c.is_free.ensures.0) w.places-is c.loop-group.invariant
    ]

pub returns-clause-enough : goal.returns-clause-enough
returns-clause-enough c = fewest_all c.args.groups.now c.loop-group.group c.loop-group.places c.members-members.ensures.groups (omega arith) c.loop-group.invariant
