use Rattle.std.proofs.Common.{◌≡◌, ◌≤◌, take, arith, rules}
use Rattle.std.proofs.lemmas.Bool.Decides.{nat_tests}
use Rattle.slot_tables.specs.Claims.{how_many}
use Rattle.slot_tables.specs.Shut.{one_of}
use Rattle.slot_tables.proofs.Shutting.{no_marks, a_stranger, none_of_other, none_of_past, one_marked}
use Rattle.slot_tables.proofs.shut.marked.Goals as goal
use Rattle.slot_tables.proofs.shut.marked.Goals.{then-slot-group-via-then-slot-group, then-slot-group-via-else-slot-group+then-slot-count, then-slot-group-via-else-slot-group+else-slot-count+then-marks-at}

pub loop-index-init : goal.loop-index-init
loop-index-init g c = no_marks g.C.Hold.names c.args.group c.args.count

pub returns-then-slot-group-clause-none : goal.returns-then-slot-group-clause-none
returns-then-slot-group-clause-none g c _ =
    let names = g.C.Hold.names in
    let claim = c.index-claims-index.result in
    let slot = names claim in
    let seen = take c.loop-index.index c.args.claims.now in
    let is : c.slot-slot.result ≡ slot = c.slot-slot.ensures in
    let at_most : one_of c.args.group c.args.count slot ≤ how_many names seen slot =
    elim c.then-slot-group.branch [
      | then-slot-group-via-then-slot-group w ↦ none_of_other c.args.group c.args.count slot (how_many names seen slot) (λ e. let t = w.if-slot-group in absurd (grind (arith, nat_tests, t, e, is)))
      | then-slot-group-via-else-slot-group+then-slot-count w ↦ none_of_past c.args.group c.args.count slot (how_many names seen slot) (λ low. let t = w.if-slot-count in absurd (grind (arith, nat_tests, t, low, is)))
      | then-slot-group-via-else-slot-group+else-slot-count+then-marks-at w ↦ one_marked names c.args.group c.args.count seen c.loop-index.marks slot c.loop-index.invariant (let t = w.if-slot-group in grind (arith, nat_tests, t, is)) (search rules)
    ]
    in
    (slot, a_stranger names c.args.claims.now claim c.loop-index.index c.args.group c.args.count c.loop-index-test.true c.index-claims-index.is at_most)
