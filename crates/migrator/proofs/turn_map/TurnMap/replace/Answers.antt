use Rattle.std.proofs.Common.{◌∙◌, ◌<◌, Some, None, ap, sym, subst, set, is_some, nat_eq, arith}
use Rattle.indexmap.specs.IndexMap.{get, spare}
use Rattle.migrator.specs.Inside.{IsTurnTable, turns_of}
use Rattle.migrator.proofs.Written.{length_turns, read_turn, spare_for, turns_more, written_more}
use Rattle.migrator.proofs.turn_map.TurnMap.replace.Goals as goal

pub returns-in-Some-clause-turn : goal.returns-in-Some-clause-turn
returns-in-Some-clause-turn c =
    let i = c.self.inside in
    read_turn i.blocks c.args.block i.written c.args.self.now (Some c.in-Some.kept.now) c.self.view_is c.requires c.in-Some.ensures.value

pub returns-in-Some-clause-turns : goal.returns-in-Some-clause-turns
returns-in-Some-clause-turns c =
    let i = c.self.inside in
    let low = length_turns i.blocks i.written c.args.self.now c.self.view_is in
    turns_more i.blocks c.args.block c.args.turn i.written (c.get_mut.follows.lender c.args.turn) (omega (arith, low, c.requires))
    ((c.get_mut.follows.holds c.args.turn).3 (ap is_some (sym c.in-Some.ensures.value)))
    ∙ ap (λ ts. set ts c.args.block c.args.turn) c.self.view_is

pub write_first-requires-clause-absent : goal.write_first-requires-clause-absent
write_first-requires-clause-absent c = ap (λ m. get nat_eq m c.args.block) c.get_mut.follows.holds-at-none ∙ sym c.in_default.ensures.value

pub write_first-requires-clause-room : goal.write_first-requires-clause-room
write_first-requires-clause-room c =
    let i = c.self.inside in
    let low = length_turns i.blocks i.written c.args.self.now c.self.view_is in
    let room = spare_for i.blocks c.args.block i.written c.self.invariant (omega (arith, low, c.requires)) (sym c.in_default.ensures.value) in
    subst (λ m. 0 < spare m) (sym c.get_mut.follows.holds-at-none) room

pub invariant_of-self-2 : goal.invariant_of-self-2
invariant_of-self-2 c =
    let i = c.self.inside in
    let low = length_turns i.blocks i.written c.args.self.now c.self.view_is in
    let w = subst (IsTurnTable i.blocks) (sym c.get_mut.follows.holds-at-none) c.self.invariant in
    let e = c.write_first.ensures in
    written_more i.blocks c.args.block c.args.turn c.get_mut.follows.lender-at-none c.write_first.new.written w
    (omega (arith, low, c.requires)) e.updates e.unique (omega (arith, e.len, e.room, w.room))

pub returns-clause-turn : goal.returns-clause-turn
returns-clause-turn c =
    let i = c.self.inside in
    read_turn i.blocks c.args.block i.written c.args.self.now None c.self.view_is c.requires c.in_default.ensures.value

pub returns-clause-turns : goal.returns-clause-turns
returns-clause-turns c =
    let i = c.self.inside in
    let low = length_turns i.blocks i.written c.args.self.now c.self.view_is in
    let same = c.get_mut.follows.holds-at-none in
    turns_more i.blocks c.args.block c.args.turn c.get_mut.follows.lender-at-none c.write_first.new.written (omega (arith, low, c.requires)) c.write_first.ensures.updates
    ∙ ap (λ m. set (turns_of i.blocks m) c.args.block c.args.turn) same ∙ ap (λ ts. set ts c.args.block c.args.turn) c.self.view_is
