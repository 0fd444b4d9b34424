use Rattle.std.proofs.Common.{sym, Some, None}
use Rattle.unit_store.specs.Views.{IsLost}
use Rattle.slot_tables.specs.Views.{key_at}
use Rattle.tiered_array.specs.Inside.{IsFreeHere}
use Rattle.tiered_array.specs.Views.{TiersView}
use Rattle.tiered_array.proofs.Standing.{append_free}
use Rattle.tiered_array.proofs.Due.{due_is}
use Rattle.tiered_array.proofs.Rooms.{rooms_on, rooms_aside, rooms_nowhere, rooms_nothing, stops_on, stops_aside}
use Rattle.tiered_array.proofs.tiers.Tiers.make_room.Goals as goal

pub returns-in_default-clause-ok : goal.returns-in_default-clause-ok
returns-in_default-clause-ok g c w =
    let t : TiersView = record { world = c.self.inside.world; planner = c.self.inside.planner; hints = c.self.inside.hints; holes = c.self.inside.holes } in
    let array = c.array-array in
    rw (sym c.self.view_is) (rooms_nothing t c.due.new.self w c.due.ensures.same (due_is t array.result.now None array.ensures c.in_default.ensures.due))

pub returns-in-Some-next_append-clause-ok : goal.returns-in-Some-next_append-clause-ok
returns-in-Some-next_append-clause-ok g c w =
    let t : TiersView = record { world = c.self.inside.world; planner = c.self.inside.planner; hints = c.self.inside.hints; holes = c.self.inside.holes } in
    let array = c.array-array in
    rw (sym c.self.view_is) (rooms_on t c.due.new.self array.result.now w c.in-Some.block array.ensures c.due.ensures.same
    (due_is t array.result.now (Some c.in-Some.block) array.ensures c.in-Some.ensures.due)
    c.append.new.self c.in-Some-next_append.slot c.append.result c.in-Some-next_append.ensures (c.append.ensures.ok w))

pub returns-in-Some-next_append-clause-err : goal.returns-in-Some-next_append-clause-err
returns-in-Some-next_append-clause-err g c w =
    let t : TiersView = record { world = c.self.inside.world; planner = c.self.inside.planner; hints = c.self.inside.hints; holes = c.self.inside.holes } in
    let array = c.array-array in
    rw (sym c.self.view_is) (stops_on t c.due.new.self array.result.now w c.in-Some.block array.ensures c.due.ensures.same
    (due_is t array.result.now (Some c.in-Some.block) array.ensures c.in-Some.ensures.due)
    c.append.new.self c.in-Some-next_append.slot c.append.result c.in-Some-next_append.ensures (c.append.ensures.err w))

pub returns-in_default-any_hole-clause-ok : goal.returns-in_default-any_hole-clause-ok
returns-in_default-any_hole-clause-ok g c w =
    let t : TiersView = record { world = c.self.inside.world; planner = c.self.inside.planner; hints = c.self.inside.hints; holes = c.self.inside.holes } in
    let array = c.array-array in
    rw (sym c.self.view_is) (rooms_nowhere t c.due.new.self array.result.now w c.in-Some.block array.ensures c.due.ensures.same
    (due_is t array.result.now (Some c.in-Some.block) array.ensures c.in-Some.ensures.due)
    c.any_hole.new.self c.in_default-next_append.ensures c.in_default-any_hole.ensures.first)

pub returns-clause-ok : goal.returns-clause-ok
returns-clause-ok g c w =
    let t : TiersView = record { world = c.self.inside.world; planner = c.self.inside.planner; hints = c.self.inside.hints; holes = c.self.inside.holes } in
    let array = c.array-array in
    rw (sym c.self.view_is) (rooms_aside t c.due.new.self array.result.now w c.in-Some.block array.ensures c.due.ensures.same
    (due_is t array.result.now (Some c.in-Some.block) array.ensures c.in-Some.ensures.due)
    c.any_hole.new.self c.put.new.self c.in-Some-any_hole.slot c.put.result c.in_default-next_append.ensures c.in-Some-any_hole.ensures.first
    (c.put.ensures.ok w))

pub returns-clause-err : goal.returns-clause-err
returns-clause-err g c w =
    let t : TiersView = record { world = c.self.inside.world; planner = c.self.inside.planner; hints = c.self.inside.hints; holes = c.self.inside.holes } in
    let array = c.array-array in
    rw (sym c.self.view_is) (stops_aside t c.due.new.self array.result.now w c.in-Some.block array.ensures c.due.ensures.same
    (due_is t array.result.now (Some c.in-Some.block) array.ensures c.in-Some.ensures.due)
    c.any_hole.new.self c.put.new.self c.in-Some-any_hole.slot c.put.result c.in_default-next_append.ensures c.in-Some-any_hole.ensures.first
    (c.put.ensures.err w))

pub append-requires-clause-free : goal.append-requires-clause-free
append-requires-clause-free g c =
    let array = c.array-array in
    let world = c.self.inside.world in
    (append_free c.due.new.self.end array.result.now.parts.groups (key_at array.result.now) (λ slot. IsFreeHere world slot × (IsLost world.array.parts slot → ⊥))
    c.in-Some-next_append.slot c.in-Some-next_append.ensures).0
