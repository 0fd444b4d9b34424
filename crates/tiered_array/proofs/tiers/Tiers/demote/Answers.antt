use Rattle.std.proofs.Common.{sym, Some, None}
use Rattle.slot_tables.specs.Views.{key_at}
use Rattle.tiered_array.specs.Inside.{IsFreeHere}
use Rattle.tiered_array.specs.Views.{TiersView}
use Rattle.tiered_array.proofs.Standing.{append_free, demotes, demotes_nothing, demotes_nowhere, oldest_is}
use Rattle.tiered_array.proofs.Stopping.{stops_demote}
use Rattle.tiered_array.proofs.tiers.Tiers.demote.Goals as goal

pub returns-in_default-clause-ok : goal.returns-in_default-clause-ok
returns-in_default-clause-ok g c w =
    let t : TiersView = record { world = c.self.inside.world; planner = c.self.inside.planner; hints = c.self.inside.hints; holes = c.self.inside.holes } in
    let array = c.array-array in
    rw (sym c.self.view_is) (demotes_nothing t c.oldest_mirrored.new.self w c.oldest_mirrored.ensures.same (oldest_is t array.result.now None array.ensures c.in_default.ensures.oldest))

pub returns-in_default-next_append-clause-ok : goal.returns-in_default-next_append-clause-ok
returns-in_default-next_append-clause-ok g c w =
    let t : TiersView = record { world = c.self.inside.world; planner = c.self.inside.planner; hints = c.self.inside.hints; holes = c.self.inside.holes } in
    let array = c.array-array in
    rw (sym c.self.view_is) (demotes_nowhere t c.oldest_mirrored.new.self array.result.now w c.in-Some.block array.ensures c.oldest_mirrored.ensures.same
    (oldest_is t array.result.now (Some c.in-Some.block) array.ensures c.in-Some.ensures.oldest) c.in_default-next_append.ensures)

pub returns-clause-ok : goal.returns-clause-ok
returns-clause-ok g c w =
    let t : TiersView = record { world = c.self.inside.world; planner = c.self.inside.planner; hints = c.self.inside.hints; holes = c.self.inside.holes } in
    let array = c.array-array in
    rw (sym c.self.view_is) (demotes t c.append.new.self c.oldest_mirrored.new.self array.result.now w c.in-Some.block c.in-Some-next_append.slot c.append.result
    array.ensures c.oldest_mirrored.ensures.same (oldest_is t array.result.now (Some c.in-Some.block) array.ensures c.in-Some.ensures.oldest)
    c.in-Some-next_append.ensures (c.append.ensures.ok w))

pub returns-clause-err : goal.returns-clause-err
returns-clause-err g c w =
    let t : TiersView = record { world = c.self.inside.world; planner = c.self.inside.planner; hints = c.self.inside.hints; holes = c.self.inside.holes } in
    let array = c.array-array in
    rw (sym c.self.view_is) (stops_demote t c.append.new.self c.oldest_mirrored.new.self array.result.now w c.in-Some.block c.in-Some-next_append.slot c.append.result
    array.ensures c.oldest_mirrored.ensures.same (oldest_is t array.result.now (Some c.in-Some.block) array.ensures c.in-Some.ensures.oldest)
    c.in-Some-next_append.ensures (c.append.ensures.err w))

pub append-requires-clause-free : goal.append-requires-clause-free
append-requires-clause-free g c =
    let array = c.array-array in
    append_free c.oldest_mirrored.new.self.end array.result.now.parts.groups (key_at array.result.now) (IsFreeHere c.self.inside.world) c.in-Some-next_append.slot c.in-Some-next_append.ensures
