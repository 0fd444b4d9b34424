use Rattle.std.proofs.Common.{Ok, ℕ}
use Rattle.tiered_array.proofs.Standing.{finds_again, finds_none, writes_here, writes_following}
use Rattle.tiered_array.proofs.Stopping.{stops_again, stops_here, stops_down, stops_following}
use Rattle.tiered_array.proofs.tiers.Tiers.write.Goals as goal
use Rattle.tiered_array.specs.Placing.{content_of}
use Rattle.tiered_array.specs.declared.outcome.Outcome.TheVariants.{NoRoom}

pub returns-in-Some-clause-ok : goal.returns-in-Some-clause-ok
returns-in-Some-clause-ok g c w =
    let a = c.args in
    writes_here a.self.now c.free_mirror.new.self c.put.new.self w a.block c.in-Some.slot (content_of a.given) c.put.result c.in-Some.ensures.first (c.put.ensures.ok w)

pub returns-in-Some-clause-err : goal.returns-in-Some-clause-err
returns-in-Some-clause-err g c w =
    let a = c.args in
    stops_here a.self.now c.free_mirror.new.self c.put.new.self w a.block c.in-Some.slot (content_of a.given) c.put.result c.in-Some.ensures.first (c.put.ensures.err w)

pub returns-in-Some-free_mirror-clause-ok : goal.returns-in-Some-free_mirror-clause-ok
returns-in-Some-free_mirror-clause-ok g c w =
    let a = c.args in
    writes_following a.self.now c.free_mirror.new.self c.demote.new.self c.put-in-Some-free_mirror.new.self w a.block (content_of a.given) c.in-Ok.field-0 c.put-in-Some-free_mirror.result c.in_default.ensures.first (c.in-Ok.ensures.ok w)
    (finds_again c.demote.new.self c.free_mirror-in-Ok.new.self c.put-in-Some-free_mirror.new.self w a.block c.in-Some-free_mirror.slot (content_of a.given) c.put-in-Some-free_mirror.result c.in-Some-free_mirror.ensures.first (c.put-in-Some-free_mirror.ensures.ok w))

pub returns-in-Some-free_mirror-clause-err : goal.returns-in-Some-free_mirror-clause-err
returns-in-Some-free_mirror-clause-err g c w =
    let a = c.args in
    stops_following a.self.now c.free_mirror.new.self c.demote.new.self c.put-in-Some-free_mirror.new.self w a.block (content_of a.given) c.in-Ok.field-0 c.put-in-Some-free_mirror.result c.in_default.ensures.first (c.in-Ok.ensures.ok w)
    (stops_again c.demote.new.self c.free_mirror-in-Ok.new.self c.put-in-Some-free_mirror.new.self w a.block c.in-Some-free_mirror.slot (content_of a.given) c.put-in-Some-free_mirror.result c.in-Some-free_mirror.ensures.first (c.put-in-Some-free_mirror.ensures.err w))

pub returns-in-None-clause-ok : goal.returns-in-None-clause-ok
returns-in-None-clause-ok g c w =
    let a = c.args in
    writes_following {E = ℕ} a.self.now c.free_mirror.new.self c.demote.new.self c.free_mirror-in-Ok.new.self w a.block (content_of a.given) c.in-Ok.field-0 (Ok NoRoom) c.in_default.ensures.first (c.in-Ok.ensures.ok w)
    (finds_none c.demote.new.self c.free_mirror-in-Ok.new.self w a.block (content_of a.given) c.in-None.ensures.first)

pub returns-in-Err-clause-err : goal.returns-in-Err-clause-err
returns-in-Err-clause-err g c w =
    let a = c.args in
    stops_down a.self.now c.free_mirror.new.self c.demote.new.self w a.block (content_of a.given) c.in_default.ensures.first (c.in-Err.ensures.err w)
