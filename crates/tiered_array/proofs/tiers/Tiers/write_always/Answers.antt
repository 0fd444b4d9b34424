use Rattle.std.specs.declared.alloc.AllocError.{AllocError}
use Rattle.std.proofs.Common.{refl, subst, rules, Ok}
use Rattle.tiered_array.specs.declared.outcome.Outcome.TheVariants as outcome
use Rattle.tiered_array.proofs.Rooms.{always_here, always_following, always_none, always_stops_here, always_stops_following, always_stops_out, looks_after, Made}
use Rattle.tiered_array.specs.Placing.{content_of}
use Rattle.tiered_array.proofs.Full.{full_if, finds_if, stuck_if}
use Rattle.tiered_array.proofs.tiers.Tiers.write_always.Goals as goal

pub returns-in-Some-clause-ok : goal.returns-in-Some-clause-ok
returns-in-Some-clause-ok g c w =
    let a = c.args in
    always_here a.self.now c.open_mirror.new.self c.put.new.self w a.block c.in-Some.slot (content_of a.given) c.put.result c.in-Some.ensures.first (c.put.ensures.ok w)

pub returns-in-Some-clause-err : goal.returns-in-Some-clause-err
returns-in-Some-clause-err g c w =
    let a = c.args in
    always_stops_here a.self.now c.open_mirror.new.self c.put.new.self w a.block c.in-Some.slot (content_of a.given) c.put.result c.in-Some.ensures.first (c.put.ensures.err w)

pub returns-in-Ok-Refused-clause-ok : goal.returns-in-Ok-Refused-clause-ok
returns-in-Ok-Refused-clause-ok g c w =
    let a = c.args in
    always_none a.self.now c.open_mirror.new.self c.make_room.new.self w a.block (content_of a.given) c.in_default.ensures.first
    (outcome.Refused c.in-Ok-Refused.refusal) (outcome.Refused c.in-Ok-Refused.refusal) (λ V. record { reported = refl; same = refl })
    (subst (Made a.self.now c.open_mirror.new.self c.make_room.new.self w a.block (content_of a.given) c.in_default.ensures.first) c.in-Ok-Refused.field-0-is (c.in-Ok-Refused.ensures.ok w))

pub returns-in-Ok-clause-ok : goal.returns-in-Ok-clause-ok
returns-in-Ok-clause-ok g c w =
    let a = c.args in
    let x = content_of a.given in
    always_following a.self.now c.open_mirror.new.self c.make_room.new.self w a.block x c.in_default.ensures.first
    c.write_again.new.self c.in-Ok.field-0 c.write_again.result
    (λ o again. looks_after c.make_room.new.self c.write_again.new.self w a.block x c.in-Ok.field-0 o (λ k is. search rules) again)
    (c.in-Ok.ensures.ok w) (c.write_again.ensures.ok w)

pub returns-in-Ok-clause-err : goal.returns-in-Ok-clause-err
returns-in-Ok-clause-err g c w =
    let a = c.args in
    always_stops_following a.self.now c.open_mirror.new.self c.make_room.new.self w a.block (content_of a.given) c.in_default.ensures.first
    c.write_again.new.self c.in-Ok.field-0 c.write_again.result (c.in-Ok.ensures.ok w) (c.write_again.ensures.err w)

pub returns-in-Err-clause-err : goal.returns-in-Err-clause-err
returns-in-Err-clause-err g c w =
    let a = c.args in
    always_stops_out a.self.now c.open_mirror.new.self c.make_room.new.self w a.block (content_of a.given) c.in_default.ensures.first (c.in-Err.ensures.err w)

pub returns-in-Some-clause-full : goal.returns-in-Some-clause-full
returns-in-Some-clause-full g c =
    let a = c.args in full_if a.self.now c.put.new.self 0 a.block (content_of a.given) c.put.result (returns-in-Some-clause-ok g c 0)

pub returns-in-Ok-clause-full : goal.returns-in-Ok-clause-full
returns-in-Ok-clause-full g c =
    let a = c.args in full_if a.self.now c.write_again.new.self 0 a.block (content_of a.given) c.write_again.result (returns-in-Ok-clause-ok g c 0)

pub returns-in-Ok-Refused-clause-full : goal.returns-in-Ok-Refused-clause-full
returns-in-Ok-Refused-clause-full g c = λ T matches is. absurd (cc)

pub returns-in-Some-clause-finds : goal.returns-in-Some-clause-finds
returns-in-Some-clause-finds g c = finds_if c.args.self.now c.put.result (returns-in-Some-clause-full g c)

pub returns-in-Ok-clause-finds : goal.returns-in-Ok-clause-finds
returns-in-Ok-clause-finds g c = finds_if c.args.self.now c.write_again.result (returns-in-Ok-clause-full g c)

pub returns-in-Ok-Refused-clause-finds : goal.returns-in-Ok-Refused-clause-finds
returns-in-Ok-Refused-clause-finds g c = λ T slots matches has is. absurd (cc)

pub returns-in-Some-clause-gone : goal.returns-in-Some-clause-gone
returns-in-Some-clause-gone g c =
    let a = c.args in stuck_if a.self.now c.put.new.self 0 a.block (content_of a.given) c.put.result (returns-in-Some-clause-ok g c 0)

pub returns-in-Ok-clause-gone : goal.returns-in-Ok-clause-gone
returns-in-Ok-clause-gone g c =
    let a = c.args in stuck_if a.self.now c.write_again.new.self 0 a.block (content_of a.given) c.write_again.result (returns-in-Ok-clause-ok g c 0)

pub returns-in-Ok-Refused-clause-gone : goal.returns-in-Ok-Refused-clause-gone
returns-in-Ok-Refused-clause-gone g c =
    let a = c.args in
    stuck_if {E = AllocError} a.self.now c.make_room.new.self 0 a.block (content_of a.given) (Ok (outcome.Refused c.in-Ok-Refused.refusal)) (returns-in-Ok-Refused-clause-ok g c 0)
