use Rattle.std.proofs.Common.{◌≡◌, subst, sym, rules}
use Rattle.std.specs.Vec.{with_items}
use Rattle.std.proofs.lemmas.List.{with_items_is}
use Rattle.flat_machine.specs.Flat.{Flat, content_under}
use Rattle.flat_machine.specs.Steps.{Stale}
use Rattle.flat_machine.specs.Cases.{IsNotAhead}
use Rattle.flat_machine.specs.Learning.{LearnedCase}
use Rattle.unit_store.specs.Views.{WasRead}
use Rattle.slot_tables.specs.Reads.{WasSeen}
use Rattle.slot_tables.specs.Represents.{ShowsArray}
use Rattle.slot_tables.proofs.Newest.{newest_is}
use Rattle.disk_array.specs.Reads.{Lesson}
use Rattle.disk_array.proofs.Learnings.{data_seen, learned_here, learned_there, unlearned_ahead, unlearned_here, unlearned_there, unlearned_refused}
use Rattle.disk_array.proofs.array.Array.read_or_learn_into.Goals as goal

pub returns-in-Err-clause-flat : goal.returns-in-Err-clause-flat
returns-in-Err-clause-flat g c F shows =
    let e = c.in-Err.ensures.err in unlearned_ahead (IsNotAhead F c.args.asked) c.args.self.now F c.args.asked c.in-Err.refusal shows e.0 e.1

pub returns-in_default-clause-flat : goal.returns-in_default-clause-flat
returns-in_default-clause-flat g c F shows =
    let newest = c.in-Ok.ensures.ok in (c.in-Ok.newest, newest_is c.args.self.now F c.args.asked.block _ shows newest.0, newest.1)

pub returns-in-Ok-Here-clause-flat : goal.returns-in-Ok-Here-clause-flat
returns-in-Ok-Here-clause-flat g c F shows =
    let newest = c.in-Ok.ensures.ok in
    let was = data_seen c.args.self.now c.look.new.self c.args.asked c.in-Ok-Here.kind c.in-Ok-room.payload c.look.new.payload (search rules) (search rules) in
    subst (λ (l : Lesson). (G : Flat) × LearnedCase F c.args.asked l.reported l.content G × ShowsArray c.look.new.self G) (sym c.of.ensures)
    (learned_here c.args.self.now c.look.new.self F c.args.asked c.in-Ok.newest _ shows (record { reported = newest.0; most = newest.1 }) c.look.ensures.rest was)

pub returns-in-Ok-payload_at-clause-flat : goal.returns-in-Ok-payload_at-clause-flat
returns-in-Ok-payload_at-clause-flat g c F shows =
    let newest = c.in-Ok.ensures.ok in
    let was : WasSeen c.args.self.now c.look.new.self c.args.asked (Stale c.in-Ok-Stale._found) = search rules in
    let buffer = with_items c.in-Ok-room.payload c.look.new.payload in
    let items : (with_items buffer c.payload_at.new.payload).items ≡ c.payload_at.new.payload = with_items_is buffer c.payload_at.new.payload (search rules) in
    let k = c.in-Ok-payload_at.kind in
    let read : WasRead c.look.new.self.parts c.payload_at.new.self.parts c.in-Ok.newest.place (content_under k (with_items buffer c.payload_at.new.payload).items) =
    subst (λ l. WasRead c.look.new.self.parts c.payload_at.new.self.parts c.in-Ok.newest.place (content_under k l)) (sym items) c.in-Ok-payload_at.ensures.ok
    in
    subst (λ (l : Lesson). (G : Flat) × LearnedCase F c.args.asked l.reported l.content G × ShowsArray c.payload_at.new.self G) (sym c.of-in-Ok-payload_at.ensures)
    (learned_there c.args.self.now c.look.new.self c.payload_at.new.self F c.args.asked c.in-Ok.newest c.in-Ok-Stale._found _ shows (record { reported = newest.0; most = newest.1 })
    c.look.ensures.rest was c.payload_at.ensures.rest read)

pub returns-in-Err-payload_at-clause-flat : goal.returns-in-Err-payload_at-clause-flat
returns-in-Err-payload_at-clause-flat g c F shows =
    let newest = c.in-Ok.ensures.ok in
    let was : WasSeen c.args.self.now c.look.new.self c.args.asked (Stale c.in-Ok-Stale._found) = search rules in
    unlearned_there c.args.self.now c.look.new.self c.payload_at.new.self F c.args.asked c.in-Ok.newest c.in-Ok-Stale._found c.in-Err-payload_at.refusal shows
    (record { reported = newest.0; most = newest.1 }) c.look.ensures.rest was c.payload_at.ensures.rest c.in-Err-payload_at.ensures.err

pub returns-in-Err-payload_at-clause-err : goal.returns-in-Err-payload_at-clause-err
returns-in-Err-payload_at-clause-err g c =
    let was : WasSeen c.args.self.now c.look.new.self c.args.asked (Stale c.in-Ok-Stale._found) = search rules in
    unlearned_refused c.args.self.now c.look.new.self c.payload_at.new.self c.args.asked (Stale c.in-Ok-Stale._found) c.in-Ok.newest.place c.in-Err-payload_at.refusal
    c.look.ensures.rest was c.payload_at.ensures.rest c.in-Err-payload_at.ensures.err

pub returns-in-Err-look-clause-flat : goal.returns-in-Err-look-clause-flat
returns-in-Err-look-clause-flat g c F shows =
    let newest = c.in-Ok.ensures.ok in
    unlearned_here c.args.self.now c.look.new.self F c.args.asked c.in-Ok.newest c.in-Err-look.refusal shows (record { reported = newest.0; most = newest.1 }) c.look.ensures.rest c.in-Err-look.ensures.err

pub returns-in-Err-clause-memory : goal.returns-in-Err-clause-memory
returns-in-Err-clause-memory g c is = let reported = c.in-Err.ensures.err.0 in absurd (cc)

pub returns-in-Err-payload_at-clause-memory : goal.returns-in-Err-payload_at-clause-memory
returns-in-Err-payload_at-clause-memory g c is = let reported = c.in-Err-payload_at.ensures.err.reported in absurd (cc)

pub returns-in-Err-look-clause-memory : goal.returns-in-Err-look-clause-memory
returns-in-Err-look-clause-memory g c is = let reported = c.in-Err-look.ensures.err.reported in absurd (cc)
