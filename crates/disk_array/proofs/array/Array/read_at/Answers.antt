use Rattle.std.proofs.Common.{inr, rules}
use Rattle.extents.specs.declared.header.Kind.TheVariants as kind
use Rattle.flat_machine.specs.Flat.{Trim}
use Rattle.flat_machine.specs.Steps.{Data, Stale}
use Rattle.flat_machine.specs.Cases.{IsNotAhead}
use Rattle.slot_tables.specs.Reads.{WasSeen}
use Rattle.slot_tables.proofs.Newest.{newest_is}
use Rattle.slot_tables.proofs.Seeing.{ahead_case, seen_case, unseen_case}
use Rattle.disk_array.proofs.Learnings.{data_seen}
use Rattle.disk_array.proofs.array.Array.read_at.Goals as goal

pub returns-in-Err-clause-flat : goal.returns-in-Err-clause-flat
returns-in-Err-clause-flat g c F shows =
    let e = c.in-Err.ensures.err in ahead_case (IsNotAhead F c.args.asked) c.args.self.now F c.args.asked c.in-Err.refusal shows e.0 e.1

pub returns-in-Err-no_payload-clause-flat : goal.returns-in-Err-no_payload-clause-flat
returns-in-Err-no_payload-clause-flat g c F shows =
    let newest = c.in_default.ensures.ok in (c.in_default.field-0, newest_is c.args.self.now F c.args.asked.block _ shows newest.0, newest.1)

pub returns-in-Ok-Here-Data-clause-flat : goal.returns-in-Ok-Here-Data-clause-flat
returns-in-Ok-Here-Data-clause-flat g c F shows =
    let newest = c.in_default.ensures.ok in
    let was = data_seen c.args.self.now c.look.new.self c.args.asked kind.Data c.in-Ok.payload c.look.new.payload (search rules) (search rules) in
    seen_case c.args.self.now c.look.new.self F c.args.asked c.in_default.field-0 _ shows newest.0 newest.1 c.look.ensures.rest was

pub returns-in-Ok-Here-Trim-clause-flat : goal.returns-in-Ok-Here-Trim-clause-flat
returns-in-Ok-Here-Trim-clause-flat g c F shows =
    let newest = c.in_default.ensures.ok in
    let was : WasSeen c.args.self.now c.look.new.self c.args.asked (Data Trim) = search rules in
    seen_case c.args.self.now c.look.new.self F c.args.asked c.in_default.field-0 (Data Trim) shows newest.0 newest.1 c.look.ensures.rest was

pub returns-in-Ok-Stale-clause-flat : goal.returns-in-Ok-Stale-clause-flat
returns-in-Ok-Stale-clause-flat g c F shows =
    let newest = c.in_default.ensures.ok in
    let was : WasSeen c.args.self.now c.look.new.self c.args.asked (Stale c.in-Ok-Stale.found) = search rules in
    seen_case c.args.self.now c.look.new.self F c.args.asked c.in_default.field-0 (Stale c.in-Ok-Stale.found) shows newest.0 newest.1 c.look.ensures.rest was

pub returns-in-Err-look-clause-flat : goal.returns-in-Err-look-clause-flat
returns-in-Err-look-clause-flat g c F shows =
    let newest = c.in_default.ensures.ok in
    unseen_case c.args.self.now c.look.new.self F c.args.asked c.in_default.field-0 c.in-Err-look.refusal shows newest.0 newest.1 c.look.ensures.rest (inr c.in-Err-look.ensures.err)
