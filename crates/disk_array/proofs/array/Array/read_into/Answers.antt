use Rattle.std.proofs.Common.{◌∙◌, refl, sym, inl, inr, rules, Some, None}
use Rattle.unit_store.specs.Views.{WasRead}
use Rattle.flat_machine.specs.Flat.{Payload, Trim}
use Rattle.disk_array.specs.Reads.{WasFoundIn, WasGone}
use Rattle.disk_array.proofs.BlockReads.{found_case, gone_case}
use Rattle.disk_array.proofs.array.Array.read_into.Goals as goal

pub returns-in_default-clause-flat : goal.returns-in_default-clause-flat
returns-in_default-clause-flat g c F shows =
    found_case c.args.self.now c.args.self.now F c.args.block None c.args.payload.now c.reported.ensures.whole shows refl (inl (sym c.reported.ensures.value ∙ c.in_default.is, refl))

pub returns-in-Ok-Data-clause-flat : goal.returns-in-Ok-Data-clause-flat
returns-in-Ok-Data-clause-flat g c F shows =
    let read : WasRead c.args.self.now.parts c.payload_at.new.self.parts c.in-Some.record.place (Payload c.payload_at.new.payload) = search rules in
    let was : WasFoundIn c.args.self.now c.payload_at.new.self c.args.block (Some c.in-Some.record.version) c.payload_at.new.payload = (
      c.in-Some.record,
      sym c.reported.ensures.value ∙ c.in-Some.is,
      refl,
      read,
    ) in
    found_case c.args.self.now c.payload_at.new.self F c.args.block (Some c.in-Some.record.version) c.payload_at.new.payload c.reported.ensures.whole shows c.payload_at.ensures.rest was

pub returns-in-Ok-Trim-clause-flat : goal.returns-in-Ok-Trim-clause-flat
returns-in-Ok-Trim-clause-flat g c F shows =
    let read : WasRead c.args.self.now.parts c.payload_at.new.self.parts c.in-Some.record.place Trim = search rules in
    found_case c.args.self.now c.payload_at.new.self F c.args.block None c.payload_at.new.payload c.reported.ensures.whole shows c.payload_at.ensures.rest
    (inr (c.in-Some.record, sym c.reported.ensures.value ∙ c.in-Some.is, read))

pub returns-in-Err-clause-flat : goal.returns-in-Err-clause-flat
returns-in-Err-clause-flat g c F shows =
    let q = c.in-Err.refusal in
    let gone : WasGone c.args.self.now c.payload_at.new.self c.args.block q = (c.in-Some.record, sym c.reported.ensures.value ∙ c.in-Some.is, c.in-Err.ensures.err) in
    gone_case c.args.self.now c.payload_at.new.self F c.args.block q shows c.payload_at.ensures.rest gone
