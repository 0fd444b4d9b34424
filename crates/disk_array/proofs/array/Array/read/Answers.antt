use Rattle.std.proofs.Common.{◌≡◌, ℕ, Vec, ◌∙◌, refl, sym, subst, inl, inr, rules, Some, None}
use Rattle.std.specs.Global.{Global}
use Rattle.std.specs.Vec.{with_items}
use Rattle.std.proofs.lemmas.List.{with_items_is}
use Rattle.unit_store.specs.Views.{WasRead}
use Rattle.flat_machine.specs.Flat.{Payload, Trim}
use Rattle.disk_array.specs.Reads.{WasFound, WasNotFound}
use Rattle.disk_array.proofs.BlockReads.{read_case, unread_case}
use Rattle.disk_array.proofs.array.Array.read.Goals as goal

pub returns-in_default-clause-flat : goal.returns-in_default-clause-flat
returns-in_default-clause-flat g c F shows =
    read_case c.args.self.now c.args.self.now F c.args.block None c.reported.ensures.whole shows refl (inl (sym c.reported.ensures.value ∙ c.in_default.is, refl))

pub returns-in-Ok-Data-clause-flat : goal.returns-in-Ok-Data-clause-flat
returns-in-Ok-Data-clause-flat g c F shows =
    let found : ℕ × Vec ℕ Global = (c.in-Some.record.version, with_items c.in-Ok.payload c.payload_at.new.payload) in
    let items : found.1.items ≡ c.payload_at.new.payload = with_items_is c.in-Ok.payload c.payload_at.new.payload (search rules) in
    let read : WasRead c.args.self.now.parts c.payload_at.new.self.parts c.in-Some.record.place (Payload c.payload_at.new.payload) = search rules in
    let was : WasFound c.args.self.now c.payload_at.new.self c.args.block (Some found) = (
      c.in-Some.record,
      sym c.reported.ensures.value ∙ c.in-Some.is,
      refl,
      subst (λ l. WasRead c.args.self.now.parts c.payload_at.new.self.parts c.in-Some.record.place (Payload l)) (sym items) read,
    ) in
    read_case c.args.self.now c.payload_at.new.self F c.args.block (Some found) c.reported.ensures.whole shows c.payload_at.ensures.rest was

pub returns-in-Ok-Trim-clause-flat : goal.returns-in-Ok-Trim-clause-flat
returns-in-Ok-Trim-clause-flat g c F shows =
    let read : WasRead c.args.self.now.parts c.payload_at.new.self.parts c.in-Some.record.place Trim = search rules in
    read_case c.args.self.now c.payload_at.new.self F c.args.block None c.reported.ensures.whole shows c.payload_at.ensures.rest (inr (c.in-Some.record, sym c.reported.ensures.value ∙ c.in-Some.is, read))

pub returns-in-Err-payload_at-clause-flat : goal.returns-in-Err-payload_at-clause-flat
returns-in-Err-payload_at-clause-flat g c F shows =
    let q = c.in-Err-payload_at.refusal in
    let not : WasNotFound c.args.self.now c.payload_at.new.self c.args.block q = (c.in-Some.record, sym c.reported.ensures.value ∙ c.in-Some.is, inr c.in-Err-payload_at.ensures.err) in
    unread_case c.args.self.now c.payload_at.new.self F c.args.block q shows c.payload_at.ensures.rest not
