use Rattle.std.proofs.Common.{rules, subst, sym, ap, ◌∙◌}
use Rattle.extents.specs.declared.header.Kind.TheVariants as kind
use Rattle.flat_machine.specs.Flat.{Payload, Trim}
use Rattle.step_core.specs.Placing.{PutReports, block_for, put_for}
use Rattle.step_core.specs.declared.claimed.What.{What}
use Rattle.step_core.specs.declared.claimed.What.TheVariants as what
use Rattle.step_core.proofs.Placing.{puts_fill, puts_copy, fill_still, copy_still}
use Rattle.step_core.proofs.claimed.put.Goals as goal

pub returns-in-Payload-clause-flat : goal.returns-in-Payload-clause-flat
returns-in-Payload-clause-flat g c F w shows held =
    let s = g.C.Hold.names c.args.claim in
    let r = c.fill.result in
    let a = c.fill.new.self in
    subst (λ (x : What). PutReports r F w (put_for x) s (block_for x) a) (sym (c.in-Fresh.is ∙ ap what.Fresh c.in-Payload.is))
    (puts_fill F w s 0 (Payload c.in-Payload.payload.now) a r _ (search rules) (c.fill.ensures.flat F w shows held))

pub returns-in-Trim-clause-flat : goal.returns-in-Trim-clause-flat
returns-in-Trim-clause-flat g c F w shows held =
    let s = g.C.Hold.names c.args.claim in
    let r = c.trim.result in
    let a = c.trim.new.self in
    subst (λ (x : What). PutReports r F w (put_for x) s (block_for x) a) (sym (c.in-Fresh.is ∙ ap what.Fresh c.in-Trim.is))
    (puts_fill F w s 0 Trim a r _ (search rules) (c.trim.ensures.flat F w shows held))

pub returns-in-CopyOf-clause-flat : goal.returns-in-CopyOf-clause-flat
returns-in-CopyOf-clause-flat g c F w shows held =
    let s = g.C.Hold.names c.args.claim in
    let r = c.copy.result in
    let a = c.copy.new.self in
    subst (λ (x : What). PutReports r F w (put_for x) s (block_for x) a) (sym c.in-CopyOf.is)
    (puts_copy F w s c.in-CopyOf.block a r _ (search rules) (c.copy.ensures.flat F w shows held))

pub returns-in-Payload-clause-still : goal.returns-in-Payload-clause-still
returns-in-Payload-clause-still g c = fill_still kind.Data _ _ c.fill.result c.args.claim c.args.array.now c.fill.new.self c.fill.ensures.ticket c.fill.ensures.err

pub returns-in-Trim-clause-still : goal.returns-in-Trim-clause-still
returns-in-Trim-clause-still g c = fill_still kind.Trim _ _ c.trim.result c.args.claim c.args.array.now c.trim.new.self c.trim.ensures.ticket c.trim.ensures.err

pub returns-in-CopyOf-clause-still : goal.returns-in-CopyOf-clause-still
returns-in-CopyOf-clause-still g c = copy_still _ _ c.copy.result c.args.claim c.args.array.now c.copy.new.self c.copy.ensures.ticket c.copy.ensures.err
