use Rattle.std.proofs.Common.{arith, refl, ◌∙◌}
use Rattle.drive_rebuild.specs.declared.scrub.TheConstants.{NAMED}
use Rattle.drive_rebuild.proofs.Scrubbing.{named_more, named_same, reports_more}
use Rattle.drive_rebuild.proofs.scrub.note.Goals as goal

pub returns-in_ok-push-clause-reported : goal.returns-in_ok-push-clause-reported
returns-in_ok-push-clause-reported c = λ total slots few reported.
    reports_more total c.args.slot slots c.args.is_sound c.args.findings.now _ c.if-is_sound.false (omega (arith, few, c.ranges.slot.fits)) reported refl c.saturating_add-findings.ensures
    (c.in_ok-push.ensures.items ∙ named_more NAMED slots c.args.findings.now.named.items c.args.slot reported.named (omega (arith, c.if-len-lt-NAMED.true, c.len.ensures)))

pub returns-else-len-lt-NAMED-clause-reported : goal.returns-else-len-lt-NAMED-clause-reported
returns-else-len-lt-NAMED-clause-reported c = λ total slots few reported.
    reports_more total c.args.slot slots c.args.is_sound c.args.findings.now _ c.if-is_sound.false (omega (arith, few, c.ranges.slot.fits)) reported refl c.saturating_add-findings.ensures
    (named_same NAMED slots c.args.findings.now.named.items c.args.slot reported.named (omega (arith, c.if-len-lt-NAMED.false, c.len.ensures)))
