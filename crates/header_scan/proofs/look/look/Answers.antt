use Rattle.std.proofs.Common.{◌≡◌, subst, sym}
use Rattle.std.specs.Prelude.{IfOk}
use Rattle.extents.specs.declared.header.Header.{Header}
use Rattle.extents.specs.declared.shape.TheConstants.{HEADER_BYTES}
use Rattle.extents.specs.Header.{Spells, record_in}
use Rattle.extent_groups.proofs.Fronts.{front_some}
use Rattle.header_scan.proofs.Looks.{reports, misfits, ranged}
use Rattle.header_scan.proofs.look.look.Goals as goal

pub returns-clause-ok : goal.returns-clause-ok
returns-clause-ok c = λ bytes begins.
    let u = front_some HEADER_BYTES (bytes c.args.slot) c.args.header.now begins in
    reports c.args.blocks c.args.slot bytes u.0 c.reported_by.result c.judge.result u.1
    (subst (λ front. IfOk c.reported_by.result (λ o. (h : Header) × Spells front h × (record_in h ≡ o))) (sym u.2) c.reported_by.ensures.ok) c.reported_by.ensures.ranges c.judge.ensures.ok

pub returns-clause-err : goal.returns-clause-err
returns-clause-err c = λ bytes left begins.
    let u = front_some HEADER_BYTES (bytes c.args.slot) c.args.header.now begins in
    misfits c.args.blocks c.args.slot bytes left u.0 c.reported_by.result c.judge.result u.1
    (subst (λ front. IfOk c.reported_by.result (λ o. (h : Header) × Spells front h × (record_in h ≡ o))) (sym u.2) c.reported_by.ensures.ok)
    (λ h spells. c.reported_by.ensures.only h (subst (λ front. Spells front h) u.2 spells)) c.judge.ensures.err

pub returns-clause-ranges : goal.returns-clause-ranges
returns-clause-ranges c = ranged c.args.blocks c.args.slot c.reported_by.result c.judge.result c.reported_by.ensures.ranges c.judge.ensures.ok
