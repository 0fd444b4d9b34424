use Rattle.std.proofs.Common.{◌≡◌, true, false, Ok, sym, ◌∙◌, ap, arith}
use Rattle.extents.proofs.Stamps.{spells_within}
use Rattle.extents.proofs.Headers.{one_header, no_header, no_kind}
use Rattle.extents.proofs.header.Header.decode.Goals as goal

pub returns-in-Ok-clause-ok : goal.returns-in-Ok-clause-ok
returns-in-Ok-clause-ok c =
    (spells_within c.args.bytes.now c.in-Ok.record (omega (arith, c.told-bytes)) c.in-Ok.ensures.ok.0 c.in-Ok.ensures.ok.1, (c.reported_kind.ensures c.in-Some.kind).0 c.in-Some.is)

pub returns-in-Ok-clause-only : goal.returns-in-Ok-clause-only
returns-in-Ok-clause-only c h reported = ap (λ x. Ok x) (one_header c.args.bytes.now _ h (returns-in-Ok-clause-ok c) reported)

pub returns-in-Err-clause-only : goal.returns-in-Err-clause-only
returns-in-Err-clause-only c h reported =
    absurd (no_header c.args.bytes.now c.in-Some.kind c.in-Err.field-0 h (omega (arith, c.told-bytes)) ((c.reported_kind.ensures c.in-Some.kind).0 c.in-Some.is) c.in-Err.ensures.err reported)

pub returns-in_default-clause-only : goal.returns-in_default-clause-only
returns-in_default-clause-only c h reported =
    absurd (no_kind c.args.bytes.now h (λ blank. let two : true ≡ false = sym (c.is_blank.ensures.1 blank) ∙ c.if-is_blank.false in cc) (λ kind reports. c.in_default.not-Some kind ((c.reported_kind.ensures kind).1 reports)) reported)
