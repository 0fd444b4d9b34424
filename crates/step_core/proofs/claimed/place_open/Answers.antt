use Rattle.std.proofs.Common.{◌∙◌, sym, ap, subst, MatchResult, IfSome}
use Rattle.flat_machine.specs.Flat.{Flat}
use Rattle.flat_machine.specs.Steps.{Refused}
use Rattle.flat_machine.specs.Cases.{Case}
use Rattle.slot_tables.specs.AtOnce.{ArePutAtOnce}
use Rattle.slot_tables.specs.Changes.{MayRefuse}
use Rattle.slot_tables.specs.Represents.{ShowsArray}
use Rattle.step_core.specs.Placing.{Again, put_answer, put_for, put_step}
use Rattle.step_core.specs.declared.claimed.What.{What}
use Rattle.step_core.specs.declared.claimed.What.TheVariants as what
use Rattle.step_core.proofs.Placing.{less_reported, same_block}
use Rattle.step_core.proofs.claimed.place_open.Goals as goal

pub returns-in-Payload-clause-flat : goal.returns-in-Payload-clause-flat
returns-in-Payload-clause-flat g c F w shows held =
    let s = g.C.Hold.names c.args.claim in
    let b = c.args.block in
    let r = c.place_open.result in
    let a = c.place_open.new.self in
    subst (λ (x : What). MatchResult r (λ done. ArePutAtOnce F (put_step (put_for x) w s b) (put_answer (put_for x) s) w s b done.emitted a)
    (λ e. IfSome e.0 (λ q. MayRefuse q (Unit {0}) ((G : Flat) × (Case F (put_step (put_for x) w s b) (Refused q) G) × (ShowsArray a G)))))
    (sym (c.in-Fresh.is ∙ ap what.Fresh c.in-Payload.is)) (less_reported _ _ _ r (c.place_open.ensures.flat F w shows held))

pub returns-in-Trim-clause-flat : goal.returns-in-Trim-clause-flat
returns-in-Trim-clause-flat g c F w shows held =
    let s = g.C.Hold.names c.args.claim in
    let b = c.args.block in
    let r = c.place_open-in-Trim.result in
    let a = c.place_open-in-Trim.new.self in
    subst (λ (x : What). MatchResult r (λ done. ArePutAtOnce F (put_step (put_for x) w s b) (put_answer (put_for x) s) w s b done.emitted a)
    (λ e. IfSome e.0 (λ q. MayRefuse q (Unit {0}) ((G : Flat) × (Case F (put_step (put_for x) w s b) (Refused q) G) × (ShowsArray a G)))))
    (sym (c.in-Fresh.is ∙ ap what.Fresh c.in-Trim.is)) (less_reported _ _ _ r (c.place_open-in-Trim.ensures.flat F w shows held))

pub returns-in-CopyOf-clause-flat : goal.returns-in-CopyOf-clause-flat
returns-in-CopyOf-clause-flat g c F w shows held =
    let s = g.C.Hold.names c.args.claim in
    let b = c.args.block in
    let r = c.place_copy.result in
    let a = c.place_copy.new.self in
    let of = same_block c.args.block c.args.what c.in-CopyOf.source c.in-CopyOf.is c.requires.of in
    subst (λ (x : What). MatchResult r (λ done. ArePutAtOnce F (put_step (put_for x) w s b) (put_answer (put_for x) s) w s b done.emitted a)
    (λ e. IfSome e.0 (λ q. MayRefuse q (Unit {0}) ((G : Flat) × (Case F (put_step (put_for x) w s b) (Refused q) G) × (ShowsArray a G)))))
    (sym c.in-CopyOf.is)
    (subst (λ n. MatchResult r (λ done. ArePutAtOnce F (put_step Again w s n) (put_answer Again s) w s n done.emitted a)
    (λ e. IfSome e.0 (λ q. MayRefuse q (Unit {0}) ((G : Flat) × (Case F (put_step Again w s n) (Refused q) G) × (ShowsArray a G)))))
    of (less_reported _ _ _ r (c.place_copy.ensures.flat F w shows held)))
