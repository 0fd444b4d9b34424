use Rattle.std.proofs.Common.{sym, ◌∙◌, ap, inr}
use Rattle.std.specs.Prelude.{Result, Ok, Err, IfOk, IfErr}
use Rattle.std.proofs.lemmas.Result.{IfOk-weaker, IfErr-weaker}
use Rattle.flat_machine.specs.Flat.{Flat}
use Rattle.unit_store.specs.Slots.{missing_in}
use Rattle.header_scan.specs.Stops.{standing}
use Rattle.header_scan.proofs.Stopping.{found, has_found, there_found}
use Rattle.header_scan.proofs.Again.{fine_left, left_again, not_both}
use Rattle.header_scan.proofs.Known.{left_fault, sound}
use Rattle.header_scan.proofs.renew.restart.Goals as goal

-- what is true of an Ok in two clauses, or of an Err
both_ok : {A B S : Type 0} (r : Result A B) (P Q : A → Type 0) → IfOk r P → (S → IfOk r Q) → IfOk r (λ x. P x × (S → Q x))
both_ok (Ok x) P Q one two = (one, two)
both_ok (Err y) P Q one two = tt

both_err : {A B S : Type 0} (r : Result A B) (P Q : B → Type 0) → (S → IfErr r P) → IfErr r Q → IfErr r (λ y. (S → P y) × Q y)
both_err (Ok x) P Q one two = tt
both_err (Err y) P Q one two = (one, two)

and_err : {A B : Type 0} (r : Result A B) (P Q : B → Type 0) → IfErr r P → IfErr r Q → IfErr r (λ y. P y × Q y)
and_err (Ok x) P Q one two = tt
and_err (Err y) P Q one two = (one, two)

pub returns-clause-finished : goal.returns-clause-finished
returns-clause-finished g c =
    IfOk-weaker c.renew.result _ _ (λ r h. (c.in_default.ensures, (c.finish.new.self, c.finish.ensures.finished, h)))
    (both_ok c.renew.result _ _ c.renew.ensures.ok c.renew.ensures.matches)

pub returns-clause-stopped : goal.returns-clause-stopped
returns-clause-stopped g c =
    IfOk-weaker c.renew.result _ _ (λ r made p F G list n fit has there micro stop.
    let d = g.D.Drive in
    let X : Flat = found d.units d.lost d.failures p c.args.parts c.finish.new.self F G list fit has there micro c.finish.ensures.finished n in
    let m = made.flat X
    (has_found d.units d.lost d.failures p c.args.parts c.finish.new.self F G list fit has there micro c.finish.ensures.finished n stop)
    (there_found d.units d.lost d.failures p c.args.parts c.finish.new.self F G list fit has there micro c.finish.ensures.finished n) in
    let Y : Flat = standing n F G in
    (m.0, made.keys, m.1, record { is = m.2.same ∙ ap (λ k. record Y { drives = k; lost = m.0.lost; failures = m.0.failures }) (sym (ap (λ (Z : Flat). Z.drives) m.2.same)) }, m.3, m.4))
    c.renew.ensures.ok

pub returns-clause-refused : goal.returns-clause-refused
returns-clause-refused g c =
    IfErr-weaker c.renew.result _ _ (λ e h. inr (c.in_default.ensures, (c.finish.new.self, c.finish.ensures.finished, (h.0, h.1.0))))
    (both_err c.renew.result _ _ c.renew.ensures.fault c.renew.ensures.back)

pub returns-in-Some-clause-again : goal.returns-in-Some-clause-again
returns-in-Some-clause-again g c p F G list n fit micro stop =
    absurd (not_both c.args.parts.groups (missing_in g.D.Drive.lost c.args.parts) c.args.parts.note
    (fine_left g.D.Drive.units g.D.Drive.lost p c.args.parts F G list c.requires micro n stop) c.in-Some.ensures.0)

pub returns-in-Some-clause-fails : goal.returns-in-Some-clause-fails
returns-in-Some-clause-fails g c p F G list n keys fit has there micro stop map =
    not_both c.args.parts.groups (missing_in g.D.Drive.lost c.args.parts) c.args.parts.note
    (fine_left g.D.Drive.units g.D.Drive.lost p c.args.parts F G list c.requires micro n stop) c.in-Some.ensures.0

pub returns-clause-again : goal.returns-clause-again
returns-clause-again g c =
    let d = g.D.Drive in
    IfErr-weaker c.renew.result _ _ (λ e h p F G list n fit micro stop.
    left_again d.units d.lost d.failures p c.args.parts c.finish.new.self e.1 F G list micro c.finish.ensures.finished h.0 n stop)
    c.renew.ensures.back

pub returns-clause-fails : goal.returns-clause-fails
returns-clause-fails g c =
    let d = g.D.Drive in
    IfErr-weaker c.renew.result _ _ (λ e h p F G list n keys fit has there micro stop map.
    let X : Flat = found d.units d.lost d.failures p c.args.parts c.finish.new.self F G list fit has there micro c.finish.ensures.finished n in
    let parts = has_found d.units d.lost d.failures p c.args.parts c.finish.new.self F G list fit has there micro c.finish.ensures.finished n stop in
    left_fault d.units d.lost d.failures c.finish.new.self e.1 g.C.Hold.names c.args.claims.items c.finish.ensures.fit h.1 h.0.1.0 X parts keys map e.0
    (h.0.0 (sound d.units d.lost d.failures c.finish.new.self e.1 g.C.Hold.names c.args.claims.items c.finish.ensures.fit h.1 h.0.1.0 X parts keys map)))
    (and_err c.renew.result _ _ (both_err c.renew.result _ _ c.renew.ensures.fault c.renew.ensures.back) c.renew.ensures.fit)
