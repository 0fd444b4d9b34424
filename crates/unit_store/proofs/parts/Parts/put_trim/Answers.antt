use Rattle.std.proofs.Common.{arith, sym, subst, ap, ◌∙◌}
use Rattle.std.proofs.lemmas.Result.{on_ok_weaker, IfErr-weaker}
use Rattle.std.specs.Prelude.{replicate}
use Rattle.flat_machine.specs.Flat.{Trim, waiting_unit}
use Rattle.unit_store.specs.Shows.{IsUnit}
use Rattle.unit_store.proofs.Shows.{zero_unit}
use Rattle.unit_store.proofs.Calls.{zeros_front, was_put, wrote_gone}
use Rattle.unit_store.proofs.parts.Parts.put_trim.Goals as goal

pub returns-clause-ok : goal.returns-clause-ok
returns-clause-ok g c =
    on_ok_weaker c.write.result
    (λ holds. was_put g.D.Drive.units g.D.Drive.lost g.D.Drive.failures c.args.self.now c.write.new.self c.args.slot c.clear.new.unit (waiting_unit c.args.self.now.groups.payload Trim)
    c.write.ensures.tables c.write.ensures.drives.fares c.write.ensures.wrote
    (subst (λ b. IsUnit b (waiting_unit c.args.self.now.groups.payload Trim)) (sym (c.clear.ensures ∙ ap (λ n. replicate n 0) c.requires.unit)) (zero_unit c.args.self.now.groups.payload))
    (zeros_front c.clear.new.unit _ (omega (arith, c.requires.unit)) c.clear.ensures) holds.there)
    c.write.ensures.ok

pub returns-clause-err : goal.returns-clause-err
returns-clause-err g c =
    IfErr-weaker c.write.result _ _
    (λ e reports. wrote_gone g.D.Drive.units g.D.Drive.lost g.D.Drive.failures c.args.self.now c.write.new.self c.args.slot c.clear.new.unit e c.write.ensures.tables c.write.ensures.drives.fares c.write.ensures.wrote reports)
    c.write.ensures.gone
