use Rattle.std.proofs.Common.{refl, ◌++◌, drop, sym, subst, ap, ◌∙◌}
use Rattle.std.proofs.lemmas.Result.{on_ok_weaker, IfErr-weaker}
use Rattle.std.specs.Prelude.{replicate}
use Rattle.unit_store.specs.Shows.{IsUnit}
use Rattle.extents.specs.Header.{header_bytes}
use Rattle.unit_store.proofs.Calls.{front_of, was_put, wrote_gone, zeros_under}
use Rattle.unit_store.proofs.parts.Parts.put_zeros_under.Goals as goal

pub returns-clause-ok : goal.returns-clause-ok
returns-clause-ok g c =
    on_ok_weaker c.write.result
    (λ holds. was_put g.D.Drive.units g.D.Drive.lost g.D.Drive.failures c.args.self.now c.write.new.self c.args.slot c.put_header.new.unit (record { header = c.args.header.now; payload = replicate c.args.self.now.groups.payload 0 })
    c.write.ensures.tables c.write.ensures.drives.fares c.write.ensures.wrote
    (subst (λ b. IsUnit b (record { header = c.args.header.now; payload = replicate c.args.self.now.groups.payload 0 })) (sym (c.put_header.ensures ∙ ap (λ b. header_bytes c.args.header.now ++ drop 32 b) (c.clear.ensures ∙ ap (λ n. replicate n 0) c.requires.unit))) (zeros_under c.args.header.now _ c.args.self.now.groups.payload c.requires.header refl))
    (front_of c.args.header.now c.put_header.new.unit _ c.put_header.ensures) holds.there)
    c.write.ensures.ok

pub returns-clause-err : goal.returns-clause-err
returns-clause-err g c =
    IfErr-weaker c.write.result _ _
    (λ e reports. wrote_gone g.D.Drive.units g.D.Drive.lost g.D.Drive.failures c.args.self.now c.write.new.self c.args.slot c.put_header.new.unit e c.write.ensures.tables c.write.ensures.drives.fares c.write.ensures.wrote reports)
    c.write.ensures.gone
