use Rattle.std.proofs.Common.{◌++◌, [], ◌∷◌, length, refl, sym, ap, ◌∙◌, subst, arith}
use Rattle.extent_groups.specs.Calls.{DidWrite, FadesAt, KeepsDrives}
use Rattle.extent_groups.specs.Planned.{after}
use Rattle.extent_groups.proofs.DriveCalls.{keeps_more}
use Rattle.extent_groups.proofs.Finishing.{fades_more}
use Rattle.unit_store.specs.Micros.{writes_in, IsWritten, AreWrites}
use Rattle.unit_store.specs.Slots.{cells_in}
use Rattle.unit_store.specs.declared.micro.Micro.{Micro}
use Rattle.unit_store.proofs.parts.Parts.run_one.Goals as goal

pub write_at-written-requires-clause-place : goal.write_at-written-requires-clause-place
write_at-written-requires-clause-place g c =
    (subst (λ (m : Micro). AreWrites g.D.Drive.units c.args.self.now (m ∷ [])) c.in-Write.is c.requires.write _ (0, omega arith, refl)).0

pub write_at-written-requires-clause-unit : goal.write_at-written-requires-clause-unit
write_at-written-requires-clause-unit g c =
    ap length c.deref.ensures.value ∙ (subst (λ (m : Micro). AreWrites g.D.Drive.units c.args.self.now (m ∷ [])) c.in-Write.is c.requires.write _ (0, omega arith, refl)).1

pub returns-in-Write-clause-cells : goal.returns-in-Write-clause-cells
returns-in-Write-clause-cells g c = λ d ws matches x.
    subst (λ (m : Micro). FadesAt (after d (ws ++ writes_in (m ∷ []))) (cells_in g.D.Drive.units g.D.Drive.lost c.write_at-written.new.self) x) (sym c.in-Write.is)
    (fades_more d _ _ ws _ _ matches (subst (λ u. DidWrite (cells_in g.D.Drive.units g.D.Drive.lost c.args.self.now) (cells_in g.D.Drive.units g.D.Drive.lost c.write_at-written.new.self)
    (record { drive = c.in-Write.drive; address = c.in-Write.at }) u c.write_at-written.result) c.deref.ensures.value c.write_at-written.ensures.written) x)

pub returns-in-Write-clause-touched : goal.returns-in-Write-clause-touched
returns-in-Write-clause-touched g c =
    subst (λ (m : Micro). KeepsDrives g.D.Drive.units g.D.Drive.lost g.D.Drive.failures (IsWritten (m ∷ [])) c.args.self.now.drives.items c.write_at-written.new.self.drives.items) (sym c.in-Write.is)
    (keeps_more (λ x same. (_, (0, omega arith, refl), sym same)) c.write_at-written.ensures.touched)
