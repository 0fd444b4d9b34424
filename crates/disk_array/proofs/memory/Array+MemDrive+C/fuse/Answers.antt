use Rattle.std.proofs.Common.{◌≡◌, rules, subst, ap}
use Rattle.flat_machine.specs.Moves.{with_fuse}
use Rattle.unit_store.specs.Views.{PartsView}
use Rattle.slot_tables.specs.Views.{ArrayView}
use Rattle.slot_tables.specs.Represents.{ShowsArray}
use Rattle.disk_array.specs.Losing.{WasFused}
use Rattle.unit_store.specs.Memory.{held_units, held_lost, held_failures}
use Rattle.disk_array.proofs.Losings.{was_fused, fuse_array, held_parts}
use Rattle.disk_array.proofs.Pulled.{still_matches}
use Rattle.disk_array.proofs.memory.Array+MemDrive+C.fuse.Goals as goal

-- the drive in the parts was given its fuse
fused_parts : goal.returns-clause-fused
fused_parts g c =
    let e = c.fuse.ensures in
    let seen : held_parts c.self.inside.parts ≡ c.args.self.now.parts = ap (λ (a : ArrayView). a.parts) c.self.view_is in
    subst (λ (p : PartsView). WasFused p (held_parts c.fuse.new.self) c.args.drive) seen
    (was_fused c.self.inside.parts c.fuse.new.self c.args.self.now.parts c.args.drive c.args.calls seen c.requires.drive e.fused e.missing e.failures e.units e.sound e.tables)

pub invariant_of-self : goal.invariant_of-self
invariant_of-self g c =
    let e = c.fuse.ensures in
    let was = was_fused c.self.inside.parts c.fuse.new.self c.args.self.now.parts c.args.drive c.args.calls (ap (λ (a : ArrayView). a.parts) c.self.view_is) c.requires.drive
    e.fused e.missing e.failures e.units e.sound e.tables
    in
    still_matches held_units held_lost held_failures g.C.Hold.names c.self.inside c.fuse.new.self (record { tables = was.rest; many = was.many }) e.fit c.self.invariant

pub returns-clause-fused : goal.returns-clause-fused
returns-clause-fused = fused_parts

pub returns-clause-flat : goal.returns-clause-flat
returns-clause-flat g c F shows =
    let a = c.args.self.now in
    let p = held_parts c.fuse.new.self in
    subst (λ (x : ArrayView). ShowsArray x (with_fuse F c.args.drive)) (search rules) (fuse_array a F c.args.drive p shows (fused_parts g c))
