use Rattle.std.proofs.Common.{◌<◌, length, sym, ◌∙◌, subst, arith}
use Rattle.slot_tables.specs.Represents.{ShowsArray}
use Rattle.slot_tables.specs.Views.{ArrayView}
use Rattle.slot_tables.proofs.Regroups.{added_shows, add_case}
use Rattle.flat_machine.specs.Moves.{with_new_drive}
use Rattle.disk_array.proofs.array.Array.add_drive.Goals as goal

pub returns-in-Ok-clause-flat : goal.returns-in-Ok-clause-flat
returns-in-Ok-clause-flat g c F shows =
    let lost = g.D.Drive.lost c.args.drive in
    let failures = g.D.Drive.failures c.args.drive in
    let count = c.drive_count-number.ensures.count in
    let few = c.if-number-ge-DRIVES.false in
    let room : length c.args.self.now.parts.drives < 16 = omega (arith, count, few) in
    let case = add_case F c.args.self.now shows room in (
      count ∙ case.0,
      case.1,
      subst (λ (a : ArrayView). ShowsArray a (with_new_drive F lost failures)) (sym c.attach.ensures.rest)
          (added_shows c.args.self.now c.attach.new.self.parts F lost failures shows c.in-Ok.ensures.ok room),
    )
