use Rattle.std.proofs.Common.{◌∙◌, arith, get_or, length-set, subst}
use Rattle.std.proofs.lemmas.Option.{slice_get_within}
use Rattle.extent_groups.specs.Planned.{after}
use Rattle.extent_groups.proofs.Places.{get-set_other}
use Rattle.vault.specs.Images.{Image}
use Rattle.rotten_units.proofs.Reading.{read_more}
use Rattle.array_batch.specs.Batched.{HasDriveUnits, KeepsDriveUnits}
use Rattle.array_batch.proofs.Batching.{drive_more}
use Rattle.array_batch.proofs.batch.put_drives.Goals as goal

pub returns-in_err-put_drive-clause-read : goal.returns-in_err-put_drive-clause-read
returns-in_err-put_drive-clause-read g c = λ known.
    let inv = c.loop-number.invariant in
    read_more g.V.Vault.seen g.V.Vault.may_leave g.V.Vault.moment g.V.Vault.left_since c.args.vault.now c.loop-number.vault c.put_drive.new.vault (inv.read known) (c.put_drive.ensures.read (inv.stays known))

pub loop-number-preserved : goal.loop-number-preserved
loop-number-preserved g c =
    let inv = c.loop-number.invariant in
    let put = c.put_drive.ensures in
    let number = c.loop-number.number in
    record {
      stays = λ known. put.stays (inv.stays known);
      read = λ known. read_more g.V.Vault.seen g.V.Vault.may_leave g.V.Vault.moment g.V.Vault.left_since c.args.vault.now c.loop-number.vault c.put_drive.new.vault (inv.read known) (put.read (inv.stays known));
      long = length-set c.loop-number.drives number c.put_drive.new.drive ∙ inv.long;
      kept = λ d high. get-set_other c.loop-number.drives number d c.put_drive.new.drive (omega (arith, high)) ∙ inv.kept d (omega (arith, high));
      first = λ known d m low is.
          let cells = Image.cells (g.V.Vault.seen c.args.vault.now) in
          drive_more cells number c.args.drives.now c.loop-number.drives c.index-drives-number.result c.loop-number.batch c.put_drive.new.batch inv.kept
          (subst (λ (i : Image). KeepsDriveUnits number i.cells (after i.cells c.loop-number.batch) → HasDriveUnits number (get_or c.loop-number.drives number c.index-drives-number.result).units (after i.cells c.put_drive.new.batch))
          (inv.read known).finds (c.in_ok-put_drive.ensures.put (inv.stays known)))
          (put.others cells) (inv.rest cells) (inv.first known) d m low is;
      rest = λ d x high. put.others d x (omega (arith, high)) ∙ inv.rest d x (omega (arith, high));
    }

pub returns-clause-put : goal.returns-clause-put
returns-clause-put g c = λ known d m is.
    let inv = c.loop-number.invariant in
    let within = slice_get_within c.args.drives.now d m is in
    inv.first known d m (omega (arith, within, c.loop-number-test.false, inv.long)) is
