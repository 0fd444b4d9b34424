use Rattle.std.proofs.lemmas.Result.{err_from_is_err_and}
use Rattle.extent_groups.specs.Cells.{cells}
use Rattle.extent_groups.proofs.DriveCalls.{keeps_none, keeps_trans}
use Rattle.extent_groups.proofs.Losses.{kept_fades}
use Rattle.vault.specs.Marks.{Has}
use Rattle.rotten_units.proofs.Writing.{from_both, from_later, from_none, wrote_both, wrote_none}
use Rattle.rotten_units.proofs.write.write_rotten.Goals as goal

pub loop-number-init : goal.loop-number-init
loop-number-init g c = record {
  stays = λ known. known;
  wrote = λ known. wrote_none (Has c.args.rotten.now.marks.items) g.V.Vault.seen g.V.Vault.may_leave g.V.Vault.moment g.V.Vault.left_since c.args.vault.now (λ stop i left. g.met.V.Vault.only_now c.args.vault.now known stop i left);
  units = λ known. from_none g.V.Vault.seen g.V.Vault.attested (Has c.args.rotten.now.marks.items) (cells g.D.Drive.units g.D.Drive.lost c.args.drives.now) c.args.vault.now;
  drives = keeps_none c.args.drives.now;
}

pub returns-in_err-done-clause-wrote : goal.returns-in_err-done-clause-wrote
returns-in_err-done-clause-wrote g c = λ known.
    wrote_both (Has c.args.rotten.now.marks.items) g.V.Vault.seen g.V.Vault.may_leave g.V.Vault.moment g.V.Vault.left_since c.args.vault.now c.loop-number.vault c.write_drive.new.vault
    (c.loop-number.invariant.wrote known) (c.write_drive.ensures.wrote (c.loop-number.invariant.stays known))

pub returns-in_err-done-clause-units : goal.returns-in_err-done-clause-units
returns-in_err-done-clause-units g c = λ known.
    let p = err_from_is_err_and c.from_residual.result c.from_residual.ensures.1 in
    rw (p.1, p.2)
    (λ other. from_both g.V.Vault.seen g.V.Vault.attested (Has c.args.rotten.now.marks.items) (cells g.D.Drive.units g.D.Drive.lost c.args.drives.now) c.args.vault.now c.loop-number.vault c.write_drive.new.vault (c.loop-number.invariant.units known)
    (from_later g.V.Vault.seen g.V.Vault.attested (Has c.args.rotten.now.marks.items) (cells g.D.Drive.units g.D.Drive.lost c.loop-number.drives) (cells g.D.Drive.units g.D.Drive.lost c.args.drives.now) c.loop-number.vault c.write_drive.new.vault (kept_fades c.loop-number.invariant.drives)
    (c.in_err-done.ensures.units (c.loop-number.invariant.stays known) other)))

pub returns-in_err-done-clause-drives : goal.returns-in_err-done-clause-drives
returns-in_err-done-clause-drives g c = keeps_trans c.loop-number.invariant.drives c.write_drive.ensures.drives

pub loop-number-preserved : goal.loop-number-preserved
loop-number-preserved g c = record {
  stays = λ known. c.write_drive.ensures.stays (c.loop-number.invariant.stays known);
  wrote = λ known.
      wrote_both (Has c.args.rotten.now.marks.items) g.V.Vault.seen g.V.Vault.may_leave g.V.Vault.moment g.V.Vault.left_since c.args.vault.now c.loop-number.vault c.write_drive.new.vault
      (c.loop-number.invariant.wrote known) (c.write_drive.ensures.wrote (c.loop-number.invariant.stays known));
  units = λ known. from_both g.V.Vault.seen g.V.Vault.attested (Has c.args.rotten.now.marks.items) (cells g.D.Drive.units g.D.Drive.lost c.args.drives.now) c.args.vault.now c.loop-number.vault c.write_drive.new.vault (c.loop-number.invariant.units known)
      (from_later g.V.Vault.seen g.V.Vault.attested (Has c.args.rotten.now.marks.items) (cells g.D.Drive.units g.D.Drive.lost c.loop-number.drives) (cells g.D.Drive.units g.D.Drive.lost c.args.drives.now) c.loop-number.vault c.write_drive.new.vault (kept_fades c.loop-number.invariant.drives)
      (c.in_ok-done.ensures.units (c.loop-number.invariant.stays known)));
  drives = keeps_trans c.loop-number.invariant.drives c.write_drive.ensures.drives;
}

pub returns-clause-units : goal.returns-clause-units
returns-clause-units g c = c.loop-number.invariant.units

pub returns-clause-drives : goal.returns-clause-drives
returns-clause-drives g c = c.loop-number.invariant.drives
