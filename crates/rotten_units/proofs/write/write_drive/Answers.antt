use Rattle.std.proofs.lemmas.Result.{err_from_is_err_and}
use Rattle.extent_groups.specs.Cells.{cells}
use Rattle.extent_groups.proofs.DriveCalls.{keeps_none, keeps_trans}
use Rattle.extent_groups.proofs.Losses.{kept_fades}
use Rattle.vault.specs.Marks.{Has}
use Rattle.rotten_units.proofs.Writing.{from_both, from_later, from_none, wrote_both, wrote_none}
use Rattle.rotten_units.proofs.write.write_drive.Goals as goal

pub loop-address-init : goal.loop-address-init
loop-address-init g c = record {
  stays = λ known. known;
  wrote = λ known. wrote_none (Has c.args.rotten.now.marks.items) g.V.Vault.seen g.V.Vault.may_leave g.V.Vault.moment g.V.Vault.left_since c.args.vault.now (λ stop i left. g.met.V.Vault.only_now c.args.vault.now known stop i left);
  units = λ known. from_none g.V.Vault.seen g.V.Vault.attested (Has c.args.rotten.now.marks.items) (cells g.D.Drive.units g.D.Drive.lost c.args.drives.now) c.args.vault.now;
  drives = keeps_none c.args.drives.now;
}

pub returns-in_err-write_one-clause-wrote : goal.returns-in_err-write_one-clause-wrote
returns-in_err-write_one-clause-wrote g c = λ known.
    wrote_both (Has c.args.rotten.now.marks.items) g.V.Vault.seen g.V.Vault.may_leave g.V.Vault.moment g.V.Vault.left_since c.args.vault.now c.loop-address.vault c.write_one.new.vault
    (c.loop-address.invariant.wrote known) (c.write_one.ensures.wrote (c.loop-address.invariant.stays known))

pub returns-in_err-write_one-clause-units : goal.returns-in_err-write_one-clause-units
returns-in_err-write_one-clause-units g c = λ known.
    let p = err_from_is_err_and c.from_residual.result c.from_residual.ensures.1 in
    rw (p.1, p.2)
    (λ other. from_both g.V.Vault.seen g.V.Vault.attested (Has c.args.rotten.now.marks.items) (cells g.D.Drive.units g.D.Drive.lost c.args.drives.now) c.args.vault.now c.loop-address.vault c.write_one.new.vault (c.loop-address.invariant.units known)
    (from_later g.V.Vault.seen g.V.Vault.attested (Has c.args.rotten.now.marks.items) (cells g.D.Drive.units g.D.Drive.lost c.loop-address.drives) (cells g.D.Drive.units g.D.Drive.lost c.args.drives.now) c.loop-address.vault c.write_one.new.vault (kept_fades c.loop-address.invariant.drives)
    (c.in_err-write_one.ensures.units (c.loop-address.invariant.stays known) other)))

pub returns-in_err-write_one-clause-drives : goal.returns-in_err-write_one-clause-drives
returns-in_err-write_one-clause-drives g c = keeps_trans c.loop-address.invariant.drives c.write_one.ensures.drives

pub loop-address-preserved : goal.loop-address-preserved
loop-address-preserved g c = record {
  stays = λ known. c.write_one.ensures.stays (c.loop-address.invariant.stays known);
  wrote = λ known.
      wrote_both (Has c.args.rotten.now.marks.items) g.V.Vault.seen g.V.Vault.may_leave g.V.Vault.moment g.V.Vault.left_since c.args.vault.now c.loop-address.vault c.write_one.new.vault
      (c.loop-address.invariant.wrote known) (c.write_one.ensures.wrote (c.loop-address.invariant.stays known));
  units = λ known. from_both g.V.Vault.seen g.V.Vault.attested (Has c.args.rotten.now.marks.items) (cells g.D.Drive.units g.D.Drive.lost c.args.drives.now) c.args.vault.now c.loop-address.vault c.write_one.new.vault (c.loop-address.invariant.units known)
      (from_later g.V.Vault.seen g.V.Vault.attested (Has c.args.rotten.now.marks.items) (cells g.D.Drive.units g.D.Drive.lost c.loop-address.drives) (cells g.D.Drive.units g.D.Drive.lost c.args.drives.now) c.loop-address.vault c.write_one.new.vault (kept_fades c.loop-address.invariant.drives)
      (c.in_ok-write_one.ensures.units (c.loop-address.invariant.stays known)));
  drives = keeps_trans c.loop-address.invariant.drives c.write_one.ensures.drives;
}

pub returns-clause-units : goal.returns-clause-units
returns-clause-units g c = c.loop-address.invariant.units

pub returns-clause-drives : goal.returns-clause-drives
returns-clause-drives g c = c.loop-address.invariant.drives
