use Rattle.std.proofs.Common.{◌≡◌, ◌∙◌, Some, slice_get, arith, subst}
use Rattle.extent_groups.specs.Cells.{held}
use Rattle.extent_groups.specs.Planned.{after}
use Rattle.vault.specs.Images.{Image}
use Rattle.rotten_units.proofs.Reading.{read_more}
use Rattle.array_batch.proofs.Batching.{at, other_address, other_drive, unit_more}
use Rattle.array_batch.proofs.batch.put_drive.Goals as goal

pub returns-in_err-put_unit-clause-read : goal.returns-in_err-put_unit-clause-read
returns-in_err-put_unit-clause-read g c = λ known.
    let inv = c.loop-address.invariant in
    read_more g.V.Vault.seen g.V.Vault.may_leave g.V.Vault.moment g.V.Vault.left_since c.args.vault.now c.loop-address.vault c.put_unit.new.vault (inv.read known) (c.put_unit.ensures.read (inv.stays known))

pub returns-in_err-put_unit-clause-others : goal.returns-in_err-put_unit-clause-others
returns-in_err-put_unit-clause-others g c = λ d x ne. c.put_unit.ensures.others d x (other_drive x c.args.number c.loop-address.address ne) ∙ c.loop-address.invariant.others d x ne

pub loop-address-preserved : goal.loop-address-preserved
loop-address-preserved g c =
    let inv = c.loop-address.invariant in
    let put = c.put_unit.ensures in
    let number = c.args.number in
    let address = c.loop-address.address in
    record {
      stays = λ known. put.stays (inv.stays known);
      read = λ known. read_more g.V.Vault.seen g.V.Vault.may_leave g.V.Vault.moment g.V.Vault.left_since c.args.vault.now c.loop-address.vault c.put_unit.new.vault (inv.read known) (put.read (inv.stays known));
      units = c.read_unit.ensures.units ∙ inv.units;
      first = λ known keeps a low.
          let cells = Image.cells (g.V.Vault.seen c.args.vault.now) in
          unit_more cells number address c.args.drive.now.units c.read_unit.new.unit c.args.batch.now c.loop-address.batch c.put_unit.new.batch
          (subst (λ units. slice_get units address ≡ Some c.read_unit.new.unit) inv.units c.in-Ok.ensures.read)
          (subst (λ (i : Image). held (after i.cells c.loop-address.batch) (at number address) ≡ held i.cells (at number address) → held (after i.cells c.put_unit.new.batch) (at number address) ≡ Some c.read_unit.new.unit)
          (inv.read known).finds (c.in_ok-put_unit.ensures.put (inv.stays known)))
          (put.others cells) (inv.rest cells) keeps (inv.first known keeps) a low;
      rest = λ d a high. put.others d (at number a) (other_address number a address (omega (arith, high))) ∙ inv.rest d a (omega (arith, high));
      others = λ d x ne. put.others d x (other_drive x number address ne) ∙ inv.others d x ne;
    }
