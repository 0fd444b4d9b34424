use Rattle.drive_rebuild.proofs.Underway.{wrote_more, wrote_none}
use Rattle.drive_rebuild.proofs.write.write_drive.Goals as goal

pub loop-address-init : goal.loop-address-init
loop-address-init g c = record {
  stays = λ known. known;
  wrote = λ known lost gone. wrote_none g.V.Vault.seen g.V.Vault.may_leave g.V.Vault.moment g.V.Vault.left_since lost c.args.vault.now (λ stop. g.met.V.Vault.only_now c.args.vault.now known stop);
}

pub returns-then-address-units-clause-stays : goal.returns-then-address-units-clause-stays
returns-then-address-units-clause-stays g c = c.loop-address.invariant.stays

pub returns-then-address-units-clause-wrote : goal.returns-then-address-units-clause-wrote
returns-then-address-units-clause-wrote g c = c.loop-address.invariant.wrote

pub returns-then-is_err-clause-stays : goal.returns-then-is_err-clause-stays
returns-then-is_err-clause-stays g c = c.loop-address.invariant.stays

pub returns-then-is_err-clause-wrote : goal.returns-then-is_err-clause-wrote
returns-then-is_err-clause-wrote g c = c.loop-address.invariant.wrote

pub returns-in_err-write_unit-clause-stays : goal.returns-in_err-write_unit-clause-stays
returns-in_err-write_unit-clause-stays g c = λ known. c.write_unit.ensures.stays (c.loop-address.invariant.stays known)

pub returns-in_err-write_unit-clause-wrote : goal.returns-in_err-write_unit-clause-wrote
returns-in_err-write_unit-clause-wrote g c = λ known lost gone.
    let now = c.loop-address.invariant.stays known in
    wrote_more g.V.Vault.seen g.V.Vault.may_leave g.V.Vault.moment g.V.Vault.left_since lost c.args.vault.now c.loop-address.vault c.write_unit.new.self
    (record { drive = c.args.number; address = c.loop-address.address }) gone
    (c.loop-address.invariant.wrote known lost gone) (c.write_unit.ensures.torn now) (c.write_unit.ensures.time now)

pub loop-address-preserved : goal.loop-address-preserved
loop-address-preserved g c = record {
  stays = λ known. c.write_unit.ensures.stays (c.loop-address.invariant.stays known);
  wrote = λ known lost gone.
      let now = c.loop-address.invariant.stays known in
      wrote_more g.V.Vault.seen g.V.Vault.may_leave g.V.Vault.moment g.V.Vault.left_since lost c.args.vault.now c.loop-address.vault c.write_unit.new.self
      (record { drive = c.args.number; address = c.loop-address.address }) gone
      (c.loop-address.invariant.wrote known lost gone) (c.write_unit.ensures.torn now) (c.write_unit.ensures.time now);
}

pub returns-clause-stays : goal.returns-clause-stays
returns-clause-stays g c = c.loop-address.invariant.stays

pub returns-clause-wrote : goal.returns-clause-wrote
returns-clause-wrote g c = c.loop-address.invariant.wrote
