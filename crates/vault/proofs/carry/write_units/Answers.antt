use Rattle.std.proofs.Common.{sym, ◌∙◌, arith}
use Rattle.vault.specs.Images.{Image}
use Rattle.vault.proofs.Carried.{place_in, at_both, after_next, after_skipped, one_more}
use Rattle.vault.proofs.carry.write_units.Goals as goal

pub returns-in_err-write_unit-clause-underway : goal.returns-in_err-write_unit-clause-underway
returns-in_err-write_unit-clause-underway g c = λ known among.
    let now = c.loop-index.invariant.stays known in
    one_more g.V.Vault.seen g.V.Vault.may_leave g.V.Vault.moment g.V.Vault.left_since c.args.lost.now c.args.vault.now c.loop-index.vault c.write_unit.new.self c.place-place.result
    (c.loop-index.invariant.underway known among) (among c.place-place.result (place_in c.args.batch.now c.loop-index.index c.place-place.result c.place-place.ensures))
    (c.write_unit.ensures.torn now) (c.write_unit.ensures.time now)

pub loop-index-preserved-then-is_lost : goal.loop-index-preserved-then-is_lost
loop-index-preserved-then-is_lost g c = record {
  stays = c.loop-index.invariant.stays;
  underway = c.loop-index.invariant.underway;
  cells = λ known. after_skipped c.args.lost.now c.args.batch.now c.loop-index.index c.place-place.result (Image.cells (g.V.Vault.seen c.args.vault.now)) (Image.cells (g.V.Vault.seen c.loop-index.vault))
      c.place-place.ensures (sym c.is_lost.ensures ∙ c.if-is_lost.true) (c.loop-index.invariant.cells known);
  faults = c.loop-index.invariant.faults;
}

pub loop-index-preserved : goal.loop-index-preserved
loop-index-preserved g c = record {
  stays = λ known. c.write_unit.ensures.stays (c.loop-index.invariant.stays known);
  underway = λ known among.
      let now = c.loop-index.invariant.stays known in
      one_more g.V.Vault.seen g.V.Vault.may_leave g.V.Vault.moment g.V.Vault.left_since c.args.lost.now c.args.vault.now c.loop-index.vault c.write_unit.new.self c.place-place.result
      (c.loop-index.invariant.underway known among) (among c.place-place.result (place_in c.args.batch.now c.loop-index.index c.place-place.result c.place-place.ensures))
      (c.write_unit.ensures.torn now) (c.write_unit.ensures.time now);
  cells = λ known.
      let now = c.loop-index.invariant.stays known in
      after_next c.args.lost.now c.args.batch.now c.loop-index.index (record { place = c.place-place.result; unit = c.unit.result.now }) (Image.cells (g.V.Vault.seen c.args.vault.now)) (Image.cells (g.V.Vault.seen c.loop-index.vault))
      (Image.cells (g.V.Vault.seen c.write_unit.new.self))
      (at_both c.args.batch.now c.loop-index.index c.place-place.result c.unit.result.now c.place-place.ensures c.unit.ensures) (c.loop-index.invariant.cells known)
      (λ x live. (c.in_ok-write_unit.ensures.written now).cells x);
  faults = λ known. let was = c.loop-index.invariant.faults known in let more = (c.write_unit.ensures.cause (c.loop-index.invariant.stays known)).later in omega (arith, was, more);
}
