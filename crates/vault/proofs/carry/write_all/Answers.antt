use Rattle.std.proofs.Common.{◌≡◌, ◌<◌, length, rules, Some, sym, ◌∙◌, ap, subst, arith}
use Rattle.std.specs.Prelude.{slice_get}
use Rattle.extent_groups.specs.Planned.{after}
use Rattle.extent_groups.specs.Cells.{held}
use Rattle.vault.specs.Images.{Image, SameOn}
use Rattle.vault.proofs.Carried.{at_start, batch_among, same_more, both_more, after_batch, cause_later, cause_passed}
use Rattle.vault.proofs.carry.write_all.Goals as goal

pub returns-in_err-read_batch-clause-underway : goal.returns-in_err-read_batch-clause-underway
returns-in_err-read_batch-clause-underway g c = λ known.
    let now = c.loop-index.invariant.stays known in
    same_more g.V.Vault.seen g.V.Vault.may_leave g.V.Vault.moment g.V.Vault.left_since c.args.lost.now c.args.vault.now c.loop-index.vault c.read_batch.new.self (c.loop-index.invariant.underway known)
    (c.read_batch.ensures.seen now) (c.read_batch.ensures.time now)

pub returns-in_err-write_units-clause-underway : goal.returns-in_err-write_units-clause-underway
returns-in_err-write_units-clause-underway g c = λ known.
    let now = c.loop-index.invariant.stays known in
    let journal = (c.loop-index.invariant.underway known).finds.journal in
    let inside : c.loop-index.index < length (Image.journal (g.V.Vault.seen c.loop-index.vault)) =
    omega (arith, c.loop-index-test.true, c.in_ok-count.ensures.count known, ap length journal) in
    let so_far = same_more g.V.Vault.seen g.V.Vault.may_leave g.V.Vault.moment g.V.Vault.left_since c.args.lost.now c.args.vault.now c.loop-index.vault c.read_batch.new.self (c.loop-index.invariant.underway known)
    (c.read_batch.ensures.seen now) (c.read_batch.ensures.time now) in
    let among = batch_among g.V.Vault.seen g.V.Vault.may_leave g.V.Vault.moment g.V.Vault.left_since c.args.lost.now c.loop-index.vault c.read_batch.new.self c.loop-index.index c.read_batch.new.batch
    (c.read_batch.ensures.seen now) (c.in_ok-read_batch.ensures.batch now inside) in
    both_more g.V.Vault.seen g.V.Vault.may_leave g.V.Vault.moment g.V.Vault.left_since c.args.lost.now c.args.vault.now c.read_batch.new.self c.write_units.new.vault so_far
    (c.write_units.ensures.underway (c.read_batch.ensures.stays now) among)

pub returns-in_err-write_units-clause-cause : goal.returns-in_err-write_units-clause-cause
returns-in_err-write_units-clause-cause g c = λ known.
    let now = c.loop-index.invariant.stays known in
    let was = c.loop-index.invariant.faults known in
    let inside : c.loop-index.index < length (Image.journal (g.V.Vault.seen c.loop-index.vault)) =
    omega (arith, c.loop-index-test.true, c.in_ok-count.ensures.count known, ap length (c.loop-index.invariant.underway known).finds.journal) in
    let read = (c.read_batch.ensures.cause now inside).later in
    cause_passed _ _ _ c.write_units.result c.from_residual-in_err-write_units.result c.in_err-write_units.field-0.0 c.in_err-write_units.was (search rules)
    (cause_later _ _ _ _ c.write_units.result (omega (arith, was, read)) (c.write_units.ensures.cause (c.read_batch.ensures.stays now)))

pub loop-index-preserved : goal.loop-index-preserved
loop-index-preserved g c = record {
  stays = λ known. c.write_units.ensures.stays (c.read_batch.ensures.stays (c.loop-index.invariant.stays known));
  underway = λ known.
      let now = c.loop-index.invariant.stays known in
      let journal = (c.loop-index.invariant.underway known).finds.journal in
      let inside : c.loop-index.index < length (Image.journal (g.V.Vault.seen c.loop-index.vault)) =
      omega (arith, c.loop-index-test.true, c.in_ok-count.ensures.count known, ap length journal) in
      let so_far = same_more g.V.Vault.seen g.V.Vault.may_leave g.V.Vault.moment g.V.Vault.left_since c.args.lost.now c.args.vault.now c.loop-index.vault c.read_batch.new.self (c.loop-index.invariant.underway known)
      (c.read_batch.ensures.seen now) (c.read_batch.ensures.time now) in
      let among = batch_among g.V.Vault.seen g.V.Vault.may_leave g.V.Vault.moment g.V.Vault.left_since c.args.lost.now c.loop-index.vault c.read_batch.new.self c.loop-index.index c.read_batch.new.batch
      (c.read_batch.ensures.seen now) (c.in_ok-read_batch.ensures.batch now inside) in
      both_more g.V.Vault.seen g.V.Vault.may_leave g.V.Vault.moment g.V.Vault.left_since c.args.lost.now c.args.vault.now c.read_batch.new.self c.write_units.new.vault so_far
      (c.write_units.ensures.underway (c.read_batch.ensures.stays now) among);
  cells = λ known.
      let now = c.loop-index.invariant.stays known in
      let journal = (c.loop-index.invariant.underway known).finds.journal in
      let inside : c.loop-index.index < length (Image.journal (g.V.Vault.seen c.loop-index.vault)) =
      omega (arith, c.loop-index-test.true, c.in_ok-count.ensures.count known, ap length journal) in
      let at : slice_get (Image.journal (g.V.Vault.seen c.args.vault.now)) c.loop-index.index ≡ Some c.read_batch.new.batch =
      ap (λ b. slice_get b c.loop-index.index) (sym (c.loop-index.invariant.underway known).finds.journal) ∙ c.in_ok-read_batch.ensures.batch now inside in
      after_batch c.args.lost.now (Image.journal (g.V.Vault.seen c.args.vault.now)) c.loop-index.index c.read_batch.new.batch (Image.cells (g.V.Vault.seen c.args.vault.now)) (Image.cells (g.V.Vault.seen c.loop-index.vault))
      (Image.cells (g.V.Vault.seen c.write_units.new.vault)) at (c.loop-index.invariant.cells known)
      (subst (λ (s : Image). SameOn c.args.lost.now (Image.cells (g.V.Vault.seen c.write_units.new.vault)) (after s.cells c.read_batch.new.batch)) (c.read_batch.ensures.seen now)
      (c.in_ok-write_units.ensures.written (c.read_batch.ensures.stays now)));
  faults = λ known.
      let now = c.loop-index.invariant.stays known in
      let was = c.loop-index.invariant.faults known in let more = (c.write_units.ensures.cause (c.read_batch.ensures.stays now)).later in
      let inside : c.loop-index.index < length (Image.journal (g.V.Vault.seen c.loop-index.vault)) =
      omega (arith, c.loop-index-test.true, c.in_ok-count.ensures.count known, ap length (c.loop-index.invariant.underway known).finds.journal) in
      let read = (c.read_batch.ensures.cause now inside).later in
      omega (arith, was, read, more);
}

pub returns-in_err-count-clause-underway : goal.returns-in_err-count-clause-underway
returns-in_err-count-clause-underway g c = λ known.
    same_more g.V.Vault.seen g.V.Vault.may_leave g.V.Vault.moment g.V.Vault.left_since c.args.lost.now c.args.vault.now c.args.vault.now c.batches.new.self
    (at_start g.V.Vault.seen g.V.Vault.may_leave g.V.Vault.moment g.V.Vault.left_since c.args.lost.now c.args.vault.now (λ stop. g.met.V.Vault.only_now c.args.vault.now known stop))
    (c.batches.ensures.seen known) (c.batches.ensures.time known)

pub loop-index-init : goal.loop-index-init
loop-index-init g c = record {
  stays = c.batches.ensures.stays;
  underway = λ known.
      same_more g.V.Vault.seen g.V.Vault.may_leave g.V.Vault.moment g.V.Vault.left_since c.args.lost.now c.args.vault.now c.args.vault.now c.batches.new.self
      (at_start g.V.Vault.seen g.V.Vault.may_leave g.V.Vault.moment g.V.Vault.left_since c.args.lost.now c.args.vault.now (λ stop. g.met.V.Vault.only_now c.args.vault.now known stop))
      (c.batches.ensures.seen known) (c.batches.ensures.time known);
  cells = λ known. λ x live. ap (λ (s : Image). held s.cells x) (c.batches.ensures.seen known);
  faults = λ known. (c.batches.ensures.cause known).later;
}
