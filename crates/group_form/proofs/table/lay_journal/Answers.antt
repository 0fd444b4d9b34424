use Rattle.std.proofs.Common.{◌≡◌, ◌<◌, Some, length, take, sym, subst, ap, arith}
use Rattle.std.specs.Prelude.{slice_get}
use Rattle.extent_groups.specs.Cells.{Cells}
use Rattle.extent_groups.specs.Planned.{after}
use Rattle.vault.specs.Images.{Image, flat}
use Rattle.group_form.specs.Reading.{AreKnownOf}
use Rattle.group_form.proofs.Reading.{after_batch, read_call}
use Rattle.group_form.proofs.table.lay_journal.Goals as goal

pub returns-in_err-count-clause-read : goal.returns-in_err-count-clause-read
returns-in_err-count-clause-read g c = λ known. record { finds = c.batches.ensures.seen known; time = c.batches.ensures.time known }

pub loop-index-init : goal.loop-index-init
loop-index-init g c = record {
  stays = λ known. c.batches.ensures.stays known;
  read = λ known. record { finds = c.batches.ensures.seen known; time = c.batches.ensures.time known };
  units = λ known d are. are;
}

pub returns-in_err-read_batch-clause-read : goal.returns-in_err-read_batch-clause-read
returns-in_err-read_batch-clause-read g c = λ known.
    let now = c.loop-index.invariant.stays known in
    read_call g.V.Vault.seen g.V.Vault.may_leave g.V.Vault.moment g.V.Vault.left_since c.args.vault.now c.loop-index.vault c.read_batch.new.self (c.loop-index.invariant.read known)
    (c.read_batch.ensures.seen now) (c.read_batch.ensures.time now)

pub returns-in_err-lay_batch-clause-read : goal.returns-in_err-lay_batch-clause-read
returns-in_err-lay_batch-clause-read g c = λ known.
    let now = c.loop-index.invariant.stays known in
    read_call g.V.Vault.seen g.V.Vault.may_leave g.V.Vault.moment g.V.Vault.left_since c.args.vault.now c.loop-index.vault c.read_batch.new.self (c.loop-index.invariant.read known)
    (c.read_batch.ensures.seen now) (c.read_batch.ensures.time now)

pub loop-index-preserved : goal.loop-index-preserved
loop-index-preserved g c = record {
  stays = λ known. c.read_batch.ensures.stays (c.loop-index.invariant.stays known);
  read = λ known.
      let now = c.loop-index.invariant.stays known in
      read_call g.V.Vault.seen g.V.Vault.may_leave g.V.Vault.moment g.V.Vault.left_since c.args.vault.now c.loop-index.vault c.read_batch.new.self (c.loop-index.invariant.read known)
      (c.read_batch.ensures.seen now) (c.read_batch.ensures.time now);
  units = λ known d are.
      let now = c.loop-index.invariant.stays known in
      let base = g.V.Vault.seen c.args.vault.now in
      let i = c.loop-index.index in
      let finds : g.V.Vault.seen c.loop-index.vault ≡ base = (c.loop-index.invariant.read known).finds in
      let same = ap (λ (s : Image). length s.journal) finds in
      let inside : i < length (Image.journal (g.V.Vault.seen c.loop-index.vault)) =
      omega (arith, c.loop-index-test.true, c.in_ok-count.ensures.count known, same) in
      let at : slice_get base.journal i ≡ Some c.read_batch.new.batch =
      subst (λ (s : Image). slice_get s.journal i ≡ Some c.read_batch.new.batch) finds (c.in_ok-read_batch.ensures.batch now inside) in
      subst (λ (e : Cells). AreKnownOf c.lay_batch.new.units e) (sym (after_batch d base.journal i c.read_batch.new.batch at))
      (c.in_ok-lay_batch.ensures (after d (flat (take i base.journal))) (c.loop-index.invariant.units known d are));
}
