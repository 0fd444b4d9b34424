use Rattle.std.proofs.Common.{◌≡◌, ◌<◌, ◌≤◌, Some, List, [], ℕ, length, take, true, sym, subst, ap, arith, rules}
use Rattle.std.specs.Prelude.{slice_get}
use Rattle.std.proofs.lemmas.List.{take_all}
use Rattle.extent_groups.specs.Cells.{Cells}
use Rattle.extent_groups.specs.Planned.{Intended, after}
use Rattle.vault.specs.Images.{Image, flat}
use Rattle.array_recovery.specs.Found.{AreMarksIf, IsTable}
use Rattle.rotten_units.proofs.Reading.{read_call}
use Rattle.array_recovery.proofs.Attesting.{as_found, marks_written}
use Rattle.array_recovery.proofs.Replaying.{after_batch}
use Rattle.array_recovery.proofs.marks.read_marks.Goals as goal

pub returns-in_err-read-clause-read : goal.returns-in_err-read-clause-read
returns-in_err-read-clause-read g c = λ known. record { finds = c.read_unit.ensures.seen known; time = c.read_unit.ensures.time known }

pub returns-in_err-known-clause-read : goal.returns-in_err-known-clause-read
returns-in_err-known-clause-read g c = λ known. record { finds = c.read_unit.ensures.seen known; time = c.read_unit.ensures.time known }

pub returns-in_err-count-clause-read : goal.returns-in_err-count-clause-read
returns-in_err-count-clause-read g c = λ known.
    let now = c.read_unit.ensures.stays known in
    read_call g.V.Vault.seen g.V.Vault.may_leave g.V.Vault.moment g.V.Vault.left_since c.args.vault.now c.read_unit.new.self c.batches.new.self
    (record { finds = c.read_unit.ensures.seen known; time = c.read_unit.ensures.time known }) (c.batches.ensures.seen now) (c.batches.ensures.time now)

pub returns-in_err-count-clause-attests : goal.returns-in_err-count-clause-attests
returns-in_err-count-clause-attests g c = λ known x is. c.read_unit.ensures.attests known x (c.batches.ensures.attests (c.read_unit.ensures.stays known) x is)

pub loop-index-init : goal.loop-index-init
loop-index-init g c = record {
  stays = λ known. c.batches.ensures.stays (c.read_unit.ensures.stays known);
  read = λ known.
      let now = c.read_unit.ensures.stays known in
      read_call g.V.Vault.seen g.V.Vault.may_leave g.V.Vault.moment g.V.Vault.left_since c.args.vault.now c.read_unit.new.self c.batches.new.self
      (record { finds = c.read_unit.ensures.seen known; time = c.read_unit.ensures.time known }) (c.batches.ensures.seen now) (c.batches.ensures.time now);
  attests = λ known x is. c.read_unit.ensures.attests known x (c.batches.ensures.attests (c.read_unit.ensures.stays known) x is);
  marks = λ known.
      let base = g.V.Vault.seen c.args.vault.now in
      marks_written (g.V.Vault.attested c.args.vault.now) base.cells base.cells c.read_unit.new.out _ _ c.in_ok-known.ensures.0 c.in_ok-known.ensures.1
      (as_found (g.V.Vault.attested c.args.vault.now) 0 [] base).table (c.in_ok-read.ensures.attested known) (c.in_ok-read.ensures.found known);
  honest = λ known written last.
      marks_written (g.V.Vault.attested c.args.vault.now) written (Image.cells (g.V.Vault.seen c.args.vault.now)) c.read_unit.new.out _ _ c.in_ok-known.ensures.0 c.in_ok-known.ensures.1 last
      (c.in_ok-read.ensures.attested known) (c.in_ok-read.ensures.found known);
}

pub returns-in_err-read_batch-clause-attests : goal.returns-in_err-read_batch-clause-attests
returns-in_err-read_batch-clause-attests g c = λ known x is. c.loop-index.invariant.attests known x (c.read_batch.ensures.attests (c.loop-index.invariant.stays known) x is)

pub returns-in_err-read_batch-clause-read : goal.returns-in_err-read_batch-clause-read
returns-in_err-read_batch-clause-read g c = λ known.
    let now = c.loop-index.invariant.stays known in
    read_call g.V.Vault.seen g.V.Vault.may_leave g.V.Vault.moment g.V.Vault.left_since c.args.vault.now c.loop-index.vault c.read_batch.new.self (c.loop-index.invariant.read known)
    (c.read_batch.ensures.seen now) (c.read_batch.ensures.time now)

pub returns-in_err-mark_batch-clause-attests : goal.returns-in_err-mark_batch-clause-attests
returns-in_err-mark_batch-clause-attests g c = λ known x is. c.loop-index.invariant.attests known x (c.read_batch.ensures.attests (c.loop-index.invariant.stays known) x is)

pub returns-in_err-mark_batch-clause-read : goal.returns-in_err-mark_batch-clause-read
returns-in_err-mark_batch-clause-read g c = λ known.
    let now = c.loop-index.invariant.stays known in
    read_call g.V.Vault.seen g.V.Vault.may_leave g.V.Vault.moment g.V.Vault.left_since c.args.vault.now c.loop-index.vault c.read_batch.new.self (c.loop-index.invariant.read known)
    (c.read_batch.ensures.seen now) (c.read_batch.ensures.time now)

pub loop-index-preserved : goal.loop-index-preserved
loop-index-preserved g c = record {
  stays = λ known. c.read_batch.ensures.stays (c.loop-index.invariant.stays known);
  read = λ known.
      let now = c.loop-index.invariant.stays known in
      read_call g.V.Vault.seen g.V.Vault.may_leave g.V.Vault.moment g.V.Vault.left_since c.args.vault.now c.loop-index.vault c.read_batch.new.self (c.loop-index.invariant.read known)
      (c.read_batch.ensures.seen now) (c.read_batch.ensures.time now);
  attests = λ known x is. c.loop-index.invariant.attests known x (c.read_batch.ensures.attests (c.loop-index.invariant.stays known) x is);
  marks = λ known.
      let base = g.V.Vault.seen c.args.vault.now in
      let i = c.loop-index.index in
      let at : slice_get base.journal i ≡ Some c.read_batch.new.batch = batch_at known in
      subst (λ (e : Cells). AreMarksIf c.mark_batch.new.is_known c.mark_batch.new.marks e) (sym (after_batch base.cells base.journal i c.read_batch.new.batch at))
      (c.in_ok-mark_batch.ensures (after base.cells (flat (take i base.journal))) (c.loop-index.invariant.marks known));
  honest = λ known written last.
      let base = g.V.Vault.seen c.args.vault.now in
      let i = c.loop-index.index in
      let at : slice_get base.journal i ≡ Some c.read_batch.new.batch = batch_at known in
      subst (λ (e : Cells). AreMarksIf c.mark_batch.new.is_known c.mark_batch.new.marks e) (sym (after_batch written base.journal i c.read_batch.new.batch at))
      (c.in_ok-mark_batch.ensures (after written (flat (take i base.journal))) (c.loop-index.invariant.honest known written last));
}
  where
    batch_at : g.V.Vault.known c.args.vault.now → slice_get (Image.journal (g.V.Vault.seen c.args.vault.now)) c.loop-index.index ≡ Some c.read_batch.new.batch
    batch_at known =
        let now = c.loop-index.invariant.stays known in
        let base = g.V.Vault.seen c.args.vault.now in
        let i = c.loop-index.index in
        let finds : g.V.Vault.seen c.loop-index.vault ≡ base = (c.loop-index.invariant.read known).finds in
        let same = ap (λ (s : Image). length s.journal) finds in
        let first = ap (λ (s : Image). length s.journal) (c.read_unit.ensures.seen known) in
        let inside : i < length (Image.journal (g.V.Vault.seen c.loop-index.vault)) =
        omega (arith, c.loop-index-test.true, c.in_ok-count.ensures.count (c.read_unit.ensures.stays known), same, first) in
        subst (λ (s : Image). slice_get s.journal i ≡ Some c.read_batch.new.batch) finds (c.in_ok-read_batch.ensures.batch now inside)

pub returns-clause-honest : goal.returns-clause-honest
returns-clause-honest g c = λ known written last.
    let base = g.V.Vault.seen c.args.vault.now in
    let first = ap (λ (s : Image). length s.journal) (c.read_unit.ensures.seen known) in
    let least : length base.journal ≤ c.loop-index.index = omega (arith, c.loop-index-test.false, c.in_ok-count.ensures.count (c.read_unit.ensures.stays known), first) in
    let is : c.loop-index.known ≡ true = search rules in
    subst (λ (b : List (List Intended)). IsTable c.loop-index.marks (after written (flat b))) (take_all c.loop-index.index base.journal least)
    ((c.loop-index.invariant.honest known written last).table is)
