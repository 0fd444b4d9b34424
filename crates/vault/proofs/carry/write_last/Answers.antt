use Rattle.std.proofs.Common.{◌≡◌, ◌<◌, ◌+◌, ◌-◌, ◌++◌, [], suc, drop, length, rules, Some, sym, ◌∙◌, ap, subst, arith}
use Rattle.std.specs.Prelude.{slice_get}
use Rattle.std.proofs.lemmas.List.{drop_all}
use Rattle.extent_groups.specs.Planned.{after}
use Rattle.extent_groups.specs.Cells.{held}
use Rattle.vault.specs.Images.{Image, SameOn, flat}
use Rattle.vault.specs.Marks.{HasPlaces}
use Rattle.vault.proofs.Carried.{at_start, batch_among, same_more, both_more, cause_later, cause_passed}
use Rattle.vault.proofs.LastWrites.{no_places, flat_at}
use Rattle.vault.proofs.carry.write_last.Goals as goal

pub returns-in_err-count-clause-underway : goal.returns-in_err-count-clause-underway
returns-in_err-count-clause-underway g c = λ known.
    same_more g.V.Vault.seen g.V.Vault.may_leave g.V.Vault.moment g.V.Vault.left_since c.args.lost.now c.args.vault.now c.args.vault.now c.batches.new.self
    (at_start g.V.Vault.seen g.V.Vault.may_leave g.V.Vault.moment g.V.Vault.left_since c.args.lost.now c.args.vault.now (λ stop. g.met.V.Vault.only_now c.args.vault.now known stop))
    (c.batches.ensures.seen known) (c.batches.ensures.time known)

pub loop-done-init : goal.loop-done-init
loop-done-init g c = record {
  stays = λ known. c.batches.ensures.stays known;
  underway = λ known.
      same_more g.V.Vault.seen g.V.Vault.may_leave g.V.Vault.moment g.V.Vault.left_since c.args.lost.now c.args.vault.now c.args.vault.now c.batches.new.self
      (at_start g.V.Vault.seen g.V.Vault.may_leave g.V.Vault.moment g.V.Vault.left_since c.args.lost.now c.args.vault.now (λ stop. g.met.V.Vault.only_now c.args.vault.now known stop))
      (c.batches.ensures.seen known) (c.batches.ensures.time known);
  places = λ known.
      let journal = Image.journal (g.V.Vault.seen c.args.vault.now) in
      let count = c.in_ok-count.count in
      let none : flat (drop (count - 0) journal) ≡ [] = ap flat (drop_all (count - 0) journal (omega (arith, c.in_ok-count.ensures.count known))) in
      subst (HasPlaces c.new-made.result.marks.items) (sym none) (no_places c.new-made.result.marks.items c.new-made.ensures);
  cells = λ known x live.
      let base = g.V.Vault.seen c.args.vault.now in
      let count = c.in_ok-count.count in
      let none : flat (drop (count - 0) base.journal) ≡ [] = ap flat (drop_all (count - 0) base.journal (omega (arith, c.in_ok-count.ensures.count known))) in
      ap (λ (s : Image). held s.cells x) (c.batches.ensures.seen known) ∙ ap (λ ws. held (after base.cells ws) x) (sym none);
  faults = λ known. (c.batches.ensures.cause known).later;
}

pub returns-in_err-read_batch-clause-underway : goal.returns-in_err-read_batch-clause-underway
returns-in_err-read_batch-clause-underway g c = λ known.
    let now = c.loop-done.invariant.stays known in
    same_more g.V.Vault.seen g.V.Vault.may_leave g.V.Vault.moment g.V.Vault.left_since c.args.lost.now c.args.vault.now c.loop-done.vault c.read_batch.new.self (c.loop-done.invariant.underway known)
    (c.read_batch.ensures.seen now) (c.read_batch.ensures.time now)

pub returns-in_err-write_fresh-clause-underway : goal.returns-in_err-write_fresh-clause-underway
returns-in_err-write_fresh-clause-underway g c = λ known.
    let now = c.loop-done.invariant.stays known in
    let count = c.in_ok-count.count in
    let index = count - 1 - c.loop-done.done in
    let journal = (c.loop-done.invariant.underway known).finds.journal in
    let inside : index < length (Image.journal (g.V.Vault.seen c.loop-done.vault)) =
    omega (arith, c.loop-done-test.true, c.in_ok-count.ensures.count known, ap length journal) in
    let so_far = same_more g.V.Vault.seen g.V.Vault.may_leave g.V.Vault.moment g.V.Vault.left_since c.args.lost.now c.args.vault.now c.loop-done.vault c.read_batch.new.self (c.loop-done.invariant.underway known)
    (c.read_batch.ensures.seen now) (c.read_batch.ensures.time now) in
    let among = batch_among g.V.Vault.seen g.V.Vault.may_leave g.V.Vault.moment g.V.Vault.left_since c.args.lost.now c.loop-done.vault c.read_batch.new.self index c.read_batch.new.batch
    (c.read_batch.ensures.seen now) (c.in_ok-read_batch.ensures.batch now inside) in
    both_more g.V.Vault.seen g.V.Vault.may_leave g.V.Vault.moment g.V.Vault.left_since c.args.lost.now c.args.vault.now c.read_batch.new.self c.write_fresh.new.vault so_far
    (c.write_fresh.ensures.underway (c.read_batch.ensures.stays now) among)

pub returns-in_err-write_fresh-clause-cause : goal.returns-in_err-write_fresh-clause-cause
returns-in_err-write_fresh-clause-cause g c = λ known.
    let now = c.loop-done.invariant.stays known in
    let count = c.in_ok-count.count in
    let index = count - 1 - c.loop-done.done in
    let journal = (c.loop-done.invariant.underway known).finds.journal in
    let inside : index < length (Image.journal (g.V.Vault.seen c.loop-done.vault)) =
    omega (arith, c.loop-done-test.true, c.in_ok-count.ensures.count known, ap length journal) in
    let was = c.loop-done.invariant.faults known in
    let read = (c.read_batch.ensures.cause now inside).later in
    cause_passed _ _ _ c.write_fresh.result c.from_residual-in_err-write_fresh.result c.in_err-write_fresh.field-0.0 c.in_err-write_fresh.was (search rules)
    (cause_later _ _ _ _ c.write_fresh.result (omega (arith, was, read)) (c.write_fresh.ensures.cause (c.read_batch.ensures.stays now)))

pub returns-then-not-branch-clause-underway : goal.returns-then-not-branch-clause-underway
returns-then-not-branch-clause-underway g c = λ known.
    let now = c.loop-done.invariant.stays known in
    let count = c.in_ok-count.count in
    let index = count - 1 - c.loop-done.done in
    let journal = (c.loop-done.invariant.underway known).finds.journal in
    let inside : index < length (Image.journal (g.V.Vault.seen c.loop-done.vault)) =
    omega (arith, c.loop-done-test.true, c.in_ok-count.ensures.count known, ap length journal) in
    let so_far = same_more g.V.Vault.seen g.V.Vault.may_leave g.V.Vault.moment g.V.Vault.left_since c.args.lost.now c.args.vault.now c.loop-done.vault c.read_batch.new.self (c.loop-done.invariant.underway known)
    (c.read_batch.ensures.seen now) (c.read_batch.ensures.time now) in
    let among = batch_among g.V.Vault.seen g.V.Vault.may_leave g.V.Vault.moment g.V.Vault.left_since c.args.lost.now c.loop-done.vault c.read_batch.new.self index c.read_batch.new.batch
    (c.read_batch.ensures.seen now) (c.in_ok-read_batch.ensures.batch now inside) in
    both_more g.V.Vault.seen g.V.Vault.may_leave g.V.Vault.moment g.V.Vault.left_since c.args.lost.now c.args.vault.now c.read_batch.new.self c.write_fresh.new.vault so_far
    (c.write_fresh.ensures.underway (c.read_batch.ensures.stays now) among)

pub loop-done-preserved : goal.loop-done-preserved
loop-done-preserved g c = record {
  stays = λ known. c.write_fresh.ensures.stays (c.read_batch.ensures.stays (c.loop-done.invariant.stays known));
  underway = λ known.
      let now = c.loop-done.invariant.stays known in
      let count = c.in_ok-count.count in
      let index = count - 1 - c.loop-done.done in
      let journal = (c.loop-done.invariant.underway known).finds.journal in
      let inside : index < length (Image.journal (g.V.Vault.seen c.loop-done.vault)) =
      omega (arith, c.loop-done-test.true, c.in_ok-count.ensures.count known, ap length journal) in
      let so_far = same_more g.V.Vault.seen g.V.Vault.may_leave g.V.Vault.moment g.V.Vault.left_since c.args.lost.now c.args.vault.now c.loop-done.vault c.read_batch.new.self (c.loop-done.invariant.underway known)
      (c.read_batch.ensures.seen now) (c.read_batch.ensures.time now) in
      let among = batch_among g.V.Vault.seen g.V.Vault.may_leave g.V.Vault.moment g.V.Vault.left_since c.args.lost.now c.loop-done.vault c.read_batch.new.self index c.read_batch.new.batch
      (c.read_batch.ensures.seen now) (c.in_ok-read_batch.ensures.batch now inside) in
      both_more g.V.Vault.seen g.V.Vault.may_leave g.V.Vault.moment g.V.Vault.left_since c.args.lost.now c.args.vault.now c.read_batch.new.self c.write_fresh.new.vault so_far
      (c.write_fresh.ensures.underway (c.read_batch.ensures.stays now) among);
  places = λ known. (written known).0;
  cells = λ known. (written known).1;
  faults = λ known.
      let now = c.loop-done.invariant.stays known in
      let count = c.in_ok-count.count in
      let index = count - 1 - c.loop-done.done in
      let journal = (c.loop-done.invariant.underway known).finds.journal in
      let inside : index < length (Image.journal (g.V.Vault.seen c.loop-done.vault)) =
      omega (arith, c.loop-done-test.true, c.in_ok-count.ensures.count known, ap length journal) in
      let was = c.loop-done.invariant.faults known in
      let read = (c.read_batch.ensures.cause now inside).later in
      let more = (c.write_fresh.ensures.cause (c.read_batch.ensures.stays now)).later in
      omega (arith, was, read, more);
}
  where
    written : g.V.Vault.known c.args.vault.now
        → HasPlaces c.write_fresh.new.made.marks.items (flat (drop (c.in_ok-count.count - (c.loop-done.done + 1)) (Image.journal (g.V.Vault.seen c.args.vault.now))))
        × SameOn c.args.lost.now (Image.cells (g.V.Vault.seen c.write_fresh.new.vault))
        (after (Image.cells (g.V.Vault.seen c.args.vault.now)) (flat (drop (c.in_ok-count.count - (c.loop-done.done + 1)) (Image.journal (g.V.Vault.seen c.args.vault.now)))))
    written known =
        let now = c.loop-done.invariant.stays known in
        let count = c.in_ok-count.count in
        let index = count - 1 - c.loop-done.done in
        let journal = (c.loop-done.invariant.underway known).finds.journal in
        let inside : index < length (Image.journal (g.V.Vault.seen c.loop-done.vault)) =
        omega (arith, c.loop-done-test.true, c.in_ok-count.ensures.count known, ap length journal) in
        let batches = Image.journal (g.V.Vault.seen c.args.vault.now) in
        let done = c.loop-done.done in
        let low = c.loop-done-test.true in
        let at : slice_get batches index ≡ Some c.read_batch.new.batch = ap (λ b. slice_get b index) (sym journal) ∙ c.in_ok-read_batch.ensures.batch now inside in
        let here : count - (done + 1) ≡ count - 1 - done = omega (arith, low) in
        let next : suc (count - 1 - done) ≡ count - done = omega (arith, low) in
        let longer : flat (drop (count - (done + 1)) batches) ≡ c.read_batch.new.batch ++ flat (drop (count - done) batches) =
        ap (λ n. flat (drop n batches)) here ∙ flat_at batches index c.read_batch.new.batch at ∙ ap (λ n. c.read_batch.new.batch ++ flat (drop n batches)) next in
        let base = Image.cells (g.V.Vault.seen c.args.vault.now) in
        subst (λ ws. HasPlaces c.write_fresh.new.made.marks.items ws × SameOn c.args.lost.now (Image.cells (g.V.Vault.seen c.write_fresh.new.vault)) (after base ws)) (sym longer)
        (c.in_ok-write_fresh.ensures.written (c.read_batch.ensures.stays now) base (flat (drop (count - done) batches)) (c.loop-done.invariant.places known)
        (λ x live. ap (λ (s : Image). held s.cells x) (c.read_batch.ensures.seen now) ∙ c.loop-done.invariant.cells known x live) c.if-not-branch.false)
