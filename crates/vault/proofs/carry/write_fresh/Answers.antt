use Rattle.std.proofs.Common.{◌≡◌, ◌+◌, ◌-◌, ◌++◌, ◌∷◌, suc, drop, rules, sym, ◌∙◌, ap, subst, arith}
use Rattle.extent_groups.specs.Planned.{Intended, after}
use Rattle.vault.specs.Images.{Image, SameOn, flat}
use Rattle.vault.specs.Marks.{HasPlaces}
use Rattle.vault.specs.Moments.{IsWrittenTo}
use Rattle.vault.proofs.Carried.{place_in, at_both, both_more, cause_later, cause_passed}
use Rattle.vault.proofs.LastWrites.{drop_at}
use Rattle.vault.proofs.carry.write_fresh.Goals as goal

pub returns-in_err-write_once-clause-underway : goal.returns-in_err-write_once-clause-underway
returns-in_err-write_once-clause-underway g c = λ known among.
    both_more g.V.Vault.seen g.V.Vault.may_leave g.V.Vault.moment g.V.Vault.left_since c.args.lost.now c.args.vault.now c.loop-done.vault c.write_once.new.vault (c.loop-done.invariant.underway known among)
    (c.write_once.ensures.underway (c.loop-done.invariant.stays known)
    (subst (λ b. IsWrittenTo (flat b) c.place.result) (sym (c.loop-done.invariant.underway known among).finds.journal)
    (among c.place.result (place_in c.args.batch.now (c.len-count.result - 1 - c.loop-done.done) c.place.result c.place.ensures))))

pub returns-in_err-write_once-clause-cause : goal.returns-in_err-write_once-clause-cause
returns-in_err-write_once-clause-cause g c = λ known.
    cause_passed _ _ _ c.write_once.result c.from_residual.result c.in_err-write_once.field-0.0 c.in_err-write_once.was (search rules)
    (cause_later _ _ _ _ c.write_once.result (c.loop-done.invariant.faults known) (c.write_once.ensures.cause (c.loop-done.invariant.stays known)))

pub returns-then-not-branch-clause-underway : goal.returns-then-not-branch-clause-underway
returns-then-not-branch-clause-underway g c = λ known among.
    both_more g.V.Vault.seen g.V.Vault.may_leave g.V.Vault.moment g.V.Vault.left_since c.args.lost.now c.args.vault.now c.loop-done.vault c.write_once.new.vault (c.loop-done.invariant.underway known among)
    (c.write_once.ensures.underway (c.loop-done.invariant.stays known)
    (subst (λ b. IsWrittenTo (flat b) c.place.result) (sym (c.loop-done.invariant.underway known among).finds.journal)
    (among c.place.result (place_in c.args.batch.now (c.len-count.result - 1 - c.loop-done.done) c.place.result c.place.ensures))))

pub loop-done-preserved : goal.loop-done-preserved
loop-done-preserved g c = record {
  stays = λ known. c.write_once.ensures.stays (c.loop-done.invariant.stays known);
  underway = λ known among.
      both_more g.V.Vault.seen g.V.Vault.may_leave g.V.Vault.moment g.V.Vault.left_since c.args.lost.now c.args.vault.now c.loop-done.vault c.write_once.new.vault (c.loop-done.invariant.underway known among)
      (c.write_once.ensures.underway (c.loop-done.invariant.stays known)
      (subst (λ b. IsWrittenTo (flat b) c.place.result) (sym (c.loop-done.invariant.underway known among).finds.journal)
      (among c.place.result (place_in c.args.batch.now (c.len-count.result - 1 - c.loop-done.done) c.place.result c.place.ensures))));
  written = λ known base later are so_far.
      let batch = c.args.batch.now in
      let count = c.len-count.result in
      let done = c.loop-done.done in
      let low = c.loop-done-test.true in
      let w : Intended = record { place = c.place.result; unit = c.unit.result.now } in
      let before = c.loop-done.invariant.written known base later are so_far in
      let here : count - (done + 1) ≡ count - 1 - done = omega (arith, low) in
      let next : suc (count - 1 - done) ≡ count - done = omega (arith, low) in
      let longer : drop (count - (done + 1)) batch ≡ w ∷ drop (count - done) batch =
      ap (λ n. drop n batch) here ∙ drop_at batch (count - 1 - done) w (at_both batch (count - 1 - done) c.place.result c.unit.result.now c.place.ensures c.unit.ensures) ∙ ap (λ n. w ∷ drop n batch) next in
      subst (λ ws. HasPlaces c.write_once.new.made.marks.items (ws ++ later) × SameOn c.args.lost.now (Image.cells (g.V.Vault.seen c.write_once.new.vault)) (after base (ws ++ later))) (sym longer)
      (c.in_ok-write_once.ensures.written (c.loop-done.invariant.stays known) base (drop (count - done) batch ++ later) before.0 before.1 c.if-not-branch.false);
  faults = λ known. let was = c.loop-done.invariant.faults known in let more = (c.write_once.ensures.cause (c.loop-done.invariant.stays known)).later in omega (arith, was, more);
}
