use Rattle.std.proofs.Common.{List, Bool, rules, sym, ◌∙◌, subst, arith}
use Rattle.std.proofs.lemmas.Result.{on_ok_weaker}
use Rattle.vault.specs.Images.{Image, SameOn, Matches, recovered}
use Rattle.vault.specs.Moments.{AreLogged, AreTorn, IsTorn, emptied}
use Rattle.vault.specs.declared.store.Stop.{Stop}
use Rattle.vault.proofs.Runs.{weaker, goes_on}
use Rattle.vault.proofs.Writes.{front_torn, torn_matches, cleared_matches, front_empty}
use Rattle.vault.proofs.Carried.{same_more, kept, cause_later, cause_passed, if_err_of, on_ok_both, unless_journal, still_kept}
use Rattle.vault.proofs.carry.settle.Goals as goal

abbrev start : {V : Type 0} (seen : V → Image) (may_leave : V → Stop → Image → Type 0) (lost : List Bool) (vault : V) → AreLogged seen may_leave lost vault → AreTorn seen may_leave lost vault
start seen may_leave lost vault logged stop i now = front_torn lost (seen vault) i ((logged stop).leaves i now)

pub returns-in_err-write_batches-clause-kept : goal.returns-in_err-write_batches-clause-kept
returns-in_err-write_batches-clause-kept g c = λ known logged. if_err_of _ c.from_residual.result (λ e not.
    kept g.V.Vault.seen g.V.Vault.may_leave g.V.Vault.moment g.V.Vault.left_since c.args.lost.now c.args.vault.now c.write_batches.new.vault (c.write_batches.ensures.underway known) (start g.V.Vault.seen g.V.Vault.may_leave c.args.lost.now c.args.vault.now logged))

pub returns-in_err-write_batches-clause-any_moment : goal.returns-in_err-write_batches-clause-any_moment
returns-in_err-write_batches-clause-any_moment g c = λ known logged stop.
    let base = g.V.Vault.seen c.args.vault.now in
    weaker g.V.Vault.moment g.V.Vault.left_since stop c.args.vault.now c.write_batches.new.vault (IsTorn c.args.lost.now base) (Matches c.args.lost.now (recovered base))
    ((c.write_batches.ensures.underway known).moments (start g.V.Vault.seen g.V.Vault.may_leave c.args.lost.now c.args.vault.now logged) stop) (λ i torn. torn_matches c.args.lost.now base i torn)

pub returns-in_err-write_batches-clause-cause : goal.returns-in_err-write_batches-clause-cause
returns-in_err-write_batches-clause-cause g c = λ known.
    cause_passed _ _ _ c.write_batches.result c.from_residual.result c.in_err-write_batches.field-0.0 c.in_err-write_batches.was (search rules) (c.write_batches.ensures.cause known)

pub returns-in_err-sync_units-clause-kept : goal.returns-in_err-sync_units-clause-kept
returns-in_err-sync_units-clause-kept g c = λ known logged. if_err_of _ c.from_residual-in_err-sync_units.result (λ e not.
    let now = c.write_batches.ensures.stays known in
    kept g.V.Vault.seen g.V.Vault.may_leave g.V.Vault.moment g.V.Vault.left_since c.args.lost.now c.args.vault.now c.sync_units.new.self
    (same_more g.V.Vault.seen g.V.Vault.may_leave g.V.Vault.moment g.V.Vault.left_since c.args.lost.now c.args.vault.now c.write_batches.new.vault c.sync_units.new.self (c.write_batches.ensures.underway known)
    (c.sync_units.ensures.seen now) (c.sync_units.ensures.time now)) (start g.V.Vault.seen g.V.Vault.may_leave c.args.lost.now c.args.vault.now logged))

pub returns-in_err-sync_units-clause-any_moment : goal.returns-in_err-sync_units-clause-any_moment
returns-in_err-sync_units-clause-any_moment g c = λ known logged stop.
    let base = g.V.Vault.seen c.args.vault.now in
    let now = c.write_batches.ensures.stays known in
    let underway = same_more g.V.Vault.seen g.V.Vault.may_leave g.V.Vault.moment g.V.Vault.left_since c.args.lost.now c.args.vault.now c.write_batches.new.vault c.sync_units.new.self
    (c.write_batches.ensures.underway known) (c.sync_units.ensures.seen now) (c.sync_units.ensures.time now) in
    weaker g.V.Vault.moment g.V.Vault.left_since stop c.args.vault.now c.sync_units.new.self (IsTorn c.args.lost.now base) (Matches c.args.lost.now (recovered base))
    (underway.moments (start g.V.Vault.seen g.V.Vault.may_leave c.args.lost.now c.args.vault.now logged) stop) (λ i torn. torn_matches c.args.lost.now base i torn)

pub returns-in_err-sync_units-clause-cause : goal.returns-in_err-sync_units-clause-cause
returns-in_err-sync_units-clause-cause g c = λ known.
    cause_passed _ _ _ c.sync_units.result c.from_residual-in_err-sync_units.result c.in_err-sync_units.field-0.0 c.in_err-sync_units.was (search rules)
    (cause_later _ _ _ _ c.sync_units.result (c.write_batches.ensures.cause known).later (c.sync_units.ensures.cause (c.write_batches.ensures.stays known)))

pub returns-clause-settled : goal.returns-clause-settled
returns-clause-settled g c = λ known logged.
    let lost = c.args.lost.now in
    let base = g.V.Vault.seen c.args.vault.now in
    let now = c.write_batches.ensures.stays known in
    let synced = c.sync_units.ensures.stays now in
    let units : SameOn lost (Image.cells (g.V.Vault.seen c.sync_units.new.self)) (recovered base) =
    subst (λ (s : Image). SameOn lost s.cells (recovered base)) (sym (c.sync_units.ensures.seen now)) (c.in_ok-write_batches.ensures.written known) in
    on_ok_weaker c.clear.result (λ both.
    let cells : SameOn lost (Image.cells (g.V.Vault.seen c.clear.new.self)) (recovered base) = λ x live. both.0.cells x ∙ units x live in
    record {
      empty = both.0.journal;
      durable = λ stop. record {
        flushed = omega arith;
        leaves = λ i left.
            let from = (c.clear.ensures.time synced stop).ends i left in
            front_empty lost (g.V.Vault.seen c.clear.new.self) i both.0.journal (both.1 stop i left)
            (λ x live. from.2.cells x ∙ c.in_ok-sync_units.ensures.durable now stop from.0 from.1 x live ∙ c.in_ok-write_batches.ensures.written known x live ∙ sym (cells x live));
      };
      cells = cells;
    }) (on_ok_both _ _ c.clear.result (c.clear.ensures.cleared synced) (c.clear.ensures.durable synced))

pub returns-clause-kept : goal.returns-clause-kept
returns-clause-kept g c = λ known logged.
    let now = c.write_batches.ensures.stays known in
    let synced = c.sync_units.ensures.stays now in
    unless_journal _ c.clear.result
    (λ refused. still_kept g.V.Vault.seen g.V.Vault.may_leave g.V.Vault.moment g.V.Vault.left_since c.args.lost.now c.args.vault.now c.sync_units.new.self c.clear.new.self
    (kept g.V.Vault.seen g.V.Vault.may_leave g.V.Vault.moment g.V.Vault.left_since c.args.lost.now c.args.vault.now c.sync_units.new.self
    (same_more g.V.Vault.seen g.V.Vault.may_leave g.V.Vault.moment g.V.Vault.left_since c.args.lost.now c.args.vault.now c.write_batches.new.vault c.sync_units.new.self (c.write_batches.ensures.underway known)
    (c.sync_units.ensures.seen now) (c.sync_units.ensures.time now)) (start g.V.Vault.seen g.V.Vault.may_leave c.args.lost.now c.args.vault.now logged))
    (c.clear.ensures.refused synced refused))
    (λ d is. ((c.clear.ensures.cause synced).drive d is).2)

pub returns-clause-any_moment : goal.returns-clause-any_moment
returns-clause-any_moment g c = λ known logged stop.
    let lost = c.args.lost.now in
    let base = g.V.Vault.seen c.args.vault.now in
    let now = c.write_batches.ensures.stays known in
    let synced = c.sync_units.ensures.stays now in
    let underway = same_more g.V.Vault.seen g.V.Vault.may_leave g.V.Vault.moment g.V.Vault.left_since c.args.lost.now c.args.vault.now c.write_batches.new.vault c.sync_units.new.self
    (c.write_batches.ensures.underway known) (c.sync_units.ensures.seen now) (c.sync_units.ensures.time now) in
    goes_on g.V.Vault.moment g.V.Vault.left_since stop c.args.vault.now c.sync_units.new.self c.clear.new.self (Matches lost (recovered base)) (emptied (g.V.Vault.may_leave c.sync_units.new.self stop)) _
    (weaker g.V.Vault.moment g.V.Vault.left_since stop c.args.vault.now c.sync_units.new.self (IsTorn lost base) (Matches lost (recovered base)) (underway.moments (start g.V.Vault.seen g.V.Vault.may_leave c.args.lost.now c.args.vault.now logged) stop) (λ i torn. torn_matches lost base i torn))
    (c.clear.ensures.time synced stop)
    (λ i from. cleared_matches lost base from.0 i
    (λ x live. c.in_ok-sync_units.ensures.durable now stop from.0 from.1 x live ∙ c.in_ok-write_batches.ensures.written known x live)
    (underway.leaves (start g.V.Vault.seen g.V.Vault.may_leave c.args.lost.now c.args.vault.now logged) stop from.0 from.1).journal from.2)
