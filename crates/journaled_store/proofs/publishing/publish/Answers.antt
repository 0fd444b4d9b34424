use Rattle.std.proofs.Common.{◌++◌, ◌∷◌, ℕ, List, [], length, refl, sym, subst, ◌∙◌, suc, inl}
use Rattle.std.specs.Prelude.{Err}
use Rattle.byte_store.specs.declared.fault.StoreFault.{StoreFault}
use Rattle.history.specs.Entries.{Course}
use Rattle.extent_groups.specs.Planned.{Intended, after}
use Rattle.vault.specs.Images.{Image, recovered}
use Rattle.vault.specs.Moments.{IsLogged, RepresentsSome}
use Rattle.vault.specs.declared.store.Stop.TheVariants.{Killed}
use Rattle.vault.proofs.Runs.{started, weaker}
use Rattle.cached_drive.specs.Saving.{Units}
use Rattle.journaled_store.specs.Steps.{IsBeforeOrNow, IsUpToDate, SameTable, UnlessSync}
use Rattle.journaled_store.proofs.Batching.{all_logged_still, before_or_now, kept_by, live_same, logged_now, logged_still, some_appended, unless_refused}
use Rattle.journaled_store.proofs.publishing.publish.Goals as goal

pub returns-then-not-collect-clause-any_moment : goal.returns-then-not-collect-clause-any_moment
returns-then-not-collect-clause-any_moment g c known lost live stop low is =
    let v = g.V.Vault in
    let vault = c.args.vault.now in
    let drives = c.args.store.now.tiers.world.array.parts.drives in
    started v.moment v.left_since stop vault (IsBeforeOrNow lost (v.seen vault) low drives)
    (λ i left. logged_now v.seen v.may_leave lost stop vault low drives is i (g.met.V.Vault.only_now vault known stop i left))

pub returns-then-is_empty-clause-any_moment : goal.returns-then-is_empty-clause-any_moment
returns-then-is_empty-clause-any_moment g c known lost live stop low is =
    let v = g.V.Vault in
    let vault = c.args.vault.now in
    let drives = c.args.store.now.tiers.world.array.parts.drives in
    started v.moment v.left_since stop vault (IsBeforeOrNow lost (v.seen vault) low drives)
    (λ i left. logged_now v.seen v.may_leave lost stop vault low drives is i (g.met.V.Vault.only_now vault known stop i left))

pub returns-in-Ok-clause-step : goal.returns-in-Ok-clause-step
returns-in-Ok-clause-step g c known lost live =
    let v = g.V.Vault in
    let mid = c.collect.new.changes in
    let now = c.append.new.changes in
    let new = recovered (v.seen c.append.new.vault) in
    let old = recovered (v.seen c.args.vault.now) in
    let e = c.in-Ok.ensures in
    subst (λ (k : Course Units). IsUpToDate lost k now.noted now.batch new) (sym e.keeper)
    (subst (λ (m : List ℕ). IsUpToDate lost mid.keeper m now.batch new) (sym e.marks.1)
    (subst (λ (b : List Intended). IsUpToDate lost mid.keeper mid.noted b new) (sym e.empty)
    (live_same lost mid.keeper mid.noted mid.batch old new (e.ok known)
    (record { step = c.collect.ensures.step lost old live.step; noted = c.collect.ensures.noted old live.noted; rest = λ at. c.collect.ensures.rest old at ∙ live.rest at }))))

pub returns-in-Err-clause-step : goal.returns-in-Err-clause-step
returns-in-Err-clause-step g c known lost live =
    let v = g.V.Vault in
    let mid = c.collect.new.changes in
    let now = c.append.new.changes in
    let new = recovered (v.seen c.append.new.vault) in
    let old = recovered (v.seen c.args.vault.now) in
    let e = c.in-Err.ensures in
    let still : IsUpToDate lost mid.keeper mid.noted mid.batch old = record { step = c.collect.ensures.step lost old live.step; noted = c.collect.ensures.noted old live.noted; rest = λ at. c.collect.ensures.rest old at ∙ live.rest at } in
    subst (λ (f : StoreFault). UnlessSync (Err f) (IsUpToDate lost now.keeper now.noted now.batch new)) (sym c.fault_of.ensures)
    (unless_refused (IsUpToDate lost now.keeper now.noted now.batch new) c.append.result c.in-Err.error c.in-Err.is (λ refused.
    subst (λ (i : Image). IsUpToDate lost now.keeper now.noted now.batch (recovered i)) (sym (c.append.ensures.refused known refused).finds)
    (subst (λ (k : Course Units). IsUpToDate lost k now.noted now.batch old) (sym e.keeper)
    (subst (λ (m : List ℕ). IsUpToDate lost mid.keeper m now.batch old) (sym e.marks.1)
    (subst (λ (b : List Intended). IsUpToDate lost mid.keeper mid.noted b old) (sym e.kept) still)))))

pub returns-in-Ok-clause-any_moment : goal.returns-in-Ok-clause-any_moment
returns-in-Ok-clause-any_moment g c known lost live stop low is =
    let v = g.V.Vault in
    let vault = c.args.vault.now in
    let mid = c.collect.new.changes in
    let drives = c.args.store.now.tiers.world.array.parts.drives in
    let base = v.seen vault in
    let all = after (recovered base) mid.batch in
    let rest : SameTable all (recovered base) = λ at. c.collect.ensures.rest (recovered base) at ∙ live.rest at in
    let kept = kept_by lost drives mid.noted all (c.if-not-collect.ensures.has refl lost (recovered base) live.step) (c.collect.ensures.noted (recovered base) live.noted) (c.if-not-collect.ensures.marks refl) in
    weaker v.moment v.left_since stop vault c.append.new.vault (RepresentsSome lost base.cells low (base.journal ++ mid.batch ∷ [])) (IsBeforeOrNow lost base low drives)
    (c.append.ensures.any_moment known lost stop low is)
    (λ i some. before_or_now lost base i low mid.batch drives kept rest some)

pub returns-in-Err-clause-any_moment : goal.returns-in-Err-clause-any_moment
returns-in-Err-clause-any_moment g c known lost live stop low is =
    let v = g.V.Vault in
    let vault = c.args.vault.now in
    let mid = c.collect.new.changes in
    let drives = c.args.store.now.tiers.world.array.parts.drives in
    let base = v.seen vault in
    let all = after (recovered base) mid.batch in
    let rest : SameTable all (recovered base) = λ at. c.collect.ensures.rest (recovered base) at ∙ live.rest at in
    let kept = kept_by lost drives mid.noted all (c.if-not-collect.ensures.has refl lost (recovered base) live.step) (c.collect.ensures.noted (recovered base) live.noted) (c.if-not-collect.ensures.marks refl) in
    weaker v.moment v.left_since stop vault c.append.new.vault (RepresentsSome lost base.cells low (base.journal ++ mid.batch ∷ [])) (IsBeforeOrNow lost base low drives)
    (c.append.ensures.any_moment known lost stop low is)
    (λ i some. before_or_now lost base i low mid.batch drives kept rest some)

pub returns-then-is_empty-clause-batches : goal.returns-then-is_empty-clause-batches
returns-then-is_empty-clause-batches g c known lost live low i some = inl some

pub returns-then-not-collect-clause-batches : goal.returns-then-not-collect-clause-batches
returns-then-not-collect-clause-batches g c known lost live low i some = inl some

pub returns-in-Err-clause-batches : goal.returns-in-Err-clause-batches
returns-in-Err-clause-batches g c known lost live =
    let v = g.V.Vault in
    let base = v.seen c.args.vault.now in
    let now = v.seen c.append.new.vault in
    let drives = c.args.store.now.tiers.world.array.parts.drives in
    let P : Type 0 = (low : ℕ) (i : Image) → RepresentsSome lost now.cells low now.journal i → IsBeforeOrNow lost base low drives i in
    subst (λ (f : StoreFault). UnlessSync (Err f) P) (sym c.fault_of.ensures)
    (unless_refused P c.append.result c.in-Err.error c.in-Err.is (λ refused low i some.
    inl (subst (λ (s : Image). RepresentsSome lost s.cells low s.journal i) (c.append.ensures.refused known refused).finds some)))

pub returns-in-Ok-clause-batches : goal.returns-in-Ok-clause-batches
returns-in-Ok-clause-batches g c known lost live low i some =
    let v = g.V.Vault in
    let mid = c.collect.new.changes in
    let drives = c.args.store.now.tiers.world.array.parts.drives in
    let base = v.seen c.args.vault.now in
    let e = c.in-Ok.ensures in
    let all = after (recovered base) mid.batch in
    let rest : SameTable all (recovered base) = λ at. c.collect.ensures.rest (recovered base) at ∙ live.rest at in
    let kept = kept_by lost drives mid.noted all (c.if-not-collect.ensures.has refl lost (recovered base) live.step) (c.collect.ensures.noted (recovered base) live.noted) (c.if-not-collect.ensures.marks refl) in
    before_or_now lost base i low mid.batch drives kept rest (some_appended lost base (v.seen c.append.new.vault) i low mid.batch (e.cells known) (e.journal known) some)

pub returns-in-Err-clause-killed : goal.returns-in-Err-clause-killed
returns-in-Err-clause-killed g c known lost is =
    let v = g.V.Vault in
    let P : Type 0 = IsLogged v.seen v.may_leave lost Killed c.append.new.vault (length (Image.journal (v.seen c.append.new.vault))) in
    subst (λ (f : StoreFault). UnlessSync (Err f) P) (sym c.fault_of.ensures)
    (unless_refused P c.append.result c.in-Err.error c.in-Err.is (λ refused.
    all_logged_still v.seen v.may_leave lost Killed c.args.vault.now c.append.new.vault (c.append.ensures.refused known refused) is))

pub returns-in-Err-clause-added : goal.returns-in-Err-clause-added
returns-in-Err-clause-added g c known lost stop low is =
    let v = g.V.Vault in
    let P : Type 0 = IsLogged v.seen v.may_leave lost stop c.append.new.vault low in
    subst (λ (f : StoreFault). UnlessSync (Err f) P) (sym c.fault_of.ensures)
    (unless_refused P c.append.result c.in-Err.error c.in-Err.is (λ refused.
    logged_still v.seen v.may_leave lost stop c.args.vault.now c.append.new.vault low (c.append.ensures.refused known refused) is))

pub returns-in-Ok-clause-rest : goal.returns-in-Ok-clause-rest
returns-in-Ok-clause-rest g c known lost live at =
    let old = recovered (g.V.Vault.seen c.args.vault.now) in
    c.in-Ok.ensures.ok known 16 (suc at) ∙ (c.collect.ensures.rest old at ∙ live.rest at)

pub returns-in-Err-clause-rest : goal.returns-in-Err-clause-rest
returns-in-Err-clause-rest g c known lost live =
    let v = g.V.Vault in
    let old = recovered (v.seen c.args.vault.now) in
    let P : Type 0 = SameTable (recovered (v.seen c.append.new.vault)) old in
    subst (λ (f : StoreFault). UnlessSync (Err f) P) (sym c.fault_of.ensures)
    (unless_refused P c.append.result c.in-Err.error c.in-Err.is (λ refused.
    subst (λ (i : Image). SameTable (recovered i) old) (sym (c.append.ensures.refused known refused).finds) (λ at. refl)))

pub returns-then-not-collect-clause-rest : goal.returns-then-not-collect-clause-rest
returns-then-not-collect-clause-rest g c known lost live at = refl

pub returns-then-is_empty-clause-rest : goal.returns-then-is_empty-clause-rest
returns-then-is_empty-clause-rest g c known lost live at = refl

pub returns-then-not-collect-clause-step : goal.returns-then-not-collect-clause-step
returns-then-not-collect-clause-step g c known lost live =
    let old = recovered (g.V.Vault.seen c.args.vault.now) in
    record { step = c.collect.ensures.step lost old live.step; noted = c.collect.ensures.noted old live.noted; rest = λ at. c.collect.ensures.rest old at ∙ live.rest at }

pub returns-then-is_empty-clause-step : goal.returns-then-is_empty-clause-step
returns-then-is_empty-clause-step g c known lost live =
    let old = recovered (g.V.Vault.seen c.args.vault.now) in
    record { step = c.collect.ensures.step lost old live.step; noted = c.collect.ensures.noted old live.noted; rest = λ at. c.collect.ensures.rest old at ∙ live.rest at }
