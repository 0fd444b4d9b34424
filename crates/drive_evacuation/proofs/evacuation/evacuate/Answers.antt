use Rattle.std.proofs.Common.{◌≡◌, ℕ, ◌<◌, ap, refl, ◌∙◌, sym, subst}
use Rattle.std.proofs.lemmas.Result.{IfErr-weaker, err_from_is_err_and, on_ok_weaker}
use Rattle.extent_groups.specs.Groups.{Groups}
use Rattle.extent_groups.specs.Stores.{HasMemberOn}
use Rattle.slot_tables.specs.Views.{ArrayView, WorldView}
use Rattle.array_expansion.proofs.Growing.{same_keys}
use Rattle.drive_evacuation.specs.Evacuation.{NotEvacuated}
use Rattle.drive_evacuation.proofs.Moving.{all_clear, not_evacuated_log, spread_log}
use Rattle.drive_evacuation.proofs.evacuation.evacuate.Goals as goal

pub returns-in_err-test_lost-clause-err : goal.returns-in_err-test_lost-clause-err
returns-in_err-test_lost-clause-err g c =
    let p = err_from_is_err_and c.from_residual.result c.from_residual.ensures.1 in
    rw (p.1, p.2) (λ T was.
    let is = c.in_err-test_lost.ensures.err in
    (T.flat, was, subst (λ f. NotEvacuated T.flat c.args.drive f T.flat) (sym is.0) (ap (λ f. f c.args.drive) was.world.array.tables.lost ∙ is.1, refl)))

pub returns-in_err-test_lost-clause-map : goal.returns-in_err-test_lost-clause-map
returns-in_err-test_lost-clause-map g c = λ T was block. refl

pub returns-in_err-move_all-clause-err : goal.returns-in_err-move_all-clause-err
returns-in_err-move_all-clause-err g c =
    let p = err_from_is_err_and c.from_residual-in_err-move_all.result c.from_residual-in_err-move_all.ensures.1 in
    rw (p.1, p.2) c.in_err-move_all.ensures.err

pub returns-in_err-move_all-clause-map : goal.returns-in_err-move_all-clause-map
returns-in_err-move_all-clause-map g c = λ T was.
    let done = c.in_err-move_all.ensures.err T was in
    same_keys c.args.tiers.now c.move_all.new.tiers T done.0 was done.1 (not_evacuated_log T.flat c.args.drive done.0 c.in_err-move_all.field-0.0 done.2)

pub returns-clause-evacuated : goal.returns-clause-evacuated
returns-clause-evacuated g c =
    on_ok_weaker c.test_clear.result (λ low T was.
    let done = c.in_ok-move_all.ensures.ok T was in
    let seen : c.groups.result.now ≡ c.move_all.new.tiers.world.array.parts.groups = c.groups.ensures ∙ ap (λ (a : ArrayView). a.parts.groups) (c.array.ensures ∙ ap (λ (w : WorldView). w.array) c.world.ensures) in
    let groups = done.1.world.array.tables.groups ∙ sym seen in (
      done.0,
      done.1,
      done.2,
      all_clear done.0.groups c.args.drive done.1.world.array.history.groups.table
          (subst (λ (t : Groups). (g : ℕ) → g < 512 → HasMemberOn t g c.args.drive → ⊥) (sym groups) low),
    )) c.test_clear.ensures.ok

pub returns-clause-err : goal.returns-clause-err
returns-clause-err g c =
    IfErr-weaker c.test_clear.result _ _ (λ fault is T was.
    let done = c.in_ok-move_all.ensures.ok T was in
    let seen : c.groups.result.now ≡ c.move_all.new.tiers.world.array.parts.groups = c.groups.ensures ∙ ap (λ (a : ArrayView). a.parts.groups) (c.array.ensures ∙ ap (λ (w : WorldView). w.array) c.world.ensures) in
    let groups = done.1.world.array.tables.groups ∙ sym seen in (
      done.0,
      done.1,
      subst (λ f. NotEvacuated T.flat c.args.drive f done.0) (sym is.0)
          (done.2, record { group = is.1.0; on = subst (λ (t : Groups). HasMemberOn t is.1.0 c.args.drive) (sym groups) is.1.1; plan = done.3 }),
    )) c.test_clear.ensures.err

pub returns-clause-map : goal.returns-clause-map
returns-clause-map g c = λ T was.
    let done = c.in_ok-move_all.ensures.ok T was in
    same_keys c.args.tiers.now c.move_all.new.tiers T done.0 was done.1 (spread_log T.flat done.0 done.2)
