use Rattle.std.proofs.Common.{◌≡◌, ◌∷◌, [], List, ◌∙◌, ap, subst, ◌++◌}
use Rattle.extent_groups.specs.Planned.{Intended, after}
use Rattle.vault.specs.Images.{Matches, recovered}
use Rattle.vault.specs.Moments.{IsBeforeOrAfter, LeavesOnly}
use Rattle.journaled_store.specs.Steps.{table_write}
use Rattle.drive_rebuild.proofs.Underway.{not_begun, noted_moment, noted_units}
use Rattle.drive_rebuild.proofs.stages.note_marks.Goals as goal

pub returns-in_err-push-clause-any_moment : goal.returns-in_err-push-clause-any_moment
returns-in_err-push-clause-any_moment g c = λ known logged stop.
    not_begun g.V.Vault.seen g.V.Vault.may_leave g.V.Vault.moment g.V.Vault.left_since c.args.counts.now c.args.vault.now (table_write c.args.marks.now ∷ []) (λ stop. g.met.V.Vault.only_now c.args.vault.now known stop) logged stop

pub returns-in_err-keep-clause-any_moment : goal.returns-in_err-keep-clause-any_moment
returns-in_err-keep-clause-any_moment g c = λ known logged stop.
    let v0 = c.args.vault.now in
    let counts = c.args.counts.now in
    let writes = table_write c.args.marks.now ∷ [] in
    let batch_is : c.push.new.self ≡ writes = c.in_ok-push.ensures.ok ∙ ap (λ (ws : List Intended). ws ++ writes) c.clear.ensures in
    let first = subst (λ ws. LeavesOnly g.V.Vault.moment g.V.Vault.left_since stop v0 c.keep.new.vault (IsBeforeOrAfter counts (recovered (g.V.Vault.seen v0)) ws)) batch_is (c.keep.ensures.any_moment known counts stop logged) in
    first

pub returns-in_err-settle-clause-any_moment : goal.returns-in_err-settle-clause-any_moment
returns-in_err-settle-clause-any_moment g c = λ known logged stop.
    let v0 = c.args.vault.now in
    let counts = c.args.counts.now in
    let writes = table_write c.args.marks.now ∷ [] in
    let batch_is : c.push.new.self ≡ writes = c.in_ok-push.ensures.ok ∙ ap (λ (ws : List Intended). ws ++ writes) c.clear.ensures in
    let first = subst (λ ws. LeavesOnly g.V.Vault.moment g.V.Vault.left_since stop v0 c.keep.new.vault (IsBeforeOrAfter counts (recovered (g.V.Vault.seen v0)) ws)) batch_is (c.keep.ensures.any_moment known counts stop logged) in
    let kept = subst (λ (ws : List Intended). Matches counts (after (recovered (g.V.Vault.seen v0)) ws) (g.V.Vault.seen c.keep.new.vault)) batch_is (c.in_ok-keep.ensures.acknowledged known counts) in
    let stays1 = c.keep.ensures.stays known in
    let logged1 = c.in_ok-keep.ensures.logged known counts logged in
    noted_moment g.V.Vault.seen g.V.Vault.may_leave g.V.Vault.moment g.V.Vault.left_since counts v0 c.keep.new.vault c.settle.new.vault writes kept stop first (c.settle.ensures.any_moment stays1 logged1 stop)

pub returns-clause-durable : goal.returns-clause-durable
returns-clause-durable g c = λ known logged stop.
    let counts = c.args.counts.now in
    let stays1 = c.keep.ensures.stays known in
    let logged1 = c.in_ok-keep.ensures.logged known counts logged in
    (c.in_ok-settle.ensures.settled stays1 logged1).durable stop

pub returns-clause-noted : goal.returns-clause-noted
returns-clause-noted g c = λ known logged.
    let v0 = c.args.vault.now in
    let counts = c.args.counts.now in
    let writes = table_write c.args.marks.now ∷ [] in
    let batch_is : c.push.new.self ≡ writes = c.in_ok-push.ensures.ok ∙ ap (λ (ws : List Intended). ws ++ writes) c.clear.ensures in
    let kept = subst (λ (ws : List Intended). Matches counts (after (recovered (g.V.Vault.seen v0)) ws) (g.V.Vault.seen c.keep.new.vault)) batch_is (c.in_ok-keep.ensures.acknowledged known counts) in
    let stays1 = c.keep.ensures.stays known in
    let logged1 = c.in_ok-keep.ensures.logged known counts logged in
    noted_units g.V.Vault.seen g.V.Vault.may_leave g.V.Vault.moment g.V.Vault.left_since counts v0 c.keep.new.vault c.settle.new.vault writes kept (c.in_ok-settle.ensures.settled stays1 logged1)

pub returns-clause-any_moment : goal.returns-clause-any_moment
returns-clause-any_moment g c = λ known logged stop.
    let v0 = c.args.vault.now in
    let counts = c.args.counts.now in
    let writes = table_write c.args.marks.now ∷ [] in
    let batch_is : c.push.new.self ≡ writes = c.in_ok-push.ensures.ok ∙ ap (λ (ws : List Intended). ws ++ writes) c.clear.ensures in
    let first = subst (λ ws. LeavesOnly g.V.Vault.moment g.V.Vault.left_since stop v0 c.keep.new.vault (IsBeforeOrAfter counts (recovered (g.V.Vault.seen v0)) ws)) batch_is (c.keep.ensures.any_moment known counts stop logged) in
    let kept = subst (λ (ws : List Intended). Matches counts (after (recovered (g.V.Vault.seen v0)) ws) (g.V.Vault.seen c.keep.new.vault)) batch_is (c.in_ok-keep.ensures.acknowledged known counts) in
    let stays1 = c.keep.ensures.stays known in
    let logged1 = c.in_ok-keep.ensures.logged known counts logged in
    noted_moment g.V.Vault.seen g.V.Vault.may_leave g.V.Vault.moment g.V.Vault.left_since counts v0 c.keep.new.vault c.settle.new.vault writes kept stop first (c.settle.ensures.any_moment stays1 logged1 stop)
