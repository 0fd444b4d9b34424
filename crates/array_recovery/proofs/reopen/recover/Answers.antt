use Rattle.std.proofs.Common.{◌*◌, ◌∙◌, ℕ, List, length, sym, ap, subst, Result, Ok, Err}
use Rattle.std.specs.Prelude.{IfOk}
use Rattle.extents.specs.Sizes.{extent_units}
use Rattle.std.proofs.lemmas.Result.{IfOk-weaker}
use Rattle.vault.specs.Images.{recovered}
use Rattle.array_store.specs.Blocks.{Holds}
use Rattle.journaled_store.specs.Left.{HasBoth, HasKeys, IsLeftOf}
use Rattle.array_recovery.specs.Reopened.{CoversGone, EndsAt, IsOpenedWith}
use Rattle.array_recovery.specs.Found.{IsTable, with_cells}
use Rattle.array_recovery.proofs.Attesting.{as_found}
use Rattle.array_recovery.proofs.Reopening.{bytes_left, keys_left}
use Rattle.array_recovery.proofs.reopen.recover.Goals as goal

pub returns-clause-reopened : goal.returns-clause-reopened
returns-clause-reopened g c = λ known bytes long left.
    let cells = recovered (g.V.Vault.seen c.args.vault.now) in
    let reported = c.in_ok-found.ensures in
    IfOk-weaker c.open_found.result _ _
    (λ r h. h cells c.args.absent.now bytes (reported.found known) long (subst (λ n. IsLeftOf Holds bytes c.args.groups n c.args.absent.now cells) (sym reported.many) left)) c.open_found.ensures.reopened

pub returns-clause-map : goal.returns-clause-map
returns-clause-map g c = λ known keys left.
    let cells = recovered (g.V.Vault.seen c.args.vault.now) in
    let reported = c.in_ok-found.ensures in
    IfOk-weaker c.open_found.result _ _
    (λ r h. h cells c.args.absent.now keys (reported.found known) (subst (λ n. IsLeftOf HasKeys keys c.args.groups n c.args.absent.now cells) (sym reported.many) left)) c.open_found.ensures.map

-- two facts of one outcome
of_both : {X E : Type 0} (result : Result X E) (P Q R : X → Type 0) → IfOk result P → IfOk result Q → ((x : X) → P x → Q x → R x) → IfOk result R
of_both (Ok x) P Q R one two both = both x one two
of_both (Err e) P Q R one two both = tt

pub returns-clause-honest : goal.returns-clause-honest
returns-clause-honest g c = λ known written last what long left.
    let cells = recovered (with_cells (g.V.Vault.seen c.args.vault.now) written) in
    let reported = c.in_ok-found.ensures in
    let found = reported.honest known written last in
    let here = subst (λ n. IsLeftOf HasBoth what c.args.groups n c.args.absent.now cells) (sym reported.many) left in
    of_both c.open_found.result _ _ _
    (of_both c.open_found.result _ _ (λ r. HasBoth r.0.tiers what) c.open_found.ensures.reopened c.open_found.ensures.map (λ r bytes map. record {
      holds = (bytes cells c.args.absent.now what.bytes found long (bytes_left what _ _ c.args.absent.now cells here)).holds;
      keys_are = λ block. sym (map cells c.args.absent.now what.keys found (keys_left what _ _ c.args.absent.now cells here) block);
    }))
    c.open_found.ensures.marks (λ r has is. (has, subst (λ (l : List ℕ). IsTable l cells) (sym is) found.table))

pub returns-clause-both : goal.returns-clause-both
returns-clause-both g c = λ known what long left.
    let base = g.V.Vault.seen c.args.vault.now in
    IfOk-weaker c.open_found.result _ _ (λ r h. h.0)
    (returns-clause-honest g c known base.cells (as_found (g.V.Vault.attested c.args.vault.now) c.args.drives c.args.absent.now base) what long left)

pub returns-clause-live : goal.returns-clause-live
returns-clause-live g c = λ known lost.
    let cells = recovered (g.V.Vault.seen c.args.vault.now) in
    let reported = c.in_ok-found.ensures in
    IfOk-weaker c.open_found.result _ _
    (λ r h covers ends. h cells c.args.absent.now lost _ _ (reported.found known) reported.formed (subst (λ n. CoversGone n r.1.noted c.args.absent.now lost) (sym reported.many) covers)
    (subst (λ n. EndsAt lost n (c.args.shape.now.extents * extent_units c.args.shape.now.segments) cells) (sym reported.many) ends)) c.open_found.ensures.live

pub returns-clause-same : goal.returns-clause-same
returns-clause-same g c =
    let reported = c.in_ok-found.ensures in
    IfOk-weaker c.open_found.result _ _
    (λ r h. subst (λ n. IsOpenedWith c.args.groups n r.1.noted c.args.absent.now r.0.tiers) reported.many (h c.args.absent.now reported.gone)) c.open_found.ensures.same

pub returns-clause-long : goal.returns-clause-long
returns-clause-long g c = IfOk-weaker c.open_found.result _ _ (λ r h. ap length h ∙ c.in_ok-found.ensures.long) c.open_found.ensures.marks

pub returns-clause-marks : goal.returns-clause-marks
returns-clause-marks g c = λ known.
    let cells = recovered (g.V.Vault.seen c.args.vault.now) in
    let found = c.in_ok-found.ensures.found known in
    IfOk-weaker c.open_found.result _ _
    (λ r h. subst (λ (l : List ℕ). IsTable l cells) (sym h) found.table) c.open_found.ensures.marks
