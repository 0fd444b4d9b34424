use Rattle.std.proofs.Common.{sym, subst}
use Rattle.std.specs.Prelude.{IfOk}
use Rattle.tiered_array.specs.Matches.{RepresentsTiers}
use Rattle.tiered_array.specs.Tiered.{Tiered}
use Rattle.array_calls.specs.Calls.{CallCase}
use Rattle.array_calls.proofs.Growing.{made_of}
use Rattle.std.proofs.lemmas.Result.{err_from_is_err_and}
use Rattle.vault.proofs.Carried.{on_ok_of}
use Rattle.array_store.specs.Stores.{StoreView}
use Rattle.journaled_store.specs.Outlasting.{point}
use Rattle.journaled_store.specs.Left.{HasBoth}
use Rattle.journaled_store.proofs.Lasting.{array_acknowledges, array_flushes, array_lasts}
use Rattle.journaled_store.proofs.store.JournaledStore.kept_call.Goals as goal

pub returns-in_err-keep-clause-lasts : goal.returns-in_err-keep-clause-lasts
returns-in_err-keep-clause-lasts g c T what matches has =
    let v = g.V.Vault in
    let now = c.call-carried.new.self in
    let there : HasBoth now.tiers what = subst (λ (s : StoreView). HasBoth s.tiers what) c.keep.ensures.same has in
    let follows = c.call-carried.ensures.follows T matches in
    let p = err_from_is_err_and c.from_residual.result c.from_residual.ensures.1 in
    rw p.1 (array_lasts HasBoth v.known v.seen v.may_leave v.moment v.left_since g.met.V.Vault.counts_now g.met.V.Vault.only_now (point c.args.self.now) now.tiers (point c.keep.new.self) what what follows (c.keep.ensures.lasts what there).0, tt)

pub returns-clause-lasts : goal.returns-clause-lasts
returns-clause-lasts g c T what matches has =
    let v = g.V.Vault in
    let now = c.call-carried.new.self in
    let there : HasBoth now.tiers what = subst (λ (s : StoreView). HasBoth s.tiers what) c.keep.ensures.same has in
    let follows = c.call-carried.ensures.follows T matches in (
      array_lasts HasBoth v.known v.seen v.may_leave v.moment v.left_since g.met.V.Vault.counts_now g.met.V.Vault.only_now (point c.args.self.now) now.tiers (point c.keep.new.self) what what follows (c.keep.ensures.lasts what there).0,
      array_acknowledges HasBoth v.known v.seen v.may_leave v.moment v.left_since g.met.V.Vault.counts_now g.met.V.Vault.only_now (point c.args.self.now) now.tiers (point c.keep.new.self) what what follows (c.in_ok-keep.ensures.lasts what there).1,
    )

pub returns-in_err-keep-clause-flushed : goal.returns-in_err-keep-clause-flushed
returns-in_err-keep-clause-flushed g c T what matches has is =
    let p = err_from_is_err_and c.from_residual.result c.from_residual.ensures.1 in
    rw p.1 tt

pub returns-clause-flushed : goal.returns-clause-flushed
returns-clause-flushed g c T what matches has is =
    let v = g.V.Vault in
    let now = c.call-carried.new.self in
    let there : HasBoth now.tiers what = subst (λ (s : StoreView). HasBoth s.tiers what) c.keep.ensures.same has in
    let follows = c.call-carried.ensures.follows T matches in
    array_flushes HasBoth v.known v.seen v.may_leave v.moment v.left_since g.met.V.Vault.counts_now g.met.V.Vault.only_now (point c.args.self.now) now.tiers (point c.keep.new.self) what follows
    (c.in_ok-keep.ensures.flushed what there (c.is_flush.ensures.1 is))

pub returns-in_err-keep-clause-made : goal.returns-in_err-keep-clause-made
returns-in_err-keep-clause-made g c T matches =
    let now = c.call-carried.new.self in
    let done = made_of c.call-carried.result c.args.self.now.store.tiers now.tiers c.args.call.now c.call-carried.ensures.ok c.call-carried.ensures.err T matches in
    (done.0, done.1, subst (λ (s : StoreView). RepresentsTiers s.tiers done.0) (sym c.keep.ensures.same) done.2)

pub returns-clause-made : goal.returns-clause-made
returns-clause-made g c T matches =
    let now = c.call-carried.new.self in
    let done = made_of c.call-carried.result c.args.self.now.store.tiers now.tiers c.args.call.now c.call-carried.ensures.ok c.call-carried.ensures.err T matches in
    (done.0, done.1, subst (λ (s : StoreView). RepresentsTiers s.tiers done.0) (sym c.keep.ensures.same) done.2)

pub returns-clause-ok : goal.returns-clause-ok
returns-clause-ok g c =
    subst (λ (s : StoreView). IfOk c.call-carried.result (λ answered. (T : Tiered) → RepresentsTiers c.args.self.now.store.tiers T
    → (U : Tiered) × CallCase T c.args.call.now answered U × RepresentsTiers s.tiers U)) (sym c.keep.ensures.same) c.call-carried.ensures.ok
