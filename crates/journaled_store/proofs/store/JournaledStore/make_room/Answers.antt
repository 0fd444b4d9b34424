use Rattle.std.proofs.Common.{refl}
use Rattle.journaled_store.specs.Outlasting.{point}
use Rattle.journaled_store.specs.Left.{HasBoth}
use Rattle.array_store.proofs.Holding.{follows_same}
use Rattle.journaled_store.proofs.Lasting.{moved_lasts}
use Rattle.journaled_store.proofs.store.JournaledStore.make_room.Goals as goal

pub returns-else-self-saturating_mul-clause-lasts : goal.returns-else-self-saturating_mul-clause-lasts
returns-else-self-saturating_mul-clause-lasts g c F what is has =
    let v = g.V.Vault in
    let p = point c.args.self.now in
    moved_lasts HasBoth v.known v.seen v.may_leave v.moment v.left_since g.met.V.Vault.counts_now g.met.V.Vault.only_now p p refl (follows_same p.tiers) (λ on. on) (λ lost cells live. live) what what
