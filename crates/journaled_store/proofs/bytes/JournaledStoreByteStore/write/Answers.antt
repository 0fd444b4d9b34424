use Rattle.std.proofs.Common.{◌∙◌, [], ◌∷◌, ◌++◌}
use Rattle.byte_store.proofs.Lasts.{covering, covers_own, lasts_both}
use Rattle.journaled_store.specs.Outlasting.{Outlasts, OutlastsSince, point}
use Rattle.journaled_store.proofs.Lasting.{lasts_at, on_ok_map, only_before, only_now}
use Rattle.journaled_store.proofs.Storing.{has_both, same_sizes}
use Rattle.array_store.proofs.Holding.{follows_more}
use Rattle.journaled_store.specs.Left.{HasBoth}
use Rattle.journaled_store.proofs.bytes.JournaledStoreByteStore.write.Goals as goal

pub returns-clause-change : goal.returns-clause-change
returns-clause-change g c F is = c.kept_write.ensures.change F (c.make_room.ensures.bytes F is)

pub returns-clause-sizes : goal.returns-clause-sizes
returns-clause-sizes g c =
    let mid = c.make_room.ensures.sizes in
    let sizes = c.kept_write.ensures.sizes in
    same_sizes c.args.self.now.store c.kept_write.new.self.store (sizes.0 ∙ mid.0, sizes.1 ∙ mid.1)

pub returns-clause-lasts : goal.returns-clause-lasts
returns-clause-lasts g c F G a b is made was now =
    let v = g.V.Vault in
    let first = c.make_room.ensures.lasts F a is (has_both c.args.self.now.store.tiers F a is.holds was) in
    let second = c.kept_write.ensures.lasts F b (c.make_room.ensures.bytes F is) (has_both c.kept_write.new.self.store.tiers G b made.holds now) in
    lasts_at point (Outlasts HasBoth v.known v.seen v.may_leave) (λ r. v.moment r.vault) (OutlastsSince HasBoth v.left_since) a b c.args.self.now c.kept_write.new.self
    (lasts_both (Outlasts HasBoth v.known v.seen v.may_leave) (λ r. v.moment r.vault) (OutlastsSince HasBoth v.left_since) a a b b a b (point c.args.self.now) (point c.make_room.new.self) (point c.kept_write.new.self)
    (λ more some covers. only_before more some a b covers) (λ more some covers. only_now more some a b covers) first second.0)

pub returns-clause-acknowledged : goal.returns-clause-acknowledged
returns-clause-acknowledged g c F G a b is made was now =
    let first = c.make_room.ensures.lasts F a is (has_both c.args.self.now.store.tiers F a is.holds was) in
    let second = c.kept_write.ensures.lasts F b (c.make_room.ensures.bytes F is) (has_both c.kept_write.new.self.store.tiers G b made.holds now) in
    on_ok_map c.kept_write.result (λ acknowledges killed cut more_cut out covers.
    acknowledges (killed ++ a ∷ a ∷ []) more_cut more_cut
    (first.following killed cut (killed ++ a ∷ a ∷ []) more_cut out (covering killed a a) (only_before more_cut cut a b covers))
    (only_now more_cut more_cut a b (covers_own more_cut cut a b covers))) second.1

pub returns-clause-stays : goal.returns-clause-stays
returns-clause-stays g c F is =
    follows_more c.args.self.now.store.tiers c.make_room.new.self.store.tiers c.kept_write.new.self.store.tiers (c.make_room.ensures.follows F is)
    (c.kept_write.ensures.follows F (c.make_room.ensures.bytes F is))
