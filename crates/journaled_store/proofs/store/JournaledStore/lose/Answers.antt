use Rattle.std.proofs.Common.{sym, subst, ◌∙◌, ap}
use Rattle.array_store.specs.Stores.{Follows, IsStoreOf, StoreView}
use Rattle.slot_tables.specs.Views.{key_at}
use Rattle.journaled_store.proofs.Storing.{noting, own_note, same_parts, with_note}
use Rattle.journaled_store.proofs.store.JournaledStore.lose.Goals as goal

pub returns-clause-bytes : goal.returns-clause-bytes
returns-clause-bytes g c F is =
    let own = c.args.self.now.unsynced in
    let mid = c.collect.new.store in
    let same = same_parts c.args.self.now.store mid c.collect.ensures.same in
    let here : IsStoreOf mid.tiers mid.size own F = subst (λ (s : StoreView). IsStoreOf s.tiers s.size own F) (sym same) is in
    own_note c.sync_drives.new.self mid.unsynced own F here.noted (c.sync_drives.ensures.kept (noting mid.unsynced F) (with_note mid own F here))

pub returns-clause-keys : goal.returns-clause-keys
returns-clause-keys g c F is block =
    let own = c.args.self.now.unsynced in
    let mid = c.collect.new.store in
    let same = same_parts c.args.self.now.store mid c.collect.ensures.same in
    let here : IsStoreOf mid.tiers mid.size own F = subst (λ (s : StoreView). IsStoreOf s.tiers s.size own F) (sym same) is in
    c.sync_drives.ensures.map (noting mid.unsynced F) (with_note mid own F here) block ∙ ap (λ (s : StoreView). key_at s.tiers.world.array block) same

pub returns-clause-sizes : goal.returns-clause-sizes
returns-clause-sizes g c =
    let same = same_parts c.args.self.now.store c.collect.new.store c.collect.ensures.same in (
      c.sync_drives.ensures.sizes.0 ∙ ap (λ (s : StoreView). s.size) same,
      c.sync_drives.ensures.sizes.1 ∙ ap (λ (s : StoreView). s.tiers.world.array.parts.groups.payload) same,
    )

pub returns-clause-step : goal.returns-clause-step
returns-clause-step g c lost cells live = record { step = c.collect.ensures.step lost cells live.step; noted = c.collect.ensures.noted cells live.noted; rest = λ at. c.collect.ensures.rest cells at ∙ live.rest at }

pub returns-clause-follows : goal.returns-clause-follows
returns-clause-follows g c F is =
    let own = c.args.self.now.unsynced in
    let was = c.args.self.now.store in
    let mid = c.collect.new.store in
    let same = same_parts was mid c.collect.ensures.same in
    let here : IsStoreOf mid.tiers mid.size own F = subst (λ (s : StoreView). IsStoreOf s.tiers s.size own F) (sym same) is in
    subst (λ (s : StoreView). Follows s.tiers c.sync_drives.new.self.tiers) same (c.sync_drives.ensures.stays (noting mid.unsynced F) (with_note mid own F here))
