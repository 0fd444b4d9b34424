use Rattle.std.proofs.Common.{◌+◌, ◌*◌}
use Rattle.std.proofs.lemmas.Result.{on_ok_weaker}
use Rattle.extents.specs.Sizes.{extent_units}
use Rattle.vault.specs.Images.{recovered}
use Rattle.vault.proofs.Runs.{weaker}
use Rattle.array_store.specs.Blocks.{Holds}
use Rattle.journaled_store.specs.Left.{HasBoth, HasKeys}
use Rattle.drive_addition.specs.Added.{AreGroupsFor, IsBeforeOrAdded, OpensBeforeOrWith}
use Rattle.array_batch.proofs.Arrays.{bytes_both, bytes_shown, keys_both, keys_of, keys_shown}
use Rattle.array_batch.proofs.Changing.{can_change, opens_either, whole_with}
use Rattle.drive_addition.proofs.add.add_drive.Goals as goal

pub returns-clause-added : goal.returns-clause-added
returns-clause-added g c = λ known bytes can ends.
    let units = c.args.shape.now.extents * extent_units c.args.shape.now.segments in
    let what = bytes_shown can.left.tiers bytes in
    let grows = can_change Holds bytes what g.V.Vault.seen g.V.Vault.may_leave c.args.groups c.args.drives (c.args.drives + 1) units c.args.vault.now can (bytes_both can.left.tiers bytes can.left.shown) ends in
    on_ok_weaker c.add_units.result (λ is. whole_with Holds bytes what (λ t both. both.holds) (AreGroupsFor c.args.shape.now c.args.groups (c.args.drives + 1)) (c.args.drives + 1) units g.V.Vault.seen g.V.Vault.may_leave g.V.Vault.moment g.V.Vault.left_since c.add_units.new.vault is)
    (c.add_units.ensures.added known what can.lost grows)

pub returns-clause-any_moment : goal.returns-clause-any_moment
returns-clause-any_moment g c = λ known bytes can ends stop.
    let units = c.args.shape.now.extents * extent_units c.args.shape.now.segments in
    let what = bytes_shown can.left.tiers bytes in
    let grows = can_change Holds bytes what g.V.Vault.seen g.V.Vault.may_leave c.args.groups c.args.drives (c.args.drives + 1) units c.args.vault.now can (bytes_both can.left.tiers bytes can.left.shown) ends in
    let before = recovered (g.V.Vault.seen c.args.vault.now) in
    weaker g.V.Vault.moment g.V.Vault.left_since stop c.args.vault.now c.add_units.new.vault (IsBeforeOrAdded can.lost before what c.args.shape.now c.args.groups c.args.drives units)
    (OpensBeforeOrWith Holds bytes c.args.shape.now c.args.groups c.args.drives) (c.add_units.ensures.any_moment known what can.lost grows stop)
    (λ i which. opens_either Holds bytes what (λ t both. both.holds) c.args.groups c.args.drives (AreGroupsFor c.args.shape.now c.args.groups (c.args.drives + 1)) (c.args.drives + 1) units before can.left can.lost can.lost_are i which)

pub returns-clause-map : goal.returns-clause-map
returns-clause-map g c = λ known keys can ends.
    let units = c.args.shape.now.extents * extent_units c.args.shape.now.segments in
    let what = keys_shown keys in
    let grows = can_change HasKeys keys what g.V.Vault.seen g.V.Vault.may_leave c.args.groups c.args.drives (c.args.drives + 1) units c.args.vault.now can (keys_both can.left.tiers keys can.left.shown) ends in
    on_ok_weaker c.add_units.result (λ is. whole_with HasKeys keys what (λ t both. keys_of t (keys_shown keys) both) (AreGroupsFor c.args.shape.now c.args.groups (c.args.drives + 1)) (c.args.drives + 1) units g.V.Vault.seen g.V.Vault.may_leave g.V.Vault.moment g.V.Vault.left_since c.add_units.new.vault is)
    (c.add_units.ensures.added known what can.lost grows)

pub returns-clause-map_any_moment : goal.returns-clause-map_any_moment
returns-clause-map_any_moment g c = λ known keys can ends stop.
    let units = c.args.shape.now.extents * extent_units c.args.shape.now.segments in
    let what = keys_shown keys in
    let grows = can_change HasKeys keys what g.V.Vault.seen g.V.Vault.may_leave c.args.groups c.args.drives (c.args.drives + 1) units c.args.vault.now can (keys_both can.left.tiers keys can.left.shown) ends in
    let before = recovered (g.V.Vault.seen c.args.vault.now) in
    weaker g.V.Vault.moment g.V.Vault.left_since stop c.args.vault.now c.add_units.new.vault (IsBeforeOrAdded can.lost before what c.args.shape.now c.args.groups c.args.drives units)
    (OpensBeforeOrWith HasKeys keys c.args.shape.now c.args.groups c.args.drives) (c.add_units.ensures.any_moment known what can.lost grows stop)
    (λ i which. opens_either HasKeys keys what (λ t both. keys_of t (keys_shown keys) both) c.args.groups c.args.drives (AreGroupsFor c.args.shape.now c.args.groups (c.args.drives + 1)) (c.args.drives + 1) units before can.left can.lost can.lost_are i which)

pub returns-clause-both : goal.returns-clause-both
returns-clause-both g c = λ known what can ends.
    let units = c.args.shape.now.extents * extent_units c.args.shape.now.segments in
    let grows = can_change HasBoth what what g.V.Vault.seen g.V.Vault.may_leave c.args.groups c.args.drives (c.args.drives + 1) units c.args.vault.now can can.left.shown ends in
    on_ok_weaker c.add_units.result (λ is. whole_with HasBoth what what (λ t both. both) (AreGroupsFor c.args.shape.now c.args.groups (c.args.drives + 1)) (c.args.drives + 1) units g.V.Vault.seen g.V.Vault.may_leave g.V.Vault.moment g.V.Vault.left_since c.add_units.new.vault is)
    (c.add_units.ensures.added known what can.lost grows)

pub returns-clause-both_any_moment : goal.returns-clause-both_any_moment
returns-clause-both_any_moment g c = λ known what can ends stop.
    let units = c.args.shape.now.extents * extent_units c.args.shape.now.segments in
    let grows = can_change HasBoth what what g.V.Vault.seen g.V.Vault.may_leave c.args.groups c.args.drives (c.args.drives + 1) units c.args.vault.now can can.left.shown ends in
    let before = recovered (g.V.Vault.seen c.args.vault.now) in
    weaker g.V.Vault.moment g.V.Vault.left_since stop c.args.vault.now c.add_units.new.vault (IsBeforeOrAdded can.lost before what c.args.shape.now c.args.groups c.args.drives units)
    (OpensBeforeOrWith HasBoth what c.args.shape.now c.args.groups c.args.drives) (c.add_units.ensures.any_moment known what can.lost grows stop)
    (λ i which. opens_either HasBoth what what (λ t both. both) c.args.groups c.args.drives (AreGroupsFor c.args.shape.now c.args.groups (c.args.drives + 1)) (c.args.drives + 1) units before can.left can.lost can.lost_are i which)
