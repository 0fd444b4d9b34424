use Rattle.std.proofs.Common.{◌*◌, ◌-◌}
use Rattle.std.proofs.lemmas.Result.{on_ok_weaker}
use Rattle.extents.specs.Sizes.{extent_units}
use Rattle.vault.specs.Images.{recovered}
use Rattle.vault.proofs.Runs.{weaker}
use Rattle.array_store.specs.Blocks.{Holds}
use Rattle.journaled_store.specs.Left.{HasBoth, HasKeys}
use Rattle.array_batch.proofs.Arrays.{bytes_both, bytes_shown, keys_both, keys_of, keys_shown}
use Rattle.drive_removal.specs.Removed.{IsBeforeOrRemoved, OpensBeforeOrWithout}
use Rattle.drive_removal.proofs.Removing.{can_shrink, opens_either, whole_without}
use Rattle.drive_removal.proofs.remove.remove_drive.Goals as goal

pub returns-clause-removed : goal.returns-clause-removed
returns-clause-removed g c = λ known bytes can.
    let units = c.args.shape.now.extents * extent_units c.args.shape.now.segments in
    let what = bytes_shown can.left.tiers bytes in
    let shrinks = can_shrink Holds bytes what g.V.Vault.seen g.V.Vault.may_leave c.args.groups c.args.drives units c.args.vault.now can (bytes_both can.left.tiers bytes can.left.shown) in
    on_ok_weaker c.remove_units.result (λ is. whole_without Holds bytes what (λ t both. both.holds) c.args.shape.now c.args.groups (c.args.drives - 1) units g.V.Vault.seen g.V.Vault.may_leave g.V.Vault.moment g.V.Vault.left_since c.remove_units.new.vault is)
    (c.remove_units.ensures.removed known what can.lost shrinks)

pub returns-clause-any_moment : goal.returns-clause-any_moment
returns-clause-any_moment g c = λ known bytes can stop.
    let units = c.args.shape.now.extents * extent_units c.args.shape.now.segments in
    let what = bytes_shown can.left.tiers bytes in
    let shrinks = can_shrink Holds bytes what g.V.Vault.seen g.V.Vault.may_leave c.args.groups c.args.drives units c.args.vault.now can (bytes_both can.left.tiers bytes can.left.shown) in
    let before = recovered (g.V.Vault.seen c.args.vault.now) in
    weaker g.V.Vault.moment g.V.Vault.left_since stop c.args.vault.now c.remove_units.new.vault (IsBeforeOrRemoved can.lost before what c.args.shape.now c.args.groups c.args.drives units)
    (OpensBeforeOrWithout Holds bytes c.args.shape.now c.args.groups c.args.drives) (c.remove_units.ensures.any_moment known what can.lost shrinks stop)
    (λ i which. opens_either Holds bytes what (λ t both. both.holds) c.args.shape.now c.args.groups c.args.drives units before can.left can.lost can.lost_are i which)

pub returns-clause-map : goal.returns-clause-map
returns-clause-map g c = λ known keys can.
    let units = c.args.shape.now.extents * extent_units c.args.shape.now.segments in
    let what = keys_shown keys in
    let shrinks = can_shrink HasKeys keys what g.V.Vault.seen g.V.Vault.may_leave c.args.groups c.args.drives units c.args.vault.now can (keys_both can.left.tiers keys can.left.shown) in
    on_ok_weaker c.remove_units.result (λ is. whole_without HasKeys keys what (λ t both. keys_of t (keys_shown keys) both) c.args.shape.now c.args.groups (c.args.drives - 1) units g.V.Vault.seen g.V.Vault.may_leave g.V.Vault.moment g.V.Vault.left_since c.remove_units.new.vault is)
    (c.remove_units.ensures.removed known what can.lost shrinks)

pub returns-clause-map_any_moment : goal.returns-clause-map_any_moment
returns-clause-map_any_moment g c = λ known keys can stop.
    let units = c.args.shape.now.extents * extent_units c.args.shape.now.segments in
    let what = keys_shown keys in
    let shrinks = can_shrink HasKeys keys what g.V.Vault.seen g.V.Vault.may_leave c.args.groups c.args.drives units c.args.vault.now can (keys_both can.left.tiers keys can.left.shown) in
    let before = recovered (g.V.Vault.seen c.args.vault.now) in
    weaker g.V.Vault.moment g.V.Vault.left_since stop c.args.vault.now c.remove_units.new.vault (IsBeforeOrRemoved can.lost before what c.args.shape.now c.args.groups c.args.drives units)
    (OpensBeforeOrWithout HasKeys keys c.args.shape.now c.args.groups c.args.drives) (c.remove_units.ensures.any_moment known what can.lost shrinks stop)
    (λ i which. opens_either HasKeys keys what (λ t both. keys_of t (keys_shown keys) both) c.args.shape.now c.args.groups c.args.drives units before can.left can.lost can.lost_are i which)

pub returns-clause-both : goal.returns-clause-both
returns-clause-both g c = λ known what can.
    let units = c.args.shape.now.extents * extent_units c.args.shape.now.segments in
    let shrinks = can_shrink HasBoth what what g.V.Vault.seen g.V.Vault.may_leave c.args.groups c.args.drives units c.args.vault.now can can.left.shown in
    on_ok_weaker c.remove_units.result (λ is. whole_without HasBoth what what (λ t both. both) c.args.shape.now c.args.groups (c.args.drives - 1) units g.V.Vault.seen g.V.Vault.may_leave g.V.Vault.moment g.V.Vault.left_since c.remove_units.new.vault is)
    (c.remove_units.ensures.removed known what can.lost shrinks)

pub returns-clause-both_any_moment : goal.returns-clause-both_any_moment
returns-clause-both_any_moment g c = λ known what can stop.
    let units = c.args.shape.now.extents * extent_units c.args.shape.now.segments in
    let shrinks = can_shrink HasBoth what what g.V.Vault.seen g.V.Vault.may_leave c.args.groups c.args.drives units c.args.vault.now can can.left.shown in
    let before = recovered (g.V.Vault.seen c.args.vault.now) in
    weaker g.V.Vault.moment g.V.Vault.left_since stop c.args.vault.now c.remove_units.new.vault (IsBeforeOrRemoved can.lost before what c.args.shape.now c.args.groups c.args.drives units)
    (OpensBeforeOrWithout HasBoth what c.args.shape.now c.args.groups c.args.drives) (c.remove_units.ensures.any_moment known what can.lost shrinks stop)
    (λ i which. opens_either HasBoth what what (λ t both. both) c.args.shape.now c.args.groups c.args.drives units before can.left can.lost can.lost_are i which)
