use Rattle.std.proofs.lemmas.Result.{IfErr-weaker, on_ok_weaker}
use Rattle.vault.specs.Images.{Matches, recovered}
use Rattle.vault.proofs.Runs.{weaker}
use Rattle.array_store.specs.Blocks.{Holds}
use Rattle.journaled_store.specs.Left.{HasBoth, HasKeys}
use Rattle.drive_rebuild.proofs.Rebuilding.{before_opens}
use Rattle.array_batch.specs.Changes.{IsBeforeOrWith}
use Rattle.group_changes.specs.Changed.{IsChanged, OpensBefore, OpensBeforeOrAfter, units_of}
use Rattle.array_batch.proofs.Arrays.{bytes_both, bytes_shown, keys_both, keys_of, keys_shown}
use Rattle.array_batch.proofs.Changing.{can_change, opens_either, whole_with}
use Rattle.group_changes.proofs.groups.change_groups.Goals as goal

pub returns-clause-changed : goal.returns-clause-changed
returns-clause-changed g c = λ known bytes can.
    let units = units_of c.args.shape.now in
    let such = IsChanged c.args.change.now c.args.shape.now c.args.drives c.args.groups in
    let what = bytes_shown can.left.tiers bytes in
    let may = can_change Holds bytes what g.V.Vault.seen g.V.Vault.may_leave c.args.groups c.args.drives c.args.drives units c.args.vault.now can (bytes_both can.left.tiers bytes can.left.shown) can.ends in
    on_ok_weaker c.change_units.result (λ is. whole_with Holds bytes what (λ t both. both.holds) such c.args.drives units g.V.Vault.seen g.V.Vault.may_leave g.V.Vault.moment g.V.Vault.left_since c.change_units.new.vault is)
    (c.change_units.ensures.changed known what can.lost may)

pub returns-clause-any_moment : goal.returns-clause-any_moment
returns-clause-any_moment g c = λ known bytes can stop.
    let units = units_of c.args.shape.now in
    let such = IsChanged c.args.change.now c.args.shape.now c.args.drives c.args.groups in
    let what = bytes_shown can.left.tiers bytes in
    let may = can_change Holds bytes what g.V.Vault.seen g.V.Vault.may_leave c.args.groups c.args.drives c.args.drives units c.args.vault.now can (bytes_both can.left.tiers bytes can.left.shown) can.ends in
    let before = recovered (g.V.Vault.seen c.args.vault.now) in
    weaker g.V.Vault.moment g.V.Vault.left_since stop c.args.vault.now c.change_units.new.vault (IsBeforeOrWith can.lost before such what c.args.drives units)
    (OpensBeforeOrAfter Holds bytes c.args.change.now c.args.shape.now c.args.groups c.args.drives) (c.change_units.ensures.any_moment known what can.lost may stop)
    (λ i which. opens_either Holds bytes what (λ t both. both.holds) c.args.groups c.args.drives such c.args.drives units before can.left can.lost can.lost_are i which)

pub returns-clause-map : goal.returns-clause-map
returns-clause-map g c = λ known keys can.
    let units = units_of c.args.shape.now in
    let such = IsChanged c.args.change.now c.args.shape.now c.args.drives c.args.groups in
    let what = keys_shown keys in
    let may = can_change HasKeys keys what g.V.Vault.seen g.V.Vault.may_leave c.args.groups c.args.drives c.args.drives units c.args.vault.now can (keys_both can.left.tiers keys can.left.shown) can.ends in
    on_ok_weaker c.change_units.result (λ is. whole_with HasKeys keys what (λ t both. keys_of t (keys_shown keys) both) such c.args.drives units g.V.Vault.seen g.V.Vault.may_leave g.V.Vault.moment g.V.Vault.left_since c.change_units.new.vault is)
    (c.change_units.ensures.changed known what can.lost may)

pub returns-clause-map_any_moment : goal.returns-clause-map_any_moment
returns-clause-map_any_moment g c = λ known keys can stop.
    let units = units_of c.args.shape.now in
    let such = IsChanged c.args.change.now c.args.shape.now c.args.drives c.args.groups in
    let what = keys_shown keys in
    let may = can_change HasKeys keys what g.V.Vault.seen g.V.Vault.may_leave c.args.groups c.args.drives c.args.drives units c.args.vault.now can (keys_both can.left.tiers keys can.left.shown) can.ends in
    let before = recovered (g.V.Vault.seen c.args.vault.now) in
    weaker g.V.Vault.moment g.V.Vault.left_since stop c.args.vault.now c.change_units.new.vault (IsBeforeOrWith can.lost before such what c.args.drives units)
    (OpensBeforeOrAfter HasKeys keys c.args.change.now c.args.shape.now c.args.groups c.args.drives) (c.change_units.ensures.any_moment known what can.lost may stop)
    (λ i which. opens_either HasKeys keys what (λ t both. keys_of t (keys_shown keys) both) c.args.groups c.args.drives such c.args.drives units before can.left can.lost can.lost_are i which)

pub returns-clause-both : goal.returns-clause-both
returns-clause-both g c = λ known what can.
    let units = units_of c.args.shape.now in
    let such = IsChanged c.args.change.now c.args.shape.now c.args.drives c.args.groups in
    let may = can_change HasBoth what what g.V.Vault.seen g.V.Vault.may_leave c.args.groups c.args.drives c.args.drives units c.args.vault.now can can.left.shown can.ends in
    on_ok_weaker c.change_units.result (λ is. whole_with HasBoth what what (λ t both. both) such c.args.drives units g.V.Vault.seen g.V.Vault.may_leave g.V.Vault.moment g.V.Vault.left_since c.change_units.new.vault is)
    (c.change_units.ensures.changed known what can.lost may)

pub returns-clause-both_any_moment : goal.returns-clause-both_any_moment
returns-clause-both_any_moment g c = λ known what can stop.
    let units = units_of c.args.shape.now in
    let such = IsChanged c.args.change.now c.args.shape.now c.args.drives c.args.groups in
    let may = can_change HasBoth what what g.V.Vault.seen g.V.Vault.may_leave c.args.groups c.args.drives c.args.drives units c.args.vault.now can can.left.shown can.ends in
    let before = recovered (g.V.Vault.seen c.args.vault.now) in
    weaker g.V.Vault.moment g.V.Vault.left_since stop c.args.vault.now c.change_units.new.vault (IsBeforeOrWith can.lost before such what c.args.drives units)
    (OpensBeforeOrAfter HasBoth what c.args.change.now c.args.shape.now c.args.groups c.args.drives) (c.change_units.ensures.any_moment known what can.lost may stop)
    (λ i which. opens_either HasBoth what what (λ t both. both) c.args.groups c.args.drives such c.args.drives units before can.left can.lost can.lost_are i which)

pub returns-clause-refused : goal.returns-clause-refused
returns-clause-refused g c = λ known what can.
    let units = units_of c.args.shape.now in
    let may = can_change HasBoth what what g.V.Vault.seen g.V.Vault.may_leave c.args.groups c.args.drives c.args.drives units c.args.vault.now can can.left.shown can.ends in
    let before = recovered (g.V.Vault.seen c.args.vault.now) in
    IfErr-weaker c.change_units.result _ _ (λ fault stays refusal stop.
    weaker g.V.Vault.moment g.V.Vault.left_since stop c.args.vault.now c.change_units.new.vault (Matches can.lost before) (OpensBefore HasBoth what c.args.groups c.args.drives) (stays refusal stop)
    (λ i was. before_opens HasBoth what c.args.groups c.args.drives before can.left can.lost can.lost_are i was))
    (c.change_units.ensures.refused known what can.lost may)
