use Rattle.std.proofs.Common.{◌*◌, ◌∷◌, []}
use Rattle.std.proofs.lemmas.Result.{on_ok_weaker}
use Rattle.extents.specs.Sizes.{extent_units}
use Rattle.vault.specs.Images.{recovered}
use Rattle.vault.proofs.Runs.{weaker}
use Rattle.array_store.specs.Blocks.{Holds}
use Rattle.journaled_store.specs.Left.{HasBoth, HasKeys}
use Rattle.journaled_store.specs.Outlasting.{OpensAs}
use Rattle.drive_rebuild.specs.Rebuilt.{IsBeforeOrReplaced}
use Rattle.drive_rebuild.proofs.Restated.{both_keep, holds_keep, keys_keep}
use Rattle.drive_rebuild.proofs.Rebuilding.{opens_either, whole}
use Rattle.drive_rebuild.proofs.replace.replace_drive.Goals as goal

pub returns-clause-rebuilt : goal.returns-clause-rebuilt
returns-clause-rebuilt g c = λ known what can.
    let before = recovered (g.V.Vault.seen c.args.vault.now) in
    let units = c.args.shape.now.extents * extent_units c.args.shape.now.segments in
    let left = can.left in
    let lost = can.lost in
    let are = can.lost_are in
    on_ok_weaker c.replace_marked.result (λ is. whole Holds what c.args.groups c.args.drives before left lost are g.V.Vault.seen g.V.Vault.may_leave holds_keep units c.args.number can.ends c.replace_marked.new.vault is)
    (c.replace_marked.ensures.replaced known lost are can.logged)

pub returns-clause-any_moment : goal.returns-clause-any_moment
returns-clause-any_moment g c = λ known what can stop.
    let before = recovered (g.V.Vault.seen c.args.vault.now) in
    let units = c.args.shape.now.extents * extent_units c.args.shape.now.segments in
    let left = can.left in
    let lost = can.lost in
    let are = can.lost_are in
    weaker g.V.Vault.moment g.V.Vault.left_since stop c.args.vault.now c.replace_marked.new.vault (IsBeforeOrReplaced c.args.groups c.args.drives units c.args.number lost before) (λ i. OpensAs Holds (what ∷ []) c.args.groups c.args.drives (recovered i))
    (c.replace_marked.ensures.any_moment known lost are can.logged stop)
    (λ i which. opens_either Holds what c.args.groups c.args.drives before left lost are holds_keep units c.args.number can.ends i which)

pub returns-clause-map : goal.returns-clause-map
returns-clause-map g c = λ known what can.
    let before = recovered (g.V.Vault.seen c.args.vault.now) in
    let units = c.args.shape.now.extents * extent_units c.args.shape.now.segments in
    let left = can.left in
    let lost = can.lost in
    let are = can.lost_are in
    on_ok_weaker c.replace_marked.result (λ is. whole HasKeys what c.args.groups c.args.drives before left lost are g.V.Vault.seen g.V.Vault.may_leave keys_keep units c.args.number can.ends c.replace_marked.new.vault is)
    (c.replace_marked.ensures.replaced known lost are can.logged)

pub returns-clause-map_any_moment : goal.returns-clause-map_any_moment
returns-clause-map_any_moment g c = λ known what can stop.
    let before = recovered (g.V.Vault.seen c.args.vault.now) in
    let units = c.args.shape.now.extents * extent_units c.args.shape.now.segments in
    let left = can.left in
    let lost = can.lost in
    let are = can.lost_are in
    weaker g.V.Vault.moment g.V.Vault.left_since stop c.args.vault.now c.replace_marked.new.vault (IsBeforeOrReplaced c.args.groups c.args.drives units c.args.number lost before) (λ i. OpensAs HasKeys (what ∷ []) c.args.groups c.args.drives (recovered i))
    (c.replace_marked.ensures.any_moment known lost are can.logged stop)
    (λ i which. opens_either HasKeys what c.args.groups c.args.drives before left lost are keys_keep units c.args.number can.ends i which)

pub returns-clause-both : goal.returns-clause-both
returns-clause-both g c = λ known what can.
    let before = recovered (g.V.Vault.seen c.args.vault.now) in
    let units = c.args.shape.now.extents * extent_units c.args.shape.now.segments in
    let left = can.left in
    let lost = can.lost in
    let are = can.lost_are in
    on_ok_weaker c.replace_marked.result (λ is. whole HasBoth what c.args.groups c.args.drives before left lost are g.V.Vault.seen g.V.Vault.may_leave both_keep units c.args.number can.ends c.replace_marked.new.vault is)
    (c.replace_marked.ensures.replaced known lost are can.logged)

pub returns-clause-both_any_moment : goal.returns-clause-both_any_moment
returns-clause-both_any_moment g c = λ known what can stop.
    let before = recovered (g.V.Vault.seen c.args.vault.now) in
    let units = c.args.shape.now.extents * extent_units c.args.shape.now.segments in
    let left = can.left in
    let lost = can.lost in
    let are = can.lost_are in
    weaker g.V.Vault.moment g.V.Vault.left_since stop c.args.vault.now c.replace_marked.new.vault (IsBeforeOrReplaced c.args.groups c.args.drives units c.args.number lost before) (λ i. OpensAs HasBoth (what ∷ []) c.args.groups c.args.drives (recovered i))
    (c.replace_marked.ensures.any_moment known lost are can.logged stop)
    (λ i which. opens_either HasBoth what c.args.groups c.args.drives before left lost are both_keep units c.args.number can.ends i which)
