use Rattle.std.proofs.Common.{◌%◌, ◌/◌, subst, sym, ◌<◌}
use Rattle.extent_groups.specs.declared.geometry.Stripe.{Stripe}
use Rattle.extents.specs.Sizes.{extent_units}
use Rattle.extent_groups.proofs.Bounds.{parity_slot}
use Rattle.extent_groups.proofs.table.GroupTable.row_among.Goals as goal

pub returns-clause-inside : goal.returns-clause-inside
returns-clause-inside c =
    let s = parity_slot c.args.self.now (c.args.at.now.slot / 128) (c.args.at.now.slot % 128) _ c.requires.members.formed c.requires.members.found c.requires.slot.made c.requires.slot.below in
    (subst (λ (x : Stripe). x.offset < extent_units c.args.self.now.segments) (sym c.requires.stripe) s.law.inside.1, s.few)
