use Rattle.std.proofs.Common.{◌≡◌, ◌<◌, ◌∙◌, ap, arith, length, refl, sym}
use Rattle.slot_tables.proofs.News.{shape_sizes}
use Rattle.blank_array.proofs.Making.{stands}
use Rattle.blank_array.proofs.make.test_groups.Goals as goal

pub returns : goal.returns
returns c =
    let extents = c.args.extents.now in
    let some : 0 < length extents.rows = omega arith in
    let wide : extents.extents ≡ c.args.groups.now.extents =
    sym (c.drives.ensures.wide 0 some) ∙ sym (ap length c.owners.ensures) ∙ c.if-owners-shape.false ∙ c.shape-shape.ensures.of_extents in
    record {
      sizes = shape_sizes c.shape-shape.result c.args.groups.now c.shape-shape.ensures;
      least = omega arith;
      most = omega arith;
      stands = stands c.args.groups.now extents c.args.drives c.members-members.ensures.groups (c.if-not-agrees.ensures.0 refl) (omega arith) wide;
    }
