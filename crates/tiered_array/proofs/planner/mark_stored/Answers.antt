use Rattle.std.proofs.Common.{◌+◌, length, refl, ap, sym, subst, ◌∙◌, arith}
use Rattle.std.proofs.lemmas.List.{length-set}
use Rattle.map_join.specs.Record.{record_at}
use Rattle.slot_tables.specs.Views.{key_at}
use Rattle.slot_tables.proofs.Newest.{block_inside}
use Rattle.migrator.specs.Slots.{class_of_record}
use Rattle.tiered_array.specs.Marking.{AreMarkedBelow, is_mirrors}
use Rattle.tiered_array.proofs.Marks.{below_none, below_more, below_all, mirrored_record}
use Rattle.tiered_array.proofs.planner.mark_stored.Goals as goal

pub loop-block-init : goal.loop-block-init
loop-block-init g c =
    let array = c.args.array.now in
    (refl, refl, below_none c.args.ages.now.marks array.parts.groups (key_at array) c.requires.none)

pub mark-requires : goal.mark-requires
mark-requires g c =
    let blocks = c.shape-block-end.ensures.of_blocks in
    let long = ap length c.loop-block.invariant.0 ∙ c.requires.order in
    let test = c.loop-block-test.true in
    omega arith

pub loop-block-preserved : goal.loop-block-preserved
loop-block-preserved g c =
    let array = c.args.array.now in
    let at = c.loop-block in
    let blocks = c.shape-block-end.ensures.of_blocks in
    let long = at.invariant.1 ∙ c.requires.marks in
    let test = c.loop-block-test.true in
    let tables = c.groups.ensures in
    let newest = c.newest.ensures.value in
    let reported = c.is_mirrored-marked.ensures ∙ ap (λ z. is_mirrors (class_of_record z c.newest.result)) tables ∙ ap (λ o. is_mirrors (class_of_record array.parts.groups o)) newest in (
      c.mark.ensures.order ∙ at.invariant.0,
      ap length c.mark.ensures.marks ∙ length-set at.ages.marks at.block c.is_mirrored-marked.result ∙ at.invariant.1,
      subst (λ ms. AreMarkedBelow ms array.parts.groups (key_at array) (at.block + 1)) (sym c.mark.ensures.marks)
          (below_more at.ages.marks array.parts.groups (key_at array) at.block c.is_mirrored-marked.result (omega arith) reported at.invariant.2),
    )

pub returns : goal.returns
returns g c =
    let array = c.args.array.now in
    let at = c.loop-block in
    let blocks = c.shape-block-end.ensures.of_blocks in
    let test = c.loop-block-test.false in
    record {
      order = at.invariant.0;
      marks = below_all at.ages.marks array.parts.groups (key_at array) at.block
          (λ b is. let r = mirrored_record array.parts.groups (record_at b (key_at array b)) is in let inside = block_inside array b r.0 c.whole.ensures.room r.1 in omega arith)
          at.invariant.2;
      long = at.invariant.1;
    }
