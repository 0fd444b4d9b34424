use Rattle.std.proofs.Common.{◌∙◌, sym, ap, length, Option, None}
use Rattle.extent_groups.specs.declared.table.Kept.{Kept}
use Rattle.std.proofs.lemmas.List.{length-replicate, length-map}
use Rattle.extent_groups.specs.Groups.{parity_slots_of}
use Rattle.extent_groups.specs.Kept.{groups_in}
use Rattle.extent_groups.proofs.ParitySlots.{slots_free}
use Rattle.extent_groups.proofs.Fresh.{all_numbers_free, free_groups, free_agree}
use Rattle.extent_groups.proofs.table.GroupTable.new.Goals as goal

pub returns-clause-groups : goal.returns-clause-groups
returns-clause-groups c =
    let within = c.args.shape.now.in_range.some_segments in
    free_groups _ (λ g. all_numbers_free c.args.shape.now c.in_ok-free_numbers.field-0.items 512 g c.in_ok-free_numbers.ensures)
    (length-map _ _ ∙ ap length c.in_ok-free_numbers.ensures ∙ length-replicate {A = Option Kept} 512 None) within.0 within.1

pub invariant_of-result : goal.invariant_of-result
invariant_of-result c = record {
  groups = returns-clause-groups c;
  slots = c.in_ok-vec.ensures.items_if_clones_equal (λ y e. e) ∙ slots_free c.args.shape.now 512 ∙ ap (λ ks. parity_slots_of (groups_in c.args.shape.now ks)) (sym c.in_ok-free_numbers.ensures);
}

pub returns-clause-free : goal.returns-clause-free
returns-clause-free c = λ g. all_numbers_free c.args.shape.now c.in_ok-free_numbers.field-0.items 512 g c.in_ok-free_numbers.ensures

pub returns-clause-agree : goal.returns-clause-agree
returns-clause-agree c = λ drives. free_agree _ drives _ (λ g. all_numbers_free c.args.shape.now c.in_ok-free_numbers.field-0.items 512 g c.in_ok-free_numbers.ensures)
