use Rattle.std.proofs.Common.{◌∙◌, refl, sym, ap, arith}
use Rattle.extent_groups.specs.Groups.{Groups}
use Rattle.extent_groups.specs.Stores.{unit_bytes}
use Rattle.unit_store.specs.Memory.{held_lost, held_units}
use Rattle.unit_store.specs.Slots.{cells_in}
use Rattle.vault.specs.Marks.{Has}
use Rattle.unit_repair.proofs.Touched.{all_tested, loses_more, loses_none, tested_more}
use Rattle.unit_repair.proofs.verify.find_wrong.Goals as goal

pub loop-number-init : goal.loop-number-init
loop-number-init c = record { below = λ slot low. absurd (omega (arith, low)); only = loses_none c.args.parts.now; fit = c.requires.fit }

pub is_right-requires-clause-unit : goal.is_right-requires-clause-unit
is_right-requires-clause-unit c = c.loop-number.auto.unit ∙ c.requires.unit ∙ ap (λ (g : Groups). unit_bytes g) (sym c.loop-number.invariant.only.tables.groups)

pub is_right-requires-clause-other : goal.is_right-requires-clause-other
is_right-requires-clause-other c = c.loop-number.auto.other ∙ c.requires.other ∙ ap (λ (g : Groups). unit_bytes g) (sym c.loop-number.invariant.only.tables.groups)

pub returns-then-not-is_right-clause-only : goal.returns-then-not-is_right-clause-only
returns-then-not-is_right-clause-only c = loses_more c.args.parts.now c.loop-number.parts c.is_right.new.parts c.loop-number.invariant.only c.is_right.ensures.only

pub loop-number-preserved : goal.loop-number-preserved
loop-number-preserved c =
    let only = loses_more c.args.parts.now c.loop-number.parts c.is_right.new.parts c.loop-number.invariant.only c.is_right.ensures.only in
    record {
      below =
          tested_more (Has c.args.rotten.now.marks.items) c.args.parts.now c.is_right.new.parts c.loop-number.number c.requires.answer only
          (c.if-not-is_right.ensures.sound refl) c.loop-number.invariant.below;
      only = only;
      fit = c.is_right.ensures.fit;
    }

pub returns-clause-none : goal.returns-clause-none
returns-clause-none c = λ none.
    all_tested (Has c.args.rotten.now.marks.items) c.args.parts.now.groups (cells_in held_units held_lost c.args.parts.now) c.loop-number.number c.requires.fit.groups
    (omega (arith, c.loop-number-test.false, c.loop-number.auto.number-end)) c.loop-number.invariant.below

pub returns-clause-only : goal.returns-clause-only
returns-clause-only c = c.loop-number.invariant.only
