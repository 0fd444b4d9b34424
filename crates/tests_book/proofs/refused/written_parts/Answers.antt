use Rattle.std.proofs.Common.{sym, subst}
use Rattle.extent_groups.specs.Groups.{Groups}
use Rattle.extent_groups.specs.Stores.{AreSound}
use Rattle.unit_store.proofs.Calls.{shows_in}
use Rattle.unit_store.specs.Memory.{held_units, held_lost, held_failures}
use Rattle.unit_store.specs.Slots.{cells_in}
use Rattle.unit_store.specs.Views.{PartsView, Shows}
use Rattle.tests_book.proofs.refused.written_parts.Goals as goal

-- the array's slots are sound, so they are once it is taken apart, and once one of them is written
pub returns-clause-sound : goal.returns-clause-sound
returns-clause-sound g c =
    let shown = c.grouped-array.ensures.shows in
    let apart = subst (λ (v : PartsView). Shows v shown.0.units) (sym c.in-Ok.ensures.parts) shown.1.units in
    let before = (shows_in held_units held_lost held_failures c.in-Ok.parts shown.0.units apart).sound in
    subst (λ (t : Groups). AreSound t (cells_in held_units held_lost c.write.new.self)) (sym c.write.ensures.tables.groups) (c.write.ensures.wrote.sound before)
