use Rattle.std.proofs.Common.{sym}
use Rattle.extent_groups.specs.declared.class.Class.TheVariants.{Parity}
use Rattle.extent_groups.specs.Stores.{IsSlotOf}
use Rattle.tiered_array.specs.Hints.{IsHinted}
use Rattle.tiered_array.specs.Inside.{IsFreeHere}
use Rattle.tiered_array.specs.Views.{TiersView}
use Rattle.tiered_array.proofs.Standing.{found_free, finds_hole}
use Rattle.tiered_array.proofs.tiers.Tiers.free_hole.Goals as goal

pub returns-clause-first : goal.returns-clause-first
returns-clause-first g c =
    let t : TiersView = record { world = c.self.inside.world; planner = c.self.inside.planner; hints = c.self.inside.hints; holes = c.self.inside.holes } in
    rw (sym c.self.view_is) (finds_hole t c.first.new.self c.first.result c.first.ensures.first (λ s h f. c.first.ensures.keeps s h f))

pub returns-clause-found : goal.returns-clause-found
returns-clause-found g c =
    let t : TiersView = record { world = c.self.inside.world; planner = c.self.inside.planner; hints = c.self.inside.hints; holes = c.self.inside.holes } in
    found_free (IsHinted t.holes) (IsSlotOf Parity t.world.array.parts.groups) (IsFreeHere t.world) c.first.result c.first.ensures.first
