use Rattle.std.proofs.Common.{ap, sym, ◌∙◌}
use Rattle.extent_groups.specs.declared.class.Class.TheVariants.{Parity}
use Rattle.slot_tables.specs.Views.{ArrayView}
use Rattle.tiered_array.specs.Views.{TiersView}
use Rattle.tiered_array.proofs.Due.{open_found, open_none, open_lowest, open_shown}
use Rattle.tiered_array.proofs.tiers.Tiers.open_hole.Goals as goal

pub returns-in_default-clause-first : goal.returns-in_default-clause-first
returns-in_default-clause-first g c = open_none Parity c.args.self.now c.free_hole.new.self c.in_default.ensures.first

pub returns-then-not-is_gone-clause-first : goal.returns-then-not-is_gone-clause-first
returns-then-not-is_gone-clause-first g c =
    let m : TiersView = record { world = c.self.inside.world; planner = c.self.inside.planner; hints = c.self.inside.hints; holes = c.self.inside.holes } in
    rw (sym c.self.view_is) (open_lowest Parity c.args.self.now m c.array.result.now c.in-Some.lowest c.is_gone.result c.array.ensures c.is_gone.ensures c.if-not-is_gone.true
    (rw (sym c.self.view_is) at c.in-Some.ensures.first))

pub returns-clause-first : goal.returns-clause-first
returns-clause-first g c =
    let m : TiersView = record { world = c.self.inside.world; planner = c.self.inside.planner; hints = c.self.inside.hints; holes = c.self.inside.holes } in
    rw (sym c.self.view_is) (open_shown Parity c.args.self.now m c.groups.result.now c.in-Some.lowest c.first_parity.result
    (c.groups.ensures ∙ ap (λ (x : ArrayView). x.parts.groups) c.array-2.ensures) (rw (sym c.self.view_is) at c.in-Some.ensures.first) c.first_parity.ensures)

pub returns-clause-found : goal.returns-clause-found
returns-clause-found g c =
    let m : TiersView = record { world = c.self.inside.world; planner = c.self.inside.planner; hints = c.self.inside.hints; holes = c.self.inside.holes } in
    rw (sym c.self.view_is) (open_found Parity m c.groups.result.now c.first_parity.result (c.groups.ensures ∙ ap (λ (x : ArrayView). x.parts.groups) c.array-2.ensures) c.first_parity.ensures)
