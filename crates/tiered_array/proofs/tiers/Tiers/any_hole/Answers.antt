use Rattle.extent_groups.specs.declared.class.Class.TheVariants.{Parity}
use Rattle.tiered_array.proofs.Due.{any_open, any_free}
use Rattle.tiered_array.proofs.tiers.Tiers.any_hole.Goals as goal

pub returns-in-Some-clause-first : goal.returns-in-Some-clause-first
returns-in-Some-clause-first g c = any_open Parity c.args.self.now c.open_hole.new.self c.in-Some.slot c.in-Some.ensures.first

pub returns-in-None-clause-first : goal.returns-in-None-clause-first
returns-in-None-clause-first g c =
    any_free Parity c.args.self.now c.open_hole.new.self c.free_hole.new.self c.free_hole.result c.in-None.ensures.first c.free_hole.ensures.first
