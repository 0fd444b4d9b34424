use Rattle.extent_groups.specs.declared.class.Class.TheVariants.{Mirrored}
use Rattle.tiered_array.proofs.Due.{any_open, any_free}
use Rattle.tiered_array.proofs.tiers.Tiers.any_mirror.Goals as goal

pub returns-in-Some-clause-first : goal.returns-in-Some-clause-first
returns-in-Some-clause-first g c = any_open Mirrored c.args.self.now c.open_mirror.new.self c.in-Some.slot c.in-Some.ensures.first

pub returns-in-None-clause-first : goal.returns-in-None-clause-first
returns-in-None-clause-first g c =
    any_free Mirrored c.args.self.now c.open_mirror.new.self c.free_mirror.new.self c.free_mirror.result c.in-None.ensures.first c.free_mirror.ensures.first
