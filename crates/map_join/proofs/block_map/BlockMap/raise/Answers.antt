use Rattle.std.proofs.Common.{◌%◌, ◌/◌, arith}
use Rattle.map_join.specs.Maps.{lone}
use Rattle.map_join.proofs.Paged.{raised_ok, absent_there, numbers_where}
use Rattle.map_join.proofs.block_map.BlockMap.raise.Goals as goal

pub invariant_of-self : goal.invariant_of-self
invariant_of-self c = numbers_where c.raise_key.result c.self.inside.pages.entries c.raise_key.new.pages.entries (c.args.block / 64) (lone (c.args.block % 64) c.args.key) (omega arith)
    c.self.invariant c.raise_key.ensures.ok c.raise_key.ensures.err

pub returns-clause-ok : goal.returns-clause-ok
returns-clause-ok c = rw (← c.self.view_is) (raised_ok c.raise_key.result c.self.inside.pages.entries c.raise_key.new.pages.entries c.args.block c.args.key c.raise_key.ensures.ok)

pub returns-clause-there : goal.returns-clause-there
returns-clause-there c = rw (← c.self.view_is) (absent_there c.raise_key.result c.self.inside.pages.entries c.args.block c.raise_key.ensures.absent)
