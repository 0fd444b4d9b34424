use Rattle.std.proofs.Common.{sym, subst, rules}
use Rattle.extent_groups.specs.Groups.{Agree}
use Rattle.slot_tables.proofs.tables.new_tables.Goals as goal

pub returns : goal.returns
returns g c = record {
  sizes = c.in_ok-groups.ensures.shape;
  table = c.in_ok-groups.ensures.groups;
  empty = record { numbers = c.in_ok-groups.ensures.groups.numbers; free = c.in_ok-groups.ensures.free };
  agree = subst (Agree c.in_ok-groups.groups) (sym c.in_ok-extents.ensures) (c.in_ok-groups.ensures.agree c.args.drives);
  owners = c.in_ok-extents.ensures;
  keys = c.in_ok-keys.ensures.len;
  zero = c.in_ok-keys.ensures.zero;
  places = search rules;
  unit = search rules;
  scratch = search rules;
}
