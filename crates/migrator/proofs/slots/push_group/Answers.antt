use Rattle.std.proofs.Common.{◌≡◌, subst, Some}
use Rattle.extent_groups.specs.Groups.{class_in, group_at}
use Rattle.migrator.proofs.Picks.{none_here}
use Rattle.migrator.proofs.slots.push_group.Goals as goal

pub returns-then-not-is_of : goal.returns-then-not-is_of
returns-then-not-is_of g c =
    none_here c.args.class c.args.groups.now (g.P.Picks.group_is c.args.which.now) (g.P.Picks.slot_is c.args.which.now) c.args.group c.args.slots.now.items
    (λ s own p.
    let is = c.is_of.ensures.1 (subst (λ n. class_in (group_at c.args.groups.now n) ≡ Some c.args.class) own p.slot_of.made) in
    let isnt = c.if-not-is_of.true in
    absurd (cc))
    c.requires.lower

pub returns-then-not-picks_group : goal.returns-then-not-picks_group
returns-then-not-picks_group g c =
    none_here c.args.class c.args.groups.now (g.P.Picks.group_is c.args.which.now) (g.P.Picks.slot_is c.args.which.now) c.args.group c.args.slots.now.items
    (λ s own p.
    let is = c.picks_group.ensures.1 (subst (g.P.Picks.group_is c.args.which.now) own p.group_too) in
    let isnt = c.if-not-picks_group.true in
    absurd (cc))
    c.requires.lower
