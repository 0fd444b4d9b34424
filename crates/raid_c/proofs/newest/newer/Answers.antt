use Rattle.std.proofs.Common.{subst}
use Rattle.raid_c.specs.Newest.{IsNewest}
use Rattle.raid_c.proofs.Greatest.{another, first, later}
use Rattle.raid_c.proofs.newest.newer.Goals as goal

pub returns-then-record-block : goal.returns-then-record-block
returns-then-record-block c = λ records was. another records c.args.block c.args.newest c.args.record c.if-record-block.true was

pub returns-in-Some : goal.returns-in-Some
returns-in-Some c = λ records was.
    later records c.args.block c.in-Some.kept c.args.record c.later.result c.if-record-block.false c.later.ensures.kept c.later.ensures.newer
    (subst (λ o. IsNewest records c.args.block o) c.in-Some.is was)

pub returns-in-None : goal.returns-in-None
returns-in-None c = λ records was. first records c.args.block c.args.record c.if-record-block.false (subst (λ o. IsNewest records c.args.block o) c.in-None.is was)
