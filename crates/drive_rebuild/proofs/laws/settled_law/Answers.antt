use Rattle.array_store.specs.Blocks.{Holds}
use Rattle.journaled_store.specs.Left.{HasBoth, HasKeys}
use Rattle.drive_rebuild.proofs.Settling.{can_be}
use Rattle.drive_rebuild.proofs.laws.settled_law.Goals as goal

pub returns-clause-bytes : goal.returns-clause-bytes
returns-clause-bytes g c = λ vault tiers what lost units before shown one groups is lost_are long few wide ends.
    can_be Holds g.V.Vault.seen g.V.Vault.may_leave vault tiers what lost units before shown one groups is lost_are long few wide ends

pub returns-clause-map : goal.returns-clause-map
returns-clause-map g c = λ vault tiers what lost units before shown one groups is lost_are long few wide ends.
    can_be HasKeys g.V.Vault.seen g.V.Vault.may_leave vault tiers what lost units before shown one groups is lost_are long few wide ends

pub returns-clause-both : goal.returns-clause-both
returns-clause-both g c = λ vault tiers what lost units before shown one groups is lost_are long few wide ends.
    can_be HasBoth g.V.Vault.seen g.V.Vault.may_leave vault tiers what lost units before shown one groups is lost_are long few wide ends
