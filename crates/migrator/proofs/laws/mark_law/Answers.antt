use Rattle.migrator.specs.Ages.{IsMarked}
use Rattle.migrator.specs.Slots.{IsMirrored}
use Rattle.migrator.proofs.Oldest.{oldest_same}
use Rattle.migrator.proofs.laws.mark_law.Goals as goal

pub returns : goal.returns
returns c order groups keys marks chosen alike =
    oldest_same order (IsMarked marks) (IsMirrored groups keys) chosen (λ b. (alike b).0) (λ b. (alike b).1)
