use Rattle.std.proofs.Common.{IfSome, subst}
use Rattle.extent_groups.specs.Cells.{cells}
use Rattle.extent_groups.proofs.Losses.{kept_fades}
use Rattle.consistency_check.specs.Sound.{IsUnsoundSlot}
use Rattle.consistency_check.proofs.Below.{unsound_before}
use Rattle.unit_store.proofs.Reading.{fares_back}
use Rattle.consistency_check.proofs.search.find_unsound.Goals as goal

pub returns-clause-fares : goal.returns-clause-fares
returns-clause-fares g c = fares_back c.args.parts.now.drives c.deref_mut-drives.result.now c.first_unsound.new.drives c.deref_mut-drives.ensures.value c.first_unsound.ensures.touched

pub returns-clause-before : goal.returns-clause-before
returns-clause-before g c =
    subst (λ ds. IfSome c.first_unsound.result (IsUnsoundSlot c.args.parts.now.groups (cells g.D.Drive.units g.D.Drive.lost ds))) c.deref_mut-drives.ensures.value
    (unsound_before c.args.parts.now.groups _ _ c.first_unsound.result (kept_fades c.first_unsound.ensures.touched) c.first_unsound.ensures.some)
