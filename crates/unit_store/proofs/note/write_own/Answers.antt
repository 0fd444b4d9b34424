use Rattle.std.proofs.Common.{sym, subst}
use Rattle.extent_groups.specs.Calls.{AreSized}
use Rattle.extent_groups.specs.Stores.{IsOwnOf}
use Rattle.extent_groups.proofs.DriveCalls.{keeps_more}
use Rattle.extent_groups.proofs.StoreCalls.{drives_kept}
use Rattle.unit_store.proofs.note.write_own.Goals as goal

pub write_place-requires-clause-inside : goal.write_place-requires-clause-inside
write_place-requires-clause-inside g c = c.requires.place.inside

pub write_place-requires-clause-size : goal.write_place-requires-clause-size
write_place-requires-clause-size g c = subst (λ n. AreSized g.D.Drive.units n c.args.drives.now) (sym c.requires.unit) c.requires.drives.sized

pub returns-clause-touched : goal.returns-clause-touched
returns-clause-touched g c = keeps_more (λ x same. subst (IsOwnOf c.args.groups.now c.args.slot) (sym same) c.requires.own) c.write_place.ensures.drives

pub returns-clause-drives : goal.returns-clause-drives
returns-clause-drives g c = drives_kept _ c.write_place.ensures.drives c.requires.drives
