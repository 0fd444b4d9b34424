use Rattle.std.proofs.Common.{rules, refl}
use Rattle.raid_c.specs.declared.status.Status.TheVariants as is
use Rattle.raid_c.proofs.newest.behkuna_newest.Goals as goal

pub returns-in-Ok-Some : goal.returns-in-Ok-Some
returns-in-Ok-Some c =
    let found = c.in-Ok-Some.ensures.ok in
    (is.Done, c.number.ensures, (found.0, found.1, search rules))

pub returns-in-Ok-None : goal.returns-in-Ok-None
returns-in-Ok-None c =
    let found = c.in-Ok-None.ensures.ok in
    (is.Absent, c.number-in-Ok-None.ensures, (found.0, found.1, search rules, refl))
