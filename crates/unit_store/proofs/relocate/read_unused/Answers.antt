use Rattle.std.proofs.Common.{◌≡◌, ◌⊎◌, true, Some, length, sym, subst, ◌∙◌, ap}
use Rattle.std.specs.Prelude.{replicate}
use Rattle.extent_groups.specs.declared.place.Place.{Place}
use Rattle.extent_groups.specs.Cells.{cells, held}
use Rattle.extent_groups.specs.Calls.{IsPlace}
use Rattle.extent_groups.specs.Missing.{missing_of}
use Rattle.extent_groups.specs.Units.{place_of}
use Rattle.extent_groups.proofs.Elsewhere.{same_more}
use Rattle.extent_groups.proofs.Sites.{member_there}
use Rattle.extent_groups.proofs.StoreCalls.{drives_kept}
use Rattle.unit_store.proofs.Outcomes.{unused_had}
use Rattle.unit_store.proofs.relocate.read_unused.Goals as goal

pub read_or_clear-requires-clause-place : goal.read_or_clear-requires-clause-place
read_or_clear-requires-clause-place g c =
    subst (IsPlace g.D.Drive.units c.args.drives.now) (sym c.place_in.ensures)
    (member_there g.D.Drive.units c.args.groups.now c.args.drives.now c.args.at.group c.args.at.member c.args.offset c.args.at.from c.requires.route.drives_are c.requires.route.member c.requires.offset)

pub returns-clause-had : goal.returns-clause-had
returns-clause-had g c =
    unused_had g.D.Drive.units g.D.Drive.lost c.args.groups.now c.read_or_clear.new.drives c.args.at.group c.args.at.member c.args.offset c.args.at.from c.read_or_clear.new.unit
    c.requires.route.groups_are (drives_kept c.args.groups.now c.read_or_clear.ensures.touched c.requires.route.drives_are) c.requires.route.member c.requires.offset c.requires.role
    (subst (λ n. (held (cells g.D.Drive.units g.D.Drive.lost c.read_or_clear.new.drives) (place_of c.args.groups.now.segments c.args.offset c.args.at.from) ≡ Some c.read_or_clear.new.unit)
    ⊎ ((missing_of g.D.Drive.lost c.read_or_clear.new.drives c.args.at.from.drive ≡ true) × (c.read_or_clear.new.unit ≡ replicate n 0))) c.requires.unit
    (subst (λ (p : Place). (held (cells g.D.Drive.units g.D.Drive.lost c.read_or_clear.new.drives) p ≡ Some c.read_or_clear.new.unit)
    ⊎ ((missing_of g.D.Drive.lost c.read_or_clear.new.drives p.drive ≡ true) × (c.read_or_clear.new.unit ≡ replicate (length c.args.unit.now) 0))) c.place_in.ensures c.read_or_clear.ensures.reported))

pub returns-clause-elsewhere : goal.returns-clause-elsewhere
returns-clause-elsewhere g c =
    same_more c.args.drives.now c.read_or_clear.new.drives
    (λ d e. (c.args.at.member, c.args.at.from, c.requires.route.member, sym (e ∙ ap (λ (p : Place). p.drive) c.place_in.ensures)))
    c.read_or_clear.ensures.elsewhere
