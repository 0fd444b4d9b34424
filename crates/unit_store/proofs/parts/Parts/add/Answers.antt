use Rattle.std.proofs.Common.{refl, ap, ◌∙◌}
use Rattle.std.specs.Prelude.{◌++◌, ◌∷◌, []}
use Rattle.unit_store.proofs.Adding.{was_added, more_fit}
use Rattle.unit_store.proofs.parts.Parts.add.Goals as goal

pub returns-in-Ok-clause-ok : goal.returns-in-Ok-clause-ok
returns-in-Ok-clause-ok g c =
    was_added g.D.Drive.units g.D.Drive.lost g.D.Drive.failures c.args.self.now
    (record { shape = c.args.self.now.shape; groups = c.args.self.now.groups; extents = c.add_drive.new.self; drives = c.push_reserved.new.self; note = c.args.self.now.note })
    c.args.drive c.requires.fit
    (record { shape = refl; groups = refl; extents = c.in-Ok.ensures.ok; drives = c.push_reserved.ensures.items ∙ ap (λ xs. xs ++ c.args.drive ∷ []) c.reserve.ensures.items })
    c.requires.many c.requires.sized

pub returns-in-Ok-clause-fit : goal.returns-in-Ok-clause-fit
returns-in-Ok-clause-fit g c =
    more_fit g.D.Drive.units g.D.Drive.lost g.D.Drive.failures c.args.self.now
    (record { shape = c.args.self.now.shape; groups = c.args.self.now.groups; extents = c.add_drive.new.self; drives = c.push_reserved.new.self; note = c.args.self.now.note })
    c.args.drive c.requires.fit
    (record { shape = refl; groups = refl; extents = c.in-Ok.ensures.ok; drives = c.push_reserved.ensures.items ∙ ap (λ xs. xs ++ c.args.drive ∷ []) c.reserve.ensures.items })
    c.requires.many c.requires.sized c.requires.room
