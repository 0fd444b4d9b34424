use Rattle.std.proofs.Common.{length, refl}
use Rattle.std.proofs.lemmas.Option.{slice_get_read}
use Rattle.std.specs.Vec.{with_item}
use Rattle.unit_store.proofs.Setting.{set}
use Rattle.unit_store.proofs.parts.Parts.lose.Goals as goal

pub returns-clause-units : goal.returns-clause-units
returns-clause-units g c =
    (set g.D.Drive.units g.D.Drive.lost c.args.self.now (record { shape = c.args.self.now.shape; groups = c.args.self.now.groups; extents = c.args.self.now.extents; drives = with_item c.args.self.now.drives c.args.drive c.lose.new.self; note = c.args.self.now.note })
    c.args.drive c.index_mut.result.now c.lose.new.self c.requires.fit refl refl refl refl c.requires.drive
    (slice_get_read c.args.self.now.drives.items (length c.args.self.now.drives.items) c.args.drive c.index_mut.result.now refl c.requires.drive c.index_mut.ensures.value) c.lose.ensures.units
    (λ gone. c.lose.ensures.lost)).units

pub returns-clause-sound : goal.returns-clause-sound
returns-clause-sound g c =
    (set g.D.Drive.units g.D.Drive.lost c.args.self.now (record { shape = c.args.self.now.shape; groups = c.args.self.now.groups; extents = c.args.self.now.extents; drives = with_item c.args.self.now.drives c.args.drive c.lose.new.self; note = c.args.self.now.note })
    c.args.drive c.index_mut.result.now c.lose.new.self c.requires.fit refl refl refl refl c.requires.drive
    (slice_get_read c.args.self.now.drives.items (length c.args.self.now.drives.items) c.args.drive c.index_mut.result.now refl c.requires.drive c.index_mut.ensures.value) c.lose.ensures.units
    (λ gone. c.lose.ensures.lost)).sound

pub returns-clause-fit : goal.returns-clause-fit
returns-clause-fit g c =
    (set g.D.Drive.units g.D.Drive.lost c.args.self.now (record { shape = c.args.self.now.shape; groups = c.args.self.now.groups; extents = c.args.self.now.extents; drives = with_item c.args.self.now.drives c.args.drive c.lose.new.self; note = c.args.self.now.note })
    c.args.drive c.index_mut.result.now c.lose.new.self c.requires.fit refl refl refl refl c.requires.drive
    (slice_get_read c.args.self.now.drives.items (length c.args.self.now.drives.items) c.args.drive c.index_mut.result.now refl c.requires.drive c.index_mut.ensures.value) c.lose.ensures.units
    (λ gone. c.lose.ensures.lost)).fit
