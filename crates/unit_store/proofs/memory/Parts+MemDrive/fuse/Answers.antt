use Rattle.std.proofs.Common.{◌≡◌, true, length, refl, sym, subst}
use Rattle.std.proofs.lemmas.Option.{slice_get_read}
use Rattle.std.specs.Vec.{with_item}
use Rattle.extents.specs.Condition.{is_gone}
use Rattle.extent_groups.proofs.Readiness.{fused_stays}
use Rattle.unit_store.specs.Memory.{held_units, held_lost}
use Rattle.unit_store.proofs.Setting.{set}
use Rattle.unit_store.proofs.memory.Parts+MemDrive.fuse.Goals as goal

pub returns-clause-units : goal.returns-clause-units
returns-clause-units c =
    (set held_units held_lost c.args.self.now (record { shape = c.args.self.now.shape; groups = c.args.self.now.groups; extents = c.args.self.now.extents; drives = with_item c.args.self.now.drives c.args.drive c.fuse.new.self; note = c.args.self.now.note })
    c.args.drive c.index_mut.result.now c.fuse.new.self c.requires.fit refl refl refl refl c.requires.drive
    (slice_get_read c.args.self.now.drives.items (length c.args.self.now.drives.items) c.args.drive c.index_mut.result.now refl c.requires.drive c.index_mut.ensures.value) c.fuse.ensures.units
    (λ gone. subst (λ k. is_gone k ≡ true) (sym c.fuse.ensures.condition) (fused_stays _ c.args.calls gone))).units

pub returns-clause-sound : goal.returns-clause-sound
returns-clause-sound c =
    (set held_units held_lost c.args.self.now (record { shape = c.args.self.now.shape; groups = c.args.self.now.groups; extents = c.args.self.now.extents; drives = with_item c.args.self.now.drives c.args.drive c.fuse.new.self; note = c.args.self.now.note })
    c.args.drive c.index_mut.result.now c.fuse.new.self c.requires.fit refl refl refl refl c.requires.drive
    (slice_get_read c.args.self.now.drives.items (length c.args.self.now.drives.items) c.args.drive c.index_mut.result.now refl c.requires.drive c.index_mut.ensures.value) c.fuse.ensures.units
    (λ gone. subst (λ k. is_gone k ≡ true) (sym c.fuse.ensures.condition) (fused_stays _ c.args.calls gone))).sound

pub returns-clause-fit : goal.returns-clause-fit
returns-clause-fit c =
    (set held_units held_lost c.args.self.now (record { shape = c.args.self.now.shape; groups = c.args.self.now.groups; extents = c.args.self.now.extents; drives = with_item c.args.self.now.drives c.args.drive c.fuse.new.self; note = c.args.self.now.note })
    c.args.drive c.index_mut.result.now c.fuse.new.self c.requires.fit refl refl refl refl c.requires.drive
    (slice_get_read c.args.self.now.drives.items (length c.args.self.now.drives.items) c.args.drive c.index_mut.result.now refl c.requires.drive c.index_mut.ensures.value) c.fuse.ensures.units
    (λ gone. subst (λ k. is_gone k ≡ true) (sym c.fuse.ensures.condition) (fused_stays _ c.args.calls gone))).fit
