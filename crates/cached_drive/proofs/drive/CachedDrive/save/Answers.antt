use Rattle.std.proofs.Common.{ℕ, List, [], false, sym, subst, refl}
use Rattle.std.specs.Prelude.{Contains}
use Rattle.history.specs.Entries.{entry}
use Rattle.cached_drive.specs.Saving.{AreDirtyMarks, AreSaved, last_of}
use Rattle.cached_drive.proofs.Bringing.{saved_now}
use Rattle.cached_drive.proofs.Marking.{is_listed, none_marked}
use Rattle.cached_drive.proofs.drive.CachedDrive.save.Goals as goal

pub put_written-requires-clause-inside : goal.put_written-requires-clause-inside
put_written-requires-clause-inside g c at has =
    c.args.self.now.saved.inside at (subst (λ (l : List ℕ). Contains l at) c.deref-dirty.ensures.value has)

pub invariant_of-self-2-clause-saved : goal.invariant_of-self-2-clause-saved
invariant_of-self-2-clause-saved g c =
    let units = c.put_written.new.cache.units in
    let me = c.check.new.me in
    subst (λ (l : List ℕ). AreSaved false l (last_of [] c.note.new.me.mine) units) (sym c.clear.ensures.items)
    (saved_now units me.mine c.note.new.me.mine (entry me.number units) c.note.ensures.noted.mine refl)

pub unmark_all-requires : goal.unmark_all-requires
unmark_all-requires g c at mark =
    let d = c.args.self.now in
    subst (λ (l : List ℕ). Contains l at) (sym c.deref.ensures.value) (is_listed d.marks.items d.dirty.items at d.marked mark)

pub invariant_of-self-2-clause-marked : goal.invariant_of-self-2-clause-marked
invariant_of-self-2-clause-marked g c =
    subst (AreDirtyMarks c.unmark_all.new.marks.items) (sym c.clear.ensures.items) (none_marked c.unmark_all.new.marks.items c.unmark_all.ensures)
