use Rattle.std.proofs.Common.{◌≡◌, length, sym, ◌∙◌, subst}
use Rattle.std.proofs.lemmas.List.{take_at}
use Rattle.extents.specs.Condition.{Held}
use Rattle.extent_groups.specs.Stores.{AreDrives}
use Rattle.extent_groups.proofs.StoreCalls.{drives_kept}
use Rattle.tests_stores.proofs.rig.Rig.wipe.Goals as goal

pub invariant_of-self : goal.invariant_of-self
invariant_of-self g c =
    let whole : length c.wipe_extent.new.drives ≡ c.args.self.now.drives.len = c.wipe_extent.auto.drives ∙ c.deref_mut-drives.ensures.len in
    record {
      ready = rw (take_at c.wipe_extent.new.drives _ _ whole)
          (drives_kept c.args.self.now.groups c.wipe_extent.ensures.touched
          (subst (AreDrives {D = Held} (λ m. m.units) c.args.self.now.groups) (sym c.deref_mut-drives.ensures.value) c.args.self.now.ready));
    }
