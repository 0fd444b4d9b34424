use Rattle.std.proofs.Common.{◌≡◌, length, ◌∙◌}
use Rattle.std.proofs.lemmas.List.{take_at}
use Rattle.tests_stores.proofs.rig.Rig.write.Goals as goal

pub invariant_of-self : goal.invariant_of-self
invariant_of-self g c =
    let whole : length c.write_pieces.new.drives ≡ c.args.self.now.drives.len = c.write_pieces.auto.drives ∙ c.deref_mut-drives.ensures.len in
    record { ready = rw (take_at c.write_pieces.new.drives _ _ whole) c.write_pieces.ensures.drives }

pub invariant_of-self-then-is_slot : goal.invariant_of-self-then-is_slot
invariant_of-self-then-is_slot g c =
    let whole : length c.write.new.drives ≡ c.args.self.now.drives.len = c.write.auto.drives ∙ c.deref_mut-drives.ensures.len in
    record { ready = rw (take_at c.write.new.drives _ _ whole) c.write.ensures.drives }

pub invariant_of-self-2 : goal.invariant_of-self-2
invariant_of-self-2 g c =
    let whole : length c.write-2.new.drives ≡ c.args.self.now.drives.len = c.write-2.auto.drives ∙ c.deref_mut-drives.ensures.len in
    record { ready = rw (take_at c.write-2.new.drives _ _ whole) c.write-2.ensures.drives }
