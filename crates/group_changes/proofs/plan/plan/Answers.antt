use Rattle.std.proofs.Common.{◌+◌, ◌*◌, ◌≤◌, List, None, false, length, refl, replicate, sym, subst}
use Rattle.extents.specs.Condition.{Held}
use Rattle.extents.specs.Sizes.{extent_units}
use Rattle.extents.specs.declared.shape.TheConstants.{HEADER_BYTES}
use Rattle.extent_groups.specs.Cells.{Cells}
use Rattle.extent_groups.specs.Planned.{after}
use Rattle.group_form.specs.Form.{HasFormPlaces, HasGroups}
use Rattle.vault.specs.Images.{Image}
use Rattle.rotten_units.proofs.Reading.{read_more}
use Rattle.array_batch.specs.Batched.{HasAllDriveUnits}
use Rattle.array_batch.specs.Changes.{HasPartsWith}
use Rattle.group_changes.specs.Changed.{IsChanged}
use Rattle.array_batch.proofs.Planning.{outlives, planned}
use Rattle.array_batch.proofs.Settling.{none_lost}
use Rattle.group_changes.proofs.plan.plan.Goals as goal

pub put_array-requires : goal.put_array-requires
put_array-requires g c = record { few = subst (λ (l : List Held). length l ≤ 16) (sym c.deref_mut-drives.ensures.value) c.in_ok-parts.ensures.fit.most }

pub returns-in_err-put_array-clause-read : goal.returns-in_err-put_array-clause-read
returns-in_err-put_array-clause-read g c = λ known.
    read_more g.V.Vault.seen g.V.Vault.may_leave g.V.Vault.moment g.V.Vault.left_since c.args.vault.now c.load_drives.new.vault c.put_array.new.vault
    (c.load_drives.ensures.read known) (c.put_array.ensures.read (c.load_drives.ensures.stays known))

pub returns-clause-read : goal.returns-clause-read
returns-clause-read g c = λ known.
    read_more g.V.Vault.seen g.V.Vault.may_leave g.V.Vault.moment g.V.Vault.left_since c.args.vault.now c.load_drives.new.vault c.put_array.new.vault
    (c.load_drives.ensures.read known) (c.put_array.ensures.read (c.load_drives.ensures.stays known))

pub returns-clause-planned : goal.returns-clause-planned
returns-clause-planned g c = λ known what array ends.
    let stays = c.load_drives.ensures.stays known in
    let finds = (c.load_drives.ensures.read known).finds in
    let cells = Image.cells (g.V.Vault.seen c.args.vault.now) in
    let shape = c.args.shape.now in
    let caches = c.in_ok-caches.caches.items in
    let parts = c.in_ok-parts.parts in
    let batch = c.put_array.new.batch in
    let many = c.in_ok-caches.ensures.many in
    let lent = c.deref_mut-drives.ensures.value in
    let changed = subst (λ n. HasPartsWith (IsChanged c.args.change.now shape n c.args.groups) what n parts) many
    (c.in_ok-parts.ensures.changed array.tiers what array.shows
    (outlives what c.args.groups c.args.drives cells array (replicate 16 false) (none_lost 16) (shape.extents * extent_units shape.segments) (HEADER_BYTES + shape.payload) caches
    (c.in_ok-caches.ensures.units known) c.in_ok-caches.ensures.formed many
    (record { shape = shape; groups = c.args.groups; extents = c.args.extents; drives = c.in_ok-caches.caches; note = None }) refl refl)) in
    planned what c.args.groups c.args.drives cells array (IsChanged c.args.change.now shape c.args.drives c.args.groups) shape (λ g are. are.sizes) c.args.drives ends parts changed c.in_ok-parts.ensures.fit c.in_ok-parts.ensures.present batch
    (subst (λ (l : List Held). HasAllDriveUnits l (after cells batch)) lent (subst (λ (i : Image). HasAllDriveUnits c.deref_mut-drives.result.now (after i.cells batch)) finds (c.in_ok-put_array.ensures.units stays)))
    (subst (λ (l : List Held). (e : Cells) → HasFormPlaces e → HasGroups parts.groups (length l) (after e batch)) lent c.in_ok-put_array.ensures.groups) c.in_ok-put_array.ensures.marks
