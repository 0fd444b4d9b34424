use Rattle.std.proofs.Common.{◌≡◌, ◌+◌, ◌-◌, ◌≤◌, List, None, length, refl, sym, ◌∙◌, subst, arith}
use Rattle.extents.specs.Condition.{Held}
use Rattle.extent_groups.specs.Cells.{Cells}
use Rattle.extent_groups.specs.Planned.{after}
use Rattle.unit_store.specs.declared.parts.Parts.{Parts}
use Rattle.group_form.specs.Form.{HasFormPlaces, HasGroups}
use Rattle.vault.specs.Images.{Image}
use Rattle.rotten_units.proofs.Reading.{read_more}
use Rattle.array_batch.specs.Batched.{HasAllDriveUnits}
use Rattle.drive_removal.proofs.Planning.{last_lost, outlives, removed}
use Rattle.drive_removal.proofs.plan.plan.Goals as goal

pub put_array-requires : goal.put_array-requires
put_array-requires g c = record { few = subst (λ (l : List Held). length l ≤ 16) (sym c.deref_mut-rest.ensures.value) c.in_ok-parts.ensures.few }

pub returns-in_err-put_array-clause-read : goal.returns-in_err-put_array-clause-read
returns-in_err-put_array-clause-read g c = λ known.
    read_more g.V.Vault.seen g.V.Vault.may_leave g.V.Vault.moment g.V.Vault.left_since c.args.vault.now c.load_others.new.vault c.put_array.new.vault
    (c.load_others.ensures.read known) (c.put_array.ensures.read (c.load_others.ensures.stays known))

pub returns-in_err-clear_marks-clause-read : goal.returns-in_err-clear_marks-clause-read
returns-in_err-clear_marks-clause-read g c = λ known.
    read_more g.V.Vault.seen g.V.Vault.may_leave g.V.Vault.moment g.V.Vault.left_since c.args.vault.now c.load_others.new.vault c.put_array.new.vault
    (c.load_others.ensures.read known) (c.put_array.ensures.read (c.load_others.ensures.stays known))

pub returns-clause-read : goal.returns-clause-read
returns-clause-read g c = λ known.
    read_more g.V.Vault.seen g.V.Vault.may_leave g.V.Vault.moment g.V.Vault.left_since c.args.vault.now c.load_others.new.vault c.put_array.new.vault
    (c.load_others.ensures.read known) (c.put_array.ensures.read (c.load_others.ensures.stays known))

pub returns-clause-planned : goal.returns-clause-planned
returns-clause-planned g c = λ known what array ends.
    let stays = c.load_others.ensures.stays known in
    let finds = (c.load_others.ensures.read known).finds in
    let cells = Image.cells (g.V.Vault.seen c.args.vault.now) in
    let shape = c.args.shape.now in
    let drives = c.args.drives in
    let caches = c.in_ok-caches.caches.items in
    let others = c.in_ok-caches.ensures.others known in
    let parts = c.in_ok-parts.parts in
    let batch = c.put_array.new.batch in
    let lent = c.deref_mut-rest.ensures.value in
    let four = c.requires.enough in
    let most = c.requires.few in
    let last : drives - 1 + 1 ≡ drives = omega (arith, four) in
    let read : Parts Held = record { shape = shape; groups = c.args.groups; extents = c.args.extents; drives = c.in_ok-caches.caches; note = None } in
    let short = c.in_ok-parts.ensures.shortened array.tiers what array.shows (outlives what c.args.groups drives cells array caches others read refl refl)
    (last_lost what c.args.groups drives cells array caches others (drives - 1) last read refl) (c.in_ok-caches.ensures.many ∙ sym last) (omega (arith, four)) in
    removed what c.args.groups drives cells array shape (drives - 1) (omega (arith, most)) ends parts short batch c.clear_marks.new.batch
    (subst (λ (l : List Held). HasAllDriveUnits l (after cells batch)) lent (subst (λ (i : Image). HasAllDriveUnits c.deref_mut-rest.result.now (after i.cells batch)) finds (c.in_ok-put_array.ensures.units stays)))
    (subst (λ (l : List Held). (e : Cells) → HasFormPlaces e → HasGroups parts.groups (length l) (after e batch)) lent c.in_ok-put_array.ensures.groups) c.in_ok-put_array.ensures.marks
    c.in_ok-clear_marks.ensures
