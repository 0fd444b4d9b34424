use Rattle.std.proofs.Common.{◌++◌, ◌∷◌, [], ℕ, List, Option, is_some, ap, ◌∙◌}
use Rattle.extent_groups.specs.declared.place.Place.{Place}
use Rattle.extent_groups.specs.Cells.{Cells}
use Rattle.extent_groups.specs.Planned.{Intended, after}
use Rattle.vault.specs.Images.{flat}
use Rattle.vault.proofs.Writes.{torn_here, after_last}
use Rattle.journaled_store.proofs.append.append.Goals as goal

pub returns-clause-ok : goal.returns-clause-ok
returns-clause-ok g c known d at =
    let old = g.V.Vault.seen c.args.vault.now in
    let new = g.V.Vault.seen c.add.new.vault in
    let batch = c.args.changes.now.batch in
    let x : Place = record { drive = d; address = at } in
    let same = c.in_ok-add.ensures.cells known x in
    ap (λ (b : List (List Intended)). after new.cells (flat b) d at) (c.in_ok-add.ensures.journal known)
    ∙ torn_here (flat (old.journal ++ batch ∷ [])) new.cells old.cells x (ap (λ (o : Option (List ℕ)). is_some o) same) (λ never. same)
    ∙ ap (λ (e : Cells). e d at) (after_last old batch)
