use Rattle.std.proofs.Common.{List, ℕ, subst}
use Rattle.std.specs.Prelude.{slice_index_or}
use Rattle.vault.specs.declared.batch.Entry.{Entry}
use Rattle.vault.specs.Entries.{IsUnitOf}
use Rattle.vault.proofs.Held.{is_unit_at, within_here, same_part}
use Rattle.vault.proofs.batch.kept_at.Goals as goal

pub returns-in-Some-clause-at : goal.returns-in-Some-clause-at
returns-in-Some-clause-at c =
    let none : Entry = record { place = record { drive = 0; address = 0 }; from = 0; to = 0 } in
    let units = c.args.units.now.items in
    let es = c.args.entries.now in
    let k = c.in-Some.index in
    let e = slice_index_or es k none in
    let within = within_here units es k none c.requires c.in-Some.ensures.inside in
    let is = subst (λ (l : List ℕ). IsUnitOf l es k c.args.unit.now) c.deref.ensures.value c.in-Some.ensures.some in
    same_part units c.args.unit.now e.from e.to within.0 within.1 (is_unit_at units es k none c.args.unit.now is)
