use Rattle.std.proofs.Common.{◌<◌, ap, length, arith}
use Rattle.std.proofs.lemmas.List.{length-map}
use Rattle.extents.specs.Owners.{Owners}
use Rattle.extents.proofs.Setting.{owners_in-set}
use Rattle.extents.specs.declared.table.Row.{Row}
use Rattle.extents.proofs.table.ExtentTable.set_owner.Goals as goal

pub returns : goal.returns
returns c =
    let there : c.args.drive < length c.self.inside.rows.items =
    omega (arith, c.requires.within, ap (λ (o : Owners). length o.rows) c.self.view_is, length-map c.self.inside.rows.items (λ (row : Row). row.owners.items)) in
    rw (← c.self.view_is) (owners_in-set _ c.args.drive c.args.extent c.args.owner _ _ _ there c.index_mut.ensures.value c.set.ensures)
