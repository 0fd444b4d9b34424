use Rattle.std.proofs.Common.{subst, sym}
use Rattle.extent_groups.specs.declared.place.Place.{Place}
use Rattle.file_vault.specs.Layouts.{IsBlank}
use Rattle.file_vault.specs.Vaults.{plan_of}
use Rattle.file_vault.specs.declared.layout.Layout.{Layout}
use Rattle.blank_array.specs.Files.{IsLayoutOf}
use Rattle.blank_array.proofs.Created.{drives_blank, form_places, of_four, table_blank}
use Rattle.blank_array.proofs.create.create_vault.Goals as goal

pub returns-clause-blank : goal.returns-clause-blank
returns-clause-blank g c = λ known groups drives is.
    of_four c.create.result _ _ _ _ _ c.create.ensures.layout (c.create.ensures.blank known) (c.create.ensures.empty known) (c.create.ensures.logged known)
    (λ v same blank empty logged.
    let here = subst (λ (l : Layout). IsLayoutOf l groups drives) (sym same) is in
    let zeros = subst (λ (l : Layout). (x : Place) → IsBlank (plan_of l) (g.F.Files.seen v.files) x) (sym same) blank in
    record {
      units = drives_blank v.layout groups drives here (g.F.Files.seen v.files) zeros;
      marks = table_blank v.layout groups drives here (g.F.Files.seen v.files) zeros;
      places = form_places v.layout groups drives here (g.F.Files.seen v.files) zeros;
      empty = empty;
      logged = logged;
    })
