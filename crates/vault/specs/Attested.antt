-- Units that lie there, and those that were written last.
use Rattle.std.specs.Prelude.{◌≡◌, ℕ, true, is_some, Some, List}
use Rattle.extent_groups.specs.Cells.{Cells, held}
use Rattle.extent_groups.specs.declared.place.Place.{Place}
use Rattle.vault.specs.Images.{Image}

-- an image with other units, and the same journal
abbrev pub with_cells : Image → Cells → Image
with_cells i cells = record { cells = cells; journal = i.journal }

-- What lies at a place is the unit that was written last there, if it is attested; and if anything lies there a unit was written.
pub record IsLastIfAttested (attested : Place → Type 0) (written now : Cells) (x : Place) : Type 0 where
  pub there : is_some (held now x) ≡ true → is_some (held written x) ≡ true
  pub same : attested x → (unit : List ℕ) → held now x ≡ Some unit → held written x ≡ Some unit
