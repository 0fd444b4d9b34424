-- Units that are attested, and those that were written last.
use Rattle.std.proofs.Common.{◌≡◌, ◌∙◌, ◌<◌, ℕ, Bool, true, Option, Some, is_some, List, length, slice_get, refl, sym, ap, arith}
use Rattle.std.proofs.lemmas.Option.{slice_get_within}
use Rattle.extents.specs.Condition.{Held}
use Rattle.extent_groups.specs.declared.place.Place.{Place}
use Rattle.extent_groups.specs.Cells.{Cells, held}
use Rattle.vault.specs.Images.{Image}
use Rattle.vault.specs.Moments.{IsAsAttested, IsUnitAt}
use Rattle.vault.specs.declared.store.UnitRead.{UnitRead}
use Rattle.vault.specs.declared.store.UnitRead.TheVariants.{Absent, Rotten, Whole}
use Rattle.rotten_units.specs.Loaded.{AreReadOrNoted}
use Rattle.array_recovery.specs.Found.{AreLastIfAttested, AreMarksIf, AreUnitsLastIfAttested, IsLastIfAttested}
use Rattle.array_recovery.proofs.Marking.{some_is}

-- where the marks lie
abbrev table : Place
table = record { drive = 16; address = 0 }

-- marks that were read are those that were written last, if they are known
pub marks_written : (attested : Place → Type 0) (written now : Cells) (out : List ℕ) (read : UnitRead) (known : Bool) → (known ≡ true → read ≡ Whole) → (read ≡ Absent → ⊥)
    → IsLastIfAttested attested written now table → IsAsAttested (attested table) read → IsUnitAt now table out read → AreMarksIf known out written
marks_written attested written now out Whole known whole there last is at = record { there = ap (λ o. is_some o) (last.same is out at); table = λ k. last.same is out at }
marks_written attested written now out Absent known whole there last is at = absurd (there refl)
marks_written attested written now out Rotten known whole there last is at = record {
  there = last.there (ap (λ o. is_some o) at.1);
  table = λ k. absurd (let never : Rotten ≡ Whole = whole k in cc);
}

-- what was read, but for noted places, is what was written last
pub read_written : (noted attested digest : Place → Type 0) (drives : ℕ) (lost : List Bool) (now written : Cells) (caches : List Held) → length caches ≡ drives
    → AreUnitsLastIfAttested attested drives lost written now → ((x : Place) → digest x → attested x) → AreReadOrNoted noted digest lost now caches → AreReadOrNoted noted digest lost written caches
read_written noted attested digest drives lost now written caches many last before are = record {
  each = λ d at m e not low.
      let is = are.each d at m e not low in
      let x : Place = record { drive = d; address = at } in
      let one = last x (let inside = slice_get_within caches d m e in omega (arith, inside, many)) not in
      record {
        there = one.there is.there;
        found = λ out. (let unit = some_is (held now x) is.there in one.same (before x (is.digest out)) unit.0 unit.1 ∙ sym unit.1 ∙ is.found out);
        digest = is.digest;
      };
}

-- what lies there now may be what was written last
pub as_found : (attested : Place → Type 0) (drives : ℕ) (absent : List Bool) (base : Image) → AreLastIfAttested attested drives absent base base.cells
as_found attested drives absent base = record {
  table = record { there = λ is. is; same = λ is unit e. e };
  each = λ marks is x low not. record { there = λ here. here; same = λ a unit e. e };
}
