-- The table's rows as owners: how wide they are, and one extent that gets another owner.
use Rattle.std.proofs.Common.{◌≡◌, ℕ, ◌<◌, Option, List, [], length, refl, sym, ◌∙◌, ap, arith, get_or, inl, inr}
use Rattle.std.specs.Prelude.{map, slice_set, unwrap_or, option_map}
use Rattle.std.proofs.lemmas.List.{map-set, length-map}
use Rattle.std.proofs.lemmas.Option.{slice_get_read, slice_get-map, slice_get_cases}
use Rattle.extents.specs.Owners.{Owners, owner_row, with_owner}
use Rattle.extents.specs.Rows.{owners_in, AreRows}
use Rattle.extents.specs.declared.table.Row.{Row}

-- the row of a drive is what its row of the table holds
owner_row-owners_in : (extents drive : ℕ) (rows : List Row) (was : Row) → drive < length rows → was ≡ get_or rows drive was → owner_row (owners_in extents rows) drive ≡ was.owners.items
owner_row-owners_in extents drive rows was h e =
    ap (λ o. unwrap_or o [])
    (slice_get-map (λ (row : Row). row.owners.items) rows drive
    ∙ ap (option_map (λ (row : Row). row.owners.items)) (slice_get_read rows (length rows) drive was refl h e))

-- the table with one row written is the owners with one extent set
pub owners_in-set : (extents drive extent : ℕ) (owner : Option ℕ) (rows : List Row) (was now : Row) → drive < length rows → was ≡ get_or rows drive was
    → now.owners.items ≡ slice_set was.owners.items extent owner → owners_in extents (slice_set rows drive now) ≡ with_owner (owners_in extents rows) drive extent owner
owners_in-set extents drive extent owner rows was now h e set_row =
    let f : Row → List (Option ℕ) = λ row. row.owners.items in
    let row : now.owners.items ≡ slice_set (owner_row (owners_in extents rows) drive) extent owner =
    set_row ∙ ap (λ r. slice_set r extent owner) (sym (owner_row-owners_in extents drive rows was h e)) in
    let all : map f (slice_set rows drive now) ≡ slice_set (map f rows) drive (slice_set (owner_row (owners_in extents rows) drive) extent owner) =
    map-set f rows drive now ∙ ap (λ r. slice_set (map f rows) drive r) row in
    ap (λ (rs : List (List (Option ℕ))). let o : Owners = record { extents = extents; rows = rs } in o) all

-- each row is as wide as the table says
pub wide-owners_in : (extents : ℕ) (rows : List Row) → AreRows extents rows → (drive : ℕ) → drive < length (owners_in extents rows).rows → length (owner_row (owners_in extents rows) drive) ≡ extents
wide-owners_in extents rows are drive within =
    let inside : drive < length rows = omega (arith, within, length-map rows (λ (row : Row). row.owners.items)) in
    elim (slice_get_cases rows drive).1 [
      | inl there ↦
          ap length (owner_row-owners_in extents drive rows there.0 there.1 (sym there.3))
          ∙ ap (λ (row : Row). length row.owners.items) (sym there.3) ∙ are.wide drive there.0 there.1
      | inr past ↦ absurd (omega (arith, past.0, inside))
    ]
