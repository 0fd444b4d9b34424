-- What the table's write leaves, and what it says.
use Rattle.std.proofs.Common.{◌≡◌, ◌≢◌, ◌<◌, ◌≤◌, ◌⊎◌, inl, inr, ℕ, suc, arith, Bool, true, List, [], ◌∷◌, ◌++◌, length, map, sym, ◌∙◌, ap}
use Rattle.std.specs.Prelude.{slice_get, Some}
use Rattle.std.specs.Option.{option_map}
use Rattle.std.proofs.lemmas.Option.{slice_get-map, slice_get-get_or}
use Rattle.extent_groups.specs.declared.place.Place.{Place}
use Rattle.extent_groups.specs.Cells.{Cells}
use Rattle.extent_groups.specs.Planned.{Intended, over, after}
use Rattle.extent_groups.proofs.Finishing.{write_here, write_else}
use Rattle.vault.proofs.Writes.{after_both}
use Rattle.history.specs.declared.view.Entry.{Entry}
use Rattle.history.specs.Entries.{Course}
use Rattle.unit_store.specs.Views.{DriveView}
use Rattle.cached_drive.specs.Saving.{Units}
use Rattle.journaled_store.specs.Steps.{HasDrives, HasMarks, IsInStep, HasMarksAfter, LeadsTo, loss_mark, table_write, view_at, views_to}
use Rattle.journaled_store.proofs.Leading.{shown_at}

-- the batch is as it was, or has the table's write more
abbrev IsMore : List Intended → List ℕ → List Intended → Type 0
IsMore batch marks more = (more ≡ batch) ⊎ (more ≡ batch ++ table_write marks ∷ [])

nearby_table : (batch : List Intended) (marks : List ℕ) (c : Cells) (d at : ℕ) → d ≢ 16 → after c (batch ++ table_write marks ∷ []) d at ≡ after c batch d at
nearby_table batch marks c d at ne = ap (λ (e : Cells). e d at) (after_both batch (table_write marks ∷ []) c)
    ∙ write_else (after c batch) (table_write marks) (record { drive = d; address = at }) (λ e. ne (sym (ap (λ (p : Place). p.drive) e)))

pub other_units : (batch more : List Intended) (marks : List ℕ) (c : Cells) (d at : ℕ) → (more ≡ batch) ⊎ (more ≡ batch ++ table_write marks ∷ []) → d < 16 → after c more d at ≡ after c batch d at
other_units batch more marks c d at (inl same) low = ap (λ ws. after c ws d at) same
other_units batch more marks c d at (inr put) low = ap (λ ws. after c ws d at) put ∙ nearby_table batch marks c d at (λ e. absurd (omega (arith, e, low)))

-- the table's other units
pub other_table : (batch more : List Intended) (marks : List ℕ) (c : Cells) (at : ℕ) → (more ≡ batch) ⊎ (more ≡ batch ++ table_write marks ∷ []) → after c more 16 (suc at) ≡ after c batch 16 (suc at)
other_table batch more marks c at (inl same) = ap (λ ws. after c ws 16 (suc at)) same
other_table batch more marks c at (inr put) = ap (λ ws. after c ws 16 (suc at)) put
    ∙ (ap (λ (e : Cells). e 16 (suc at)) (after_both batch (table_write marks ∷ []) c)
    ∙ write_else (after c batch) (table_write marks) (record { drive = 16; address = suc at }) (λ e. let a = ap (λ (p : Place). p.address) e in absurd (omega (arith, a))))

pub table_step : (lost : List Bool) (k : Course Units) (batch more : List Intended) (marks : List ℕ) (c : Cells) → k.hired ≤ 16 → (more ≡ batch) ⊎ (more ≡ batch ++ table_write marks ∷ [])
    → IsInStep lost k batch c → IsInStep lost k more c
table_step lost k batch more marks c few is step = record { each = λ d at low on. other_units batch more marks c d at is (omega (arith, low, few)) ∙ step.each d at low on }

pub table_noted : (was now : List ℕ) (batch more : List Intended) (c : Cells) → (more ≡ batch) ⊎ (more ≡ batch ++ table_write now ∷ []) → (more ≡ batch → now ≡ was) → HasMarksAfter was batch c → HasMarksAfter now more c
table_noted was now batch more c (inl same) keeps noted = ap (λ ws. after c ws 16 0) same ∙ noted ∙ ap (λ m. Some m) (sym (keeps same))
table_noted was now batch more c (inr put) keeps noted =
    ap (λ ws. after c ws 16 0) put ∙ ap (λ (e : Cells). e 16 0) (after_both batch (table_write now ∷ []) c) ∙ write_here (after c batch) (table_write now) ∙ ap (λ o. over o now) noted

module _ (log : List (Entry Units)) (lost : List Bool) (n : ℕ) (drives : List DriveView) (is : drives ≡ views_to log lost n) (few : n ≤ 16) where
  seen_at : (d : ℕ) (v : DriveView) → slice_get drives d ≡ Some v → (d < n) × (v ≡ view_at log lost d)
  seen_at d v there = shown_at log lost n d v (ap (λ l. slice_get l d) (sym is) ∙ there)

  pub table_has : (gone : List Bool) (batch more : List Intended) (marks : List ℕ) (c : Cells) → (more ≡ batch) ⊎ (more ≡ batch ++ table_write marks ∷ [])
      → HasDrives gone drives (after c batch) → HasDrives gone drives (after c more)
  table_has gone batch more marks c put has = record {
    each = λ d at v there on. let low = (seen_at d v there).0 in other_units batch more marks c d at put (omega (arith, low, few)) ∙ has.each d at v there on;
  }

  pub shown_marks : (marks : List ℕ) → length lost ≡ 16 → marks ≡ map loss_mark lost → HasMarks drives marks
  shown_marks marks long reported = record {
    each = λ d v there.
        let one = seen_at d v there in
        let low = one.0 in
        ap (λ l. slice_get l d) reported ∙ slice_get-map loss_mark lost d ∙ ap (option_map loss_mark) (slice_get-get_or lost d true (omega (arith, low, few, long)))
        ∙ ap (λ (w : DriveView). Some (loss_mark w.lost)) (sym one.1);
  }

pub leads_noted : (k now : Course Units) (batch more : List Intended) (marks left : List ℕ) (c : Cells) → LeadsTo k batch marks now more left → HasMarksAfter marks batch c → HasMarksAfter left more c
leads_noted k now batch more marks left c leads noted = leads.others c 16 0 (omega arith) ∙ noted ∙ ap (λ m. Some m) (sym leads.noted)
