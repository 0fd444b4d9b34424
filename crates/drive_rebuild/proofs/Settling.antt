-- A vault that a store has settled is one whose lost drive can be replaced.
use Rattle.std.proofs.Common.{◌≡◌, ◌<◌, ◌≤◌, inl, inr, ℕ, zero, suc, Bool, true, false, Option, Some, List, [], ◌∷◌, length, slice_get, refl, sym, ◌∙◌, ap, arith}
use Rattle.std.specs.Prelude.{◌==◌, not, slice_index_or}
use Rattle.std.proofs.lemmas.Bool.{true≢false}
use Rattle.std.proofs.lemmas.Option.{same_Some, slice_get_cases}
use Rattle.extent_groups.specs.Missing.{is_missing}
use Rattle.unit_store.specs.Views.{DriveView, drive_lost, lost_of}
use Rattle.tiered_array.specs.Views.{TiersView}
use Rattle.vault.specs.Images.{Image, is_lost, recovered}
use Rattle.vault.specs.declared.store.Stop.{Stop}
use Rattle.extent_groups.specs.Cells.{Cells}
use Rattle.group_form.specs.Form.{HasGroups}
use Rattle.journaled_store.specs.Left.{MissesOne}
use Rattle.journaled_store.specs.Outlasting.{parts_of}
use Rattle.journaled_store.specs.Steps.{IsEmptied, loss_mark}
use Rattle.journaled_store.proofs.Opening.{is_lost_in}
use Rattle.journaled_store.proofs.Settled.{groups_on, table_there}
use Rattle.array_recovery.specs.Found.{IsTable, is_marked}
use Rattle.array_recovery.specs.Reopened.{EndsAt}
use Rattle.array_recovery.proofs.Marking.{index_is}
use Rattle.drive_rebuild.specs.Rebuilt.{AreMarkedLost, CanBeRebuilt}
use Rattle.drive_rebuild.proofs.Rebuilding.{mark_says, past_marks}
use Rattle.drive_rebuild.proofs.Shown.{there}

lost_index : (lost : List Bool) (d : ℕ) → d < length lost → is_lost lost d ≡ slice_index_or lost d true
lost_index [] d low = absurd (omega (arith, low))
lost_index (l ∷ ls) zero low = refl
lost_index (l ∷ ls) (suc d) low = lost_index ls d (omega (arith, low))

module _ {V X : Type 0} (shows : TiersView → X → Type 0) (seen : V → Image) (may_leave : V → Stop → Image → Type 0) (vault : V) (tiers : TiersView) (what : X) (lost : List Bool) (units : ℕ) (before : Cells)
    (shown : shows tiers what) (one : MissesOne (parts_of tiers).drives) (groups : HasGroups (parts_of tiers).groups (length (parts_of tiers).drives) before)
    (is : IsEmptied seen may_leave lost before vault (parts_of tiers).drives)
    (lost_are : (d : ℕ) → d < 16 → slice_index_or lost d true ≡ lost_of (parts_of tiers) d) (long : length lost ≡ 16) (few : length (parts_of tiers).drives ≤ 16)
    (wide : (marks : List ℕ) → IsTable marks (recovered (seen vault)) → length marks ≡ 16) (ends : EndsAt [] (length (parts_of tiers).drives) units (recovered (seen vault))) where
  abbrev drives : List DriveView
  drives = (parts_of tiers).drives

  gone_is : (d : ℕ) → d < 16 → is_lost lost d ≡ lost_of (parts_of tiers) d
  gone_is d low = lost_index lost d (omega (arith, low, long)) ∙ lost_are d low

  mark_is : (marks : List ℕ) → IsTable marks (recovered (seen vault)) → (d : ℕ) → d < length drives → is_lost lost d ≡ is_marked marks d
  mark_is marks table d low =
      let v = there drives d low in
      let same : marks ≡ is.kept.marks = same_Some _ _ (sym table ∙ is.kept.noted) in
      gone_is d (omega (arith, low, few)) ∙ ap (is_missing drive_lost) v.1 ∙ sym (mark_says v.0.lost)
      ∙ sym (ap (λ (l : List ℕ). is_marked l d) same ∙ ap (λ m. not (m == 0)) (index_is is.kept.marks d (loss_mark v.0.lost) (is.kept.reported.each d v.0 v.1)))

  rest : (marks : List ℕ) → IsTable marks (recovered (seen vault)) → (d : ℕ) → is_lost lost d ≡ false → is_marked marks d ≡ false
  rest marks table d out = elim (slice_get_cases drives d).1 [
    | inl some ↦ sym (mark_is marks table d some.1) ∙ out
    | inr none ↦ (elim (slice_get_cases lost d).1 [
      | inl some ↦
          (let low = some.1 in
          absurd (true≢false (sym (gone_is d (omega (arith, low, long)) ∙ ap (is_missing drive_lost) none.1) ∙ out)))
      | inr past ↦ past_marks marks d (let high = past.0 in let all = wide marks table in omega (arith, high, all, long))
    ])
  ]

  pub can_be : CanBeRebuilt shows seen may_leave what (parts_of tiers).groups (length drives) units vault
  can_be = record {
    left = record {
      tiers = tiers;
      shown = shown;
      groups_are = refl;
      many = refl;
      table = groups_on (parts_of tiers).groups (length drives) before (recovered (seen vault)) is.rest groups;
      one = one;
      lost = lost;
      kept = is.kept;
      excused = λ d low gone. inr (is_lost_in (parts_of tiers) d low (sym (gone_is d (omega (arith, low, few))) ∙ gone));
    };
    ends = ends;
    lost = lost;
    lost_are = record { table = table_there lost long; each = mark_is; rest = rest };
    logged = is.durable;
  }
