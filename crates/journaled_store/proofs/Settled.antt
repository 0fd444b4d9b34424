-- What the vault stands for once its journal is settled, but for lost drives.
use Rattle.std.proofs.Common.{◌≡◌, ◌≢◌, ◌≤◌, ℕ, zero, suc, arith, Bool, false, List, [], ◌∷◌, length, refl, sym, ◌∙◌, subst}
use Rattle.std.specs.Prelude.{Result, Ok, Err, OnOk, IfErr, slice_get}
use Rattle.extent_groups.specs.declared.place.Place.{Place}
use Rattle.extent_groups.specs.Cells.{Cells}
use Rattle.extent_groups.specs.Planned.{Intended, after}
use Rattle.vault.specs.Images.{Image, SameOn, flat, is_lost, is_some_true, recovered}
use Rattle.vault.specs.Moments.{AreLogged, IsSettled, IsPreserved as Still}
use Rattle.vault.specs.declared.store.Stop.{Stop}
use Rattle.vault.specs.declared.store.VaultError.{VaultError}
use Rattle.vault.specs.declared.store.VaultError.TheVariants as error
use Rattle.vault.proofs.Writes.{same_here}
use Rattle.history.specs.Entries.{Course}
use Rattle.unit_store.specs.Views.{DriveView}
use Rattle.cached_drive.specs.Saving.{Units}
use Rattle.extent_groups.specs.Groups.{Groups}
use Rattle.group_form.specs.Form.{HasGroups}
use Rattle.journaled_store.specs.Steps.{IsPersisted, IsUpToDate, SameTable, UnlessJournal}

-- past the last mark there is none
pub no_mark : (marks : List Bool) (n : ℕ) → length marks ≤ n → is_some_true (slice_get marks n) ≡ false
no_mark [] n le = refl
no_mark (m ∷ marks) zero le = absurd (omega (arith, le))
no_mark (m ∷ marks) (suc n) le = no_mark marks n (omega (arith, le))

-- the table is on no lost drive
pub table_there : (lost : List Bool) → length lost ≡ 16 → is_lost lost 16 ≡ false
table_there lost long = no_mark lost 16 (omega (arith, long))

abbrev place_at : ℕ → ℕ → Place
place_at drive address = record { drive = drive; address = address }

pub live_on : (lost : List Bool) (k : Course Units) (marks : List ℕ) (batch : List Intended) (c d : Cells) → is_lost lost 16 ≡ false → SameOn lost d c
    → IsUpToDate lost k marks batch c → IsUpToDate lost k marks batch d
live_on lost k marks batch c d table same live = record {
  step = record { each = λ n at low on. same_here batch d c (place_at n at) (same (place_at n at) on) ∙ live.step.each n at low on };
  noted = same_here batch d c (place_at 16 0) (same (place_at 16 0) table) ∙ live.noted;
  rest = λ at. same_here batch d c (place_at 16 (suc at)) (same (place_at 16 (suc at)) table) ∙ (live.rest at ∙ sym (same (place_at 16 (suc at)) table));
}

-- the same table, where it is on no lost drive
pub table_on : (lost : List Bool) (c d : Cells) → is_lost lost 16 ≡ false → SameOn lost d c → SameTable d c
table_on lost c d table same at = same (place_at 16 (suc at)) table

pub tables_on : (b c d : Cells) → SameTable d c → SameTable c b → SameTable d b
tables_on b c d one two at = one at ∙ two at

-- the groups of the same table
pub groups_on : (groups : Groups) (count : ℕ) (c d : Cells) → SameTable d c → HasGroups groups count c → HasGroups groups count d
groups_on groups count c d same has = record { each = λ u low. same u ∙ has.each u low; last = same 1024 ∙ has.last }

pub kept_on : (lost : List Bool) (drives : List DriveView) (c d : Cells) → is_lost lost 16 ≡ false → SameOn lost d c → IsPersisted lost drives c → IsPersisted lost drives d
kept_on lost drives c d table same kept = record {
  has = record { each = λ n at v there on. same (place_at n at) on ∙ kept.has.each n at v there on };
  marks = kept.marks;
  noted = same (place_at 16 0) table ∙ kept.noted;
  reported = kept.reported;
}

-- another failure than the journal's
pub not_journal : (e : VaultError) (P : Type 0) → (e ≡ error.Journal → ⊥) → UnlessJournal (Err e) P → P
not_journal error.Journal P never p = absurd (never refl)
not_journal error.Memory P never p = p
not_journal error.Misfit P never p = p
not_journal (error.Drive d) P never p = p

-- what a vault's settling says, by its outcome
module _ {V : Type 0} (seen : V → Image) (may_leave : V → Stop → Image → Type 0) (lost : List Bool) (old new : V) where
  pub empty_after : (r : Result (Unit {0}) VaultError) → OnOk r (IsSettled seen may_leave lost old new) → OnOk r ((seen new).journal ≡ [])
  empty_after (Ok x) settled = settled.empty
  empty_after (Err e) settled = tt

  emptied_units : IsSettled seen may_leave lost old new → SameOn lost (recovered (seen new)) (recovered (seen old))
  emptied_units settled = subst (λ b. SameOn lost (after (seen new).cells (flat b)) (recovered (seen old))) (sym settled.empty) settled.cells

  pub units_after : (r : Result (Unit {0}) VaultError) → OnOk r (IsSettled seen may_leave lost old new) → IfErr r (λ e. e ≢ error.Journal → Still seen may_leave lost old new)
      → UnlessJournal r (SameOn lost (recovered (seen new)) (recovered (seen old)))
  units_after (Ok x) settled kept = emptied_units settled
  units_after (Err error.Journal) settled kept = tt
  units_after (Err error.Memory) settled kept = (kept (λ e. cc)).cells
  units_after (Err error.Misfit) settled kept = (kept (λ e. cc)).cells
  units_after (Err (error.Drive d)) settled kept = (kept (λ e. cc)).cells

  pub logged_after : (r : Result (Unit {0}) VaultError) → OnOk r (IsSettled seen may_leave lost old new) → IfErr r (λ e. e ≢ error.Journal → Still seen may_leave lost old new)
      → UnlessJournal r (AreLogged seen may_leave lost new)
  logged_after (Ok x) settled kept = settled.durable
  logged_after (Err error.Journal) settled kept = tt
  logged_after (Err error.Memory) settled kept = (kept (λ e. cc)).durable
  logged_after (Err error.Misfit) settled kept = (kept (λ e. cc)).durable
  logged_after (Err (error.Drive d)) settled kept = (kept (λ e. cc)).durable
