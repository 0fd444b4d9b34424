-- What the files of a new vault hold.
use Rattle.std.proofs.Common.{◌≡◌, ◌≢◌, inl, inr, ℕ, suc, ◌+◌, ◌<◌, ◌≤◌, true, false, if◌then◌else◌, nat_lt, Some, None, List, [], length, replicate, sym, ap, ◌∙◌, subst, arith}
use Rattle.std.specs.Prelude.{◌==◌, is_some, get_or, slice_set, Result, Ok, Err, IfOk}
use Rattle.std.proofs.lemmas.Bool.Decides.{nat_tests}
use Rattle.std.proofs.lemmas.List.{get_or-set_other, get_or-set_same}
use Rattle.extent_groups.specs.declared.place.Place.{Place}
use Rattle.extent_groups.specs.Cells.{Cells}
use Rattle.extent_groups.specs.Groups.{Groups}
use Rattle.extent_groups.specs.Stores.{unit_bytes}
use Rattle.extent_groups.proofs.Places.{same_or_not}
use Rattle.group_form.specs.Form.{HasFormPlaces}
use Rattle.array_recovery.specs.Found.{IsTable}
use Rattle.file_vault.specs.Folders.{Folder}
use Rattle.file_vault.specs.Layouts.{IsBlank, cells_of, count_of, size_of, unit_in_file}
use Rattle.file_vault.specs.Vaults.{plan_of}
use Rattle.file_vault.specs.declared.layout.Layout.{Layout}
use Rattle.blank_array.specs.Blank.{AreBlank, unit_count}
use Rattle.blank_array.specs.Files.{IsLayoutOf}

below_is : (a b : ℕ) → a < b → nat_lt a b ≡ true
below_is a b low = grind (arith, nat_tests)

above_is : (a b : ℕ) → b ≤ a → nat_lt a b ≡ false
above_is a b high = grind (arith, nat_tests)

not_equal : (a b : ℕ) → a ≢ b → (a == b) ≡ false
not_equal a b ne = grind (arith, nat_tests)

-- the counts of one drive more
pub counts_more : (counts : List ℕ) (n x units drives : ℕ) → n < length counts → (n < drives → x ≡ units) → ((d : ℕ) → d < n → d < drives → get_or counts d 0 ≡ units)
    → (d : ℕ) → d < n + 1 → d < drives → get_or (slice_set counts n x) d 0 ≡ units
counts_more counts n x units drives there here before d low inside = elim (same_or_not d n) [
  | inl e ↦ ap (λ k. get_or (slice_set counts n x) k 0) e ∙ get_or-set_same counts n x 0 there ∙ here (subst (λ k. k < drives) e inside)
  | inr ne ↦ get_or-set_other counts n d x 0 ne ∙ before d (omega (arith, low, ne)) inside
]

-- four facts of one outcome
pub of_four : {X E : Type 0} (r : Result X E) (P Q R S T : X → Type 0) → IfOk r P → IfOk r Q → IfOk r R → IfOk r S → ((x : X) → P x → Q x → R x → S x → T x) → IfOk r T
of_four (Ok x) P Q R S T p q r s all = all x p q r s
of_four (Err e) P Q R S T p q r s all = tt

module _ (layout : Layout) (groups : Groups) (drives : ℕ) (is : IsLayoutOf layout groups drives) (f : Folder) (blank : (x : Place) → IsBlank (plan_of layout) f x) where
  abbrev units_of : Cells
  units_of = cells_of (plan_of layout) f

  count_is : (d : ℕ) → d < drives → count_of layout.counts d ≡ unit_count groups
  count_is d low =
      let most = is.most in
      ap (λ b. if b then 1026 else if nat_lt d 16 then get_or layout.counts d 0 else 0) (not_equal d 16 (λ e. omega (arith, low, most, e)))
      ∙ ap (λ b. if b then get_or layout.counts d 0 else 0) (below_is d 16 (omega (arith, low, most))) ∙ is.counts d low

  size_is : (d : ℕ) → d < drives → size_of layout.unit_bytes layout.table_bytes d ≡ unit_bytes groups
  size_is d low =
      let most = is.most in
      ap (λ b. if b then layout.table_bytes else layout.unit_bytes) (not_equal d 16 (λ e. omega (arith, low, most, e))) ∙ is.bytes

  pub drives_blank : AreBlank groups drives [] units_of
  drives_blank = record {
    each = λ d at low here inside.
        let within : at < count_of layout.counts d = subst (λ n. at < n) (sym (count_is d low)) inside in
        ap (λ b. if b then Some (unit_in_file (plan_of layout) f d at) else None) (below_is at (count_of layout.counts d) within)
        ∙ ap (λ u. Some u) ((blank (record { drive = d; address = at }) within).0 ∙ ap (λ n. replicate n 0) (size_is d low));
    ends = λ d at low here past.
        ap (λ b. if b then Some (unit_in_file (plan_of layout) f d at) else None) (above_is at (count_of layout.counts d) (subst (λ n. n ≤ at) (sym (count_is d low)) past));
  }

  pub table_blank : IsTable (replicate 16 0) units_of
  table_blank = ap (λ u. Some u) ((blank (record { drive = 16; address = 0 }) (omega arith)).0 ∙ ap (λ n. replicate n 0) is.table)

  pub form_places : HasFormPlaces units_of
  form_places u low = ap (λ b. is_some (if b then Some (unit_in_file (plan_of layout) f 16 (suc u)) else None)) (below_is (suc u) 1026 (omega (arith, low)))
