-- A new table: all its numbers are free, it is well formed, and it agrees with owners that are free throughout.
use Rattle.std.proofs.Common.{◌≡◌, ℕ, zero, suc, ◌<◌, ◌≤◌, ◌⊎◌, inl, inr, Option, Some, None, List, [], length, refl, sym, ◌∙◌, ap, subst, arith}
use Rattle.std.specs.Prelude.{slice_get, unwrap_or, map, option_map, replicate}
use Rattle.std.proofs.lemmas.List.{length-replicate}
use Rattle.std.proofs.lemmas.Option.{slice_get-map}
use Rattle.extents.specs.Owners.{owner_of, owner_row, all_free}
use Rattle.extents.specs.declared.shape.Shape.{Shape}
use Rattle.extent_groups.specs.declared.class.Member.{Member}
use Rattle.extent_groups.specs.declared.table.Kept.{Kept}
use Rattle.extent_groups.specs.Groups.{Groups, group_at, members_in, members_of, AreGroups, Agree}
use Rattle.extent_groups.specs.Kept.{group_of, groups_in}

-- one of several copies, where there is one
get-replicate : {X : Type 0} (n : ℕ) (x : X) (i : ℕ) → i < n → slice_get (replicate n x) i ≡ Some x
get-replicate zero x i h = absurd (omega arith)
get-replicate (suc n) x zero h = refl
get-replicate (suc n) x (suc i) h = get-replicate n x i (omega arith)

-- one of several copies or none
pub or_none : {X : Type 0} (n : ℕ) (x : X) (i : ℕ) → (slice_get (replicate n x) i ≡ Some x) ⊎ (slice_get (replicate n x) i ≡ None)
or_none zero x i = inr refl
or_none (suc n) x zero = inl refl
or_none (suc n) x (suc i) = or_none n x i

-- each element of a list of `None`s is `None`, and so is what is past its end
pub none_of : {X : Type 0} (n i : ℕ) → unwrap_or (slice_get (replicate {A = Option X} n None) i) None ≡ None
none_of {X = X} n i = elim (or_none {X = Option X} n None i) [ inl e ↦ ap (λ o. unwrap_or o None) e | inr e ↦ ap (λ o. unwrap_or o None) e ]

-- every number of a new table is free
pub all_numbers_free : (shape : Shape) (kept : List (Option Kept)) (n g : ℕ) → kept ≡ replicate n None → group_at (groups_in shape kept) g ≡ None
all_numbers_free shape kept n g e =
    ap (λ ks. unwrap_or (slice_get (map (option_map group_of) ks) g) None) e
    ∙ ap (λ o. unwrap_or o None) (slice_get-map (option_map group_of) (replicate n None) g)
    ∙ elim (or_none {X = Option Kept} n None g) [
      | inl there ↦ ap (λ o. unwrap_or (option_map (option_map group_of) o) None) there
      | inr past ↦ ap (λ o. unwrap_or (option_map (option_map group_of) o) None) past
    ]

-- a number without a group has no members
pub no_members : (groups : Groups) (g k : ℕ) (m : Member) → group_at groups g ≡ None → slice_get (members_of groups g) k ≡ Some m → ⊥
no_members groups g k m free at = let none : slice_get (members_in None) k ≡ Some m = subst (λ o. slice_get (members_in o) k ≡ Some m) free at in cc

-- a table without groups is well formed
pub free_groups : (groups : Groups) → ((g : ℕ) → group_at groups g ≡ None) → length groups.table ≡ 512 → 1 ≤ groups.segments → groups.segments ≤ 8 → AreGroups groups
free_groups groups free numbers some short = record {
  segments = (some, short);
  numbers = numbers;
  formed = λ g group at. (let both : None ≡ Some group = sym (free g) ∙ at in absurd cc);
  apart = λ g h j k a b at bt d e. absurd (no_members groups g j a (free g) at);
}

-- no extent is owned where all are free
free_owner : (drives extents d e : ℕ) → owner_of (all_free drives extents) d e ≡ None
free_owner drives extents d e = elim (or_none drives (replicate {A = Option ℕ} extents None) d) [
  | inl there ↦ ap (λ o. unwrap_or (slice_get (unwrap_or o []) e) None) there ∙ none_of extents e
  | inr past ↦ ap (λ o. unwrap_or (slice_get (unwrap_or o []) e) None) past
]

-- the rows of owners that are free throughout have one place an extent
free_wide : (drives extents d : ℕ) → d < length (replicate drives (replicate {A = Option ℕ} extents None)) → length (owner_row (all_free drives extents) d) ≡ extents
free_wide drives extents d h =
    let within : d < drives = rw length-replicate at h in
    ap (λ o. length (unwrap_or o [])) (get-replicate drives (replicate {A = Option ℕ} extents None) d within) ∙ length-replicate {A = Option ℕ} extents None

-- a table without groups agrees with owners that are free
pub free_agree : (groups : Groups) (drives extents : ℕ) → ((g : ℕ) → group_at groups g ≡ None) → Agree groups (all_free drives extents)
free_agree groups drives extents free = record {
  owned = λ g k m at. absurd (no_members groups g k m (free g) at);
  matches = λ g d e owned. (let both : None ≡ Some g = sym (free_owner drives extents d e) ∙ owned in absurd cc);
  wide = λ d h. free_wide drives extents d h;
}
