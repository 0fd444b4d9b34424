-- Slots that are gone, stated over the lost drives and the geometry alone.
use Rattle.std.proofs.Common.{◌≡◌, ℕ, ◌+◌, ◌*◌, ◌/◌, ◌%◌, ◌<◌, inl, inr, Bool, true, Option, Some, None, List, length, refl, sym, ◌∙◌, ap, subst, arith, get_or}
use Rattle.std.specs.Prelude.{slice_get, IsTrue, ◌↔◌}
use Rattle.std.proofs.lemmas.Option.{same_Some}
use Rattle.flat_machine.specs.Moves.{IsFirstGone}
use Rattle.extent_groups.specs.declared.class.Member.{Member}
use Rattle.extent_groups.specs.declared.place.Place.{Place}
use Rattle.extent_groups.specs.Groups.{Group, Groups, AreGroups, group_at, members_of, slots_in}
use Rattle.extent_groups.specs.Missing.{IsGone, IsGoneAt}
use Rattle.extent_groups.specs.Units.{InStripe, place_of, places_of, site_of}
use Rattle.extent_groups.proofs.Bounds.{slot_count_small}
use Rattle.extent_groups.proofs.LayoutLaw.{row_member, slot_of, any_member}
use Rattle.extent_groups.proofs.Places.{same_or_not}
use Rattle.unit_store.specs.Shifting.{HasOtherMissing}
use Rattle.unit_store.specs.Slots.{IsSlot}
use Rattle.unit_store.proofs.Offsets.{member_there}
use Rattle.unit_store.proofs.Outcomes.{group_past}

-- a slot whose own drive is lost is gone exactly where another member's drive is lost too
pub row_gone : (missing : ℕ → Bool) (t : Groups) (slot o p i : ℕ) (members : List Member) (home : Place) (b : Bool) → members ≡ members_of t (slot / 128)
    → site_of t slot ≡ Some (InStripe (places_of t.segments (members_of t (slot / 128)) o) p i) → slice_get (places_of t.segments (members_of t (slot / 128)) o) i ≡ Some home
    → missing home.drive ≡ true → (IsTrue b ↔ HasOtherMissing missing members i) → (IsTrue b → IsGone t missing slot) × (IsGone t missing slot → IsTrue b)
row_gone missing t slot o p i members home b same at here own other =
    let ms : List Member = members_of t (slot / 128) in
    let reported : IsTrue b ↔ HasOtherMissing missing ms i = subst (λ l. IsTrue b ↔ HasOtherMissing missing l i) same other in (
      λ h.
          (let is = reported.0 h in
          (InStripe (places_of t.segments ms o) p i, at, ((home, here, own), (is.0, place_of t.segments o is.1, is.2, member_there t.segments ms is.0 o is.1 is.3, is.4)))),
      λ gone.
          (let both : IsGoneAt missing (InStripe (places_of t.segments ms o) p i) = subst (IsGoneAt missing) (same_Some _ _ (sym gone.1 ∙ at)) gone.2 in
          let r = row_member t.segments ms o both.1.0 both.1.1 both.1.3 in
          reported.1 (both.1.0, get_or ms both.1.0 any_member, both.1.2, r.0, sym (ap (λ (x : Place). missing x.drive) r.1) ∙ both.1.4)),
    )

-- an index of a group: the group's number is below that of all, and its slot one of the group's
pub record IsIndexOf (t : Groups) (g i : ℕ) : Type 0 where
  pub number : g < 512
  pub small : i < 128
  pub slot : IsSlot t (128 * g + i)

pub index_is : (t : Groups) (g i : ℕ) → AreGroups t → i < slots_in t.segments (group_at t g) → IsIndexOf t g i
index_is t g i groups low =
    let small : i < 128 = few (group_at t g) refl low in
    let whole : (128 * g + i) / 128 ≡ g = omega (arith, small) in
    let rest : (128 * g + i) % 128 ≡ i = omega (arith, small) in
    record {
      number = group_past t g groups (λ none. (let never : i < 0 = subst (λ x. i < slots_in t.segments x) none low in omega (arith, never)));
      small = small;
      slot = subst (λ h. (128 * g + i) % 128 < slots_in t.segments (group_at t h)) (sym whole) (subst (λ j. j < slots_in t.segments (group_at t g)) (sym rest) low);
    }
  where
    few : (x : Option Group) → group_at t g ≡ x → i < slots_in t.segments x → i < 128
    few None e h = absurd (omega (arith, h))
    few (Some group) e h = let formed = groups.formed g group e in omega (arith, slot_count_small group.class (length group.members) t.segments formed.few groups.segments.1, h)

-- a slot that is gone is of one of its group's indexes
pub gone_index : (t : Groups) (missing : ℕ → Bool) (g slot : ℕ) → slot / 128 ≡ g → IsGone t missing slot → slot % 128 < slots_in t.segments (group_at t g)
gone_index t missing g slot q gone =
    let is = slot_of t.segments (group_at t (slot / 128)) (slot % 128) gone.0 gone.1 in
    subst (λ h. slot % 128 < slots_in t.segments (group_at t h)) q (subst (λ x. slot % 128 < slots_in t.segments x) (sym is.made) is.below)

-- the first index that was found gone
pub first_index : (t : Groups) (missing : ℕ → Bool) (g i : ℕ) → AreGroups t → i < slots_in t.segments (group_at t g) → ((j : ℕ) → j < i → IsGone t missing (128 * g + j) → ⊥)
    → IsGone t missing (128 * g + i) → IsFirstGone t missing g (128 * g + i)
first_index t missing g i groups low before gone =
    let is = index_is t g i groups low in
    record {
      group = omega (arith, is.small);
      gone = gone;
      below = λ other less q also.
          (let same : other ≡ 128 * g + other % 128 = omega (arith, q) in
          let under : other % 128 < i = omega (arith, same, less) in
          before (other % 128) under (subst (IsGone t missing) same also));
    }

-- one more index isn't gone
pub more_there : (t : Groups) (missing : ℕ → Bool) (g i : ℕ) → ((j : ℕ) → j < i → IsGone t missing (128 * g + j) → ⊥) → (IsGone t missing (128 * g + i) → ⊥)
    → (j : ℕ) → j < i + 1 → IsGone t missing (128 * g + j) → ⊥
more_there t missing g i before here j low gone = elim (same_or_not j i) [
  | inl e ↦ here (subst (λ k. IsGone t missing (128 * g + k)) e gone)
  | inr ne ↦ before j (omega (arith, low, ne)) gone
]

-- no index is gone, so no slot of the group is
pub none_gone : (t : Groups) (missing : ℕ → Bool) (g : ℕ) → ((j : ℕ) → j < slots_in t.segments (group_at t g) → IsGone t missing (128 * g + j) → ⊥) → (slot : ℕ) → slot / 128 ≡ g → IsGone t missing slot → ⊥
none_gone t missing g before slot q gone =
    let same : slot ≡ 128 * g + slot % 128 = omega (arith, q) in
    before (slot % 128) (gone_index t missing g slot q gone) (subst (IsGone t missing) same gone)
