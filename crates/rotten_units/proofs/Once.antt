-- Of each pair of copies, and of each row, one place at most is noted.
use Rattle.std.proofs.Common.{◌≡◌, ◌<◌, ◌≤◌, ◌+◌, ◌*◌, ◌/◌, ◌%◌, ◌⊎◌, inl, inr, ℕ, Bool, true, false, Option, Some, None, List, length, slice_get, refl, sym, ◌∙◌, ap, subst, arith}
use Rattle.std.proofs.lemmas.Bool.{cases_order, true≢false}
use Rattle.std.proofs.lemmas.Option.{none-some, same_Some, slice_get_cases, slice_get_within}
use Rattle.extent_groups.specs.declared.class.Class.{Class}
use Rattle.extent_groups.specs.declared.place.Place.{Place}
use Rattle.extent_groups.specs.Groups.{AreGroups, Groups, class_in, group_at, slots_in}
use Rattle.extent_groups.specs.Layout.{IsOf}
use Rattle.extent_groups.specs.Units.{InStripe, Pair, Site, site_of}
use Rattle.extent_groups.proofs.Bounds.{made_low}
use Rattle.extent_groups.proofs.LayoutLaw.{slot_of}
use Rattle.extent_groups.proofs.Places.{same_or_not}
use Rattle.vault.specs.Marks.{Has, spot}
use Rattle.rotten_units.specs.Rows.{AreNotedOnce, AreNotedOnceBelow, FirstNotesOne, IsNotedOnce, IsUntouched, NotesNone, NotesOne}

module _ (noted : Place → Type 0) where
  pair_one : (p q : Place) → (noted p → noted q → ⊥) → NotesOne noted (Pair p q)
  pair_one p q never x y (inl a) (inl b) nx ny = a ∙ sym b
  pair_one p q never x y (inl a) (inr b) nx ny = absurd (never (subst noted a nx) (subst noted b ny))
  pair_one p q never x y (inr a) (inl b) nx ny = absurd (never (subst noted b ny) (subst noted a nx))
  pair_one p q never x y (inr a) (inr b) nx ny = a ∙ sym b

  -- not both copies
  pub pair_once : (groups : Groups) (slot : ℕ) (p q : Place) → site_of groups slot ≡ Some (Pair p q) → (noted p → noted q → ⊥) → IsNotedOnce noted groups slot
  pair_once groups slot p q at never site is = subst (NotesOne noted) (same_Some (Pair p q) site (sym at ∙ is)) (pair_one p q never)

  -- no place of a row yet
  pub first_none : (row : List Place) → FirstNotesOne noted row 0 false
  first_none row = record { one = λ j k x y low. absurd (omega (arith, low)); none = λ e k x low. absurd (omega (arith, low)) }

  -- a place of a row more, which isn't noted
  pub first_clear : (row : List Place) (count : ℕ) (place : Place) (seen : Bool) → (noted place → ⊥) → slice_get row count ≡ Some place → FirstNotesOne noted row count seen
      → FirstNotesOne noted row (count + 1) seen
  first_clear row count place seen out at first = record {
    one = λ j k x y lj lk aj ak nx ny. first.one j k x y (before j x lj aj nx) (before k y lk ak ny) aj ak nx ny;
    none = λ e k x low ak nx. first.none e k x (before k x low ak nx) ak nx;
  }
    where
      before : (j : ℕ) (x : Place) → j < count + 1 → slice_get row j ≡ Some x → noted x → j < count
      before j x low aj nx = elim (same_or_not j count) [
        | inl here ↦ absurd (out (subst noted (same_Some x place (sym aj ∙ ap (slice_get row) here ∙ at)) nx))
        | inr ne ↦ omega (arith, low, ne)
      ]

  -- a place more, which is the first that is noted
  pub first_noted : (row : List Place) (count : ℕ) (place : Place) (seen : Bool) → seen ≡ false → slice_get row count ≡ Some place → FirstNotesOne noted row count seen
      → FirstNotesOne noted row (count + 1) true
  first_noted row count place seen not at first = record {
    one = λ j k x y lj lk aj ak nx ny. here j x lj aj nx ∙ sym (here k y lk ak ny);
    none = λ e. absurd (true≢false e);
  }
    where
      here : (j : ℕ) (x : Place) → j < count + 1 → slice_get row j ≡ Some x → noted x → x ≡ place
      here j x low aj nx = elim (same_or_not j count) [
        | inl is ↦ same_Some x place (sym aj ∙ ap (slice_get row) is ∙ at)
        | inr ne ↦ absurd (first.none not j x (omega (arith, low, ne)) aj nx)
      ]

  row_one : (row : List Place) (parity i count : ℕ) (seen : Bool) → length row ≤ count → FirstNotesOne noted row count seen → NotesOne noted (InStripe row parity i)
  row_one row parity i count seen all first x y (j, aj) (k, ak) nx ny =
      let lj = slice_get_within row j x aj in
      let lk = slice_get_within row k y ak in
      first.one j k x y (omega (arith, lj, all)) (omega (arith, lk, all)) aj ak nx ny

  -- a whole row
  pub row_once : (groups : Groups) (slot : ℕ) (row : List Place) (parity i count : ℕ) (seen : Bool) → site_of groups slot ≡ Some (InStripe row parity i) → length row ≤ count
      → FirstNotesOne noted row count seen → IsNotedOnce noted groups slot
  row_once groups slot row parity i count seen at all first site is = subst (NotesOne noted) (same_Some (InStripe row parity i) site (sym at ∙ is)) (row_one row parity i count seen all first)

  -- a number that is no slot's
  pub no_slot : (groups : Groups) (slot : ℕ) → slots_in groups.segments (group_at groups (slot / 128)) ≤ slot % 128 → IsNotedOnce noted groups slot
  no_slot groups slot past site is =
      let x = slot_of groups.segments (group_at groups (slot / 128)) (slot % 128) site is in
      let counted : slot % 128 < slots_in groups.segments (group_at groups (slot / 128)) = subst (λ o. slot % 128 < slots_in groups.segments o) (sym x.made) x.below in
      absurd (omega (arith, counted, past))

  pub no_group : (groups : Groups) (slot : ℕ) → class_in (group_at groups (slot / 128)) ≡ None → IsNotedOnce noted groups slot
  no_group groups slot free site is =
      let x = slot_of groups.segments (group_at groups (slot / 128)) (slot % 128) site is in
      absurd (none-some x.group.class (sym free ∙ ap class_in x.made))

  pair_none : (p q : Place) → (noted p → ⊥) → (noted q → ⊥) → NotesNone noted (Pair p q)
  pair_none p q first second x (inl is) n = first (subst noted is n)
  pair_none p q first second x (inr is) n = second (subst noted is n)

  -- neither copy
  pub pair_untouched : (groups : Groups) (slot : ℕ) (p q : Place) → site_of groups slot ≡ Some (Pair p q) → (noted p → ⊥) → (noted q → ⊥) → IsUntouched noted groups slot
  pair_untouched groups slot p q at first second site is = subst (NotesNone noted) (same_Some (Pair p q) site (sym at ∙ is)) (pair_none p q first second)

  row_none : (row : List Place) (parity i count : ℕ) → length row ≤ count → FirstNotesOne noted row count false → NotesNone noted (InStripe row parity i)
  row_none row parity i count all first x (k, at) n = let low = slice_get_within row k x at in first.none refl k x (omega (arith, low, all)) at n

  -- no place of a whole row
  pub row_untouched : (groups : Groups) (slot : ℕ) (row : List Place) (parity i count : ℕ) → site_of groups slot ≡ Some (InStripe row parity i) → length row ≤ count
      → FirstNotesOne noted row count false → IsUntouched noted groups slot
  row_untouched groups slot row parity i count at all first site is = subst (NotesNone noted) (same_Some (InStripe row parity i) site (sym at ∙ is)) (row_none row parity i count all first)

  -- a number that is no slot's
  pub past_untouched : (groups : Groups) (slot : ℕ) → slots_in groups.segments (group_at groups (slot / 128)) ≤ slot % 128 → IsUntouched noted groups slot
  past_untouched groups slot past site is =
      let x = slot_of groups.segments (group_at groups (slot / 128)) (slot % 128) site is in
      let counted : slot % 128 < slots_in groups.segments (group_at groups (slot / 128)) = subst (λ o. slot % 128 < slots_in groups.segments o) (sym x.made) x.below in
      absurd (omega (arith, counted, past))

  pub free_untouched : (groups : Groups) (slot : ℕ) → class_in (group_at groups (slot / 128)) ≡ None → IsUntouched noted groups slot
  free_untouched groups slot free site is =
      let x = slot_of groups.segments (group_at groups (slot / 128)) (slot % 128) site is in
      absurd (none-some x.group.class (sym free ∙ ap class_in x.made))

  -- one slot more, and all of them
  pub below_more : (groups : Groups) (slot : ℕ) → IsNotedOnce noted groups slot → AreNotedOnceBelow noted groups slot → AreNotedOnceBelow noted groups (slot + 1)
  below_more groups slot here below other low = elim (same_or_not other slot) [
    | inl is ↦ subst (IsNotedOnce noted groups) (sym is) here
    | inr ne ↦ below other (omega (arith, low, ne))
  ]

  pub all_below : (groups : Groups) (end : ℕ) → AreGroups groups → 65536 ≤ end → AreNotedOnceBelow noted groups end → AreNotedOnce noted groups
  all_below groups end are all below slot site is =
      let x = slot_of groups.segments (group_at groups (slot / 128)) (slot % 128) site is in
      let low = made_low groups (slot / 128) x.group.class are.numbers (ap class_in x.made) in
      below slot (omega (arith, low, all)) site is

-- a place is in a set, or not
pub has_or_not : (marks : List Bool) (x : Place) → Has marks x ⊎ (Has marks x → ⊥)
has_or_not marks x = elim (slice_get_cases marks (spot x)).1 [
  | inr none ↦ inr (λ has. none-some true (sym none.1 ∙ has.1))
  | inl some ↦ by_mark some.0 some.2
]
  where
    by_mark : (b : Bool) → slice_get marks (spot x) ≡ Some b → Has marks x ⊎ (Has marks x → ⊥)
    by_mark false e = inr (λ has. true≢false (sym (same_Some _ _ (sym e ∙ has.1))))
    by_mark true e = elim (cases_order x.drive 17) [
      | inl is ↦ inr (λ has. let low = has.0 in absurd (omega (arith, low, is)))
      | inr apart ↦ elim apart [ inl low ↦ inl (omega (arith, low), e) | inr high ↦ inr (λ has. let low = has.0 in absurd (omega (arith, low, high))) ]
    ]
