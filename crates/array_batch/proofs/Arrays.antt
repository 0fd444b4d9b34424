-- An array's drives in memory, and a vault that has their units.
use Rattle.std.proofs.Common.{◌≡◌, ◌≤◌, inl, inr, ℕ, suc, Option, Some, None, is_some, List, [], length, map, slice_get, refl, sym, ◌∙◌, ap, subst, arith}
use Rattle.std.specs.Prelude.{option_map}
use Rattle.std.proofs.lemmas.Bool.{true≢false}
use Rattle.std.proofs.lemmas.List.{length-map}
use Rattle.std.proofs.lemmas.Option.{none-some, same_Some, slice_get-map, slice_get_cases, slice_get_within}
use Rattle.extents.specs.Condition.{Held}
use Rattle.extent_groups.specs.Cells.{Cells}
use Rattle.extent_groups.specs.Groups.{Groups}
use Rattle.extent_groups.specs.Planned.{Intended, after}
use Rattle.extent_groups.proofs.Places.{same_or_not}
use Rattle.unit_store.specs.Memory.{held_failures, held_lost, held_units}
use Rattle.unit_store.specs.Views.{DriveView, drive_view}
use Rattle.tiered_array.specs.Views.{TiersView}
use Rattle.vault.proofs.Writes.{some_after}
use Rattle.group_form.specs.Form.{HasFormPlaces, HasGroups}
use Rattle.byte_store.specs.Lasting.{Shown}
use Rattle.array_store.specs.Blocks.{Holds}
use Rattle.journaled_store.specs.Left.{HasBoth, HasKeys}
use Rattle.journaled_store.specs.Outlasting.{parts_of}
use Rattle.array_recovery.specs.Reopened.{EndsAt}
use Rattle.array_batch.specs.Arrays.{AreHeldPresent, HasArray, MarksNone}
use Rattle.array_batch.specs.Batched.{HasAllDriveUnits}
use Rattle.array_batch.proofs.Batching.{at}

-- a drive in memory, as an array shows it
abbrev pub of_held : Held → DriveView
of_held = drive_view held_units held_lost held_failures

pub shown_at : (drives : List Held) (d : ℕ) (m : Held) → slice_get drives d ≡ Some m → slice_get (map of_held drives) d ≡ Some (of_held m)
shown_at drives d m is = slice_get-map of_held drives d ∙ ap (option_map of_held) is

-- the element that an optional one was made of
mapped : (o : Option Held) (v : DriveView) → option_map of_held o ≡ Some v → (m : Held) × (o ≡ Some m) × (of_held m ≡ v)
mapped None v e = absurd (none-some v e)
mapped (Some m) v e = (m, refl, same_Some (of_held m) v e)

-- a drive that an array shows of those in memory
pub held_at : (drives : List Held) (d : ℕ) (v : DriveView) → slice_get (map of_held drives) d ≡ Some v → (m : Held) × (slice_get drives d ≡ Some m) × (of_held m ≡ v)
held_at drives d v e = mapped (slice_get drives d) v (sym (slice_get-map of_held drives d) ∙ e)

-- what an array shows: its bytes, its block map, and both
pub keys_of : (t : TiersView) (what : Shown) → HasBoth t what → HasKeys t what.keys
keys_of t what both = record { state = both.holds.state; matches = both.holds.matches; keys_are = both.keys_are }

abbrev pub bytes_shown : TiersView → List ℕ → Shown
bytes_shown t bytes = record { bytes = bytes; keys = t.world.array.keys }

pub bytes_both : (t : TiersView) (bytes : List ℕ) → Holds t bytes → HasBoth t (bytes_shown t bytes)
bytes_both t bytes holds = record { holds = holds; keys_are = λ b. refl }

abbrev pub keys_shown : List ℕ → Shown
keys_shown keys = record { bytes = []; keys = keys }

pub keys_both : (t : TiersView) (keys : List ℕ) → HasKeys t keys → HasBoth t (keys_shown keys)
keys_both t keys has = record {
  holds = record { state = has.state; matches = has.matches; shows = record { each = λ i low. absurd (omega (arith, low)) } };
  keys_are = has.keys_are;
}

none_of : (o p : Option (List ℕ)) → is_some o ≡ is_some p → p ≡ None → o ≡ None
none_of None p same e = refl
none_of (Some u) p same e = absurd (true≢false (same ∙ ap (λ (q : Option (List ℕ)). is_some q) e))

-- a batch puts no unit where none was
pub ends_after : (drives units : ℕ) (c : Cells) (writes : List Intended) → EndsAt [] drives units c → EndsAt [] drives units (after c writes)
ends_after drives units c writes ends d a low not high = none_of (after c writes d a) (c d a) (some_after writes c (at d a)) (ends d a low not high)

-- a table with groups has a place for each of their units
pub form_there : (groups : Groups) (drives : ℕ) (c : Cells) → HasGroups groups drives c → HasFormPlaces c
form_there groups drives c table u low = elim (same_or_not u 1024) [
  | inl last ↦ ap (λ n. is_some (c 16 (suc n))) last ∙ ap (λ o. is_some o) table.last
  | inr ne ↦ ap (λ o. is_some o) (table.each u (omega (arith, low, ne)))
]

-- drives in memory, none of which is lost, and a vault with their units
module _ (what : Shown) (tiers : TiersView) (shows : HasBoth tiers what) (groups : Groups) (drives : List Held) (groups_are : (parts_of tiers).groups ≡ groups)
    (drives_are : (parts_of tiers).drives ≡ map of_held drives) (few : length drives ≤ 16) (present : AreHeldPresent drives) (units : ℕ)
    (long : (d : ℕ) (m : Held) → slice_get drives d ≡ Some m → length m.units ≡ units) (now : Cells) (has : HasAllDriveUnits drives now) (past : EndsAt [] (length drives) units now)
    (table : HasGroups groups (length drives) now) (unmarked : MarksNone now) where
  drive_at : (d : ℕ) (v : DriveView) → slice_get (parts_of tiers).drives d ≡ Some v → (m : Held) × (slice_get drives d ≡ Some m) × (of_held m ≡ v)
  drive_at d v is = held_at drives d v (ap (λ (ds : List DriveView). slice_get ds d) (sym drives_are) ∙ is)

  lies : (d a : ℕ) (m : Held) → slice_get drives d ≡ Some m → now d a ≡ slice_get m.units a
  lies d a m is = elim (slice_get_cases m.units a).1 [
    | inl some ↦ has d m is a some.1
    | inr none ↦ past d a (slice_get_within drives d m is) refl (subst (λ n. n ≤ a) (long d m is) none.0) ∙ sym none.1
  ]

  pub array_put : HasArray what groups (length drives) now
  array_put = record {
    tiers = tiers;
    shows = shows;
    groups_are = groups_are;
    many = ap (λ (ds : List DriveView). length ds) drives_are ∙ length-map drives of_held;
    few = few;
    alive = λ d v is. let m = drive_at d v is in ap (λ (w : DriveView). w.lost) (sym m.2) ∙ present d m.0 m.1;
    units = λ d a v is. let m = drive_at d v is in lies d a m.0 m.1 ∙ ap (λ (w : DriveView). slice_get w.units a) m.2;
    table = table;
    unmarked = unmarked;
  }
