-- A new world, of drives in memory that are all there.
use Rattle.std.proofs.Common.{◌≡◌, ℕ, zero, suc, nat_le, true, false, List, [], ◌∷◌, length, map, refl, sym, ap, ◌∙◌, subst, arith, Some}
use Rattle.std.specs.Prelude.{slice_get}
use Rattle.std.proofs.lemmas.Bool.Decides.{nat_tests}
use Rattle.std.proofs.lemmas.List.{length-map}
use Rattle.extents.specs.Failures.{no_failures}
use Rattle.extents.specs.Condition.{Held, is_gone, failures_of}
use Rattle.extents.specs.declared.mem_drive.Condition.TheVariants.{Present}
use Rattle.extent_groups.specs.Missing.{is_missing}
use Rattle.flat_machine.specs.Flat.{Flat, new_flat}
use Rattle.unit_store.specs.Losses.{failures_at}
use Rattle.unit_store.specs.Views.{drive_lost, drive_failures, lost_of, failed_of}
use Rattle.slot_tables.specs.declared.hand.Hand.{Hand}
use Rattle.slot_tables.specs.declared.hand.Hand.TheVariants.{Empty}
use Rattle.slot_tables.specs.Views.{ArrayView, hand_at}
use Rattle.slot_tables.specs.Represents.{HandSlot, ShowsArray, Represents}
use Rattle.disk_array.proofs.Losings.{held_view}

-- each drive is there, and has no fuse
abbrev ArePresent : List Held → Type 0
ArePresent ds = (d : ℕ) (m : Held) → slice_get ds d ≡ Some m → m.condition ≡ Present

past_none : (d : ℕ) → nat_le 0 d ≡ true
past_none d = grind (arith, nat_tests)

first_there : (n : ℕ) → nat_le (suc n) 0 ≡ false
first_there n = grind (arith, nat_tests)

one_less : (n d : ℕ) → nat_le (suc n) (suc d) ≡ nat_le n d
one_less n d = grind (arith, nat_tests)

-- none of them is lost, and none failed
none_missing : (ds : List Held) (d : ℕ) → ArePresent ds → is_missing drive_lost (slice_get (map held_view ds) d) ≡ nat_le (length ds) d
none_missing [] d there = sym (past_none d)
none_missing (m ∷ ds) zero there = ap is_gone (there 0 m refl) ∙ sym (first_there (length ds))
none_missing (m ∷ ds) (suc d) there = none_missing ds d (λ e x at. there (suc e) x at) ∙ sym (one_less (length ds) d)

none_failed : (ds : List Held) (d : ℕ) → ArePresent ds → failures_at drive_failures (slice_get (map held_view ds) d) ≡ no_failures
none_failed [] d there = refl
none_failed (m ∷ ds) zero there = ap failures_of (there 0 m refl)
none_failed (m ∷ ds) (suc d) there = none_failed ds d (λ e x at. there (suc e) x at)

-- so an array of such drives represents a new state of which none is lost
pub none_lost : (a : ArrayView) (ds : List Held) (count : ℕ) → length ds ≡ count → a.parts.drives ≡ map held_view ds → ArePresent ds
    → ShowsArray a (new_flat a.parts.groups (length a.parts.drives) (lost_of a.parts) (failed_of a.parts)) → ShowsArray a (new_flat a.parts.groups count (nat_le count) (λ _. no_failures))
none_lost a ds count counted drives there shows = subst (λ (F : Flat). ShowsArray a F) (λ i. new_flat a.parts.groups (many i) (lost i) (failures i)) shows
  where
    many : length a.parts.drives ≡ count
    many = ap length drives ∙ length-map ds held_view ∙ counted

    lost : lost_of a.parts ≡ nat_le count
    lost = λ i d. lost_at d i
      where
        lost_at : (d : ℕ) → lost_of a.parts d ≡ nat_le count d
        lost_at d = ap (λ xs. is_missing drive_lost (slice_get xs d)) drives ∙ none_missing ds d there ∙ ap (λ n. nat_le n d) counted

    failures : failed_of a.parts ≡ (λ _. no_failures)
    failures = λ i d. failed_at d i
      where
        failed_at : (d : ℕ) → failed_of a.parts d ≡ no_failures
        failed_at d = ap (λ xs. failures_at drive_failures (slice_get xs d)) drives ∙ none_failed ds d there

-- and so does a world with empty hands
pub new_world : (a : ArrayView) (hands : List Hand) (count : ℕ) → ((s : ℕ) → hand_at hands s ≡ Empty)
    → ShowsArray a (new_flat a.parts.groups count (nat_le count) (λ _. no_failures)) → Represents (record { array = a; hands = hands }) (new_flat a.parts.groups count (nat_le count) (λ _. no_failures))
new_world a hands count empty shows = record {
  array = shows;
  held = record { once = λ s j k hj hk. absurd (cc); inside = λ s k h. absurd (cc) };
  hands = λ s. subst (λ h. HandSlot h (λ _. false)) (sym (empty s)) (record { claims = λ w. refl; tickets = λ w. refl });
}
