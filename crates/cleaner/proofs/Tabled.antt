-- By the tables of counts and of slots the groups with a rank are those that a plan chooses from.
use Rattle.std.proofs.Common.{◌≡◌, ◌≢◌, ◌∙◌, ℕ, ◌<◌, ◌≤◌, ◌^◌, Bool, true, false, cond, ltb, leb, List, slice_index, refl, sym, ap, subst, arith, Option, Some, None}
use Rattle.std.proofs.lemmas.Bool.{ltb-true, leb-true, lt-ltb, le-leb}
use Rattle.std.proofs.lemmas.Option.{same_Some}
use Rattle.extent_groups.specs.declared.class.Class.TheVariants.{Parity}
use Rattle.extent_groups.specs.Groups.{Groups, AreGroups, group_at, class_in, slots_in, parity_slots_of}
use Rattle.extent_groups.proofs.Bounds.{made_low}
use Rattle.extent_groups.proofs.ParitySlots.{parity_slots, some_slots, parity_made}
use Rattle.cleaner.specs.declared.choice.Ranked.{Ranked}
use Rattle.cleaner.specs.Plans.{IsHoled, IsSource}
use Rattle.cleaner.specs.Counts.{HasLive, AreLiveCounts}
use Rattle.cleaner.specs.Choosing.{IsFewest, IsMost, IsChoice}
use Rattle.cleaner.specs.Offered.{holed, up_to, in_parity, holed_count, source_count, inverted_rank}
use Rattle.cleaner.proofs.Counting.{live_one, few_slots}
use Rattle.cleaner.proofs.Ranked.{AreCounted, none_most, is_most, none_fewest, is_fewest}

holed_is : (n slots : ℕ) → n < slots → holed n slots ≡ n
holed_is n slots l = rw (lt-ltb n slots l) refl

source_is : (most n slots : ℕ) → 0 < slots → n ≤ most → up_to most (in_parity n slots) ≡ n
source_is most n slots some few = rw (lt-ltb 0 slots some, le-leb n most few) refl

module _ (groups : Groups) (keys : ℕ → ℕ) (counts slots : List ℕ) (are : AreGroups groups) (live : AreLiveCounts groups keys counts) (tabled : slots ≡ parity_slots_of groups) where
  low_of : (g n : ℕ) → HasLive groups keys g n → g < 512
  low_of g n h = made_low groups g Parity are.numbers h.made

  count_of : (g n : ℕ) → HasLive groups keys g n → slice_index counts g ≡ n
  count_of g n h = live_one groups keys g (slice_index counts g) n (live.each g (low_of g n h) h.made) h

  slots_of : (g : ℕ) → class_in (group_at groups g) ≡ Some Parity → slice_index slots g ≡ slots_in groups.segments (group_at groups g)
  slots_of g made = ap (λ s. slice_index s g) tabled ∙ parity_slots groups g made

  some_of : (g : ℕ) → class_in (group_at groups g) ≡ Some Parity → 0 < slice_index slots g
  some_of g made = subst (λ s. 0 < slice_index s g) (sym tabled) (some_slots groups g are made)

  made_of : (g : ℕ) → 0 < slice_index slots g → class_in (group_at groups g) ≡ Some Parity
  made_of g some = parity_made groups g (subst (λ s. 0 < slice_index s g) tabled some)

  -- the groups with a hole
  holed_counted : (write : Option ℕ) → AreCounted (IsHoled groups keys write) write (holed_count slots counts)
  holed_counted write = record {
    to = λ g low other some. by g low other (ltb (slice_index counts g) (slice_index slots g)) refl some;
    from = λ g n h. record {
      low = low_of g n h.has;
      other = h.other;
      is = ap (λ c. holed c (slice_index slots g)) (count_of g n h.has) ∙ holed_is n (slice_index slots g) (omega (arith, h.hole, slots_of g h.has.made));
      some = h.some;
      fits = omega (arith, h.hole, few_slots groups g are);
    };
  }
    where
      by : (g : ℕ) → g < 512 → write ≢ Some g → (t : Bool) → ltb (slice_index counts g) (slice_index slots g) ≡ t
          → 0 < cond t (slice_index counts g) 0 → IsHoled groups keys write g (cond t (slice_index counts g) 0)
      by g low other false is some = absurd (omega (arith, some))
      by g low other true is some =
          let less : slice_index counts g < slice_index slots g = ltb-true _ _ is in
          let made = made_of g (omega (arith, less)) in
          record { has = live.each g low made; other = other; some = some; hole = omega (arith, less, slots_of g made) }

  pub none_holed : (write : Option ℕ) → IsChoice (holed_count slots counts) write None → (g n : ℕ) → IsHoled groups keys write g n → ⊥
  none_holed write = none_most (IsHoled groups keys write) write (holed_count slots counts) (holed_counted write)

  pub fullest : (write : Option ℕ) (best : Ranked) → IsChoice (holed_count slots counts) write (Some best) → IsMost (IsHoled groups keys write) best.group best.rank
  fullest write = is_most (IsHoled groups keys write) write (holed_count slots counts) (holed_counted write)

  pub none_left : (write : Option ℕ) → IsChoice (λ g. inverted_rank (holed_count slots counts g)) write None → (g n : ℕ) → IsHoled groups keys write g n → ⊥
  none_left write = none_fewest (IsHoled groups keys write) write (holed_count slots counts) (holed_counted write)

  pub emptiest : (write : Option ℕ) (best : Ranked) → IsChoice (λ g. inverted_rank (holed_count slots counts g)) write (Some best)
      → IsFewest (IsHoled groups keys write) best.group (holed_count slots counts best.group)
  emptiest write = is_fewest (IsHoled groups keys write) write (holed_count slots counts) (holed_counted write)

  -- the sources of a target
  source_counted : (target most : ℕ) → most < 2 ^ 16 → AreCounted (IsSource groups keys target most) (Some target) (source_count slots counts most)
  source_counted target most fits = record {
    to = λ g low other some. by g low (λ e. other (ap (λ n. Some n) (sym e))) (ltb 0 (slice_index slots g)) refl (leb (in_parity (slice_index counts g) (slice_index slots g)) most) refl some;
    from = λ g n h. record {
      low = low_of g n h.has;
      other = λ e. h.other (sym (same_Some _ _ e));
      is = ap (λ c. up_to most (in_parity c (slice_index slots g))) (count_of g n h.has) ∙ source_is most n (slice_index slots g) (some_of g h.has.made) h.few;
      some = h.some;
      fits = omega (arith, h.few, fits);
    };
  }
    where
      by : (g : ℕ) → g < 512 → g ≢ target → (t : Bool) → ltb 0 (slice_index slots g) ≡ t → (u : Bool) → leb (cond t (slice_index counts g) 0) most ≡ u
          → 0 < cond u (cond t (slice_index counts g) 0) 0 → IsSource groups keys target most g (cond u (cond t (slice_index counts g) 0) 0)
      by g low other t is false le some = absurd (omega (arith, some))
      by g low other false is true le some = absurd (omega (arith, some))
      by g low other true is true le some =
          record { has = live.each g low (made_of g (ltb-true _ _ is)); other = other; some = some; few = leb-true _ _ le }

  -- a target's counts are few
  target_fits : (write : Option ℕ) (target : Ranked) → IsChoice (holed_count slots counts) write (Some target) → target.rank < 2 ^ 16
  target_fits write target into = omega (arith, (fullest write target into).offered.hole, few_slots groups target.group are)

  pub none_source : (write : Option ℕ) (target : Ranked) → IsChoice (holed_count slots counts) write (Some target)
      → IsChoice (λ g. inverted_rank (source_count slots counts target.rank g)) (Some target.group) None → (g n : ℕ) → IsSource groups keys target.group target.rank g n → ⊥
  none_source write target into =
      none_fewest (IsSource groups keys target.group target.rank) (Some target.group) (source_count slots counts target.rank)
      (source_counted target.group target.rank (target_fits write target into))

  pub source : (write : Option ℕ) (target best : Ranked) → IsChoice (holed_count slots counts) write (Some target)
      → IsChoice (λ g. inverted_rank (source_count slots counts target.rank g)) (Some target.group) (Some best)
      → IsFewest (IsSource groups keys target.group target.rank) best.group (source_count slots counts target.rank best.group)
  source write target best into =
      is_fewest (IsSource groups keys target.group target.rank) (Some target.group) (source_count slots counts target.rank)
      (source_counted target.group target.rank (target_fits write target into)) best
