-- The live slots of a group, counted one after another.
use Rattle.std.proofs.Common.{◌≡◌, ℕ, ◌+◌, ◌*◌, ◌%◌, ◌<◌, ◌≤◌, List, [], ◌∷◌, ◌++◌, length, slice_index, refl, ap, ◌∙◌, subst, arith}
use Rattle.cleaner.specs.Counts.{AreLiveCounts, IsLiveOf}
use Rattle.cleaner.proofs.Counting.{live_counted}
use Rattle.extent_groups.specs.Groups.{Groups, group_at, slots_in}
use Rattle.migrator.specs.Counts.{AreZeroIfIdle}
use Rattle.std.proofs.lemmas.List.{length_push}
use Rattle.map_join.specs.Lists.{ListsBelow, IsCount}
use Rattle.map_join.specs.Live.{IsLive, IsLiveIn, IsLiveCount}
use Rattle.map_join.proofs.Rising.{below_more, below_skip, below_all, count_zero, count_none}

-- exactly `count` of a group's slots below an index are live
abbrev pub IsCounted : (ℕ → ℕ) → ℕ → ℕ → ℕ → ℕ → Type 0
IsCounted keys group slots index count =
    (found : List ℕ) × ListsBelow (IsLiveIn keys group slots) (128 * group + index) found × (length found ≡ count) × (count ≤ index)

pub counted_more : (keys : ℕ → ℕ) (group slots index count : ℕ) → index < slots → slots ≤ 128 → IsLive keys (128 * group + index)
    → IsCounted keys group slots index count → IsCounted keys group slots (index + 1) (count + 1)
counted_more keys group slots index count l few live h =
    let slot : ℕ = 128 * group + index in
    let at : slot % 128 ≡ index = omega arith in
    let is : IsLiveIn keys group slots slot = record { own = omega arith; among = omega (arith, at); live = live } in
    let more = below_more (IsLiveIn keys group slots) slot h.0 is h.1 in
    (h.0 ++ slot ∷ [], subst (λ b. ListsBelow (IsLiveIn keys group slots) b (h.0 ++ slot ∷ [])) (omega arith) more, length_push h.0 slot ∙ ap (λ n. n + 1) h.2, omega (arith, h.3))

pub counted_skip : (keys : ℕ → ℕ) (group slots index count : ℕ) → (IsLive keys (128 * group + index) → ⊥)
    → IsCounted keys group slots index count → IsCounted keys group slots (index + 1) count
counted_skip keys group slots index count dead h = (
  h.0,
  below_skip (IsLiveIn keys group slots) (128 * group + index) (128 * group + (index + 1)) h.0 (omega arith) none h.1,
  h.2,
  omega (arith, h.3),
)
  where
    none : (n : ℕ) → 128 * group + index ≤ n → n < 128 * group + (index + 1) → IsLiveIn keys group slots n → ⊥
    none n a b live = dead (subst (IsLive keys) (omega (arith, a, b)) live.live)

pub counted_all : (keys : ℕ → ℕ) (group slots index count : ℕ) → slots ≤ index → index ≤ 128 → IsCounted keys group slots index count → IsLiveCount keys group slots count
counted_all keys group slots index count all few h =
    (h.0, below_all (IsLiveIn keys group slots) (128 * group + index) h.0 (λ n live. let own = live.own in let among = live.among in omega (arith, own, among, all)) h.1, h.2)

-- the counts that an array keeps are those that a plan needs
pub kept_counts : (groups : Groups) (keys : ℕ → ℕ) (counts : List ℕ) → length counts ≡ 512
    → ((group : ℕ) → group < 512 → (slots : ℕ) → slots_in groups.segments (group_at groups group) ≤ slots → IsLiveCount keys group slots (slice_index counts group))
    → AreLiveCounts groups keys counts
kept_counts groups keys counts many each = record {
  many = many;
  each = λ group low made.
      let slots = slots_in groups.segments (group_at groups group) in
      live_counted groups keys group slots (slice_index counts group) made refl (each group low slots (omega arith));
}

-- and they are 0 for the parity groups where a log can start over
pub zeros_kept : (groups : Groups) (keys : ℕ → ℕ) (counts : List ℕ) → AreLiveCounts groups keys counts → AreZeroIfIdle groups keys counts
zeros_kept groups keys counts live = λ group low made.
    let P = IsLiveOf groups keys group in
    let count = (live.each group low made).count in (
      (λ zeroed slot is own alive. count_zero P (subst (IsCount P) zeroed count) slot (record { slot_of = is; own = own; live = alive })),
      (λ idle. count_none P (slice_index counts group) count (λ slot is. idle slot is.slot_of is.own is.live)),
    )
