-- The slots that are newest places, listed group by group, have the number that the array counts.
use Rattle.std.proofs.Common.{◌≡◌, ℕ, zero, suc, ◌+◌, ◌*◌, ◌/◌, ◌%◌, ◌<◌, ◌≤◌, false, None, List, [], ◌∷◌, ◌++◌, length, get_or, refl, sym, ap, ◌∙◌, subst, arith}
use Rattle.std.proofs.lemmas.List.{length_push}
use Rattle.map_join.specs.Lists.{ListsBelow}
use Rattle.map_join.specs.Live.{IsLive, IsBlockAt, IsLiveIn, IsLiveCount}
use Rattle.map_join.proofs.Rising.{below_none, below_more, below_skip, below_all, count_same}
use Rattle.extent_groups.specs.Groups.{group_at, slots_in}
use Rattle.slot_tables.specs.Views.{Kept, Nothing, Pending, Moving, Newest, Unmade, ArrayView, IsWhole, newest_block_in, kept_at, key_at}
use Rattle.slot_tables.proofs.Newest.{lies_at}
use Rattle.slot_tables.proofs.Wholes.{slot_of_class}
use Rattle.slot_tables.specs.Counted.{is_newest, newest_in, newest_below, AreCounts}
use Rattle.slot_tables.proofs.Counts as counts

-- a block's newest place is live, and no other slot is
is_live : (a : ArrayView) (s b : ℕ) → IsWhole a → kept_at a s ≡ Newest b → IsLive (key_at a) s
is_live a s b whole is = (b, subst (λ k. IsBlockAt (key_at a) s (newest_block_in k)) is (lies_at a s whole))

no_live : (a : ArrayView) (s : ℕ) → IsWhole a → newest_block_in (kept_at a s) ≡ None → IsLive (key_at a) s → ⊥
no_live a s whole none = subst (IsBlockAt (key_at a) s) none (lies_at a s whole)

-- a group's live slots below an index, as a list
abbrev ListsSo : ArrayView → ℕ → ℕ → Type 0
ListsSo a group index = (found : List ℕ) × ListsBelow (IsLiveIn (key_at a) group 128) (128 * group + index) found × (length found ≡ newest_below a.kept group index)

lists_so : (a : ArrayView) (group index : ℕ) → IsWhole a → index ≤ 128 → ListsSo a group index
lists_so a group zero whole few =
    ([], counts_start, sym (counts.below_none a.kept group))
  where
    counts_start : ListsBelow (IsLiveIn (key_at a) group 128) (128 * group + 0) []
    counts_start = below_none (IsLiveIn (key_at a) group 128) (128 * group + 0) (λ n l live. let own = live.own in omega (arith, l, own))
lists_so a group (suc index) whole few = go (lists_so a group index whole (omega (arith, few))) (kept_at a slot) refl
  where
    slot : ℕ
    slot = 128 * group + index

    next : slot + 1 ≡ 128 * group + suc index
    next = omega arith

    more : (b : ℕ) → kept_at a slot ≡ Newest b → ListsSo a group index → ListsSo a group (suc index)
    more b is h =
        let at : slot % 128 ≡ index = omega (arith, few) in
        let so : IsLiveIn (key_at a) group 128 slot = record { own = omega (arith, few); among = omega (arith, at, few); live = is_live a slot b whole is } in
        let count = counts.below_next a.kept group index in
        let one : newest_in (kept_at a slot) ≡ 1 = counts.newest_one (kept_at a slot) (ap is_newest is) in
        let long = length_push h.0 slot in
        let same = h.2 in
        (h.0 ++ slot ∷ [], subst (λ n. ListsBelow (IsLiveIn (key_at a) group 128) n (h.0 ++ slot ∷ [])) next (below_more (IsLiveIn (key_at a) group 128) slot h.0 so h.1), omega (arith, count, one, long, same))

    skip : is_newest (kept_at a slot) ≡ false → newest_block_in (kept_at a slot) ≡ None → ListsSo a group index → ListsSo a group (suc index)
    skip isnt none h =
        let count = counts.below_next a.kept group index in
        let zero_more : newest_in (kept_at a slot) ≡ 0 = counts.newest_none (kept_at a slot) isnt in
        let same = h.2 in
        (h.0, below_skip (IsLiveIn (key_at a) group 128) slot (128 * group + suc index) h.0 (omega arith) (λ n from to live. no_live a slot whole none (subst (IsLive (key_at a)) (omega (arith, from, to)) live.live)) h.1, omega (arith, count, zero_more, same))

    go : ListsSo a group index → (k : Kept) → kept_at a slot ≡ k → ListsSo a group (suc index)
    go h Nothing e = skip (ap is_newest e) (ap newest_block_in e) h
    go h (Pending k) e = skip (ap is_newest e) (ap newest_block_in e) h
    go h (Moving r k) e = skip (ap is_newest e) (ap newest_block_in e) h
    go h (Newest b) e = more b e h
    go h Unmade e = skip (ap is_newest e) (ap newest_block_in e) h

-- a live slot is one of its group
live_below : (a : ArrayView) (s : ℕ) → IsWhole a → IsLive (key_at a) s → s % 128 < slots_in a.parts.groups.segments (group_at a.parts.groups (s / 128))
live_below a s whole live = slot_of_class a.parts.groups s (whole.there s (λ e. no_live a s whole (ap newest_block_in e) live) (λ e. no_live a s whole (ap newest_block_in e) live))

-- a group's count, over any number of slots that is at least the group's
pub live_counted : (a : ArrayView) (live : List ℕ) (group slots : ℕ) → IsWhole a → group < 512 → AreCounts a.kept live
    → slots_in a.parts.groups.segments (group_at a.parts.groups group) ≤ slots → IsLiveCount (key_at a) group slots (get_or live group 0)
live_counted a live group slots whole low are enough =
    let h = lists_so a group 128 whole (omega arith) in
    let end = below_all (IsLiveIn (key_at a) group 128) (128 * group + 128) h.0 (λ n so. let own = so.own in omega (arith, own)) h.1 in
    count_same (IsLiveIn (key_at a) group 128) (IsLiveIn (key_at a) group slots) (get_or live group 0) fewer
    (λ n so. record { own = so.own; among = omega arith; live = so.live }) (h.0, end, h.2 ∙ sym (are.each group low))
  where
    fewer : (n : ℕ) → IsLiveIn (key_at a) group 128 n → IsLiveIn (key_at a) group slots n
    fewer n so =
        let below = live_below a n whole so.live in
        let here = subst (λ g. n % 128 < slots_in a.parts.groups.segments (group_at a.parts.groups g)) so.own below in
        record { own = so.own; among = omega (arith, here, enough); live = so.live }
