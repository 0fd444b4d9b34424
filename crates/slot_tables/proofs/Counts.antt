-- Counts of newest places by group, as one place changes.
use Rattle.std.proofs.Common.{◌≡◌, ◌≢◌, ℕ, zero, suc, ◌+◌, ◌-◌, ◌*◌, ◌/◌, ◌%◌, ◌<◌, ◌≤◌, Bool, true, false, if◌then◌else◌, List, length, replicate, get_or, refl, sym, ap, ◌∙◌, subst, arith, ◌⊎◌, inl, inr}
use Rattle.std.proofs.Math.ListN.{set}
use Rattle.std.proofs.lemmas.List.{length-set, get_or-set_same, get_or-set_other}
use Rattle.std.proofs.lemmas.Bool.{cases_eq}
use Rattle.slot_tables.specs.Views.{Kept, Nothing, Pending, Moving, Newest, Unmade, is_waiting}
use Rattle.slot_tables.specs.Changes.{opened_of, IsOpened}
use Rattle.slot_tables.specs.Counted.{is_newest, newest_in, newest_below, AreCounts}

-- of one slot there is at most one newest place
one_at_most : (kept : Kept) → newest_in kept ≤ 1
one_at_most kept = by (is_newest kept)
  where
    by : (b : Bool) → (if b then 1 else 0) ≤ 1
    by true = omega arith
    by false = omega arith

-- what a newest place and any other slot count
pub newest_one : (kept : Kept) → is_newest kept ≡ true → newest_in kept ≡ 1
newest_one kept is = ap (λ (b : Bool). if b then 1 else 0) is

pub newest_none : (kept : Kept) → is_newest kept ≡ false → newest_in kept ≡ 0
newest_none kept is = ap (λ (b : Bool). if b then 1 else 0) is

-- one slot more, and none
pub below_none : (kept : List Kept) (group : ℕ) → newest_below kept group 0 ≡ 0
unfolding newest_below
below_none kept group = refl

pub below_next : (kept : List Kept) (group index : ℕ) → newest_below kept group (suc index) ≡ newest_below kept group index + newest_in (get_or kept (128 * group + index) Nothing)
unfolding newest_below
below_next kept group index = refl

-- of the first `index` slots at most `index` are newest places
pub no_more : (kept : List Kept) (group index : ℕ) → newest_below kept group index ≤ index
no_more kept group zero = let none = below_none kept group in omega (arith, none)
no_more kept group (suc index) =
    let rest = no_more kept group index in
    let one = one_at_most (get_or kept (128 * group + index) Nothing) in
    let next = below_next kept group index in
    omega (arith, rest, one, next)

-- a change at a slot that isn't among them leaves their count
pub count_apart : (kept : List Kept) (slot : ℕ) (k : Kept) (group index : ℕ) → ((i : ℕ) → i < index → 128 * group + i ≢ slot)
    → newest_below (set kept slot k) group index ≡ newest_below kept group index
count_apart kept slot k group zero apart = below_none (set kept slot k) group ∙ sym (below_none kept group)
count_apart kept slot k group (suc index) apart =
    let rest = count_apart kept slot k group index (λ i low. apart i (omega (arith, low))) in
    let one : newest_in (get_or (set kept slot k) (128 * group + index) Nothing) ≡ newest_in (get_or kept (128 * group + index) Nothing) =
    ap newest_in (get_or-set_other kept slot (128 * group + index) k Nothing (apart index (omega arith))) in
    let now = below_next (set kept slot k) group index in
    let was = below_next kept group index in
    omega (arith, rest, one, now, was)

-- and at one that is among them changes it by that slot alone
pub count_here : (kept : List Kept) (at : ℕ) (k : Kept) (group index : ℕ) → at < index → 128 * group + at < length kept
    → newest_below (set kept (128 * group + at) k) group index + newest_in (get_or kept (128 * group + at) Nothing) ≡ newest_below kept group index + newest_in k
count_here kept at k group zero low inside = absurd (omega (arith, low))
count_here kept at k group (suc index) low inside = go (λ below. count_here kept at k group index below inside) (cases_eq at index)
  where
    there : List Kept
    there = set kept (128 * group + at) k

    go : (at < index → newest_below there group index + newest_in (get_or kept (128 * group + at) Nothing) ≡ newest_below kept group index + newest_in k)
        → (at ≡ index) ⊎ (at ≡ index → ⊥)
        → newest_below there group (suc index) + newest_in (get_or kept (128 * group + at) Nothing) ≡ newest_below kept group (suc index) + newest_in k
    go rest (inl e) =
        let others = count_apart kept (128 * group + at) k group index (λ i below same. absurd (omega (arith, below, same, e))) in
        let now : newest_in (get_or there (128 * group + index) Nothing) ≡ newest_in k =
        ap newest_in (ap (λ i. get_or there (128 * group + i) Nothing) (sym e) ∙ get_or-set_same kept (128 * group + at) k Nothing inside) in
        let was : newest_in (get_or kept (128 * group + index) Nothing) ≡ newest_in (get_or kept (128 * group + at) Nothing) =
        ap (λ i. newest_in (get_or kept (128 * group + i) Nothing)) (sym e) in
        let one = below_next there group index in
        let two = below_next kept group index in
        omega (arith, others, now, was, one, two)
    go rest (inr ne) =
        let other : newest_in (get_or there (128 * group + index) Nothing) ≡ newest_in (get_or kept (128 * group + index) Nothing) =
        ap newest_in (get_or-set_other kept (128 * group + at) (128 * group + index) k Nothing (λ same. ne (omega (arith, same)))) in
        let before = rest (omega (arith, low, ne)) in
        let one = below_next there group index in
        let two = below_next kept group index in
        omega (arith, before, other, one, two)

-- a group's count when one slot changed, which may be its own or another's
pub count_set : (kept : List Kept) (slot : ℕ) (k : Kept) → slot < length kept
    → newest_below (set kept slot k) (slot / 128) 128 + newest_in (get_or kept slot Nothing) ≡ newest_below kept (slot / 128) 128 + newest_in k
count_set kept slot k inside =
    let is : 128 * (slot / 128) + slot % 128 ≡ slot = omega arith in
    subst (λ s. newest_below (set kept s k) (slot / 128) 128 + newest_in (get_or kept s Nothing) ≡ newest_below kept (slot / 128) 128 + newest_in k) is
    (count_here kept (slot % 128) k (slot / 128) 128 (omega arith) (omega (arith, is, inside)))

pub count_else : (kept : List Kept) (slot : ℕ) (k : Kept) (group : ℕ) → group ≢ slot / 128 → newest_below (set kept slot k) group 128 ≡ newest_below kept group 128
count_else kept slot k group other = count_apart kept slot k group 128 (λ i low same. other (omega (arith, low, same)))

-- counts stay where neither what was kept nor what is kept is a newest place
pub counts_same : (kept : List Kept) (live : List ℕ) (slot : ℕ) (k : Kept) → slot < length kept → is_newest (get_or kept slot Nothing) ≡ false → is_newest k ≡ false
    → AreCounts kept live → AreCounts (set kept slot k) live
counts_same kept live slot k inside was isnt are = record { many = are.many; each = λ group low. are.each group low ∙ sym (go group (cases_eq group (slot / 128))) }
  where
    go : (group : ℕ) → (group ≡ slot / 128) ⊎ (group ≡ slot / 128 → ⊥) → newest_below (set kept slot k) group 128 ≡ newest_below kept group 128
    go group (inl e) =
        let set_to = count_set kept slot k inside in
        let none : newest_in (get_or kept slot Nothing) ≡ 0 = newest_none (get_or kept slot Nothing) was in
        let still : newest_in k ≡ 0 = newest_none k isnt in
        rw (e) (omega (arith, set_to, none, still))
    go group (inr ne) = count_else kept slot k group ne

-- one group's count follows where the slot's count is put in
counts_put : (kept : List Kept) (live : List ℕ) (slot n : ℕ) (k : Kept) → slot < 65536 → newest_below (set kept slot k) (slot / 128) 128 ≡ n
    → AreCounts kept live → AreCounts (set kept slot k) (set live (slot / 128) n)
counts_put kept live slot n k low is are = record { many = length-set live (slot / 128) n ∙ are.many; each = λ group below. go group below (cases_eq group (slot / 128)) }
  where
    go : (group : ℕ) → group < 512 → (group ≡ slot / 128) ⊎ (group ≡ slot / 128 → ⊥) → get_or (set live (slot / 128) n) group 0 ≡ newest_below (set kept slot k) group 128
    go group below (inl e) =
        let many = are.many in
        rw (e) (get_or-set_same live (slot / 128) n 0 (omega (arith, many, low)) ∙ sym is)
    go group below (inr ne) = get_or-set_other live (slot / 128) group n 0 ne ∙ are.each group below ∙ sym (count_else kept slot k group ne)

-- one more where a slot becomes a newest place, and one fewer where it was one
pub counts_more : (kept : List Kept) (live : List ℕ) (slot block : ℕ) → slot < length kept → slot < 65536 → is_newest (get_or kept slot Nothing) ≡ false
    → AreCounts kept live → AreCounts (set kept slot (Newest block)) (set live (slot / 128) (get_or live (slot / 128) 0 + 1))
counts_more kept live slot block inside low was are =
    let set_to = count_set kept slot (Newest block) inside in
    let none : newest_in (get_or kept slot Nothing) ≡ 0 = newest_none (get_or kept slot Nothing) was in
    let each = are.each (slot / 128) (omega (arith, low)) in
    counts_put kept live slot (get_or live (slot / 128) 0 + 1) (Newest block) low (omega (arith, set_to, none, each)) are

pub counts_fewer : (kept : List Kept) (live : List ℕ) (slot : ℕ) → slot < length kept → slot < 65536 → is_newest (get_or kept slot Nothing) ≡ true
    → AreCounts kept live → AreCounts (set kept slot Nothing) (set live (slot / 128) (get_or live (slot / 128) 0 - 1))
counts_fewer kept live slot inside low was are =
    let set_to = count_set kept slot Nothing inside in
    let one : newest_in (get_or kept slot Nothing) ≡ 1 = newest_one (get_or kept slot Nothing) was in
    let each = are.each (slot / 128) (omega (arith, low)) in
    counts_put kept live slot (get_or live (slot / 128) 0 - 1) Nothing low (omega (arith, set_to, one, each)) are

-- a newest place is counted
pub counted_there : (kept : List Kept) (live : List ℕ) (slot : ℕ) → slot < length kept → slot < 65536 → is_newest (get_or kept slot Nothing) ≡ true
    → AreCounts kept live → 0 < get_or live (slot / 128) 0
counted_there kept live slot inside low was are =
    let set_to = count_set kept slot Nothing inside in
    let one : newest_in (get_or kept slot Nothing) ≡ 1 = newest_one (get_or kept slot Nothing) was in
    let each = are.each (slot / 128) (omega (arith, low)) in
    omega (arith, set_to, one, each)

-- no count is past a group's slot numbers
pub counted_few : (kept : List Kept) (live : List ℕ) (group : ℕ) → group < 512 → AreCounts kept live → get_or live group 0 ≤ 128
counted_few kept live group low are = let few = no_more kept group 128 in let each = are.each group low in omega (arith, few, each)

-- of no newest place there are no counts
pub none_below : (kept : List Kept) (group index : ℕ) → ((slot : ℕ) → get_or kept slot Nothing ≡ Nothing) → newest_below kept group index ≡ 0
none_below kept group zero none = below_none kept group
none_below kept group (suc index) none =
    let rest = none_below kept group index none in
    let one : newest_in (get_or kept (128 * group + index) Nothing) ≡ 0 = ap newest_in (none (128 * group + index)) in
    let next = below_next kept group index in
    omega (arith, rest, one, next)

-- zeros are zero everywhere
pub zero_at : (n index : ℕ) → get_or {A = ℕ} (replicate n 0) index 0 ≡ 0
zero_at zero zero = refl
zero_at zero (suc index) = refl
zero_at (suc n) zero = refl
zero_at (suc n) (suc index) = zero_at n index

-- the loop over a group's slots: one more, and none
pub more_below : (kept : List Kept) (group index count : ℕ) (k : Kept) → get_or kept (128 * group + index) Nothing ≡ k → count ≡ newest_below kept group index
    → count + newest_in k ≡ newest_below kept group (index + 1)
more_below kept group index count k is before =
    let next : newest_below kept group (index + 1) ≡ newest_below kept group index + newest_in (get_or kept (128 * group + index) Nothing) =
    ap (newest_below kept group) (after index) ∙ below_next kept group index in
    let one = ap newest_in is in
    omega (arith, before, next, one)
  where
    after : (n : ℕ) → n + 1 ≡ suc n
    after n = omega arith

-- a slot that waits is no newest place
pub waiting_other : (kept : Kept) → is_waiting kept ≡ true → is_newest kept ≡ false
waiting_other Nothing waits = refl
waiting_other (Pending k) waits = refl
waiting_other (Moving r k) waits = refl
waiting_other (Newest b) waits = sym waits
waiting_other Unmade waits = refl

-- counts stay where each slot is a newest place as it was
pub counts_alike : (kept after : List Kept) (live : List ℕ) → ((slot : ℕ) → is_newest (get_or after slot Nothing) ≡ is_newest (get_or kept slot Nothing))
    → AreCounts kept live → AreCounts after live
counts_alike kept after live alike are = record { many = are.many; each = λ group low. are.each group low ∙ sym (same group 128) }
  where
    same : (group index : ℕ) → newest_below after group index ≡ newest_below kept group index
    same group zero = below_none after group ∙ sym (below_none kept group)
    same group (suc index) =
        let rest = same group index in
        let one : newest_in (get_or after (128 * group + index) Nothing) ≡ newest_in (get_or kept (128 * group + index) Nothing) =
        ap (λ (b : Bool). if b then 1 else 0) (alike (128 * group + index)) in
        let now = below_next after group index in
        let was = below_next kept group index in
        omega (arith, rest, one, now, was)

-- so where a group's number is opened again
pub counts_opened : (group : ℕ) (kept after : List Kept) (live : List ℕ) → IsOpened group kept after → AreCounts kept live → AreCounts after live
counts_opened group kept after live opened = counts_alike kept after live (λ slot. go slot (cases_eq (slot / 128) group))
  where
    alike : (k : Kept) → is_newest (opened_of k) ≡ is_newest k
    alike Nothing = refl
    alike (Pending k) = refl
    alike (Moving r k) = refl
    alike (Newest b) = refl
    alike Unmade = refl

    go : (slot : ℕ) → (slot / 128 ≡ group) ⊎ (slot / 128 ≡ group → ⊥) → is_newest (get_or after slot Nothing) ≡ is_newest (get_or kept slot Nothing)
    go slot (inl e) = ap is_newest (opened.here slot e) ∙ alike (get_or kept slot Nothing)
    go slot (inr ne) = ap is_newest (opened.rest slot ne)
