-- Counts of live slots of parity groups.
use Rattle.std.proofs.Common.{◌≡◌, ◌≢◌, ◌∙◌, ◌⊎◌, inl, inr, ℕ, zero, suc, ◌+◌, ◌*◌, ◌/◌, ◌%◌, ◌<◌, ◌≤◌, List, [], ◌∷◌, ◌++◌, length, refl, sym, subst, arith, Option, Some, None}
use Rattle.std.proofs.lemmas.Bool.{cases_lt}
use Rattle.std.proofs.lemmas.List.{length_push}
use Rattle.map_join.specs.Lists.{ListsBelow, IsCount}
use Rattle.map_join.specs.Live.{MapsTo, IsLive, IsLiveIn, IsLiveCount}
use Rattle.map_join.proofs.Rising.{count_same, count_once, count_some, count_zero, count_none, below_none, below_more, below_all}
use Rattle.extent_groups.specs.declared.class.Class.TheVariants.{Parity}
use Rattle.extent_groups.specs.Groups.{Group, Groups, IsFormed, AreGroups, group_at, class_in, slots_in}
use Rattle.extent_groups.proofs.Bounds.{slot_count_small}
use Rattle.extent_groups.specs.Stores.{IsSlotOf}
use Rattle.cleaner.specs.Counts.{IsLiveOf, IsHoleOf, HasLive, IsLowest}
use Rattle.cleaner.specs.Plans.{IsReclaimable}

-- a parity group's slots are those of its first indexes
pub slot_at : (groups : Groups) (group slot : ℕ) → class_in (group_at groups group) ≡ Some Parity → slot / 128 ≡ group
    → slot % 128 < slots_in groups.segments (group_at groups group) → IsSlotOf Parity groups slot
slot_at groups group slot made own l = record {
  made = subst (λ g. class_in (group_at groups g) ≡ Some Parity) (sym own) made;
  below = subst (λ g. slot % 128 < slots_in groups.segments (group_at groups g)) (sym own) l;
}

pub index_of : (groups : Groups) (group slot : ℕ) → IsSlotOf Parity groups slot → slot / 128 ≡ group → slot % 128 < slots_in groups.segments (group_at groups group)
index_of groups group slot is own = subst (λ g. slot % 128 < slots_in groups.segments (group_at groups g)) own is.below

-- an index below their number is that of a slot
slot_of_index : (groups : Groups) (group index : ℕ) → class_in (group_at groups group) ≡ Some Parity → slots_in groups.segments (group_at groups group) ≤ 128
    → index < slots_in groups.segments (group_at groups group) → IsSlotOf Parity groups (128 * group + index) × ((128 * group + index) / 128 ≡ group)
slot_of_index groups group index made few l =
    let own : (128 * group + index) / 128 ≡ group = omega (arith, l, few) in
    let at : (128 * group + index) % 128 ≡ index = omega (arith, l, few) in
    (slot_at groups group (128 * group + index) made own (omega (arith, at, l)), own)

-- the live ones of these were counted
pub live_counted : (groups : Groups) (keys : ℕ → ℕ) (group slots count : ℕ) → class_in (group_at groups group) ≡ Some Parity
    → slots ≡ slots_in groups.segments (group_at groups group) → IsLiveCount keys group slots count → HasLive groups keys group count
live_counted groups keys group slots count made is h = record {
  made = made;
  count = count_same (IsLiveIn keys group slots) (IsLiveOf groups keys group) count to from h;
}
  where
    to : (slot : ℕ) → IsLiveIn keys group slots slot → IsLiveOf groups keys group slot
    to slot m = record { slot_of = slot_at groups group slot made m.own (subst (λ n. slot % 128 < n) is m.among); own = m.own; live = m.live }

    from : (slot : ℕ) → IsLiveOf groups keys group slot → IsLiveIn keys group slots slot
    from slot m = record { own = m.own; among = subst (λ n. slot % 128 < n) (sym is) (index_of groups group slot m.slot_of m.own); live = m.live }

pub live_one : (groups : Groups) (keys : ℕ → ℕ) (group m n : ℕ) → HasLive groups keys group m → HasLive groups keys group n → m ≡ n
live_one groups keys group m n h k = count_once (IsLiveOf groups keys group) m n h.count k.count

pub some_live : (groups : Groups) (keys : ℕ → ℕ) (group n : ℕ) → HasLive groups keys group n → 0 < n → ((slot : ℕ) → IsLiveOf groups keys group slot → ⊥) → ⊥
some_live groups keys group n h some none = let s = count_some (IsLiveOf groups keys group) n h.count some in none s.0 s.1

-- a group of which every slot is live has no hole
pub full : (groups : Groups) (keys : ℕ → ℕ) (group live : ℕ) → slots_in groups.segments (group_at groups group) ≤ 128 → HasLive groups keys group live
    → live < slots_in groups.segments (group_at groups group)
    → ((slot : ℕ) → IsSlotOf Parity groups slot → slot / 128 ≡ group → IsLive keys slot) → ⊥
full groups keys group live few h hole all =
    let whole = build (slots_in groups.segments (group_at groups group)) (omega arith) in
    let lists = below_all P (128 * group + slots_in groups.segments (group_at groups group)) whole.0 low whole.1 in
    let same = count_once P live (slots_in groups.segments (group_at groups group)) h.count (whole.0, lists, whole.2) in
    absurd (omega (arith, same, hole))
  where
    P : ℕ → Type 0
    P = IsLiveOf groups keys group

    low : (n : ℕ) → IsLiveOf groups keys group n → n < 128 * group + slots_in groups.segments (group_at groups group)
    low n m = omega (arith, index_of groups group n m.slot_of m.own, m.own)

    here : (k : ℕ) → k < slots_in groups.segments (group_at groups group) → IsLiveOf groups keys group (128 * group + k)
    here k l =
        let at = slot_of_index groups group k h.made few l in
        record { slot_of = at.0; own = at.1; live = all (128 * group + k) at.0 at.1 }

    build : (k : ℕ) → k ≤ slots_in groups.segments (group_at groups group) → (numbers : List ℕ) × ListsBelow (IsLiveOf groups keys group) (128 * group + k) numbers × (length numbers ≡ k)
    build zero l = ([], below_none (IsLiveOf groups keys group) (128 * group + 0) (λ n m p. let own = p.own in absurd (omega (arith, own, m))), refl)
    build (suc k) l =
        let before = build k (omega (arith, l)) in
        let more = below_more (IsLiveOf groups keys group) (128 * group + k) before.0 (here k (omega (arith, l))) before.1 in (
          before.0 ++ (128 * group + k) ∷ [],
          subst (λ b. ListsBelow (IsLiveOf groups keys group) b (before.0 ++ (128 * group + k) ∷ [])) (omega arith) more,
          length_push before.0 (128 * group + k) ∙ (omega (arith, before.2)),
        )

-- no group has more than 128 slots
slots_few : (segments : ℕ) (o : Option Group) → ((x : Group) → o ≡ Some x → IsFormed x.members) → segments ≤ 8 → slots_in segments o ≤ 128
slots_few segments None formed short = omega arith
slots_few segments (Some x) formed short = let few = slot_count_small x.class (length x.members) segments (formed x refl).few short in omega arith

pub few_slots : (groups : Groups) (group : ℕ) → AreGroups groups → slots_in groups.segments (group_at groups group) ≤ 128
few_slots groups group are = slots_few groups.segments (group_at groups group) (λ x is. are.formed group x is) are.segments.1

-- a slot is its group's first and its index
slot_is : (group slot : ℕ) → slot / 128 ≡ group → 128 * group + slot % 128 ≡ slot
slot_is group slot own = omega arith

-- the first slot of a group of which something holds is the lowest
lowest_at : (P : ℕ → Type 0) (group index : ℕ) → ((m : ℕ) → P m → m / 128 ≡ group) → ((k : ℕ) → k < index → P (128 * group + k) → ⊥) → P (128 * group + index)
    → IsLowest P (128 * group + index)
lowest_at P group index own before here = record { holds = here; least = λ m p. by m p (cases_lt m (128 * group + index)) }
  where
    by : (m : ℕ) → P m → (m < 128 * group + index) ⊎ (128 * group + index ≤ m) → 128 * group + index ≤ m
    by m p (inr le) = le
    by m p (inl lt) =
        let is = slot_is group m (own m p) in
        absurd (before (m % 128) (omega (arith, lt, is)) (subst P (sym is) p))

-- the first live slot, and the first that isn't
pub lowest_live_at : (groups : Groups) (keys : ℕ → ℕ) (group index block : ℕ) → class_in (group_at groups group) ≡ Some Parity
    → slots_in groups.segments (group_at groups group) ≤ 128 → index < slots_in groups.segments (group_at groups group)
    → ((k : ℕ) → k < index → IsLive keys (128 * group + k) → ⊥) → MapsTo keys block (128 * group + index)
    → IsLowest (IsLiveOf groups keys group) (128 * group + index)
lowest_live_at groups keys group index block made few l before there =
    let at = slot_of_index groups group index made few l in
    lowest_at (IsLiveOf groups keys group) group index (λ m p. p.own) (λ k low p. before k low p.live) (record { slot_of = at.0; own = at.1; live = (block, there) })

pub none_live : (groups : Groups) (keys : ℕ → ℕ) (group slots : ℕ) → slots_in groups.segments (group_at groups group) ≤ slots
    → ((k : ℕ) → k < slots → IsLive keys (128 * group + k) → ⊥) → (slot : ℕ) → IsLiveOf groups keys group slot → ⊥
none_live groups keys group slots le none slot p =
    none (slot % 128) (omega (arith, le, index_of groups group slot p.slot_of p.own)) (subst (IsLive keys) (sym (slot_is group slot p.own)) p.live)

pub lowest_hole_at : (groups : Groups) (keys : ℕ → ℕ) (group index : ℕ) → class_in (group_at groups group) ≡ Some Parity
    → slots_in groups.segments (group_at groups group) ≤ 128 → index < slots_in groups.segments (group_at groups group)
    → ((k : ℕ) → k < index → IsLive keys (128 * group + k)) → (IsLive keys (128 * group + index) → ⊥)
    → IsLowest (IsHoleOf groups keys group) (128 * group + index)
lowest_hole_at groups keys group index made few l before there =
    let at = slot_of_index groups group index made few l in
    lowest_at (IsHoleOf groups keys group) group index (λ m p. p.own) (λ k low p. p.hole (before k low)) (record { slot_of = at.0; own = at.1; hole = there })

pub all_live : (groups : Groups) (keys : ℕ → ℕ) (group slots : ℕ) → slots_in groups.segments (group_at groups group) ≤ slots
    → ((k : ℕ) → k < slots → IsLive keys (128 * group + k)) → (slot : ℕ) → IsSlotOf Parity groups slot → slot / 128 ≡ group → IsLive keys slot
all_live groups keys group slots le all slot is own =
    subst (IsLive keys) (slot_is group slot own) (all (slot % 128) (omega (arith, le, index_of groups group slot is own)))

-- a parity group is empty exactly where no live slot was counted
pub empty_counted : (groups : Groups) (keys : ℕ → ℕ) (write : Option ℕ) (group count : ℕ) → write ≢ Some group → HasLive groups keys group count
    → (count ≡ 0 → IsReclaimable groups keys write group) × (IsReclaimable groups keys write group → count ≡ 0)
empty_counted groups keys write group count other has = (to, λ e. count_none (IsLiveOf groups keys group) count has.count e.idle)
  where
    to : count ≡ 0 → IsReclaimable groups keys write group
    to is = record {
      made = has.made;
      other = other;
      idle = count_zero (IsLiveOf groups keys group) (subst (IsCount (IsLiveOf groups keys group)) is has.count);
    }
