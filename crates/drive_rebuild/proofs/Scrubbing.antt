-- What a test of all slots has found so far.
use Rattle.std.proofs.Common.{◌≡◌, ◌∙◌, ◌⊎◌, inl, inr, ℕ, ◌+◌, ◌*◌, ◌/◌, ◌%◌, ◌<◌, ◌≤◌, Bool, true, false, None, List, [], ◌∷◌, ◌++◌, length, take, min, Contains, sym, ap, subst, arith}
use Rattle.std.specs.List.{sum_by}
use Rattle.std.proofs.lemmas.Bool.{cases_lt, cases_eq}
use Rattle.std.proofs.lemmas.List.{length_push, length-take-le, take-append-le, take_all}
use Rattle.std.proofs.lemmas.List.Elements.{Contains-append_left, Contains-push, Contains-push_cases}
use Rattle.std.proofs.lemmas.List.Sums.{sum_by_more}
use Rattle.std.proofs.lemmas.Option.{unwrap_or-slice_get}
use Rattle.map_join.proofs.Rising.{rising_push}
use Rattle.extent_groups.specs.declared.place.Place.{Place}
use Rattle.extent_groups.specs.Calls.{FadesAt}
use Rattle.extent_groups.specs.Cells.{Cells, held}
use Rattle.extent_groups.specs.Groups.{Groups, AreGroups, class_in, group_at, slots_in}
use Rattle.extent_groups.specs.Stores.{unit_bytes}
use Rattle.extent_groups.specs.Units.{Site, Pair, InStripe, row_of, IsSoundAt}
use Rattle.extent_groups.proofs.Bounds.{made_low}
use Rattle.extent_groups.proofs.Fading.{faded, fade_sound, fades_trans, row_fades}
use Rattle.extent_groups.proofs.GroupReads.{few_slots}
use Rattle.extent_groups.proofs.LayoutLaw.{slot_of}
use Rattle.consistency_check.specs.Sound.{IsAnswer, IsSoundSlot, IsUnsoundSlot}
use Rattle.drive_rebuild.specs.declared.scrub.Findings.{Findings}
use Rattle.drive_rebuild.specs.declared.scrub.TheConstants.{NAMED}
use Rattle.drive_rebuild.specs.Scrubbed.{AreUnsound, AreUnsoundBelow, ReportsSlots, slot_total, with_tested}

-- a sound site is sound after losses
site_fades : (n : ℕ) (c new : Cells) (site : Site) → ((x : Place) → FadesAt c new x) → IsSoundAt n c site → IsSoundAt n new site
site_fades n c new (Pair p q) fades sound = λ u v eu ev. sound u v (faded (held c p) (held new p) u (fades p) eu) (faded (held c q) (held new q) v (fades q) ev)
site_fades n c new (InStripe row p i) fades sound = fade_sound n (length row) (row_of c row) (row_of new row) sound (row_fades c new row (λ k x at. fades x))

-- and so is a slot
slot_fades : (t : Groups) (c new : Cells) (slot : ℕ) → ((x : Place) → FadesAt c new x) → IsSoundSlot t c slot → IsSoundSlot t new slot
slot_fades t c new slot fades sound site at = site_fades (unit_bytes t) c new site fades (sound site at)

-- a slot that isn't sound after losses wasn't sound before them
unsound_earlier : (t : Groups) (c new : Cells) (slot : ℕ) → ((x : Place) → FadesAt c new x) → IsUnsoundSlot t new slot → IsUnsoundSlot t c slot
unsound_earlier t c new slot fades bad = (bad.0, bad.1, λ sound. bad.2 (site_fades (unit_bytes t) c new bad.0 fades sound))

-- losses add up
pub fades_more : (a b c : Cells) → ((x : Place) → FadesAt a b x) → ((x : Place) → FadesAt b c x) → (x : Place) → FadesAt a c x
fades_more a b c one two x = fades_trans (held a x) (held b x) (held c x) (one x) (two x)

-- no slot was tested yet
pub none_below : (t : Groups) (before after : Cells) → AreUnsoundBelow t before after 0 []
none_below t before after = record {
  rising = λ k l. absurd (omega (arith, l));
  few = omega arith;
  low = λ slot c. absurd (omega (arith, c.1));
  unsound = λ slot c. absurd (omega (arith, c.1));
  others = λ slot l. absurd (omega (arith, l));
}

-- one slot more was tested
pub one_more : (t : Groups) (before old new : Cells) (slot end : ℕ) (slots : List ℕ) (b : Bool) → end ≡ slot + 1 → ((x : Place) → FadesAt before new x)
    → ((x : Place) → FadesAt old new x) → IsAnswer t new slot b → AreUnsoundBelow t before old slot slots → AreUnsoundBelow t before new end (with_tested slots slot b)
one_more t before old new slot end slots true e earlier fades sound so = record {
  rising = so.rising;
  few = omega (arith, so.few, e);
  low = λ s c. omega (arith, so.low s c, e);
  unsound = so.unsound;
  others = λ s l. by s l (cases_eq s slot);
}
  where
    by : (s : ℕ) → s < end → (s ≡ slot) ⊎ (s ≡ slot → ⊥) → Contains slots s ⊎ IsSoundSlot t new s
    by s l (inl q) = inr (subst (IsSoundSlot t new) (sym q) sound)
    by s l (inr ne) = elim (so.others s (omega (arith, l, ne, e))) [ inl c ↦ inl c | inr is ↦ inr (slot_fades t old new s fades is) ]
one_more t before old new slot end slots false e earlier fades bad so = record {
  rising = rising_push slots slot so.rising so.low;
  few = omega (arith, so.few, length_push slots slot, e);
  low = λ s c. below s (Contains-push_cases slots slot s c);
  unsound = λ s c. wrong s (Contains-push_cases slots slot s c);
  others = λ s l. by s l (cases_eq slot s);
}
  where
    below : (s : ℕ) → Contains slots s ⊎ (slot ≡ s) → s < end
    below s (inl c) = omega (arith, so.low s c, e)
    below s (inr q) = omega (arith, q, e)

    wrong : (s : ℕ) → Contains slots s ⊎ (slot ≡ s) → IsUnsoundSlot t before s
    wrong s (inl c) = so.unsound s c
    wrong s (inr q) = subst (IsUnsoundSlot t before) q (unsound_earlier t before new slot earlier bad)

    by : (s : ℕ) → s < end → (slot ≡ s) ⊎ (slot ≡ s → ⊥) → Contains (slots ++ slot ∷ []) s ⊎ IsSoundSlot t new s
    by s l (inl q) = inl (subst (Contains (slots ++ slot ∷ [])) q (Contains-push slots slot))
    by s l (inr ne) = elim (so.others s (omega (arith, l, ne, e))) [ inl c ↦ inl (Contains-append_left slots (slot ∷ []) s c) | inr is ↦ inr (slot_fades t old new s fades is) ]

-- a group has no slots but those that it counts
pub group_end : (t : Groups) (before after : Cells) (g count end : ℕ) (slots : List ℕ) → AreGroups t → count ≡ slots_in t.segments (group_at t g) → end ≡ 128 * g + 128
    → AreUnsoundBelow t before after (128 * g + count) slots → AreUnsoundBelow t before after end slots
group_end t before after g count end slots are is e so =
    let few : slots_in t.segments (group_at t g) < 128 = few_slots t g are in
    record {
      rising = so.rising;
      few = omega (arith, so.few, few, is, e);
      low = λ s c. omega (arith, so.low s c, few, is, e);
      unsound = so.unsound;
      others = λ s l. by s l (cases_lt s (128 * g + count));
    }
  where
    by : (s : ℕ) → s < end → (s < 128 * g + count) ⊎ (128 * g + count ≤ s) → Contains slots s ⊎ IsSoundSlot t after s
    by s l (inl low) = so.others s low
    by s l (inr past) = inr (λ site at. (
        let x = slot_of t.segments (group_at t (s / 128)) (s % 128) site at in
        let counted : s % 128 < slots_in t.segments (group_at t (s / 128)) = subst (λ o. s % 128 < slots_in t.segments o) (sym x.made) x.below in
        let home : s / 128 ≡ g = omega (arith, l, past, e) in
        let here : s % 128 < slots_in t.segments (group_at t g) = subst (λ h. s % 128 < slots_in t.segments (group_at t h)) home counted in
        absurd (omega (arith, here, is, past, home))))

-- no group has a higher number than 511
pub all_groups : (t : Groups) (before after : Cells) (bound : ℕ) (slots : List ℕ) → AreGroups t → bound ≡ 128 * 512 → AreUnsoundBelow t before after bound slots
    → AreUnsound t before after slots
all_groups t before after bound slots are e so = record { rising = so.rising; unsound = so.unsound; others = λ s. by s (cases_lt s bound) }
  where
    by : (s : ℕ) → (s < bound) ⊎ (bound ≤ s) → Contains slots s ⊎ IsSoundSlot t after s
    by s (inl low) = so.others s low
    by s (inr past) = inr (λ site at. (
        let x = slot_of t.segments (group_at t (s / 128)) (s % 128) site at in
        let low = made_low t (s / 128) x.group.class are.numbers (ap class_in x.made) in
        absurd (omega (arith, low, past, e))))

-- losses came before the test
pub tested_later : (t : Groups) (before old after : Cells) (slots : List ℕ) → ((x : Place) → FadesAt before old x) → AreUnsound t old after slots → AreUnsound t before after slots
tested_later t before old after slots fades are = record {
  rising = are.rising;
  unsound = λ slot c. unsound_earlier t before old slot fades (are.unsound slot c);
  others = are.others;
}

-- the test found none, but one wasn't sound before it
pub only_one : (t : Groups) (before after : Cells) (slots : List ℕ) (slot : ℕ) → length slots ≡ 0 → IsUnsoundSlot t before slot → AreUnsound t before after slots
    → AreUnsound t before after (slots ++ slot ∷ [])
only_one t before after slots slot none bad are = record {
  rising = rising_push slots slot are.rising (λ s c. absurd (omega (arith, c.1, none)));
  unsound = λ s c. by s (Contains-push_cases slots slot s c);
  others = λ s. elim (are.others s) [ inl c ↦ inl (Contains-append_left slots (slot ∷ []) s c) | inr is ↦ inr is ];
}
  where
    by : (s : ℕ) → Contains slots s ⊎ (slot ≡ s) → IsUnsoundSlot t before s
    by s (inl c) = are.unsound s c
    by s (inr q) = subst (IsUnsoundSlot t before) q bad

-- one more is named, where there is room
pub named_more : (most : ℕ) (slots named : List ℕ) (slot : ℕ) → named ≡ take most slots → length named < most → named ++ slot ∷ [] ≡ take most (slots ++ slot ∷ [])
named_more most slots named slot is room = by (cases_lt (length slots) most)
  where
    by : (length slots < most) ⊎ (most ≤ length slots) → named ++ slot ∷ [] ≡ take most (slots ++ slot ∷ [])
    by (inl few) =
        let all : take most slots ≡ slots = take_all most slots (omega (arith, few)) in
        ap (λ l. l ++ slot ∷ []) (is ∙ all) ∙ sym (take_all most (slots ++ slot ∷ []) (omega (arith, few, length_push slots slot)))
    by (inr many) = absurd (omega (arith, room, ap length is, length-take-le most slots many))

-- where there is none, it isn't
pub named_same : (most : ℕ) (slots named : List ℕ) (slot : ℕ) → named ≡ take most slots → most ≤ length named → named ≡ take most (slots ++ slot ∷ [])
named_same most slots named slot is full = by (cases_lt (length slots) most)
  where
    by : (length slots < most) ⊎ (most ≤ length slots) → named ≡ take most (slots ++ slot ∷ [])
    by (inl few) = absurd (omega (arith, full, few, ap length is, ap length (take_all most slots (omega (arith, few)))))
    by (inr many) = is ∙ sym (take-append-le most slots (slot ∷ []) many)

-- one group's slots more are counted
pub total_more : (t : Groups) (g sum count new : ℕ) → AreGroups t → g < 512 → sum ≡ sum_by (slots_in t.segments) (take g t.table) → count ≡ slots_in t.segments (group_at t g)
    → new ≡ sum + count → new ≡ sum_by (slots_in t.segments) (take (g + 1) t.table)
total_more t g sum count new are low so is e =
    e ∙ ap (λ s. s + count) so
    ∙ ap (λ c. sum_by (slots_in t.segments) (take g t.table) + c) (is ∙ ap (slots_in t.segments) (unwrap_or-slice_get t.table g None))
    ∙ sym (sum_by_more (slots_in t.segments) t.table g None (omega (arith, low, are.numbers)))

-- all groups' slots are counted
pub total_all : (t : Groups) (g sum : ℕ) → AreGroups t → 512 ≤ g → sum ≡ sum_by (slots_in t.segments) (take g t.table) → sum ≡ slot_total t
total_all t g sum are past so = so ∙ ap (sum_by (slots_in t.segments)) (take_all g t.table (omega (arith, past, are.numbers)))

-- a slot that isn't sound is counted
pub reports_more : (total slot : ℕ) (slots : List ℕ) (b : Bool) (old new : Findings) → b ≡ false → length slots < 4294967295 → ReportsSlots total slots old → new.slots ≡ old.slots
    → new.unsound ≡ min (old.unsound + 1) 4294967295 → new.named.items ≡ take NAMED (slots ++ slot ∷ []) → ReportsSlots total (with_tested slots slot b) new
reports_more total slot slots true old new e few reported same count named = absurd (let both : true ≡ false = e in cc)
reports_more total slot slots false old new e few reported same count named =
    let more : new.unsound ≡ length slots + 1 = omega (arith, count, reported.counted, few) in
    record { tested = same ∙ reported.tested; counted = more ∙ sym (length_push slots slot); named = named }
