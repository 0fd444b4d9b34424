-- Tables with one place changed.
use Rattle.std.proofs.Common.{◌≡◌, ℕ, zero, suc, ◌-◌, ◌<◌, ◌≤◌, List, [], ◌∷◌, ◌++◌, length, map, replicate, Vec, vec_len, get_or, refl, sym, ap, ◌∙◌, arith, ◌⊎◌, inl, inr}
use Rattle.std.proofs.Math.ListN.{set}
use Rattle.std.specs.Global.{Global}
use Rattle.std.proofs.lemmas.List.{map-set, map-append, append_assoc, length-append, length-map, length-replicate, length-set, set-append_left, get_or-map, get_or_append_left, get_or-append_right, get_or_past, get_or_push}
use Rattle.std.proofs.lemmas.Bool.{cases_lt}
use Rattle.slot_tables.specs.declared.slot_state.SlotState.{SlotState}
use Rattle.slot_tables.specs.declared.slot_state.SlotState.TheVariants as state
use Rattle.slot_tables.specs.Kept.{kept_of, kepts_of, IsClaimOf, AreOf}
use Rattle.slot_tables.specs.Views.{Kept, Nothing}

-- what is kept at a place
pub kept_there : {C : Type 0} (places : List (SlotState C)) (s : ℕ) (d : SlotState C) → s < length places
    → kept_of (get_or places s d) ≡ get_or (kepts_of places) s Nothing
unfolding kepts_of
kept_there places s d h =
    let long = length-map places kept_of in
    sym (get_or_append_left (map kept_of places) (replicate (65536 - length places) Nothing) Nothing s (omega (arith, long, h)) ∙ get_or-map kept_of places s d Nothing h)

-- what a place holds of a slot of which nothing is kept
pub free_there : {C : Type 0} (places : List (SlotState C)) (s : ℕ) (p : SlotState C) → s < length places → p ≡ get_or places s p → get_or (kepts_of places) s Nothing ≡ Nothing
    → kept_of p ≡ Nothing
free_there places s p inside is free = ap kept_of is ∙ kept_there places s p inside ∙ free

-- and a free place's slot is one of which nothing is kept
pub nothing_there : {C : Type 0} (places : List (SlotState C)) (s : ℕ) (p : SlotState C) → s < length places → p ≡ get_or places s p → p ≡ state.Free
    → get_or (kepts_of places) s Nothing ≡ Nothing
nothing_there places s p inside is free = sym (kept_there places s p inside) ∙ ap kept_of (sym is ∙ free)

-- tables as plain data, with one place changed
pub kepts_set : {C : Type 0} (places : List (SlotState C)) (s : ℕ) (p : SlotState C) → s < length places → kepts_of (set places s p) ≡ set (kepts_of places) s (kept_of p)
unfolding kepts_of
kepts_set places s p h =
    let long = length-map places kept_of in
    ap (λ n. map kept_of (set places s p) ++ replicate (65536 - n) Nothing) (length-set places s p)
    ∙ ap (λ (ks : List Kept). ks ++ replicate (65536 - length places) Nothing) (map-set kept_of places s p)
    ∙ sym (set-append_left (map kept_of places) (replicate (65536 - length places) Nothing) s (kept_of p) (omega (arith, long, h)))

-- there is one for each of the 65536 slots
pub kepts_many : {C : Type 0} (places : List (SlotState C)) → length places ≤ 65536 → length (kepts_of places) ≡ 65536
unfolding kepts_of
kepts_many places most =
    let long = length-map places kept_of in
    let both = length-append (map kept_of places) (replicate (65536 - length places) Nothing) in
    let past = length-replicate (65536 - length places) Nothing in
    omega (arith, long, both, past, most)

pub places_many : {C : Type 0} (places : Vec (SlotState C) Global) → vec_len places ≤ 65536 → length (kepts_of places.items) ≡ 65536
places_many places most = kepts_many places.items (let own = places.ok.0 in omega (arith, own, most))

-- and no fewer than places
pub kepts_longer : {C : Type 0} (places : List (SlotState C)) → length places ≤ length (kepts_of places)
unfolding kepts_of
kepts_longer places =
    let long = length-map places kept_of in
    let both = length-append (map kept_of places) (replicate (65536 - length places) Nothing) in
    omega (arith, long, both)

-- nothing is kept past the table's end
pub kept_past : {C : Type 0} (places : List (SlotState C)) (s : ℕ) → length places ≤ s → get_or (kepts_of places) s Nothing ≡ Nothing
unfolding kepts_of
kept_past places s past =
    let long = length-map places kept_of in
    get_or-append_right (map kept_of places) (replicate (65536 - length places) Nothing) (length places) s Nothing long past
    ∙ all_nothing (65536 - length places) (s - length places)
  where
    all_nothing : (n i : ℕ) → get_or (replicate n Nothing) i Nothing ≡ Nothing
    all_nothing zero zero = refl
    all_nothing zero (suc i) = refl
    all_nothing (suc n) zero = refl
    all_nothing (suc n) (suc i) = all_nothing n i

-- a slot of which something is kept is one of them
pub kept_inside : (ks : List Kept) (s : ℕ) → (get_or ks s Nothing ≡ Nothing → ⊥) → s < length ks
kept_inside ks s some = by (cases_lt s (length ks))
  where
    by : (s < length ks) ⊎ (length ks ≤ s) → s < length ks
    by (inl inside) = inside
    by (inr past) = absurd (some (get_or_past ks s Nothing past))

-- and lies before the table's end
pub kept_before : {C : Type 0} (places : List (SlotState C)) (s : ℕ) → (get_or (kepts_of places) s Nothing ≡ Nothing → ⊥) → s < length places
kept_before places s some = by (cases_lt s (length places))
  where
    by : (s < length places) ⊎ (length places ≤ s) → s < length places
    by (inl inside) = inside
    by (inr past) = absurd (some (kept_past places s past))

-- nothing kept of a slot past the end, all is as it was
pub kepts_past : {C : Type 0} (places : List (SlotState C)) (s : ℕ) → length places ≤ s → set (kepts_of places) s Nothing ≡ kepts_of places
kepts_past places s past = same (kepts_of places) s (kept_past places s past)
  where
    same : (ks : List Kept) (i : ℕ) → get_or ks i Nothing ≡ Nothing → set ks i Nothing ≡ ks
    same [] i e = refl
    same (k ∷ ks) zero e = ap (λ j. j ∷ ks) (sym e)
    same (k ∷ ks) (suc i) e = ap (λ js. k ∷ js) (same ks i e)

-- nothing is kept where all places are free
pub none_kept : {C : Type 0} (places : List (SlotState C)) → ((s : ℕ) → get_or places s state.Free ≡ state.Free) → (s : ℕ) → get_or (kepts_of places) s Nothing ≡ Nothing
none_kept {C} places all s = by (cases_lt s (length places))
  where
    by : (s < length places) ⊎ (length places ≤ s) → get_or (kepts_of places) s Nothing ≡ Nothing
    by (inl inside) = sym (kept_there places s state.Free inside) ∙ ap kept_of (all s)
    by (inr past) = kept_past places s past

-- a free place more changes nothing
pub kepts_push : {C : Type 0} (places : List (SlotState C)) → length places < 65536 → kepts_of (places ++ state.Free ∷ []) ≡ kepts_of places
unfolding kepts_of
kepts_push {C} places fewer =
    let more = length-append places (state.Free ∷ []) in
    let one : 65536 - length places ≡ suc (65536 - length (places ++ state.Free ∷ [])) = omega (arith, more, fewer) in
    ap (λ (ks : List Kept). ks ++ replicate (65536 - length (places ++ state.Free ∷ [])) Nothing) (map-append kept_of places (state.Free ∷ []))
    ∙ append_assoc (map kept_of places) (Nothing ∷ []) (replicate (65536 - length (places ++ state.Free ∷ [])) Nothing)
    ∙ ap (λ n. map kept_of places ++ replicate n Nothing) (sym one)

-- a free place more has no claim of another slot
pub claims_push : {C : Type 0} (names : C → ℕ) (places : List (SlotState C)) → AreOf names places → AreOf names (places ++ state.Free ∷ [])
claims_push {C} names places all slot inside = by (cases_lt slot (length places))
  where
    by : (slot < length places) ⊎ (length places ≤ slot) → IsClaimOf names slot (get_or (places ++ state.Free ∷ []) slot state.Free)
    by (inl low) = rw (get_or_append_left places (state.Free ∷ []) state.Free slot low) (all slot low)
    by (inr past) = rw (get_or_push places state.Free state.Free slot (let more = length-append places (state.Free ∷ []) in omega (arith, more, inside, past))) tt

-- of two changes at one place the last is kept
pub set_twice : {X : Type 0} (xs : List X) (s : ℕ) (x y : X) → set (set xs s x) s y ≡ set xs s y
set_twice [] s x y = refl
set_twice (z ∷ xs) zero x y = refl
set_twice (z ∷ xs) (suc s) x y = ap (λ t. z ∷ t) (set_twice xs s x y)

-- and changes at two places are the same in either order
pub set_apart : {X : Type 0} (xs : List X) (s t : ℕ) (x y : X) → (s ≡ t → ⊥) → set (set xs s x) t y ≡ set (set xs t y) s x
set_apart [] s t x y apart = refl
set_apart (z ∷ xs) zero zero x y apart = absurd (apart refl)
set_apart (z ∷ xs) zero (suc t) x y apart = refl
set_apart (z ∷ xs) (suc s) zero x y apart = refl
set_apart (z ∷ xs) (suc s) (suc t) x y apart = ap (λ l. z ∷ l) (set_apart xs s t x y (λ e. apart (ap suc e)))
