-- Claims that go into places and come out of them, counted by slot.
use Rattle.std.proofs.Common.{◌≡◌, ℕ, zero, suc, ◌+◌, ◌<◌, ◌≤◌, ◌==◌, Bool, true, false, List, [], ◌∷◌, ◌++◌, length, take, get_or, cond, replicate, refl, sym, ap, ◌∙◌, subst, arith, ◌⊎◌, inl, inr, Option, Some, None, IsTrue, ◌↔◌}
use Rattle.std.specs.Prelude.{Contains, nat_lt, if◌then◌else◌}
use Rattle.std.proofs.Math.ListN.{set}
use Rattle.std.proofs.Math.ListN.{get_or-append}
use Rattle.std.proofs.Math.Seq.{get_or-append_seam, take-suc, take-length}
use Rattle.std.proofs.lemmas.List.{get_or_past, get_or-set_same, get_or-set_other, length-set, length-append, get_or-replicate, length-replicate}
use Rattle.std.proofs.lemmas.List.Elements.{Contains-append_left, Contains-get_or, Contains-push_cases, Contains-push}
use Rattle.std.proofs.lemmas.List.Sums.{sum_by-append}
use Rattle.std.proofs.lemmas.Bool.{cases_eq, cases_lt}
use Rattle.std.proofs.lemmas.Option.{same_Some}
use Rattle.std.proofs.lemmas.Bool.Decides.{nat_tests}
use Rattle.map_join.specs.declared.records.Record.{Record}
use Rattle.slot_tables.specs.Views.{Kept, Nothing, Newest}
use Rattle.slot_tables.specs.declared.slot_state.SlotState.{SlotState}
use Rattle.slot_tables.specs.declared.slot_state.SlotState.TheVariants as state
use Rattle.slot_tables.specs.Kept.{kept_of, kepts_of, IsClaimOf, AreOf}
use Rattle.slot_tables.proofs.Places.{kept_past, kept_there}
use Rattle.slot_tables.specs.Claims.{how_many, claims_in, IsExpected, AreExpected, LieBelow, expected_at, kept_for, IsClaimed}

-- a slot that is wanted is in the table
pub expected_low : (expected : List (Option ℕ)) (slot b : ℕ) → expected_at expected slot ≡ Some b → slot < length expected
expected_low expected slot b is = by (cases_lt slot (length expected))
  where
    by : (slot < length expected) ⊎ (length expected ≤ slot) → slot < length expected
    by (inl inside) = inside
    by (inr past) = absurd (let none = get_or_past expected slot None past in cc)

-- one more record: its slot is its block's
pub expected_more : (records : List Record) (slots : ℕ) (expected : List (Option ℕ)) (r : Record) → r.place < slots → AreExpected records slots expected
    → AreExpected (records ++ r ∷ []) slots (set expected r.place (Some r.block))
expected_more records slots expected r inside before = record {
  many = length-set expected r.place (Some r.block) ∙ before.many;
  each = λ slot. go slot (cases_eq slot r.place);
}
  where
    still : (slot : ℕ) → (slot ≡ r.place → ⊥) → (o : Option ℕ) → IsExpected records slot o → IsExpected (records ++ r ∷ []) slot o
    still slot ne None none = λ q has e. other q e (Contains-push_cases records r q has)
      where
        other : (q : Record) → q.place ≡ slot → (Contains records q) ⊎ (r ≡ q) → ⊥
        other q e (inl old) = none q old e
        other q e (inr is) = ne (sym e ∙ ap (λ (x : Record). x.place) (sym is))
    still slot ne (Some b) some = (some.0, Contains-append_left records (r ∷ []) some.0 some.1, some.2, some.3)

    go : (slot : ℕ) → (slot ≡ r.place) ⊎ (slot ≡ r.place → ⊥) → IsExpected (records ++ r ∷ []) slot (expected_at (set expected r.place (Some r.block)) slot)
    go slot (inl e) =
        let many = before.many in
        let here : r.place < length expected = omega (arith, many) in
        rw (e, get_or-set_same expected r.place (Some r.block) None here) (r, Contains-push records r, refl, refl)
    go slot (inr ne) = rw (get_or-set_other expected r.place slot (Some r.block) None ne) (still slot ne (expected_at expected slot) (before.each slot))

-- one claim more
abbrev pub one_at : ℕ → ℕ → ℕ
one_at here slot = cond (here == slot) 1 0

pub counted_more : {C : Type 0} (names : C → ℕ) (claims : List C) (claim : C) (slot : ℕ)
    → how_many names (claims ++ claim ∷ []) slot ≡ how_many names claims slot + one_at (names claim) slot
counted_more {C} names claims claim slot =
    let more = sum_by-append (λ c. cond (names c == slot) 1 0) claims (claim ∷ []) in
    omega (arith, more)

pub one_here : (here : ℕ) → one_at here here ≡ 1
one_here here = grind (arith, nat_tests)

pub some_here : {C : Type 0} (names : C → ℕ) (c : C) (claims : List C) → 0 < how_many names (c ∷ claims) (names c)
some_here names c claims =
    let more = sum_by-append (λ d. cond (names d == names c) 1 0) (c ∷ []) claims in
    let one = one_here (names c) in
    omega (arith, more, one)

pub one_else : (here slot : ℕ) → (slot ≡ here → ⊥) → one_at here slot ≡ 0
one_else here slot ne = grind (arith, nat_tests)

-- what has become of a place that is wanted or not: it waits with nothing in it, or has what is wanted
pub data IsSeat (was now : Option ℕ) (kept : Kept) : Type 0 where
  waits : now ≡ was → kept ≡ Nothing → IsSeat was now kept
  has : now ≡ None → kept ≡ kept_for was → IsSeat was now kept

-- claims on their way into places: those that are left to place, those that are placed and the others are all
pub record AreSeated {C : Type 0} (names : C → ℕ) (all : List C) (expected : List (Option ℕ)) (left : List C) (now : List (Option ℕ)) (kept : List Kept) (others : List C) : Type 0 where
  pub many : length now ≡ length expected
  pub room : length kept ≡ 65536
  pub seats : (slot : ℕ) → IsSeat (expected_at expected slot) (expected_at now slot) (get_or kept slot Nothing)
  pub claimed : (slot : ℕ) → IsClaimed names left now slot
  pub shared : (slot : ℕ) → how_many names all slot ≡ how_many names left slot + (claims_in (get_or kept slot Nothing) + how_many names others slot)

seat_taken : (was : Option ℕ) (b : ℕ) (kept : Kept) → IsSeat was (Some b) kept → (was ≡ Some b) × (kept ≡ Nothing)
seat_taken was b kept (waits e k) = (sym e, k)
seat_taken was b kept (has e k) = absurd (cc)

-- a claim whose slot is the wanted place of a block: it is seated there
pub seated_more : {C : Type 0} (names : C → ℕ) (all : List C) (expected : List (Option ℕ)) (left : List C) (claim : C) (now : List (Option ℕ)) (kept : List Kept) (others : List C) (b : ℕ)
    → names claim < 65536 → expected_at now (names claim) ≡ Some b
    → AreSeated names all expected (left ++ claim ∷ []) now kept others
    → AreSeated names all expected left (set now (names claim) None) (set kept (names claim) (Newest b)) others
seated_more {C} names all expected left claim now kept others b inside needs before = record {
  many = length-set now here None ∙ before.many;
  room = length-set kept here (Newest b) ∙ before.room;
  seats = λ slot. seat slot (cases_eq slot here);
  claimed = λ slot. claimed slot (cases_eq slot here);
  shared = λ slot. shared slot (cases_eq slot here);
}
  where
    here : ℕ
    here = names claim

    in_now : here < length now
    in_now = expected_low now here b needs

    in_kept : here < length kept
    in_kept = let m = before.room in omega (arith, m, inside)

    taken : (expected_at expected here ≡ Some b) × (get_or kept here Nothing ≡ Nothing)
    taken = seat_taken (expected_at expected here) b (get_or kept here Nothing) (subst (λ o. IsSeat (expected_at expected here) o (get_or kept here Nothing)) needs (before.seats here))

    now_here : (slot : ℕ) → slot ≡ here → expected_at (set now here None) slot ≡ None
    now_here slot e = ap (expected_at (set now here None)) e ∙ get_or-set_same now here None None in_now

    kept_here : (slot : ℕ) → slot ≡ here → get_or (set kept here (Newest b)) slot Nothing ≡ Newest b
    kept_here slot e = ap (λ s. get_or (set kept here (Newest b)) s Nothing) e ∙ get_or-set_same kept here (Newest b) Nothing in_kept

    now_else : (slot : ℕ) → (slot ≡ here → ⊥) → expected_at (set now here None) slot ≡ expected_at now slot
    now_else slot ne = get_or-set_other now here slot None None ne

    kept_else : (slot : ℕ) → (slot ≡ here → ⊥) → get_or (set kept here (Newest b)) slot Nothing ≡ get_or kept slot Nothing
    kept_else slot ne = get_or-set_other kept here slot (Newest b) Nothing ne

    seat : (slot : ℕ) → (slot ≡ here) ⊎ (slot ≡ here → ⊥) → IsSeat (expected_at expected slot) (expected_at (set now here None) slot) (get_or (set kept here (Newest b)) slot Nothing)
    seat slot (inl e) = has (now_here slot e) (kept_here slot e ∙ sym (ap kept_for (ap (expected_at expected) e ∙ taken.0)))
    seat slot (inr ne) = rw (now_else slot ne, kept_else slot ne) (before.seats slot)

    claimed : (slot : ℕ) → (slot ≡ here) ⊎ (slot ≡ here → ⊥) → IsClaimed names left (set now here None) slot
    claimed slot (inl e) = λ c some. absurd (let n = now_here slot e in cc)
    claimed slot (inr ne) = λ c some.
        let h = before.claimed slot c (sym (now_else slot ne) ∙ some) in
        let more = counted_more names left claim slot in
        let none = one_else here slot ne in
        omega (arith, h, more, none)

    shared : (slot : ℕ) → (slot ≡ here) ⊎ (slot ≡ here → ⊥) → how_many names all slot ≡ how_many names left slot + (claims_in (get_or (set kept here (Newest b)) slot Nothing) + how_many names others slot)
    shared slot (inl e) =
        let h = before.shared slot in
        let more = counted_more names left claim slot in
        let one : one_at here slot ≡ 1 = ap (λ s. one_at here s) e ∙ one_here here in
        let was : claims_in (get_or kept slot Nothing) ≡ 0 = ap (λ s. claims_in (get_or kept s Nothing)) e ∙ ap claims_in taken.1 in
        let is : claims_in (get_or (set kept here (Newest b)) slot Nothing) ≡ 1 = ap claims_in (kept_here slot e) in
        omega (arith, h, more, one, was, is)
    shared slot (inr ne) =
        let h = before.shared slot in
        let more = counted_more names left claim slot in
        let none = one_else here slot ne in
        let same : claims_in (get_or (set kept here (Newest b)) slot Nothing) ≡ claims_in (get_or kept slot Nothing) = ap claims_in (kept_else slot ne) in
        omega (arith, h, more, none, same)

-- a claim whose slot is no wanted place is one of the others
pub left_over : {C : Type 0} (names : C → ℕ) (all : List C) (expected : List (Option ℕ)) (left : List C) (claim : C) (now : List (Option ℕ)) (kept : List Kept) (others : List C)
    → expected_at now (names claim) ≡ None
    → AreSeated names all expected (left ++ claim ∷ []) now kept others
    → AreSeated names all expected left now kept (others ++ claim ∷ [])
left_over {C} names all expected left claim now kept others none before = record {
  many = before.many;
  room = before.room;
  seats = before.seats;
  claimed = λ slot c some.
      let h = before.claimed slot c some in
      let more = counted_more names left claim slot in
      let zero_here = one_else (names claim) slot (λ e. absurd (let x = ap (expected_at now) e in cc)) in
      omega (arith, h, more, zero_here);
  shared = λ slot.
      let h = before.shared slot in
      let more = counted_more names left claim slot in
      let also = counted_more names others claim slot in
      omega (arith, h, more, also);
}

-- none is left: each place has what is wanted
pub all_seated : {C : Type 0} (names : C → ℕ) (all : List C) (expected now : List (Option ℕ)) (kept : List Kept) (others : List C)
    → AreSeated names all expected [] now kept others → (slot : ℕ) → get_or kept slot Nothing ≡ kept_for (expected_at expected slot)
all_seated names all expected now kept others end slot = go (expected_at expected slot) (expected_at now slot) refl (end.seats slot)
  where
    go : (was is : Option ℕ) → expected_at now slot ≡ is → IsSeat was is (get_or kept slot Nothing) → get_or kept slot Nothing ≡ kept_for was
    go was None at (waits e k) = k ∙ ap kept_for e
    go was (Some b) at (waits e k) = absurd (let h = end.claimed slot b at in omega (arith, h))
    go was is at (has e k) = k

-- claims on their way out of places: of the slots that are done, from the last on, each has its claim out
pub record AreOut {C : Type 0} (names : C → ℕ) (all left : List (SlotState C)) (claims : List C) : Type 0 where
  pub of : AreOf names left
  pub fewer : length left ≤ length all
  pub same : (slot : ℕ) → slot < length left → get_or left slot state.Free ≡ get_or all slot state.Free
  pub out : (slot : ℕ) → slot < length left → how_many names claims slot ≡ 0
  pub rest : (slot : ℕ) → length left ≤ slot → how_many names claims slot ≡ claims_in (get_or (kepts_of all) slot Nothing)

out_less : {C : Type 0} (names : C → ℕ) (left : List (SlotState C)) (p : SlotState C) → AreOf names (left ++ p ∷ []) → AreOf names left × IsClaimOf names (length left) p
out_less {C} names left p of = (front, back)
  where
    long : length (left ++ p ∷ []) ≡ length left + 1
    long = length-append left (p ∷ [])

    front : AreOf names left
    front slot inside = rw (sym (get_or-append left (p ∷ []) state.Free slot inside)) (of slot (omega (arith, long, inside)))

    back : IsClaimOf names (length left) p
    back = rw (sym (get_or-append_seam left p [] state.Free)) (of (length left) (omega (arith, long)))

-- the last of the places left is done: whether it had a claim, and the claims that are out then
pub out_more : {C : Type 0} (names : C → ℕ) (all left : List (SlotState C)) (p : SlotState C) (claims now : List C)
    → AreOut names all (left ++ p ∷ []) claims
    → (names_more : (slot : ℕ) → how_many names now slot ≡ how_many names claims slot + (if slot == length left then claims_in (kept_of p) else 0))
    → AreOut names all left now
out_more {C} names all left p claims now before more = record {
  of = (out_less names left p before.of).0;
  fewer = let f = before.fewer in omega (arith, long, f);
  same = λ slot inside. sym (get_or-append left (p ∷ []) state.Free slot inside) ∙ before.same slot (omega (arith, long, inside));
  out = λ slot inside.
      let m = more slot in
      let o = before.out slot (omega (arith, long, inside)) in
      let z = else_none slot (claims_in (kept_of p)) (λ e. omega (arith, inside, e)) in
      omega (arith, m, o, z);
  rest = λ slot from. rest slot from (cases_eq slot (length left));
}
  where
    long : length (left ++ p ∷ []) ≡ length left + 1
    long = length-append left (p ∷ [])

    else_none : (slot n : ℕ) → (slot ≡ length left → ⊥) → (if slot == length left then n else 0) ≡ 0
    else_none slot n ne = grind (arith, nat_tests)

    here_one : (slot n : ℕ) → slot ≡ length left → (if slot == length left then n else 0) ≡ n
    here_one slot n e = grind (arith, nat_tests)

    rest : (slot : ℕ) → length left ≤ slot → (slot ≡ length left) ⊎ (slot ≡ length left → ⊥) → how_many names now slot ≡ claims_in (get_or (kepts_of all) slot Nothing)
    rest slot from (inl e) =
        let m = more slot in
        let o = before.out slot (omega (arith, long, e)) in
        let h = here_one slot (claims_in (kept_of p)) e in
        let f = before.fewer in
        let inside : slot < length all = omega (arith, e, f, long) in
        let at : get_or all slot state.Free ≡ p = sym (before.same slot (omega (arith, long, e))) ∙ ap (λ s. get_or (left ++ p ∷ []) s state.Free) e ∙ get_or-append_seam left p [] state.Free in
        let is : claims_in (kept_of p) ≡ claims_in (get_or (kepts_of all) slot Nothing) = ap (λ q. claims_in (kept_of q)) (sym at) ∙ ap claims_in (kept_there all slot state.Free inside) in
        omega (arith, m, o, h, is)
    rest slot from (inr ne) =
        let m = more slot in
        let o = before.rest slot (omega (arith, long, from, ne)) in
        let z = else_none slot (claims_in (kept_of p)) ne in
        omega (arith, m, o, z)

-- a place without a claim adds none, and one with a claim of its slot adds that
pub out_none : {C : Type 0} (names : C → ℕ) (all left : List (SlotState C)) (p : SlotState C) (claims : List C)
    → claims_in (kept_of p) ≡ 0 → AreOut names all (left ++ p ∷ []) claims → AreOut names all left claims
out_none {C} names all left p claims none before = out_more names all left p claims claims before (λ slot. let z = either (slot == length left) in omega (arith, z))
  where
    either : (b : Bool) → (if b then claims_in (kept_of p) else 0) ≡ 0
    either true = none
    either false = refl

pub out_one : {C : Type 0} (names : C → ℕ) (all left : List (SlotState C)) (p : SlotState C) (claims : List C) (claim : C)
    → names claim ≡ length left → claims_in (kept_of p) ≡ 1 → AreOut names all (left ++ p ∷ []) claims → AreOut names all left (claims ++ claim ∷ [])
out_one {C} names all left p claims claim named one before = out_more names all left p claims (claims ++ claim ∷ []) before (λ slot.
    let m = counted_more names claims claim slot in
    let s = same slot (cases_eq slot (length left)) in
    omega (arith, m, s))
  where
    at_one : (n : ℕ) → n ≡ 1 → (slot : ℕ) → slot ≡ length left → (if slot == length left then n else 0) ≡ 1
    at_one n is slot e = grind (arith, nat_tests)

    at_none : (n slot : ℕ) → (slot ≡ length left → ⊥) → (if slot == length left then n else 0) ≡ 0
    at_none n slot ne = grind (arith, nat_tests)

    same : (slot : ℕ) → (slot ≡ length left) ⊎ (slot ≡ length left → ⊥) → one_at (names claim) slot ≡ (if slot == length left then claims_in (kept_of p) else 0)
    same slot (inl e) = ap (one_at (names claim)) (e ∙ sym named) ∙ one_here (names claim) ∙ sym (at_one (claims_in (kept_of p)) one slot e)
    same slot (inr ne) = one_else (names claim) slot (λ e. ne (e ∙ named)) ∙ sym (at_none (claims_in (kept_of p)) slot ne)

-- what is out at the start, and at the end
pub none_out : {C : Type 0} (names : C → ℕ) (all : List (SlotState C)) (claims : List C) → length claims ≡ 0 → AreOf names all → AreOut names all all claims
none_out names all (c ∷ claims) none of = absurd (omega (arith, none))
none_out {C} names all [] none of = record {
  of = of;
  fewer = omega arith;
  same = λ slot inside. refl;
  out = λ slot inside. refl;
  rest = λ slot past. sym (ap claims_in (kept_past all slot past));
}

-- the claim's place among those that are left, of places from the last on
pub last_of : {C : Type 0} (names : C → ℕ) (all left : List (SlotState C)) (p : SlotState C) (claims : List C) → AreOut names all (left ++ p ∷ []) claims → IsClaimOf names (length left) p
last_of names all left p claims before = (out_less names left p before.of).1

-- before the first claim, all are left
pub none_seated : {C : Type 0} (names : C → ℕ) (all : List C) (expected : List (Option ℕ)) (kept : List Kept) (others : List C)
    → length kept ≡ 65536 → ((slot : ℕ) → get_or kept slot Nothing ≡ Nothing) → ((slot : ℕ) → IsClaimed names all expected slot) → length others ≡ 0
    → AreSeated names all expected all expected kept others
none_seated names all expected kept (c ∷ others) room free claimed none = absurd (omega (arith, none))
none_seated names all expected kept [] room free claimed none = record {
  many = refl;
  room = room;
  seats = λ slot. waits refl (free slot);
  claimed = claimed;
  shared = λ slot. let z : claims_in (get_or kept slot Nothing) ≡ 0 = ap claims_in (free slot) in omega (arith, z);
}

-- no claim is left
pub seats_end : {C : Type 0} (names : C → ℕ) (all : List C) (expected : List (Option ℕ)) (left : List C) (now : List (Option ℕ)) (kept : List Kept) (others : List C)
    → length left ≡ 0 → AreSeated names all expected left now kept others → AreSeated names all expected [] now kept others
seats_end names all expected [] now kept others none seated = seated
seats_end names all expected (c ∷ left) now kept others none seated = absurd (omega (arith, none))

-- what was done with a claim, by whether it was returned
pub record IsSeated {C : Type 0} (here : ℕ) (claim : C) (result : Option C) (now later : List (Option ℕ)) (kept after : List Kept) : Type 0 where
  pub seated : (b : ℕ) → expected_at now here ≡ Some b → (result ≡ None) × (later ≡ set now here None) × (after ≡ set kept here (Newest b))
  pub left : expected_at now here ≡ None → (result ≡ Some claim) × (later ≡ now) × (after ≡ kept)

pub seated_one : {C : Type 0} (names : C → ℕ) (all : List C) (expected : List (Option ℕ)) (left : List C) (claim : C) (now later : List (Option ℕ)) (kept after : List Kept) (others : List C)
    → names claim < 65536 → IsSeated (names claim) claim None now later kept after
    → AreSeated names all expected (left ++ claim ∷ []) now kept others → AreSeated names all expected left later after others
seated_one {C} names all expected left claim now later kept after others inside done before = go (expected_at now (names claim)) refl
  where
    go : (o : Option ℕ) → expected_at now (names claim) ≡ o → AreSeated names all expected left later after others
    go None at = absurd (let e = (done.left at).0 in cc)
    go (Some b) at = let d = done.seated b at in rw (d.1, d.2) (seated_more names all expected left claim now kept others b inside at before)

pub left_one : {C : Type 0} (names : C → ℕ) (all : List C) (expected : List (Option ℕ)) (left : List C) (claim other : C) (now later : List (Option ℕ)) (kept after : List Kept) (others : List C)
    → IsSeated (names claim) claim (Some other) now later kept after
    → AreSeated names all expected (left ++ claim ∷ []) now kept others → AreSeated names all expected left later after (others ++ other ∷ [])
left_one {C} names all expected left claim other now later kept after others done before = go (expected_at now (names claim)) refl
  where
    go : (o : Option ℕ) → expected_at now (names claim) ≡ o → AreSeated names all expected left later after (others ++ other ∷ [])
    go (Some b) at = absurd (let e = (done.seated b at).0 in cc)
    go None at = let d = done.left at in rw (same_Some _ _ d.0, d.1, d.2) (left_over names all expected left claim now kept others at before)

-- marks of those of the first `slots` slots that have a claim
pub record AreMarked {C : Type 0} (names : C → ℕ) (claims : List C) (slots : ℕ) (marks : List Bool) : Type 0 where
  pub many : length marks ≡ slots
  pub each : (slot : ℕ) → slot < slots → get_or marks slot true ≡ nat_lt 0 (how_many names claims slot)

pub none_marked : {C : Type 0} (names : C → ℕ) (slots : ℕ) (marks : List Bool) → marks ≡ replicate slots false → AreMarked names [] slots marks
none_marked names slots marks same = record {
  many = ap length same ∙ length-replicate slots false;
  each = λ slot inside. ap (λ m. get_or m slot true) same ∙ get_or-replicate slots slot false true inside;
}

-- one claim more; of a slot past the marks it changes none
pub marked_more : {C : Type 0} (names : C → ℕ) (claims : List C) (slots : ℕ) (marks : List Bool) (claim : C) → AreMarked names claims slots marks
    → AreMarked names (claims ++ claim ∷ []) slots (set marks (names claim) true)
marked_more {C} names claims slots marks claim before = record {
  many = length-set marks (names claim) true ∙ before.many;
  each = λ slot low. go slot low (cases_eq slot (names claim));
}
  where
    some_more : (n m : ℕ) → m ≡ n + 1 → true ≡ nat_lt 0 m
    some_more n m e = grind (arith, nat_tests)

    go : (slot : ℕ) → slot < slots → (slot ≡ names claim) ⊎ (slot ≡ names claim → ⊥) → get_or (set marks (names claim) true) slot true ≡ nat_lt 0 (how_many names (claims ++ claim ∷ []) slot)
    go slot low (inl e) =
        let m = counted_more names claims claim slot in
        let one : one_at (names claim) slot ≡ 1 = ap (one_at (names claim)) e ∙ one_here (names claim) in
        let many = before.many in
        ap (λ s. get_or (set marks (names claim) true) s true) e ∙ get_or-set_same marks (names claim) true true (omega (arith, many, low, e)) ∙ some_more (how_many names claims slot) (how_many names (claims ++ claim ∷ []) slot) (omega (arith, m, one))
    go slot low (inr ne) =
        let m = counted_more names claims claim slot in
        let none = one_else (names claim) slot ne in
        get_or-set_other marks (names claim) slot true true ne ∙ before.each slot low ∙ ap (nat_lt 0) (omega (arith, m, none))

-- no slot is wanted by no record
pub none_expected : (slots : ℕ) (expected : List (Option ℕ)) → expected ≡ replicate slots None → AreExpected [] slots expected
none_expected slots expected same = record {
  many = ap length same ∙ length-replicate slots None;
  each = λ slot. rw (ap (λ w. expected_at w slot) same ∙ replicated slots slot) (λ r has e. absurd (let h = has.1 in omega (arith, h)));
}
  where
    replicated : (n slot : ℕ) → expected_at (replicate n None) slot ≡ None
    replicated zero zero = refl
    replicated zero (suc slot) = refl
    replicated (suc n) zero = refl
    replicated (suc n) (suc slot) = replicated n slot

-- one element more of a list, and a list that has none
pub take_next : {X : Type 0} (xs : List X) (index : ℕ) (d : X) → index < length xs → take (index + 1) xs ≡ take index xs ++ get_or xs index d ∷ []
take_next xs index d inside = ap (λ n. take n xs) (next index) ∙ take-suc xs index d inside
  where
    next : (n : ℕ) → n + 1 ≡ suc n
    next n = omega arith

-- the place of a record of the list is below what all its places are
pub place_low : (records : List Record) (index slots : ℕ) (d : Record) (here : ℕ) → index < length records → here ≡ (get_or records index d).place → LieBelow slots records → here < slots
place_low records index slots d here inside is all = rw is (all (get_or records index d) (Contains-get_or records index d inside))

-- the next record of a list, and the next claim
pub expected_next : (records : List Record) (index slots : ℕ) (expected : List (Option ℕ)) (d : Record) (here : ℕ) → index < length records
    → here ≡ (get_or records index d).place → LieBelow slots records → AreExpected (take index records) slots expected
    → AreExpected (take (index + 1) records) slots (set expected here (Some (get_or records index d).block))
expected_next records index slots expected d here inside is all before =
    rw (take_next records index d inside, is) (expected_more (take index records) slots expected (get_or records index d) (all (get_or records index d) (Contains-get_or records index d inside)) before)

pub marked_next : {C : Type 0} (names : C → ℕ) (claims : List C) (index slots : ℕ) (marks : List Bool) (claim : C) (here : ℕ) → index < length claims
    → claim ≡ get_or claims index claim → here ≡ names claim → AreMarked names (take index claims) slots marks
    → AreMarked names (take (index + 1) claims) slots (set marks here true)
marked_next {C} names claims index slots marks claim here inside is named before =
    rw (take_next claims index claim inside, sym is, named) (marked_more names (take index claims) slots marks claim before)

-- all claims have their marks
pub marked_all : {C : Type 0} (names : C → ℕ) (claims : List C) (index slots : ℕ) (marks : List Bool) → index ≡ length claims → AreMarked names (take index claims) slots marks
    → (slot : ℕ) → slot < slots → IsTrue (get_or marks slot true) ↔ (0 < how_many names claims slot)
marked_all {C} names claims index slots marks end before slot low =
    rw (before.each slot low, end, take-length claims) (decides (how_many names claims slot))
  where
    decides : (n : ℕ) → IsTrue (nat_lt 0 n) ↔ (0 < n)
    decides n = grind (arith, nat_tests)
