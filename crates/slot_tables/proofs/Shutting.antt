-- Claims and hands of a group's first slots, one slot more in each turn of a loop.
use Rattle.std.proofs.Common.{◌≡◌, ℕ, zero, suc, ◌+◌, ◌*◌, ◌<◌, ◌≤◌, ◌/◌, ◌%◌, ◌==◌, ◌&&◌, Bool, true, false, cond, nat_lt, List, [], ◌∷◌, ◌++◌, length, take, drop, get_or, replicate, refl, sym, ap, ◌∙◌, subst, arith, ◌⊎◌, inl, inr}
use Rattle.std.proofs.Math.ListN.{set}
use Rattle.std.proofs.lemmas.List.{get_or-set_same, get_or-set_other, length-set, take-append-drop, get_or-replicate}
use Rattle.std.proofs.lemmas.List.Sums.{sum_by-append}
use Rattle.std.proofs.lemmas.Bool.{cases_eq}
use Rattle.std.proofs.lemmas.Bool.Decides.{nat_tests}
use Rattle.slot_tables.specs.declared.hand.Hand.{Hand}
use Rattle.slot_tables.specs.Changes.{opened_of, IsClosed}
use Rattle.slot_tables.specs.Represents.{is_claim}
use Rattle.slot_tables.specs.Views.{Kept, Nothing, Pending, Moving, Newest, Unmade, ArrayView, hand_at, is_kept, kept_at}
use Rattle.slot_tables.specs.Claims.{how_many}
use Rattle.slot_tables.specs.Counted.{is_newest, AreCounts}
use Rattle.slot_tables.specs.Shut.{one_of, slots_in_group, shut_of, closed_of, CanUnmake, IsGiven, IsFirstNotHeld}
use Rattle.slot_tables.proofs.Counts.{counts_alike}
use Rattle.slot_tables.proofs.Seated.{one_at, counted_more, one_here, one_else, take_next}

-- a slot is one of a group's first
abbrev pub is_first : ℕ → ℕ → ℕ → Bool
is_first g count slot = (slot / 128 == g) && nat_lt (slot % 128) count

-- one slot more
pub record IsNext (g i slot : ℕ) : Type 0 where
  pub is : slot ≡ 128 * g + i
  pub now : is_first g (i + 1) slot ≡ true
  pub before : is_first g i slot ≡ false

pub record IsOther (g i slot : ℕ) : Type 0 where
  pub not : slot ≡ 128 * g + i → ⊥
  pub same : is_first g (i + 1) slot ≡ is_first g i slot

pub next_of : (g i slot : ℕ) → i < 128 → (IsNext g i slot) ⊎ (IsOther g i slot)
next_of g i slot low = go (cases_eq (slot / 128) g) (cases_eq (slot % 128) i)
  where
    more_of : (n i : ℕ) → (n ≡ i → ⊥) → nat_lt n (i + 1) ≡ nat_lt n i
    more_of n i ne = grind (arith, nat_tests)

    self_more : (n i : ℕ) → n ≡ i → nat_lt n (i + 1) ≡ true
    self_more n i e = grind (arith, nat_tests)

    self_none : (n i : ℕ) → n ≡ i → nat_lt n i ≡ false
    self_none n i e = grind (arith, nat_tests)

    equal : (a b : ℕ) → a ≡ b → (a == b) ≡ true
    equal a b e = grind (arith, nat_tests)

    unequal : (a b : ℕ) → (a ≡ b → ⊥) → (a == b) ≡ false
    unequal a b ne = grind (arith, nat_tests)

    go : (slot / 128 ≡ g) ⊎ (slot / 128 ≡ g → ⊥) → (slot % 128 ≡ i) ⊎ (slot % 128 ≡ i → ⊥) → (IsNext g i slot) ⊎ (IsOther g i slot)
    go (inl e) (inl f) = inl record {
      is = omega (arith, e, f);
      now = ap (λ b. b && nat_lt (slot % 128) (i + 1)) (equal (slot / 128) g e) ∙ self_more (slot % 128) i f;
      before = ap (λ b. b && nat_lt (slot % 128) i) (equal (slot / 128) g e) ∙ self_none (slot % 128) i f;
    }
    go (inl e) (inr nf) = inr record {
      not = λ is. nf (omega (arith, is, low));
      same = ap (λ b. (slot / 128 == g) && b) (more_of (slot % 128) i nf);
    }
    go (inr ne) x = inr record {
      not = λ is. ne (omega (arith, is, low));
      same = ap (λ b. b && nat_lt (slot % 128) (i + 1)) (unequal (slot / 128) g ne) ∙ sym (ap (λ b. b && nat_lt (slot % 128) i) (unequal (slot / 128) g ne));
    }

pub first_of : (g count slot : ℕ) → slot / 128 ≡ g → slot % 128 < count → is_first g count slot ≡ true
first_of g count slot e low = grind (arith, nat_tests)

pub of_first : (g count slot : ℕ) → is_first g count slot ≡ true → (slot / 128 ≡ g) × (slot % 128 < count)
of_first g count slot first = grind (arith, nat_tests)

pub not_first : (g count slot : ℕ) → (slot / 128 ≡ g → slot % 128 < count → ⊥) → is_first g count slot ≡ false
not_first g count slot off = go (is_first g count slot) refl
  where
    go : (b : Bool) → is_first g count slot ≡ b → is_first g count slot ≡ false
    go true e = let y = of_first g count slot e in absurd (off y.0 y.1)
    go false e = e

-- there is one claim of a first slot, and none of another
pub one_first : (g count slot : ℕ) → is_first g count slot ≡ true → one_of g count slot ≡ 1
one_first g count slot e = ap (λ b. cond b 1 0) e

pub first_one : (g count slot : ℕ) → 0 < one_of g count slot → is_first g count slot ≡ true
first_one g count slot = go (is_first g count slot)
  where
    go : (b : Bool) → 0 < cond b 1 0 → b ≡ true
    go true h = refl
    go false h = absurd (omega (arith, h))

pub most_one : (g count slot : ℕ) → one_of g count slot ≤ 1
most_one g count slot = go (is_first g count slot)
  where
    go : (b : Bool) → cond b 1 0 ≤ 1
    go true = omega arith
    go false = omega arith

-- a list with one claim of each of a group's first slots, and one more
pub one_more : {C : Type 0} (names : C → ℕ) (claims : List C) (claim : C) (g i : ℕ) → i < 128 → names claim ≡ 128 * g + i → ((slot : ℕ) → how_many names claims slot ≡ one_of g i slot)
    → (slot : ℕ) → how_many names (claims ++ claim ∷ []) slot ≡ one_of g (i + 1) slot
one_more {C} names claims claim g i low named all slot = go (next_of g i slot low)
  where
    go : (IsNext g i slot) ⊎ (IsOther g i slot) → how_many names (claims ++ claim ∷ []) slot ≡ one_of g (i + 1) slot
    go (inl y) =
        let more = counted_more names claims claim slot in
        let one : one_at (names claim) slot ≡ 1 = ap (one_at (names claim)) (y.is ∙ sym named) ∙ one_here (names claim) in
        let was : how_many names claims slot ≡ 0 = all slot ∙ ap (λ b. cond b 1 0) y.before in
        let is : one_of g (i + 1) slot ≡ 1 = ap (λ b. cond b 1 0) y.now in
        omega (arith, more, one, was, is)
    go (inr y) =
        let more = counted_more names claims claim slot in
        let none : one_at (names claim) slot ≡ 0 = one_else (names claim) slot (λ e. y.not (e ∙ named)) in
        let was = all slot in
        let is : one_of g (i + 1) slot ≡ one_of g i slot = ap (λ b. cond b 1 0) y.same in
        omega (arith, more, none, was, is)

-- claims of a dissolved number's first slots that were taken out: together with what is kept after it, they are what was kept before
pub record IsOpening {C : Type 0} (names : C → ℕ) (g i : ℕ) (old now : List Kept) (claims : List C) : Type 0 where
  pub many : length now ≡ length old
  pub here : (slot : ℕ) → is_first g i slot ≡ true → get_or now slot Nothing ≡ opened_of (get_or old slot Nothing)
  pub rest : (slot : ℕ) → is_first g i slot ≡ false → get_or now slot Nothing ≡ get_or old slot Nothing
  pub taken : (slot : ℕ) → how_many names claims slot + shut_of g slot (get_or now slot Nothing) ≡ shut_of g slot (get_or old slot Nothing)

-- what a number's slot gives away
shut_opened : (g slot : ℕ) (kept : Kept) → shut_of g slot (opened_of kept) ≡ 0
shut_opened g slot Nothing = refl
shut_opened g slot (Pending k) = refl
shut_opened g slot (Moving r k) = refl
shut_opened g slot (Newest b) = refl
shut_opened g slot Unmade = refl

module _ {C : Type 0} (names : C → ℕ) (g i : ℕ) (old now : List Kept) (claims : List C) (low : i < 128) (inside : 128 * g + i < length now) (before : IsOpening names g i old now claims) where
  abbrev at : ℕ
  at = 128 * g + i

  abbrev after : List Kept
  after = set now at (opened_of (get_or now at Nothing))

  number : at / 128 ≡ g
  number = omega (arith, low)

  same_now : get_or now at Nothing ≡ get_or old at Nothing
  same_now = before.rest at (at_not (next_of g i at low))
    where
      at_not : (IsNext g i at) ⊎ (IsOther g i at) → is_first g i at ≡ false
      at_not (inl y) = y.before
      at_not (inr y) = absurd (y.not refl)

  here : (slot : ℕ) → is_first g (i + 1) slot ≡ true → get_or after slot Nothing ≡ opened_of (get_or old slot Nothing)
  here slot first = go (next_of g i slot low)
    where
      go : (IsNext g i slot) ⊎ (IsOther g i slot) → get_or after slot Nothing ≡ opened_of (get_or old slot Nothing)
      go (inl y) = ap (λ s. get_or after s Nothing) y.is ∙ get_or-set_same now at (opened_of (get_or now at Nothing)) Nothing inside ∙ ap opened_of same_now ∙ ap (λ s. opened_of (get_or old s Nothing)) (sym y.is)
      go (inr y) = get_or-set_other now at slot (opened_of (get_or now at Nothing)) Nothing y.not ∙ before.here slot (sym y.same ∙ first)

  rest : (slot : ℕ) → is_first g (i + 1) slot ≡ false → get_or after slot Nothing ≡ get_or old slot Nothing
  rest slot other = go (next_of g i slot low)
    where
      go : (IsNext g i slot) ⊎ (IsOther g i slot) → get_or after slot Nothing ≡ get_or old slot Nothing
      go (inl y) = let bad : true ≡ false = sym y.now ∙ other in absurd (cc)
      go (inr y) = get_or-set_other now at slot (opened_of (get_or now at Nothing)) Nothing y.not ∙ before.rest slot (sym y.same ∙ other)

  gone_here : (slot : ℕ) → slot ≡ at → shut_of g slot (get_or after slot Nothing) ≡ 0
  gone_here slot e = ap (λ s. shut_of g s (get_or after s Nothing)) e ∙ ap (shut_of g at) (get_or-set_same now at (opened_of (get_or now at Nothing)) Nothing inside) ∙ shut_opened g at (get_or now at Nothing)

  still_else : (slot : ℕ) → (slot ≡ at → ⊥) → shut_of g slot (get_or after slot Nothing) ≡ shut_of g slot (get_or now slot Nothing)
  still_else slot ne = ap (shut_of g slot) (get_or-set_other now at slot (opened_of (get_or now at Nothing)) Nothing ne)

-- claims on their way into the places of a dissolved group
pub record AreClosing {C : Type 0} (names : C → ℕ) (all left : List C) (old now : List Kept) : Type 0 where
  pub most : (slot : ℕ) → how_many names left slot ≤ how_many names all slot
  pub waits : (slot : ℕ) → 0 < how_many names left slot → get_or now slot Nothing ≡ Nothing
  pub same : (slot : ℕ) → how_many names left slot ≡ how_many names all slot → get_or now slot Nothing ≡ get_or old slot Nothing
  pub in_it : (slot : ℕ) → how_many names left slot < how_many names all slot → get_or now slot Nothing ≡ Unmade

pub one_closed : {C : Type 0} (names : C → ℕ) (all left : List C) (claim : C) (old now : List Kept) → names claim < length now → ((slot : ℕ) → how_many names all slot ≤ 1)
    → AreClosing names all (left ++ claim ∷ []) old now → AreClosing names all left old (set now (names claim) Unmade)
one_closed {C} names all left claim old now inside once before = record {
  most = λ slot. let b = before.most slot in let more = counted_more names left claim slot in omega (arith, b, more);
  waits = λ slot. waits slot (cases_eq slot here);
  same = λ slot. same slot (cases_eq slot here);
  in_it = λ slot. in_it slot (cases_eq slot here);
}
  where
    here : ℕ
    here = names claim

    one : (slot : ℕ) → slot ≡ here → one_at here slot ≡ 1
    one slot e = ap (one_at here) e ∙ one_here here

    waits : (slot : ℕ) → (slot ≡ here) ⊎ (slot ≡ here → ⊥) → 0 < how_many names left slot → get_or (set now here Unmade) slot Nothing ≡ Nothing
    waits slot (inl e) some =
        let more = counted_more names left claim slot in
        let o = one slot e in
        let b = before.most slot in
        let most = once slot in
        absurd (omega (arith, some, more, o, b, most))
    waits slot (inr ne) some =
        let more = counted_more names left claim slot in
        get_or-set_other now here slot Unmade Nothing ne ∙ before.waits slot (omega (arith, some, more))

    same : (slot : ℕ) → (slot ≡ here) ⊎ (slot ≡ here → ⊥) → how_many names left slot ≡ how_many names all slot → get_or (set now here Unmade) slot Nothing ≡ get_or old slot Nothing
    same slot (inl e) is =
        let more = counted_more names left claim slot in
        let o = one slot e in
        let b = before.most slot in
        absurd (omega (arith, is, more, o, b))
    same slot (inr ne) is =
        let more = counted_more names left claim slot in
        let none = one_else here slot ne in
        get_or-set_other now here slot Unmade Nothing ne ∙ before.same slot (omega (arith, is, more, none))

    in_it : (slot : ℕ) → (slot ≡ here) ⊎ (slot ≡ here → ⊥) → how_many names left slot < how_many names all slot → get_or (set now here Unmade) slot Nothing ≡ Unmade
    in_it slot (inl e) less = ap (λ s. get_or (set now here Unmade) s Nothing) e ∙ get_or-set_same now here Unmade Nothing inside
    in_it slot (inr ne) less =
        let more = counted_more names left claim slot in
        let none = one_else here slot ne in
        get_or-set_other now here slot Unmade Nothing ne ∙ before.in_it slot (omega (arith, less, more, none))

-- a claim that is still to be taken in is one of all
pub closing_inside : {C : Type 0} (names : C → ℕ) (all left : List C) (claim : C) (old now : List Kept) (n : ℕ) → ((slot : ℕ) → 0 < how_many names all slot → slot < n)
    → AreClosing names all (left ++ claim ∷ []) old now → names claim < n
closing_inside names all left claim old now n inside before = inside (names claim)
    (let most = before.most (names claim) in let more = counted_more names left claim (names claim) in let one = one_here (names claim) in omega (arith, most, more, one))

-- marks of a group's first slots that have a claim
pub record AreMarks {C : Type 0} (names : C → ℕ) (g count : ℕ) (claims : List C) (marks : List Bool) : Type 0 where
  pub many : length marks ≡ 128
  pub known : (slot : ℕ) → how_many names claims slot ≤ one_of g count slot
  pub each : (slot : ℕ) → slot / 128 ≡ g → get_or marks (slot % 128) true ≡ nat_lt 0 (how_many names claims slot)

pub no_marks : {C : Type 0} (names : C → ℕ) (g count : ℕ) → AreMarks names g count [] (replicate 128 false)
no_marks names g count = record {
  many = refl;
  known = λ slot. least (one_of g count slot);
  each = λ slot e. get_or-replicate 128 (slot % 128) false true (omega arith);
}
  where
    least : (n : ℕ) → 0 ≤ n
    least n = omega arith

-- a claim of another slot, or a second one of one, is a stranger
more_of : {C : Type 0} (names : C → ℕ) (claims : List C) (index slot : ℕ) → how_many names (take index claims) slot ≤ how_many names claims slot
more_of {C} names claims index slot =
    let parts = sum_by-append (λ c. cond (names c == slot) 1 0) (take index claims) (drop index claims) in
    let whole : how_many names (take index claims ++ drop index claims) slot ≡ how_many names claims slot = ap (λ cs. how_many names cs slot) (take-append-drop index claims) in
    omega (arith, parts, whole)

pub a_stranger : {C : Type 0} (names : C → ℕ) (claims : List C) (claim : C) (index g count : ℕ) → index < length claims → claim ≡ get_or claims index claim
    → one_of g count (names claim) ≤ how_many names (take index claims) (names claim) → one_of g count (names claim) < how_many names claims (names claim)
a_stranger {C} names claims claim index g count inside is most =
    let more = counted_more names (take index claims) claim (names claim) in
    let one = one_here (names claim) in
    let next : how_many names (take (index + 1) claims) (names claim) ≡ how_many names (take index claims ++ claim ∷ []) (names claim) =
    ap (λ cs. how_many names cs (names claim)) (take_next claims index claim inside ∙ ap (λ c. take index claims ++ c ∷ []) (sym is))
    in
    let all = more_of names claims (index + 1) (names claim) in
    omega (arith, more, one, next, all, most)

pub marks_more : {C : Type 0} (names : C → ℕ) (claims : List C) (claim : C) (g count : ℕ) (marks : List Bool) → names claim / 128 ≡ g → names claim % 128 < count
    → get_or marks (names claim % 128) true ≡ false → AreMarks names g count claims marks → AreMarks names g count (claims ++ claim ∷ []) (set marks (names claim % 128) true)
marks_more {C} names claims claim g count marks number low unmarked before = record {
  many = length-set marks (names claim % 128) true ∙ before.many;
  known = λ slot. known slot (cases_eq slot here);
  each = λ slot e. each slot e (cases_eq slot here);
}
  where
    here : ℕ
    here = names claim

    none_of : (n : ℕ) → false ≡ nat_lt 0 n → n ≡ 0
    none_of n e = grind (arith, nat_tests)

    some_of : (n : ℕ) → n ≡ 1 → true ≡ nat_lt 0 n
    some_of n e = grind (arith, nat_tests)

    none : how_many names claims here ≡ 0
    none = none_of (how_many names claims here) (sym unmarked ∙ before.each here number)

    known : (slot : ℕ) → (slot ≡ here) ⊎ (slot ≡ here → ⊥) → how_many names (claims ++ claim ∷ []) slot ≤ one_of g count slot
    known slot (inl e) =
        let more = counted_more names claims claim here in
        let one = one_here here in
        let first = one_first g count here (first_of g count here number low) in
        let z = none in
        subst (λ s. how_many names (claims ++ claim ∷ []) s ≤ one_of g count s) (sym e) (omega (arith, more, one, first, z))
    known slot (inr ne) =
        let more = counted_more names claims claim slot in
        let zero_here = one_else here slot ne in
        let k = before.known slot in
        omega (arith, more, zero_here, k)

    each : (slot : ℕ) → slot / 128 ≡ g → (slot ≡ here) ⊎ (slot ≡ here → ⊥) → get_or (set marks (names claim % 128) true) (slot % 128) true ≡ nat_lt 0 (how_many names (claims ++ claim ∷ []) slot)
    each slot e (inl is) =
        let more = counted_more names claims claim here in
        let one = one_here here in
        let z = none in
        let many = before.many in
        subst (λ s. get_or (set marks (names claim % 128) true) (s % 128) true ≡ nat_lt 0 (how_many names (claims ++ claim ∷ []) s)) (sym is)
        (get_or-set_same marks (names claim % 128) true true (omega (arith, many)) ∙ some_of (how_many names (claims ++ claim ∷ []) here) (omega (arith, more, one, z)))
    each slot e (inr ne) =
        let more = counted_more names claims claim slot in
        let zero_here = one_else here slot ne in
        get_or-set_other marks (names claim % 128) (slot % 128) true true (λ same. ne (omega (arith, same, e, number))) ∙ before.each slot e ∙ ap (nat_lt 0) (omega (arith, more, zero_here))

-- of a slot that isn't one of the group's none is known, and of one that is marked one was seen
pub none_of_other : (g count slot n : ℕ) → (slot / 128 ≡ g → ⊥) → one_of g count slot ≤ n
none_of_other g count slot n ne = let z : one_of g count slot ≡ 0 = ap (λ b. cond b 1 0) (not_first g count slot (λ e low. ne e)) in omega (arith, z)

pub none_of_past : (g count slot n : ℕ) → (slot % 128 < count → ⊥) → one_of g count slot ≤ n
none_of_past g count slot n past = let z : one_of g count slot ≡ 0 = ap (λ b. cond b 1 0) (not_first g count slot (λ e low. past low)) in omega (arith, z)

pub one_marked : {C : Type 0} (names : C → ℕ) (g count : ℕ) (seen : List C) (marks : List Bool) (slot : ℕ) → AreMarks names g count seen marks → slot / 128 ≡ g
    → get_or marks (slot % 128) true ≡ true → one_of g count slot ≤ how_many names seen slot
one_marked names g count seen marks slot are number marked = let most = most_one g count slot in let some = above (how_many names seen slot) (sym marked ∙ are.each slot number) in omega (arith, most, some)
  where
    above : (n : ℕ) → true ≡ nat_lt 0 n → 0 < n
    above n e = grind (arith, nat_tests)

-- marks as they are looked up, slot by slot
pub given_of : {C : Type 0} (names : C → ℕ) (a : ArrayView) (g count i : ℕ) (claims : List C) (marks : List Bool) → i < 128
    → ((slot : ℕ) → slot / 128 ≡ g → get_or marks (slot % 128) true ≡ nat_lt 0 (how_many names claims slot)) → get_or marks i true ≡ true → is_kept (kept_at a (128 * g + i)) ≡ false
    → IsGiven names a claims (128 * g + i)
given_of {C} names a g count i claims marks low each marked free = (above (how_many names claims (128 * g + i)) (sym (ap (λ k. get_or marks k true) index ∙ marked) ∙ each (128 * g + i) number), unkept (kept_at a (128 * g + i)) free)
  where
    number : (128 * g + i) / 128 ≡ g
    number = omega (arith, low)

    index : (128 * g + i) % 128 ≡ i
    index = omega (arith, low)

    above : (n : ℕ) → true ≡ nat_lt 0 n → 0 < n
    above n e = grind (arith, nat_tests)

    unkept : (kept : Kept) → is_kept kept ≡ false → kept ≡ Nothing
    unkept Nothing e = refl
    unkept (Pending k) e = absurd (cc)
    unkept (Moving r k) e = absurd (cc)
    unkept (Newest b) e = absurd (cc)
    unkept Unmade e = absurd (cc)

-- the places of a dissolved group's slots are closed
pub closed_number : {C : Type 0} (names : C → ℕ) (a : ArrayView) (g : ℕ) (claims : List C) (old new : List Kept) → CanUnmake names a g claims → length new ≡ length old
    → ((slot : ℕ) → get_or new slot Nothing ≡ closed_of (how_many names claims slot) (get_or old slot Nothing)) → IsClosed g (slots_in_group a g) old new
closed_number {C} names a g claims old new can many closed = record {
  many = many;
  here = λ slot e low. closed slot ∙ ap (λ n. closed_of n (get_or old slot Nothing)) (can.all slot ∙ one_first g (slots_in_group a g) slot (first_of g (slots_in_group a g) slot e low));
  rest = λ slot off. closed slot ∙ ap (λ n. closed_of n (get_or old slot Nothing)) (can.all slot ∙ ap (λ b. cond b 1 0) (not_first g (slots_in_group a g) slot off));
}

pub first_not_held : (hands : List Hand) (w g i count : ℕ) → i < 128 → i < count → ((slot : ℕ) → is_first g i slot ≡ true → is_claim (hand_at hands slot) w ≡ true)
    → is_claim (hand_at hands (128 * g + i)) w ≡ false → IsFirstNotHeld hands w g count (128 * g + i)
first_not_held hands w g i count low inside before none = record {
  is = let one = one_first g count (128 * g + i) (first_of g count (128 * g + i) (omega (arith, low)) (omega (arith, low, inside))) in omega (arith, one);
  not_held = none;
  below = λ other less is. let y = of_first g count other (first_one g count other is) in before other (first_of g i other y.0 (let e = y.0 in omega (arith, e, less, low)));
}

-- of each slot there is at most one claim, and the array keeps nothing of those of which there is one
pub at_most_one : {C : Type 0} (names : C → ℕ) (a : ArrayView) (g : ℕ) (claims : List C) → CanUnmake names a g claims → (slot : ℕ) → how_many names claims slot ≤ 1
at_most_one names a g claims can slot = let all = can.all slot in let most = most_one g (slots_in_group a g) slot in omega (arith, all, most)

pub free_kept : {C : Type 0} (names : C → ℕ) (a : ArrayView) (g : ℕ) (claims : List C) → CanUnmake names a g claims → (slot : ℕ) → slot / 128 ≡ g → slot % 128 < slots_in_group a g → kept_at a slot ≡ Nothing
free_kept names a g claims can slot e low = can.free slot (let one = one_first g (slots_in_group a g) slot (first_of g (slots_in_group a g) slot e low) in omega (arith, one))

-- no newest place is among the slots of which claims were taken in
pub counts_closed : {C : Type 0} (names : C → ℕ) (a : ArrayView) (g : ℕ) (claims : List C) (new : List Kept) (live : List ℕ) → CanUnmake names a g claims
    → ((slot : ℕ) → get_or new slot Nothing ≡ closed_of (how_many names claims slot) (kept_at a slot)) → AreCounts a.kept live → AreCounts new live
counts_closed {C} names a g claims new live can closed are = counts_alike a.kept new live (λ slot. ap is_newest (closed slot) ∙ go slot (how_many names claims slot) (can.all slot)) are
  where
    go : (slot n : ℕ) → n ≡ one_of g (slots_in_group a g) slot → is_newest (closed_of n (kept_at a slot)) ≡ is_newest (kept_at a slot)
    go slot zero e = refl
    go slot (suc n) e = sym (ap is_newest (can.free slot (omega (arith, e))))
