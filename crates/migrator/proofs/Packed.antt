-- The gaps after the first turns are removed.
use Rattle.std.proofs.Common.{◌≡◌, ◌≢◌, ◌∙◌, ◌⊎◌, inl, inr, ℕ, ◌+◌, ◌-◌, ◌*◌, ◌<◌, ◌≤◌, nat_lt, List, ◌++◌, length, take, get_or, set, refl, sym, ap, subst, arith}
use Rattle.std.proofs.lemmas.Bool.{lt-ltb, le-ltb, cases_eq, cases_lt}
use Rattle.std.proofs.lemmas.List.{get_or-drop, get_or-take, get_or_default, get_or-set_same, get_or-set_other, length-set, length-take-le, length-append, take_all}
use Rattle.std.proofs.lemmas.List.Elements.{filter-append}
use Rattle.std.proofs.lemmas.List.Filters.{FiltersInPlace, FiltersInPlace-more_set, FiltersInPlace-more_no}
use Rattle.migrator.specs.Inside.{blocks_in, first_turns, in_order, order_of, AreTurnsOf, AreTurns, KeepsFront, TurnOrder}
use Rattle.migrator.proofs.Keeping.{blocks_again}
use Rattle.migrator.proofs.Turned.{at_number, count_blocks, count_order, first_same, kept_first, kept_later, length_kept}

-- up to a place the gaps are out, and each block that was at a later turn before it is among the packed
pub record ArePacked (n : ℕ) (xs us ys ts : List ℕ) (packed at : ℕ) : Type 0 where
  pub filtered : FiltersInPlace (λ k. nat_lt k n) xs ys packed at
  pub all : length ts ≡ n
  pub first : (b : ℕ) → b < n → get_or us b 0 < n → get_or ts b 0 ≡ get_or us b 0
  pub late : (b : ℕ) → b < n → n ≤ get_or us b 0 → n ≤ get_or ts b 0
  pub used : (b : ℕ) → b < n → n ≤ get_or us b 0 → get_or us b 0 < n + at → get_or ts b 0 < n + packed
  pub at_turn : (b : ℕ) → b < n → n ≤ get_or us b 0 → get_or us b 0 < n + at → get_or ys (get_or ts b 0 - n) 0 ≡ b
  pub block : (k : ℕ) → k < packed → get_or ys k 0 < n
  pub later : (k : ℕ) → k < packed → n ≤ get_or us (get_or ys k 0) 0
  pub early : (k : ℕ) → k < packed → get_or us (get_or ys k 0) 0 < n + at
  pub once : (k : ℕ) → k < packed → get_or ts (get_or ys k 0) 0 ≡ n + k

module _ (us xs : List ℕ) (t : AreTurnsOf (length us) (first_turns us ++ xs) us) where
  abbrev n : ℕ
  n = length us

  pub none_packed : ArePacked n xs us xs us 0 0
  none_packed = record {
    filtered = record { front = refl; rest = refl; behind = omega arith; within = omega arith; long = refl };
    all = refl;
    first = λ b low first. refl;
    late = λ b low high. high;
    used = λ b low high l. absurd (omega (arith, high, l));
    at_turn = λ b low high l. absurd (omega (arith, high, l));
    block = λ k l. absurd (omega (arith, l));
    later = λ k l. absurd (omega (arith, l));
    early = λ k l. absurd (omega (arith, l));
    once = λ k l. absurd (omega (arith, l));
  }

  -- what is at a place among the later turns
  place : (at : ℕ) → get_or (first_turns us ++ xs) (n + at) 0 ≡ get_or xs at 0
  place at = kept_later us xs (n + at) (omega arith) ∙ ap (λ k. get_or xs k 0) (let e : n + at - n ≡ at = omega arith in e)

  module _ (ys ts : List ℕ) (packed at : ℕ) (p : ArePacked n xs us ys ts packed at) (here : at < length xs) where
    within : at < length ys
    within = omega (arith, p.filtered.long, here)

    unread : get_or xs at 0 ≡ get_or ys at 0
    unread =
        let e : at + 0 ≡ at = omega arith in
        ap (λ k. get_or xs k 0) (sym e) ∙ sym (get_or-drop at xs 0 0) ∙ ap (λ l. get_or l 0 0) (sym p.filtered.rest) ∙ get_or-drop at ys 0 0 ∙ ap (λ k. get_or ys k 0) e

    -- a block whose turn is no later, and that isn't the one at this turn, has an earlier turn
    stood_before : (b : ℕ) → b < n → get_or us b 0 < n + (at + 1) → get_or ys at 0 ≢ b → get_or us b 0 < n + at
    stood_before b low before ne = by (cases_eq (get_or us b 0) (n + at))
      where
        by : (get_or us b 0 ≡ n + at) ⊎ (get_or us b 0 ≡ n + at → ⊥) → get_or us b 0 < n + at
        by (inl e) = absurd (ne (sym unread ∙ sym (place at) ∙ ap (λ k. get_or (first_turns us ++ xs) k 0) (sym e) ∙ t.at_turn b low))
        by (inr other) = omega (arith, other, before)

    pub packed_gap : n ≤ get_or ys at 0 → ArePacked n xs us ys ts packed (at + 1)
    packed_gap gap = record {
      filtered = FiltersInPlace-more_no {x = get_or ys at 0} p.filtered within (le-ltb _ n gap) (get_or_default ys at 0 _ within);
      all = p.all;
      first = p.first;
      late = p.late;
      used = λ b low high l. p.used b low high (stood_before b low l (λ e. omega (arith, e, low, gap)));
      at_turn = λ b low high l. p.at_turn b low high (stood_before b low l (λ e. omega (arith, e, low, gap)));
      block = p.block;
      later = p.later;
      early = λ k l. let e = p.early k l in omega (arith, e);
      once = p.once;
    }

    module _ (x : ℕ) (is : x ≡ get_or ys at 0) (low : x < n) (turn : ℕ) (its : turn ≡ n + packed) where
      abbrev kept : List ℕ
      kept = set ys packed x

      abbrev turned : List ℕ
      turned = set ts x turn

      stood_here : get_or us x 0 ≡ n + at
      stood_here =
          let e : get_or (first_turns us ++ xs) (n + at) 0 ≡ x = place at ∙ unread ∙ sym is in
          ap (λ b. get_or us b 0) (sym e) ∙ t.once (n + at) (omega (arith, here, length_kept us xs)) (omega (arith, e, low))

      fresh : (k : ℕ) → k < packed → get_or ys k 0 ≢ x
      fresh k l e =
          let early = p.early k l in
          let same : get_or us (get_or ys k 0) 0 ≡ n + at = ap (λ b. get_or us b 0) e ∙ stood_here in
          omega (arith, early, same)

      put : get_or kept packed 0 ≡ x
      put = get_or-set_same ys packed x 0 (omega (arith, p.filtered.behind, within))

      rest : (k : ℕ) → k < packed → get_or kept k 0 ≡ get_or ys k 0
      rest k l = get_or-set_other ys packed k x 0 (λ e. omega (arith, e, l))

      its_turn : get_or turned x 0 ≡ n + packed
      its_turn = get_or-set_same ts x turn 0 (omega (arith, p.all, low)) ∙ its

      turn_rest : (b : ℕ) → b ≢ x → get_or turned b 0 ≡ get_or ts b 0
      turn_rest b ne = get_or-set_other ts x b turn 0 ne

      earlier : (b : ℕ) → b < n → get_or us b 0 < n + (at + 1) → b ≢ x → get_or us b 0 < n + at
      earlier b lo l ne = stood_before b lo l (λ e. ne (sym (is ∙ e)))

      first_in : (b : ℕ) → b < n → get_or us b 0 < n → get_or turned b 0 ≡ get_or us b 0
      first_in b lo first = turn_rest b (λ e. let h : get_or us b 0 ≡ n + at = ap (λ y. get_or us y 0) e ∙ stood_here in omega (arith, h, first)) ∙ p.first b lo first

      late_in : (b : ℕ) → b < n → n ≤ get_or us b 0 → (b ≡ x) ⊎ (b ≡ x → ⊥) → n ≤ get_or turned b 0
      late_in b lo high (inl e) = let h : get_or turned b 0 ≡ n + packed = ap (λ y. get_or turned y 0) e ∙ its_turn in omega (arith, h)
      late_in b lo high (inr ne) = let h = turn_rest b ne in let u = p.late b lo high in omega (arith, h, u)

      used_in : (b : ℕ) → b < n → n ≤ get_or us b 0 → get_or us b 0 < n + (at + 1) → (b ≡ x) ⊎ (b ≡ x → ⊥) → get_or turned b 0 < n + (packed + 1)
      used_in b lo high l (inl e) = let h : get_or turned b 0 ≡ n + packed = ap (λ y. get_or turned y 0) e ∙ its_turn in omega (arith, h)
      used_in b lo high l (inr ne) = let h = turn_rest b ne in let u = p.used b lo high (earlier b lo l ne) in omega (arith, h, u)

      at_in : (b : ℕ) → b < n → n ≤ get_or us b 0 → get_or us b 0 < n + (at + 1) → (b ≡ x) ⊎ (b ≡ x → ⊥) → get_or kept (get_or turned b 0 - n) 0 ≡ b
      at_in b lo high l (inl e) =
          ap (λ y. get_or kept (get_or turned y 0 - n) 0) e ∙ ap (λ k. get_or kept (k - n) 0) its_turn
          ∙ ap (λ k. get_or kept k 0) (let e : n + packed - n ≡ packed = omega arith in e) ∙ put ∙ sym e
      at_in b lo high l (inr ne) =
          let before = earlier b lo l ne in
          let u = p.used b lo high before in
          let v = p.late b lo high in
          ap (λ k. get_or kept (k - n) 0) (turn_rest b ne) ∙ rest (get_or ts b 0 - n) (omega (arith, u, v)) ∙ p.at_turn b lo high before

      block_in : (k : ℕ) → k < packed + 1 → (k ≡ packed) ⊎ (k ≡ packed → ⊥) → get_or kept k 0 < n
      block_in k l (inl e) = let h : get_or kept k 0 ≡ x = ap (λ j. get_or kept j 0) e ∙ put in omega (arith, h, low)
      block_in k l (inr ne) = let h = rest k (omega (arith, l, ne)) in let b = p.block k (omega (arith, l, ne)) in omega (arith, h, b)

      was : (k : ℕ) → k < packed + 1 → (k ≡ packed) ⊎ (k ≡ packed → ⊥) → (n ≤ get_or us (get_or kept k 0) 0) × (get_or us (get_or kept k 0) 0 < n + (at + 1))
      was k l (inl e) =
          let h : get_or us (get_or kept k 0) 0 ≡ n + at = ap (λ j. get_or us (get_or kept j 0) 0) e ∙ ap (λ b. get_or us b 0) put ∙ stood_here in
          (omega (arith, h), omega (arith, h))
      was k l (inr ne) =
          let h : get_or us (get_or kept k 0) 0 ≡ get_or us (get_or ys k 0) 0 = ap (λ b. get_or us b 0) (rest k (omega (arith, l, ne))) in
          let a = p.later k (omega (arith, l, ne)) in
          let b = p.early k (omega (arith, l, ne)) in
          (omega (arith, h, a), omega (arith, h, b))

      once_in : (k : ℕ) → k < packed + 1 → (k ≡ packed) ⊎ (k ≡ packed → ⊥) → get_or turned (get_or kept k 0) 0 ≡ n + k
      once_in k l (inl e) = ap (λ j. get_or turned (get_or kept j 0) 0) e ∙ ap (λ b. get_or turned b 0) put ∙ its_turn ∙ ap (λ j. n + j) (sym e)
      once_in k l (inr ne) =
          let in_front : k < packed = omega (arith, l, ne) in
          ap (λ b. get_or turned b 0) (rest k in_front) ∙ turn_rest (get_or ys k 0) (fresh k in_front) ∙ p.once k in_front

      pub packed_block : ArePacked n xs us kept turned (packed + 1) (at + 1)
      packed_block = record {
        filtered = FiltersInPlace-more_set {x = x} p.filtered within (lt-ltb x n low) (is ∙ get_or_default ys at 0 x within);
        all = length-set ts x turn ∙ p.all;
        first = first_in;
        late = λ b lo high. late_in b lo high (cases_eq b x);
        used = λ b lo high l. used_in b lo high l (cases_eq b x);
        at_turn = λ b lo high l. at_in b lo high l (cases_eq b x);
        block = λ k l. block_in k l (cases_eq k packed);
        later = λ k l. (was k l (cases_eq k packed)).0;
        early = λ k l. (was k l (cases_eq k packed)).1;
        once = λ k l. once_in k l (cases_eq k packed);
      }

  -- all gaps are out
  module _ (ys ts : List ℕ) (packed at : ℕ) (p : ArePacked n xs us ys ts packed at) (end : length xs ≤ at) where
    ends : at ≡ length xs
    ends = omega (arith, end, p.filtered.within)

    left : take packed ys ≡ blocks_in n xs
    left = p.filtered.front ∙ ap (blocks_in n) (take_all at xs end)

    long : length (take packed ys) ≡ packed
    long = length-take-le packed ys (omega (arith, p.filtered.behind, p.filtered.within, p.filtered.long))

    first_is : first_turns us ≡ first_turns ts
    first_is = first_same us ts (sym p.all) stays leaves
      where
        stays : (b : ℕ) → b < length us → get_or us b 0 ≡ b → get_or ts b 0 ≡ b
        stays b low e = p.first b low (omega (arith, e, low)) ∙ e

        leaves : (b : ℕ) → b < length us → get_or us b 0 ≢ b → get_or ts b 0 ≢ b
        leaves b low ne e = by (cases_lt (get_or us b 0) n)
          where
            by : (get_or us b 0 < n) ⊎ (n ≤ get_or us b 0) → ⊥
            by (inl l) = ne (at_number us xs t b low l)
            by (inr h) = let late = p.late b low h in omega (arith, late, e, low)

    abbrev left_over : List ℕ
    left_over = first_turns ts ++ take packed ys

    in_first : (k : ℕ) → k < n → get_or left_over k 0 ≡ get_or (first_turns us ++ xs) k 0
    in_first k l =
        kept_first ts (take packed ys) k (omega (arith, l, p.all)) ∙ ap (λ f. get_or f k 0) (sym first_is) ∙ sym (kept_first us xs k l)

    in_later : (k : ℕ) → n ≤ k → k < n + packed → get_or left_over k 0 ≡ get_or ys (k - n) 0
    in_later k high l =
        kept_later ts (take packed ys) k (omega (arith, high, p.all)) ∙ ap (λ m. get_or (take packed ys) (k - m) 0) p.all
        ∙ get_or-take packed ys (k - n) 0 (omega (arith, high, l))

    longs : length left_over ≡ n + packed
    longs = let e = length_kept ts (take packed ys) in omega (arith, e, long, p.all)

    used_by : (b : ℕ) → b < n → (get_or us b 0 < n) ⊎ (n ≤ get_or us b 0) → get_or ts b 0 < length left_over
    used_by b low (inl l) = let h = p.first b low l in omega (arith, h, l, longs)
    used_by b low (inr h) = let u = t.used b low in let v = p.used b low h (omega (arith, u, ends, length_kept us xs)) in omega (arith, v, longs)

    at_by : (b : ℕ) → b < n → (get_or us b 0 < n) ⊎ (n ≤ get_or us b 0) → get_or left_over (get_or ts b 0) 0 ≡ b
    at_by b low (inl l) = ap (λ k. get_or left_over k 0) (p.first b low l) ∙ in_first (get_or us b 0) l ∙ t.at_turn b low
    at_by b low (inr h) =
        let u = t.used b low in
        let before : get_or us b 0 < n + at = omega (arith, u, ends, length_kept us xs) in
        in_later (get_or ts b 0) (p.late b low h) (p.used b low h before) ∙ p.at_turn b low h before

    once_by : (k : ℕ) → k < length left_over → get_or left_over k 0 < n → (k < n) ⊎ (n ≤ k) → get_or ts (get_or left_over k 0) 0 ≡ k
    once_by k l low (inl first) =
        let same = in_first k first in
        let below : get_or (first_turns us ++ xs) k 0 < n = omega (arith, same, low) in
        let o = t.once k (omega (arith, first, length_kept us xs)) below in
        ap (λ b. get_or ts b 0) same ∙ p.first (get_or (first_turns us ++ xs) k 0) below (omega (arith, o, first)) ∙ o
    once_by k l low (inr high) =
        ap (λ b. get_or ts b 0) (in_later k high (omega (arith, l, longs))) ∙ p.once (k - n) (omega (arith, l, longs, high))
        ∙ (let e : n + (k - n) ≡ k = omega (arith, high) in e)

    all_at : AreTurnsOf n left_over ts
    all_at = record {
      all = p.all;
      used = λ b low. used_by b low (cases_lt (get_or us b 0) n);
      at_turn = λ b low. at_by b low (cases_lt (get_or us b 0) n);
      once = λ k l low. once_by k l low (cases_lt k n);
    }

    -- what is left are blocks alone
    same_blocks : blocks_in n left_over ≡ blocks_in n (first_turns us ++ xs)
    same_blocks =
        filter-append (λ k. nat_lt k n) (first_turns ts) (take packed ys)
        ∙ ap (λ f. blocks_in n f ++ blocks_in n (take packed ys)) (sym first_is)
        ∙ ap (λ l. blocks_in n (first_turns us) ++ l) (ap (blocks_in n) left ∙ blocks_again n xs)
        ∙ sym (filter-append (λ k. nat_lt k n) (first_turns us) xs)

    few : packed ≤ n
    few =
        let parts = ap length (filter-append (λ k. nat_lt k n) (first_turns ts) (take packed ys)) in
        let sum = length-append (blocks_in n (first_turns ts)) (blocks_in n (take packed ys)) in
        let whole = count_blocks n left_over ts all_at in
        let rest : length (blocks_in n (take packed ys)) ≡ packed = ap length (ap (blocks_in n) left ∙ blocks_again n xs ∙ sym left) ∙ long in
        omega (arith, parts, sum, whole, rest)

    pub packed_turns : (capacity : ℕ) → AreTurns us xs capacity → AreTurns ts (take packed ys) capacity
    packed_turns capacity u = record {
      few = omega (arith, u.few, p.all);
      within = omega (arith, few, long, p.all);
      room = omega (arith, u.room, p.all);
      at = subst (λ m. AreTurnsOf m left_over ts) (sym p.all) all_at;
    }

    module _ (capacity : ℕ) (u : AreTurns us xs capacity) (order : TurnOrder) (view : order_of us xs ≡ order) where
      after_is : order_of ts (take packed ys) ≡ record { blocks = n; kept = left_over }
      after_is = λ i. record { blocks = p.all i; kept = left_over }

      pub packed_order : in_order (order_of ts (take packed ys)) ≡ in_order order
      packed_order = ap in_order after_is ∙ same_blocks ∙ ap in_order view

      pub packed_room : length left_over ≤ 2 * length (in_order order)
      packed_room = omega (arith, longs, few, count_order us xs capacity order u view)

      pub packed_front : KeepsFront (length (in_order order)) order (order_of ts (take packed ys))
      packed_front =
          subst (λ m. KeepsFront m order (order_of ts (take packed ys))) (sym (count_order us xs capacity order u view))
          (subst (λ o. KeepsFront n o (order_of ts (take packed ys))) view
          (subst (λ o. KeepsFront n (order_of us xs) o) (sym after_is)
          (record { same = refl; long = omega (arith, longs); front = λ k l low. in_first k l })))
