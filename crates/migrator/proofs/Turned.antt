-- The turns of blocks: by number before any write, and when a block moves to the last turn.
use Rattle.std.proofs.Common.{◌≡◌, ◌≢◌, ◌∙◌, ◌⊎◌, inl, inr, ℕ, ◌+◌, ◌-◌, ◌*◌, ◌<◌, ◌≤◌, true, false, cond, not, nat_eq, nat_lt, List, [], ◌∷◌, ◌++◌, length, filter, get_or, set, refl, sym, ap, subst, arith, if◌then◌else◌, append-nil, append_assoc}
use Rattle.std.proofs.lemmas.Bool.{lt-ltb, eq-eqb, ne_eqb, cases_eq, cases_lt, ltb-true, eqb-true}
use Rattle.std.proofs.lemmas.List.{get_or_default, get_or-map, get_or-set_same, get_or-set_other, get_or_append_left, get_or-append_right, get_or_push, length-append, length-map, length-set, length_push, set-append_left, set-append_right}
use Rattle.std.proofs.lemmas.List.Elements.{filter-append, filter_passes}
use Rattle.std.proofs.lemmas.List.Folds.{Any-from_list_any, list_any_at}
use Rattle.std.proofs.lemmas.List.FromFn.{get_or-range_with_len, length-range_with_len}
use Rattle.std.proofs.lemmas.List.Kept.{AllPairs-filter}
use Rattle.std.proofs.lemmas.Grind.{same_number_lists}
use Rattle.std.proofs.lemmas.Map.Keys.{IsDistinct-from_apart}
use Rattle.std.proofs.lemmas.Map.Steps.{length-le_from_distinct_below, le-length_from_below}
use Rattle.std.proofs.lemmas.Map.Views.{any-filter_same}
use Rattle.std.specs.List.{IsDistinct}
use Rattle.migrator.specs.Ages.{by_number, written}
use Rattle.migrator.specs.Inside.{blocks_in, first_turns, in_order, order_of, AreTurnsOf, AreTurns, KeepsFront, TurnOrder}
use Rattle.migrator.proofs.Keeping.{gap_over, blocks_by_number}

pub length_numbers : (n : ℕ) → length (by_number n) ≡ n
length_numbers n = length-range_with_len 0 n

pub read_number : (m k : ℕ) → k < m → get_or (by_number m) k 0 ≡ k
read_number m k l = let e = get_or-range_with_len 0 m k 0 l in omega (arith, e)

-- ---- the first turns

pub length_first : (ts : List ℕ) → length (first_turns ts) ≡ length ts
length_first ts = length-map (by_number (length ts)) _ ∙ length_numbers (length ts)

read_first : (ts : List ℕ) (b : ℕ) → b < length ts → get_or (first_turns ts) b 0 ≡ if nat_eq (get_or ts b 0) b then b else length ts
read_first ts b low =
    get_or-map (λ b. if nat_eq (get_or ts b 0) b then b else length ts) (by_number (length ts)) b 0 0 (omega (arith, length_numbers (length ts), low))
    ∙ ap (λ b. if nat_eq (get_or ts b 0) b then b else length ts) (read_number (length ts) b low)

pub first_there : (ts : List ℕ) (b : ℕ) → b < length ts → get_or ts b 0 ≡ b → get_or (first_turns ts) b 0 ≡ b
first_there ts b low e = read_first ts b low ∙ ap (λ t. cond t b (length ts)) (eq-eqb _ _ e)

pub first_gone : (ts : List ℕ) (b : ℕ) → b < length ts → get_or ts b 0 ≢ b → get_or (first_turns ts) b 0 ≡ length ts
first_gone ts b low ne = read_first ts b low ∙ ap (λ t. cond t b (length ts)) (ne_eqb _ _ ne)

-- the first turns of two tables in which the same blocks are at their numbers
pub first_same : (us ts : List ℕ) → length us ≡ length ts
    → ((b : ℕ) → b < length us → get_or us b 0 ≡ b → get_or ts b 0 ≡ b) → ((b : ℕ) → b < length us → get_or us b 0 ≢ b → get_or ts b 0 ≢ b)
    → first_turns us ≡ first_turns ts
first_same us ts long stays leaves =
    same_number_lists (first_turns us) (first_turns ts) (length_first us ∙ long ∙ sym (length_first ts))
    (λ b low. let here : b < length us = omega (arith, low, length_first us) in by b here (cases_eq (get_or us b 0) b))
  where
    by : (b : ℕ) → b < length us → (get_or us b 0 ≡ b) ⊎ (get_or us b 0 ≡ b → ⊥) → get_or (first_turns us) b 0 ≡ get_or (first_turns ts) b 0
    by b low (inl e) = first_there us b low e ∙ sym (first_there ts b (omega (arith, low, long)) (stays b low e))
    by b low (inr ne) = first_gone us b low ne ∙ long ∙ sym (first_gone ts b (omega (arith, low, long)) (leaves b low ne))

-- what is kept at a first turn, and at a later one
pub kept_first : (ts later : List ℕ) (k : ℕ) → k < length ts → get_or (first_turns ts ++ later) k 0 ≡ get_or (first_turns ts) k 0
kept_first ts later k low = get_or_append_left (first_turns ts) later 0 k (omega (arith, low, length_first ts))

pub kept_later : (ts later : List ℕ) (k : ℕ) → length ts ≤ k → get_or (first_turns ts ++ later) k 0 ≡ get_or later (k - length ts) 0
kept_later ts later k high =
    get_or-append_right (first_turns ts) later (length ts) k 0 (length_first ts) high

pub length_kept : (ts later : List ℕ) → length (first_turns ts ++ later) ≡ length ts + length later
length_kept ts later = let e = length-append (first_turns ts) later in omega (arith, e, length_first ts)

-- a block at a first turn is at its number
pub at_number : (ts later : List ℕ) → AreTurnsOf (length ts) (first_turns ts ++ later) ts → (b : ℕ) → b < length ts → get_or ts b 0 < length ts → get_or ts b 0 ≡ b
at_number ts later t b low first = by (cases_eq (get_or ts (get_or ts b 0) 0) (get_or ts b 0))
  where
    read : get_or (first_turns ts) (get_or ts b 0) 0 ≡ b
    read = sym (kept_first ts later (get_or ts b 0) first) ∙ t.at_turn b low

    by : (get_or ts (get_or ts b 0) 0 ≡ get_or ts b 0) ⊎ (get_or ts (get_or ts b 0) 0 ≡ get_or ts b 0 → ⊥) → get_or ts b 0 ≡ b
    by (inl e) = sym (first_there ts (get_or ts b 0) first e) ∙ read
    by (inr ne) = absurd (let gone = first_gone ts (get_or ts b 0) first ne in omega (arith, gone, read, low))

-- a block at a first turn has the turn's number
pub first_by : (ts later : List ℕ) (k : ℕ) → k < length ts → get_or (first_turns ts ++ later) k 0 < length ts → get_or (first_turns ts ++ later) k 0 ≡ k
first_by ts later k here low = kept_first ts later k here ∙ by (cases_eq (get_or ts k 0) k)
  where
    by : (get_or ts k 0 ≡ k) ⊎ (get_or ts k 0 ≡ k → ⊥) → get_or (first_turns ts) k 0 ≡ k
    by (inl e) = first_there ts k here e
    by (inr ne) = absurd (let gone = first_gone ts k here ne in omega (arith, gone, kept_first ts later k here, low))

-- ---- before any write

first_by_number : (n : ℕ) → first_turns (by_number n) ++ [] ≡ by_number n
first_by_number n =
    append-nil (first_turns (by_number n))
    ∙ same_number_lists (first_turns (by_number n)) (by_number n) (length_first (by_number n)) (λ k low.
    let here : k < n = omega (arith, low, length_first (by_number n), length_numbers n) in
    first_there (by_number n) k (omega (arith, here, length_numbers n)) (read_number n k here) ∙ sym (read_number n k here))

numbers_at : (n : ℕ) → AreTurnsOf n (by_number n) (by_number n)
numbers_at n = record {
  all = length_numbers n;
  used = λ b low. let e = read_number n b low in omega (arith, e, low, length_numbers n);
  at_turn = λ b low. ap (λ k. get_or (by_number n) k 0) (read_number n b low) ∙ read_number n b low;
  once = λ k l low. let here : k < n = omega (arith, l, length_numbers n) in ap (λ b. get_or (by_number n) b 0) (read_number n k here) ∙ read_number n k here;
}

pub turns_by_number : (n capacity : ℕ) (ts later : List ℕ) → n ≤ 65536 → 4 * n ≤ capacity → ts ≡ by_number n → later ≡ [] → AreTurns ts later capacity
turns_by_number n capacity ts later few room es none =
    subst (λ ts. AreTurns ts later capacity) (sym es) (subst (λ l. AreTurns (by_number n) l capacity) (sym none) (record {
      few = omega (arith, few, length_numbers n);
      within = omega arith;
      room = omega (arith, room, length_numbers n);
      at = subst (λ m. AreTurnsOf m (first_turns (by_number n) ++ []) (by_number n)) (sym (length_numbers n))
          (subst (λ kept. AreTurnsOf n kept (by_number n)) (sym (first_by_number n)) (numbers_at n));
    }))

pub order_by_number : (n : ℕ) (ts later : List ℕ) → ts ≡ by_number n → later ≡ [] → in_order (order_of ts later) ≡ by_number n
order_by_number n ts later es none =
    ap (λ l. in_order (order_of ts l)) none ∙ ap (λ ts. in_order (order_of ts [])) es
    ∙ ap (λ m. blocks_in m (first_turns (by_number n) ++ [])) (length_numbers n) ∙ ap (blocks_in n) (first_by_number n) ∙ blocks_by_number n

-- ---- exactly n blocks are in the order

pub count_blocks : (n : ℕ) (ns ts : List ℕ) → AreTurnsOf n ns ts → length (blocks_in n ns) ≡ n
count_blocks n ns ts t = let most = at_most in let least = at_least in omega (arith, most, least)
  where
    apart : (i j d : ℕ) → i < j → j < length ns → nat_lt (get_or ns i d) n ≡ true → nat_eq (get_or ns i d) (get_or ns j d) ≡ false
    apart i j d lt lj low = ne_eqb _ _ (λ e. by e)
      where
        by : get_or ns i d ≡ get_or ns j d → ⊥
        by e =
            let ei = get_or_default ns i d 0 (omega (arith, lt, lj)) in
            let ej = get_or_default ns j d 0 lj in
            let low_i : get_or ns i 0 < n = omega (arith, ei, ltb-true _ n low) in
            let low_j : get_or ns j 0 < n = omega (arith, ei, ej, e, low_i) in
            let oi = t.once i (omega (arith, lt, lj)) low_i in
            let oj = t.once j lj low_j in
            let both : get_or ts (get_or ns i 0) 0 ≡ get_or ts (get_or ns j 0) 0 = ap (λ x. get_or ts x 0) (sym ei ∙ e ∙ ej) in
            omega (arith, oi, oj, both, lt)

    distinct : IsDistinct nat_eq (blocks_in n ns)
    distinct =
        IsDistinct-from_apart nat_eq (blocks_in n ns) (λ i j d lt lj.
        AllPairs-filter (λ x y. nat_lt x n ≡ true → nat_eq x y ≡ false) (λ x. nat_lt x n) ns apart i j d lt lj
        (filter_passes (λ x. nat_lt x n) ns i d (omega arith)))

    at_most : length (blocks_in n ns) ≤ n
    at_most = length-le_from_distinct_below (blocks_in n ns) n distinct (λ q e.
        let a = Any-from_list_any (nat_eq q) (blocks_in n ns) e in
        let low = filter_passes (λ x. nat_lt x n) ns a.0 a.1 a.2 in
        let same = eqb-true q a.1 a.4 in
        omega (arith, ltb-true _ n low, a.3, same))

    at_least : n ≤ length (blocks_in n ns)
    at_least = le-length_from_below (blocks_in n ns) n (λ q low.
        any-filter_same (nat_eq q) (λ x. nat_lt x n) true (λ x e. let same = eqb-true q x e in lt-ltb x n (omega (arith, same, low))) ns
        ∙ list_any_at (nat_eq q) ns (get_or ts q 0) 0 (t.used q low) (eq-eqb q _ (sym (t.at_turn q low))))

pub count_order : (ts later : List ℕ) (capacity : ℕ) (order : TurnOrder) → AreTurns ts later capacity → order_of ts later ≡ order → length (in_order order) ≡ length ts
count_order ts later capacity order t view =
    ap (λ o. length (in_order o)) (sym view) ∙ count_blocks (length ts) (first_turns ts ++ later) ts t.at

pub count_kept : (ts later : List ℕ) (order : TurnOrder) → order_of ts later ≡ order → length order.kept ≡ length ts + length later
count_kept ts later order view = ap (λ o. length o.kept) (sym view) ∙ length_kept ts later

-- a block is found at its turn alone
pub only_turn : (n : ℕ) (ns ts : List ℕ) → AreTurnsOf n ns ts → (b : ℕ) → b < n → (k : ℕ) → k < length ns → get_or ns k 0 ≡ b → k ≡ get_or ts b 0
only_turn n ns ts t b low k l e = sym (t.once k l (omega (arith, e, low))) ∙ ap (λ x. get_or ts x 0) e

-- ---- a block leaves a gap, and is put at the last turn

module _ (n b : ℕ) (ns ts : List ℕ) (t : AreTurnsOf n ns ts) (low : b < n) where
  abbrev left : ℕ
  left = get_or ts b 0

  abbrev gone : List ℕ
  gone = set ns left n

  abbrev numbers : List ℕ
  numbers = gone ++ b ∷ []

  abbrev turns : List ℕ
  turns = set ts b (length ns)

  long : length gone ≡ length ns
  long = length-set ns left n

  longer : length numbers ≡ length ns + 1
  longer = let e = length_push gone b in omega (arith, e, long)

  last : get_or numbers (length ns) 0 ≡ b
  last = get_or_push gone b 0 (length ns) long

  blank : get_or numbers left 0 ≡ n
  blank = let used = t.used b low in get_or_append_left gone (b ∷ []) 0 left (omega (arith, long, used)) ∙ get_or-set_same ns left n 0 used

  other : (k : ℕ) → k < length ns → k ≢ left → get_or numbers k 0 ≡ get_or ns k 0
  other k l ne = get_or_append_left gone (b ∷ []) 0 k (omega (arith, long, l)) ∙ get_or-set_other ns left k n 0 ne

  turn : get_or turns b 0 ≡ length ns
  turn = get_or-set_same ts b (length ns) 0 (omega (arith, t.all, low))

  turn_other : (c : ℕ) → c ≢ b → get_or turns c 0 ≡ get_or ts c 0
  turn_other c ne = get_or-set_other ts b c (length ns) 0 ne

  used_by : (c : ℕ) → c < n → (c ≡ b) ⊎ (c ≡ b → ⊥) → get_or turns c 0 < length numbers
  used_by c l (inl e) = let h : get_or turns c 0 ≡ length ns = ap (λ x. get_or turns x 0) e ∙ turn in omega (arith, h, longer)
  used_by c l (inr ne) = let h = turn_other c ne in let u = t.used c l in omega (arith, h, u, longer)

  at_by : (c : ℕ) → c < n → (c ≡ b) ⊎ (c ≡ b → ⊥) → get_or numbers (get_or turns c 0) 0 ≡ c
  at_by c l (inl e) = ap (λ x. get_or numbers (get_or turns x 0) 0) e ∙ ap (λ x. get_or numbers x 0) turn ∙ last ∙ sym e
  at_by c l (inr ne) =
      ap (λ x. get_or numbers x 0) (turn_other c ne)
      ∙ other (get_or ts c 0) (t.used c l) (λ e. ne (sym (t.at_turn c l) ∙ ap (λ x. get_or ns x 0) e ∙ t.at_turn b low))
      ∙ t.at_turn c l

  not_left : (k : ℕ) → get_or numbers k 0 < n → k ≢ left
  not_left k lo e = let h : get_or numbers k 0 ≡ n = ap (λ x. get_or numbers x 0) e ∙ blank in omega (arith, h, lo)

  once_by : (k : ℕ) → k < length numbers → get_or numbers k 0 < n → (k ≡ length ns) ⊎ (k ≡ length ns → ⊥) → get_or turns (get_or numbers k 0) 0 ≡ k
  once_by k l lo (inl e) = ap (λ x. get_or turns (get_or numbers x 0) 0) e ∙ ap (λ x. get_or turns x 0) last ∙ turn ∙ sym e
  once_by k l lo (inr ne) =
      let away = not_left k lo in
      let here : k < length ns = omega (arith, l, ne, longer) in
      let same = other k here away in
      let o = t.once k here (omega (arith, same, lo)) in
      ap (λ x. get_or turns x 0) same ∙ turn_other (get_or ns k 0) (λ e. away (sym o ∙ ap (λ x. get_or ts x 0) e)) ∙ o

  pub moved : AreTurnsOf n numbers turns
  moved = record {
    all = length-set ts b (length ns) ∙ t.all;
    used = λ c l. used_by c l (cases_eq c b);
    at_turn = λ c l. at_by c l (cases_eq c b);
    once = λ k l lo. once_by k l lo (cases_eq k (length ns));
  }

  pub moved_order : blocks_in n numbers ≡ written (blocks_in n ns) b
  moved_order =
      filter-append (λ k. nat_lt k n) gone (b ∷ [])
      ∙ ap (λ l. l ++ cond (nat_lt b n) (b ∷ []) []) (gap_over n b n ns left (omega arith) (t.used b low) (t.at_turn b low) (only_turn n ns ts t b low))
      ∙ ap (λ s. filter (λ c. not (nat_eq c b)) (blocks_in n ns) ++ cond s (b ∷ []) []) (lt-ltb b n low)

  pub moved_front : KeepsFront (length ns) (record { blocks = n; kept = ns }) (record { blocks = n; kept = numbers })
  moved_front = record {
    same = refl;
    long = omega (arith, longer);
    front = λ k l lo. other k l (not_left k lo);
  }

-- the same of the first turns and the later ones
module _ (b : ℕ) (ts later : List ℕ) (t : AreTurnsOf (length ts) (first_turns ts ++ later) ts) (low : b < length ts) (following : List ℕ) where
  abbrev from : ℕ
  from = get_or ts b 0

  abbrev now : List ℕ
  now = set ts b (length (first_turns ts ++ later))

  as_long : length now ≡ length ts
  as_long = length-set ts b (length (first_turns ts ++ later))

  put : get_or now b 0 ≢ b
  put e = let h = get_or-set_same ts b (length (first_turns ts ++ later)) 0 low in omega (arith, h, e, low, length_kept ts later)

  -- a block that was never written leaves its first turn
  first_left : from < length ts → first_turns now ≡ set (first_turns ts) from (length ts)
  first_left first =
      same_number_lists (first_turns now) (set (first_turns ts) from (length ts))
      (length_first now ∙ as_long ∙ sym (length-set (first_turns ts) from (length ts) ∙ length_first ts))
      (λ k l. let here : k < length ts = omega (arith, l, length_first now, as_long) in by k here (cases_eq k b))
    where
      own : from ≡ b
      own = at_number ts later t b low first

      by : (k : ℕ) → k < length ts → (k ≡ b) ⊎ (k ≡ b → ⊥) → get_or (first_turns now) k 0 ≡ get_or (set (first_turns ts) from (length ts)) k 0
      by k here (inl e) =
          ap (λ j. get_or (first_turns now) j 0) e ∙ first_gone now b (omega (arith, low, as_long)) put ∙ as_long
          ∙ sym (ap (λ j. get_or (set (first_turns ts) from (length ts)) j 0) (e ∙ sym own)
          ∙ get_or-set_same (first_turns ts) from (length ts) 0 (omega (arith, first, length_first ts)))
      by k here (inr ne) = other k here ne ∙ sym (get_or-set_other (first_turns ts) from k (length ts) 0 (λ e. ne (e ∙ own)))
        where
          other : (k : ℕ) → k < length ts → (k ≡ b → ⊥) → get_or (first_turns now) k 0 ≡ get_or (first_turns ts) k 0
          other k here ne = turned k here (get_or-set_other ts b k (length (first_turns ts ++ later)) 0 ne) (cases_eq (get_or ts k 0) k)
            where
              turned : (k : ℕ) → k < length ts → get_or now k 0 ≡ get_or ts k 0 → (get_or ts k 0 ≡ k) ⊎ (get_or ts k 0 ≡ k → ⊥) → get_or (first_turns now) k 0 ≡ get_or (first_turns ts) k 0
              turned k here same (inl e) = first_there now k (omega (arith, here, as_long)) (same ∙ e) ∙ sym (first_there ts k here e)
              turned k here same (inr otherwise) = first_gone now k (omega (arith, here, as_long)) (λ e. otherwise (sym same ∙ e)) ∙ as_long ∙ sym (first_gone ts k here otherwise)

  -- another one leaves the first turns as they are
  first_stay : length ts ≤ from → first_turns now ≡ first_turns ts
  first_stay high = sym (first_same ts now (sym as_long) (λ c l e. stays c l e (cases_eq c b)) (λ c l ne. leaves c l ne (cases_eq c b)))
    where
      stays : (c : ℕ) → c < length ts → get_or ts c 0 ≡ c → (c ≡ b) ⊎ (c ≡ b → ⊥) → get_or now c 0 ≡ c
      stays c l e (inl same) = absurd (let h : from ≡ c = ap (λ x. get_or ts x 0) (sym same) ∙ e in omega (arith, h, l, high))
      stays c l e (inr ne) = get_or-set_other ts b c (length (first_turns ts ++ later)) 0 ne ∙ e

      leaves : (c : ℕ) → c < length ts → get_or ts c 0 ≢ c → (c ≡ b) ⊎ (c ≡ b → ⊥) → get_or now c 0 ≢ c
      leaves c l was (inl same) e = put (ap (λ x. get_or now x 0) (sym same) ∙ e ∙ same)
      leaves c l was (inr ne) e = was (sym (get_or-set_other ts b c (length (first_turns ts ++ later)) 0 ne) ∙ e)

  -- what is kept then
  pub kept_after : (from < length ts → following ≡ later) → (length ts ≤ from → following ≡ set later (from - length ts) (length ts))
      → first_turns now ++ (following ++ b ∷ []) ≡ set (first_turns ts ++ later) from (length ts) ++ b ∷ []
  kept_after first high = sym (append_assoc (first_turns now) following (b ∷ [])) ∙ ap (λ l. l ++ b ∷ []) (by (cases_lt from (length ts)))
    where
      by : (from < length ts) ⊎ (length ts ≤ from) → first_turns now ++ following ≡ set (first_turns ts ++ later) from (length ts)
      by (inl l) =
          ap (λ xs. xs ++ following) (first_left l) ∙ ap (λ ys. set (first_turns ts) from (length ts) ++ ys) (first l)
          ∙ sym (set-append_left (first_turns ts) later from (length ts) (omega (arith, l, length_first ts)))
      by (inr h) =
          ap (λ xs. xs ++ following) (first_stay h) ∙ ap (λ ys. first_turns ts ++ ys) (high h)
          ∙ sym (set-append_right (first_turns ts) later (length ts) from (length ts) (length_first ts) h)

-- the same of an order
module _ (b capacity : ℕ) (ts later following : List ℕ) (t : AreTurns ts later capacity) (order : TurnOrder) (view : order_of ts later ≡ order)
    (listed : b < length (in_order order)) (room : length order.kept < 5 * length (in_order order)) (last : ℕ) (is : last ≡ length ts + length later)
    (first : get_or ts b 0 < length ts → following ≡ later) (high : length ts ≤ get_or ts b 0 → following ≡ set later (get_or ts b 0 - length ts) (length ts)) where
  pub is_block : b < length ts
  is_block = omega (arith, count_order ts later capacity order t view, listed)

  pub free : length later < 4 * length ts
  free = omega (arith, count_order ts later capacity order t view, count_kept ts later order view, room)

  at_last : set ts b last ≡ set ts b (length (first_turns ts ++ later))
  at_last = ap (set ts b) (is ∙ sym (length_kept ts later))

  same_long : length (set ts b last) ≡ length ts
  same_long = length-set ts b last

  kept_is : first_turns (set ts b last) ++ (following ++ b ∷ []) ≡ set (first_turns ts ++ later) (get_or ts b 0) (length ts) ++ b ∷ []
  kept_is = ap (λ us. first_turns us ++ (following ++ b ∷ [])) at_last ∙ kept_after b ts later t.at is_block following first high

  pub as_long_following : length following ≡ length later
  as_long_following = by (cases_lt (get_or ts b 0) (length ts))
    where
      by : (get_or ts b 0 < length ts) ⊎ (length ts ≤ get_or ts b 0) → length following ≡ length later
      by (inl l) = ap length (first l)
      by (inr h) = ap length (high h) ∙ length-set later (get_or ts b 0 - length ts) (length ts)

  after_at : AreTurnsOf (length ts) (first_turns (set ts b last) ++ (following ++ b ∷ [])) (set ts b last)
  after_at =
      subst (λ us. AreTurnsOf (length ts) (first_turns (set ts b last) ++ (following ++ b ∷ [])) us) (sym at_last)
      (subst (λ kept. AreTurnsOf (length ts) kept (set ts b (length (first_turns ts ++ later)))) (sym kept_is)
      (moved (length ts) b (first_turns ts ++ later) ts t.at is_block))

  after_turns : AreTurns (set ts b last) (following ++ b ∷ []) capacity
  after_turns = record {
    few = omega (arith, same_long, t.few);
    within = let e = length_push following b in omega (arith, e, as_long_following, free, same_long);
    room = omega (arith, same_long, t.room);
    at = subst (λ n. AreTurnsOf n (first_turns (set ts b last) ++ (following ++ b ∷ [])) (set ts b last)) (sym same_long) after_at;
  }

  pub after_in : (us all : List ℕ) (room : ℕ) → us ≡ set ts b last → all ≡ following ++ b ∷ [] → room ≡ capacity → AreTurns us all room
  after_in us all room turned put kept =
      subst (λ us. AreTurns us all room) (sym turned)
      (subst (λ l. AreTurns (set ts b last) l room) (sym put) (subst (AreTurns (set ts b last) (following ++ b ∷ [])) (sym kept) after_turns))

  abbrev after : TurnOrder
  after = order_of (set ts b last) (following ++ b ∷ [])

  after_is : after ≡ record { blocks = length ts; kept = set (first_turns ts ++ later) (get_or ts b 0) (length ts) ++ b ∷ [] }
  after_is = λ i. record { blocks = same_long i; kept = kept_is i }

  pub after_same : (us all : List ℕ) → us ≡ set ts b last → all ≡ following ++ b ∷ [] → order_of us all ≡ after
  after_same us all turned put = λ i. order_of (turned i) (put i)

  pub after_order : in_order after ≡ written (in_order order) b
  after_order = ap in_order after_is ∙ moved_order (length ts) b (first_turns ts ++ later) ts t.at is_block ∙ ap (λ o. written (in_order o) b) view

  pub after_length : length (in_order after) ≡ length (in_order order)
  after_length =
      count_order (set ts b last) (following ++ b ∷ []) capacity after after_turns refl ∙ same_long ∙ sym (count_order ts later capacity order t view)

  pub after_front : KeepsFront (length order.kept) order after
  after_front =
      subst (λ o. KeepsFront (length o.kept) o after) view
      (subst (λ o. KeepsFront (length (first_turns ts ++ later)) (order_of ts later) o) (sym after_is)
      (moved_front (length ts) b (first_turns ts ++ later) ts t.at is_block))
