-- The list of a map's records, page after page.
use Rattle.std.proofs.Common.{◌≡◌, ℕ, zero, suc, ◌+◌, ◌*◌, ◌/◌, ◌^◌, ◌<◌, ◌≤◌, List, [], ◌∷◌, ◌++◌, map, length, get_or, slice_index, Contains, refl, sym, ap, ◌∙◌, subst, arith, Option, Some, None, MatchOption, ◌⊎◌, inl, inr}
use Rattle.std.proofs.lemmas.Bool.{cases_lt}
use Rattle.std.proofs.lemmas.Bool.Decides.{nat_tests}
use Rattle.std.proofs.lemmas.List.{get_or-map, length-map, map-append}
use Rattle.std.proofs.lemmas.List.Elements.{Contains-get_or, Contains-append_left, Contains-push, Contains-push_cases}
use Rattle.std.proofs.lemmas.Option.{same_Some}
use Rattle.std.specs.List.Sorted.{IsStrictlyIncreasing}
use Rattle.map_join.specs.declared.records.Record.{Record}
use Rattle.map_join.specs.Record.{record_of, record_at, key_of}
use Rattle.map_join.specs.Maps.{Lanes, Entries, at, lanes_of, IsListOf}
use Rattle.map_join.specs.Pages.{IsPageOf, IsListBelow}
use Rattle.map_join.proofs.Fronts.{IsMet, met_page, unmet, met_below, met_at, front_at, front_else}
use Rattle.map_join.proofs.Paged.{at_lane, at_none}
use Rattle.map_join.proofs.Rising.{rising_push}

-- the record of an entry
abbrev pub recorded : ℕ × ℕ → Record
recorded e = record_of e.0 e.1

-- a number that is at least the least key has a record, and no other number does
pub reported : (block key : ℕ) → 2 ^ 32 ≤ key → record_at block key ≡ Some (record_of block key)
reported block key h = grind (arith, nat_tests)

untold : (block key : ℕ) → key < 2 ^ 32 → record_at block key ≡ None
untold block key h = grind (arith, nat_tests)

-- the record with this key is what a map has of a block; where there is no such record, the map has nothing
pub reported_key : (block key : ℕ) → (0 < key → 2 ^ 32 ≤ key) → MatchOption (record_at block key) (key ≡ 0) (λ r. key_of r ≡ key)
reported_key block key least = go key least
  where
    same : (n : ℕ) → key_of (record_of block n) ≡ n
    same n = omega arith

    go : (n : ℕ) → (0 < n → 2 ^ 32 ≤ n) → MatchOption (record_at block n) (n ≡ 0) (λ r. key_of r ≡ n)
    go zero l = refl
    go (suc n) l = rw (reported block (suc n) (l (omega arith))) (same (suc n))

-- a key that has a record
pub record_reported : (block key : ℕ) (r : Record) → record_at block key ≡ Some r → (2 ^ 32 ≤ key) × (record_of block key ≡ r)
record_reported block key r is = by_size (cases_lt key (2 ^ 32))
  where
    none_some : None ≡ Some r → ⊥
    none_some e = cc

    by_size : (key < 2 ^ 32) ⊎ (2 ^ 32 ≤ key) → (2 ^ 32 ≤ key) × (record_of block key ≡ r)
    by_size (inl small) = absurd (none_some (sym (untold block key small) ∙ is))
    by_size (inr big) = (big, same_Some _ _ (sym (reported block key big) ∙ is))

-- the key that a map has of a block whose key has a record
pub key_reported : (es : Entries) (block : ℕ) (r : Record) → record_at block (at es block) ≡ Some r → (key : ℕ) × (at es block ≡ key) × (recorded (block, key) ≡ r)
key_reported es block r is = (at es block, refl, (record_reported block (at es block) r is).1)

own_block : (block key : ℕ) (r : Record) → record_at block key ≡ Some r → r.block ≡ block
own_block block key r is = sym (ap (λ (q : Record). q.block) (record_reported block key r is).1)

map_member : {X Y : Type 0} (g : X → Y) (xs : List X) (d : X) (y : Y) → Contains (map g xs) y → (x : X) × (Contains xs x) × (g x ≡ y)
map_member g xs d y h =
    let long = length-map xs g in
    let lt = h.1 in
    let inside : h.0 < length xs = omega arith in
    (get_or xs h.0 d, Contains-get_or xs h.0 d inside, sym (get_or-map g xs h.0 d y inside) ∙ h.2)

-- one block more has no record
pub list_skip : (M : ℕ → ℕ) (bound : ℕ) (xs : List Record) → record_at bound (M bound) ≡ None → IsListBelow bound M xs → IsListBelow (bound + 1) M xs
list_skip M bound xs none h = record {
  rising = h.rising;
  each = λ r. ((λ c. let e = (h.each r).0 c in (omega (arith, e.0), e.1)), (λ w. from r w.0 w.1 (cases_lt r.block bound)));
}
  where
    none_some : (r : Record) → None ≡ Some r → ⊥
    none_some r e = cc

    from : (r : Record) → r.block < bound + 1 → record_at r.block (M r.block) ≡ Some r → (r.block < bound) ⊎ (bound ≤ r.block) → Contains xs r
    from r lt is (inl l) = (h.each r).1 (l, is)
    from r lt is (inr le) = let e : r.block ≡ bound = omega arith in absurd (none_some r (sym none ∙ ap (λ b. record_at b (M b)) (sym e) ∙ is))

-- or has one
pub list_push : (M : ℕ → ℕ) (bound : ℕ) (xs : List Record) (r : Record) → record_at bound (M bound) ≡ Some r → IsListBelow bound M xs
    → IsListBelow (bound + 1) M (xs ++ r ∷ [])
list_push M bound xs r is h = record {
  rising = subst IsStrictlyIncreasing (sym (map-append (λ (q : Record). q.block) xs (r ∷ []))) (rising_push (map (λ q. q.block) xs) r.block h.rising lower);
  each = λ q. ((λ c. to q (Contains-push_cases xs r q c)), (λ w. from q w.0 w.1 (cases_lt q.block bound)));
}
  where
    own : r.block ≡ bound
    own = own_block bound (M bound) r is

    lower : (n : ℕ) → Contains (map (λ (q : Record). q.block) xs) n → n < r.block
    lower n has =
        let x = map_member (λ (q : Record). q.block) xs r n has in
        let l = (h.each x.0).0 x.1 in
        omega (arith, l.0, x.2, own)

    to : (q : Record) → Contains xs q ⊎ (r ≡ q) → (q.block < bound + 1) × (record_at q.block (M q.block) ≡ Some q)
    to q (inl c) = let e = (h.each q).0 c in (omega (arith, e.0), e.1)
    to q (inr e) = subst (λ (p : Record). (p.block < bound + 1) × (record_at p.block (M p.block) ≡ Some p)) e
        (omega (arith, own), ap (λ b. record_at b (M b)) own ∙ is)

    from : (q : Record) → q.block < bound + 1 → record_at q.block (M q.block) ≡ Some q → (q.block < bound) ⊎ (bound ≤ q.block) → Contains (xs ++ r ∷ []) q
    from q lt t (inl l) = Contains-append_left xs (r ∷ []) q ((h.each q).1 (l, t))
    from q lt t (inr le) =
        let e : q.block ≡ bound = omega arith in
        let same : r ≡ q = same_Some r q (sym is ∙ ap (λ b. record_at b (M b)) (sym e) ∙ t) in
        subst (Contains (xs ++ r ∷ [])) same (Contains-push xs r)

-- the record of a lane
pub reported_lane : (M : ℕ → ℕ) (number lane : ℕ) (keys : Lanes) (block : ℕ) (result : Option Record) → IsPageOf M number keys → lane < 64
    → block ≡ 64 * number + lane → result ≡ record_at block (slice_index keys lane) → record_at (64 * number + lane) (M (64 * number + lane)) ≡ result
reported_lane M number lane keys block result own lt here is =
    ap (record_at (64 * number + lane)) (own lane lt) ∙ ap (λ b. record_at b (slice_index keys lane)) (sym here) ∙ sym is

pub lane_more : (M : ℕ → ℕ) (bound lane : ℕ) (xs ys : List Record) (r : Record) → ys ≡ xs ++ r ∷ [] → record_at (bound + lane) (M (bound + lane)) ≡ Some r
    → IsListBelow (bound + lane) M xs → IsListBelow (bound + (lane + 1)) M ys
lane_more M bound lane xs ys r is reported h =
    subst (λ zs. IsListBelow (bound + (lane + 1)) M zs) (sym is) (subst (λ b. IsListBelow b M (xs ++ r ∷ [])) (omega arith) (list_push M (bound + lane) xs r reported h))

pub lane_skip : (M : ℕ → ℕ) (bound lane : ℕ) (xs ys : List Record) → ys ≡ xs → record_at (bound + lane) (M (bound + lane)) ≡ None
    → IsListBelow (bound + lane) M xs → IsListBelow (bound + (lane + 1)) M ys
lane_skip M bound lane xs ys is none h =
    subst (λ zs. IsListBelow (bound + (lane + 1)) M zs) (sym is) (subst (λ b. IsListBelow b M xs) (omega arith) (list_skip M (bound + lane) xs none h))

-- no record is that of the map without blocks
pub list_none : IsListOf (at []) []
list_none = record {
  rising = λ k lt. absurd (omega (arith, lt));
  each = λ r. ((λ has. absurd (omega (arith, has.1))), (λ is. let t = (record_reported r.block (at [] r.block) r is).0 in let z = at_none r.block in absurd (omega arith)));
}

module _ (es front : Entries) (number : ℕ) (keys : Lanes) (rest : Entries) (met : IsMet es front number keys rest) where
  pub page_of : IsPageOf (at es) number keys
  page_of lane lt = at_lane es number lane lt ∙ ap (λ o. lanes_of o lane) (met_page es front number keys rest met)

  -- the list of the pages before this one is that of the records of the lower blocks
  pub list_start : (xs : List Record) → IsListOf (at front) xs → IsListBelow (64 * number) (at es) xs
  list_start xs h = record { rising = h.rising; each = λ r. ((λ c. to r ((h.each r).0 c)), (λ w. from r w.0 w.1)) }
    where
      to : (r : Record) → record_at r.block (at front r.block) ≡ Some r → (r.block < 64 * number) × (record_at r.block (at es r.block) ≡ Some r)
      to r is = by (cases_lt (r.block / 64) number)
        where
          by : (r.block / 64 < number) ⊎ (number ≤ r.block / 64) → (r.block < 64 * number) × (record_at r.block (at es r.block) ≡ Some r)
          by (inl lt) = (omega arith, ap (record_at r.block) (met_below es front number keys rest met r.block lt) ∙ is)
          by (inr le) =
              let z = unmet es front number keys rest met r.block le in
              let t = (record_reported r.block (at front r.block) r is).0 in
              absurd (omega arith)

      from : (r : Record) → r.block < 64 * number → record_at r.block (at es r.block) ≡ Some r → Contains xs r
      from r lt is = (h.each r).1 (ap (record_at r.block) (sym (met_below es front number keys rest met r.block (omega arith))) ∙ is)

  -- with the page's own records it is the list of the pages up to it
  pub list_end : (xs : List Record) → IsListBelow (64 * number + 64) (at es) xs → IsListOf (at (front ++ (number, keys) ∷ [])) xs
  list_end xs h = record { rising = h.rising; each = λ r. ((λ c. let e = (h.each r).0 c in to r e.0 e.1), (λ w. from r w)) }
    where
      more : Entries
      more = front ++ (number, keys) ∷ []

      same : (b : ℕ) → b < 64 * number + 64 → at more b ≡ at es b
      same b lt = by (cases_lt (b / 64) number)
        where
          by : (b / 64 < number) ⊎ (number ≤ b / 64) → at more b ≡ at es b
          by (inl l) = front_else es front number keys rest met b (λ e. absurd (omega arith)) ∙ sym (met_below es front number keys rest met b l)
          by (inr le) =
              let is : b / 64 ≡ number = omega arith in
              front_at es front number keys rest met b is ∙ sym (met_at es front number keys rest met b is)

      to : (r : Record) → r.block < 64 * number + 64 → record_at r.block (at es r.block) ≡ Some r → record_at r.block (at more r.block) ≡ Some r
      to r lt is = ap (record_at r.block) (same r.block lt) ∙ is

      from : (r : Record) → record_at r.block (at more r.block) ≡ Some r → Contains xs r
      from r is = by (cases_lt r.block (64 * number + 64))
        where
          by : (r.block < 64 * number + 64) ⊎ (64 * number + 64 ≤ r.block) → Contains xs r
          by (inl lt) = (h.each r).1 (lt, ap (record_at r.block) (sym (same r.block lt)) ∙ is)
          by (inr le) =
              let e = front_else es front number keys rest met r.block (λ q. absurd (omega arith)) in
              let z = unmet es front number keys rest met r.block (omega arith) in
              let t = (record_reported r.block (at more r.block) r is).0 in
              absurd (omega arith)
