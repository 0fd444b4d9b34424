-- The newest records of an array's blocks, listed block by block.
use Rattle.std.proofs.Common.{◌≡◌, ◌⊎◌, inl, inr, ℕ, ◌+◌, ◌/◌, ◌%◌, ◌<◌, ◌≤◌, List, [], ◌∷◌, ◌++◌, All, Option, Some, None, get_or, length, refl, sym, ap, ◌∙◌, subst, arith, Contains}
use Rattle.std.specs.Prelude.{map}
use Rattle.std.proofs.lemmas.Bool.{cases_lt}
use Rattle.std.proofs.lemmas.List.{map-append}
use Rattle.std.proofs.lemmas.List.Elements.{All-get_or, Contains-append_left, Contains-push, Contains-push_cases}
use Rattle.std.proofs.lemmas.Option.{same_Some, none-some}
use Rattle.map_join.specs.declared.records.Record.{Record}
use Rattle.map_join.specs.Record.{record_at}
use Rattle.map_join.specs.Lists.{ListsBelow}
use Rattle.map_join.specs.Live.{IsLiveCount, IsLiveIn}
use Rattle.map_join.specs.Maps.{IsListOf}
use Rattle.map_join.proofs.Rising.{below_none, below_skip, below_more, count_zero}
use Rattle.flat_machine.proofs.Newest.{place_small, reported_key}

-- the block has a record
abbrev pub HasRecord : (ℕ → ℕ) → ℕ → Type 0
HasRecord M b = (r : Record) × (record_at b (M b) ≡ Some r)

-- the blocks of records
abbrev pub blocks_of : List Record → List ℕ
blocks_of records = map (λ (r : Record). r.block) records

-- the newest records of all blocks below a bound, for the loop
pub record AreListed (M : ℕ → ℕ) (bound : ℕ) (records : List Record) : Type 0 where
  pub blocks : ListsBelow (HasRecord M) bound (blocks_of records)
  pub reported : (r : Record) → Contains records r → record_at r.block (M r.block) ≡ Some r
  pub each : (r : Record) → r.block < bound → record_at r.block (M r.block) ≡ Some r → Contains records r

pub none_listed : (M : ℕ → ℕ) → AreListed M 0 []
none_listed M = record {
  blocks = below_none (HasRecord M) 0 (λ n l has. omega (arith, l));
  reported = λ r c. absurd (omega (arith, c.1));
  each = λ r l e. absurd (omega (arith, l));
}

-- a block without a record
pub none_more : (M : ℕ → ℕ) (b : ℕ) (records : List Record) → record_at b (M b) ≡ None → AreListed M b records → AreListed M (b + 1) records
none_more M b records none listed = record {
  blocks = below_skip (HasRecord M) b (b + 1) (blocks_of records) (omega arith) (λ n from to has. other n has.0 (omega (arith, from, to)) has.1) listed.blocks;
  reported = listed.reported;
  each = λ r l e. below r l e (cases_lt r.block b);
}
  where
    other : (n : ℕ) (r : Record) → b ≡ n → record_at n (M n) ≡ Some r → ⊥
    other n r is e = none-some r (sym none ∙ subst (λ m. record_at m (M m) ≡ Some r) (sym is) e)

    below : (r : Record) → r.block < b + 1 → record_at r.block (M r.block) ≡ Some r → (r.block < b) ⊎ (b ≤ r.block) → Contains records r
    below r l e (inl low) = listed.each r low e
    below r l e (inr high) = absurd (other r.block r (omega (arith, l, high)) e)

-- a block with a record, which is pushed
pub one_more : (M : ℕ → ℕ) (b : ℕ) (records : List Record) (r : Record) → record_at b (M b) ≡ Some r → AreListed M b records → AreListed M (b + 1) (records ++ r ∷ [])
one_more M b records r is listed = record {
  blocks = subst (ListsBelow (HasRecord M) (b + 1)) (sym pushed) (below_more (HasRecord M) b (blocks_of records) (r, is) listed.blocks);
  reported = λ q c. reported q (Contains-push_cases records r q c);
  each = λ q l e. each q l e (cases_lt q.block b);
}
  where
    block : b ≡ r.block
    block = ap (λ (x : Record). x.block) (reported_key b (M b) r is).1

    pushed : blocks_of (records ++ r ∷ []) ≡ blocks_of records ++ b ∷ []
    pushed = map-append (λ (x : Record). x.block) records (r ∷ []) ∙ ap (λ n. blocks_of records ++ n ∷ []) (sym block)

    here : record_at r.block (M r.block) ≡ Some r
    here = subst (λ n. record_at n (M n) ≡ Some r) block is

    reported : (q : Record) → Contains records q ⊎ (r ≡ q) → record_at q.block (M q.block) ≡ Some q
    reported q (inl c) = listed.reported q c
    reported q (inr e) = subst (λ (x : Record). record_at x.block (M x.block) ≡ Some x) e here

    each : (q : Record) → q.block < b + 1 → record_at q.block (M q.block) ≡ Some q → (q.block < b) ⊎ (b ≤ q.block) → Contains (records ++ r ∷ []) q
    each q l e (inl low) = Contains-append_left records (r ∷ []) q (listed.each q low e)
    each q l e (inr high) =
        let at : b ≡ q.block = omega (arith, l, high) in
        let same : r ≡ q = same_Some r q (sym is ∙ subst (λ n. record_at n (M n) ≡ Some q) (sym at) e) in
        subst (Contains (records ++ r ∷ [])) same (Contains-push records r)

-- no block from the bound on has a record
pub all_listed : (M : ℕ → ℕ) (bound : ℕ) (records : List Record) → ((b : ℕ) → bound ≤ b → record_at b (M b) ≡ None) → AreListed M bound records → IsListOf M records
all_listed M bound records none listed = record {
  rising = listed.blocks.rising;
  each = λ r. (listed.reported r, λ e. go r e (cases_lt r.block bound));
}
  where
    go : (r : Record) → record_at r.block (M r.block) ≡ Some r → (r.block < bound) ⊎ (bound ≤ r.block) → Contains records r
    go r e (inl low) = listed.each r low e
    go r e (inr high) = absurd (none-some r (sym (none r.block high) ∙ e))

-- where no group has a live slot no block has a record
pub no_records : (M : ℕ → ℕ) (counts : List ℕ) (slots : ℕ → ℕ) → length counts ≡ 512 → All (λ count. count ≡ 0) counts
    → ((group : ℕ) → group < 512 → IsLiveCount M group (slots group + 128) (get_or counts group 0)) → (b : ℕ) → record_at b (M b) ≡ None
no_records M counts slots many zero counted b = go (record_at b (M b)) refl
  where
    go : (o : Option Record) → record_at b (M b) ≡ o → record_at b (M b) ≡ None
    go None is = is
    go (Some r) is =
        let small = place_small b (M b) r is in
        let group = r.place / 128 in
        let low : group < 512 = omega (arith, small) in
        let none : get_or counts group 0 ≡ 0 = All-get_or (λ count. count ≡ 0) counts group 0 (omega (arith, low, many)) zero in
        let among : r.place % 128 < slots group + 128 = omega arith in
        absurd (count_zero (IsLiveIn M group (slots group + 128)) (subst (IsLiveCount M group (slots group + 128)) none (counted group low)) r.place
        (record { own = refl; among = among; live = (b, (r, is, refl)) }))
