-- The newest record of a block, from its key in a map of the emitted records.
use Rattle.std.proofs.Common.{◌≡◌, ℕ, ◌/◌, ◌%◌, ◌^◌, ◌<◌, ◌≤◌, refl, sym, ap, ◌∙◌, subst, arith, ◌⊎◌, inl, inr, Option, Some, None, List, Contains}
use Rattle.std.proofs.lemmas.Bool.Decides.{nat_tests}
use Rattle.std.proofs.lemmas.Option.{same_Some}
use Rattle.map_join.specs.declared.records.Record.{Record}
use Rattle.map_join.specs.Record.{key_of, record_of, record_at, IsRecord}
use Rattle.map_join.specs.Maps.{IsSame, IsMapOf, HasSameRecords}
use Rattle.flat_machine.specs.Flat.{IsNewest}

-- a record is the one made of its key
pub reported_again : (r : Record) → IsRecord r → record_of r.block (key_of r) ≡ r
reported_again r is = λ i. record { block = r.block; version = version i; hop = hop i; place = place i }
  where
    version : key_of r / 2 ^ 32 ≡ r.version
    version = let p = is.place in let h = is.hop in omega arith

    hop : key_of r / 2 ^ 16 % 2 ^ 16 ≡ r.hop
    hop = let p = is.place in let h = is.hop in omega arith

    place : key_of r % 2 ^ 16 ≡ r.place
    place = let p = is.place in let h = is.hop in omega arith

-- the key of a record is no less than the least
pub key_least : (r : Record) → IsRecord r → 2 ^ 32 ≤ key_of r
key_least r is = let w = is.written in omega arith

pub reported_at : (block key : ℕ) → 2 ^ 32 ≤ key → record_at block key ≡ Some (record_of block key)
reported_at block key h = grind (arith, nat_tests)

pub untold_at : (block key : ℕ) → key < 2 ^ 32 → record_at block key ≡ None
untold_at block key h = grind (arith, nat_tests)

-- a block with a newest record has its key
pub reported_key : (b key : ℕ) (n : Record) → record_at b key ≡ Some n → (2 ^ 32 ≤ key) × (record_of b key ≡ n)
reported_key b key n is = go (sizes key)
  where
    sizes : (k : ℕ) → (k < 2 ^ 32) ⊎ (2 ^ 32 ≤ k)
    sizes k = grind arith

    go : (key < 2 ^ 32) ⊎ (2 ^ 32 ≤ key) → (2 ^ 32 ≤ key) × (record_of b key ≡ n)
    go (inl small) = let bad : None ≡ Some n = sym (untold_at b key small) ∙ is in absurd (cc)
    go (inr big) = (big, same_Some _ _ (sym (reported_at b key big) ∙ is))

-- in a map of the emitted records the block's key is that of its newest record
pub newest_reported : (emitted : List Record) (keys : ℕ → ℕ) (block : ℕ) → ((r : Record) → Contains emitted r → IsRecord r) → IsMapOf emitted keys
    → IsNewest emitted block (record_at block (keys block))
newest_reported emitted keys block all map = go (least (keys block))
  where
    least : (k : ℕ) → (k ≡ 0) ⊎ (0 < k)
    least k = grind arith

    go : (keys block ≡ 0) ⊎ (0 < keys block) → IsNewest emitted block (record_at block (keys block))
    go (inl none) = subst (IsNewest emitted block) (sym (untold_at block (keys block) (omega arith)))
        (λ r has at. let big = key_least r (all r has) in let most = map.most r has in let e = ap keys at in absurd (omega arith))
    go (inr some) =
        let t = map.reported block some in
        let is = all t.0 t.1 in
        let big = key_least t.0 is in
        let same : record_of block (keys block) ≡ t.0 =
        ap (λ (b : ℕ). record_of b (keys block)) (sym t.2) ∙ ap (record_of t.0.block) (sym t.3) ∙ reported_again t.0 is
        in
        let found : record_at block (keys block) ≡ Some t.0 = reported_at block (keys block) (omega arith) ∙ ap (λ (r : Record). Some r) same in
        subst (IsNewest emitted block) (sym found)
        (t.1, t.2, λ q has at. let most = map.most q has in let e = ap keys at in let k = t.3 in omega arith)

-- the key of a block is that of its newest record, and 0 where it has none
pub newest_key : (emitted : List Record) (keys : ℕ → ℕ) (block : ℕ) (n : Record) → IsMapOf emitted keys → IsNewest emitted block (Some n) → keys block ≡ key_of n
newest_key emitted keys block n map is = go (least (keys block))
  where
    least : (k : ℕ) → (k ≡ 0) ⊎ (0 < k)
    least k = grind arith

    most : key_of n ≤ keys block
    most =
        let m = map.most n is.0 in
        let e : keys n.block ≡ keys block = ap keys is.1 in
        omega arith

    go : (keys block ≡ 0) ⊎ (0 < keys block) → keys block ≡ key_of n
    go (inl none) = let m = most in omega arith
    go (inr some) =
        let t = map.reported block some in
        let below = is.2 t.0 t.1 t.2 in
        let m = most in
        let k = t.3 in
        omega arith

pub newest_zero : (emitted : List Record) (keys : ℕ → ℕ) (block : ℕ) → IsMapOf emitted keys → IsNewest emitted block None → keys block ≡ 0
newest_zero emitted keys block map none = go (least (keys block))
  where
    least : (k : ℕ) → (k ≡ 0) ⊎ (0 < k)
    least k = grind arith

    go : (keys block ≡ 0) ⊎ (0 < keys block) → keys block ≡ 0
    go (inl e) = e
    go (inr some) = let t = map.reported block some in absurd (none t.0 t.1 t.2)

-- the record made of a newest record's key is that record
pub newest_record : (emitted : List Record) (keys : ℕ → ℕ) (block : ℕ) (n : Record) → ((r : Record) → Contains emitted r → IsRecord r) → IsMapOf emitted keys
    → IsNewest emitted block (Some n) → record_of block (keys block) ≡ n
newest_record emitted keys block n all map is =
    ap (record_of block) (newest_key emitted keys block n map is) ∙ ap (λ (b : ℕ). record_of b (key_of n)) (sym is.1) ∙ reported_again n (all n is.0)

-- a block has one newest record
pub newest_unique : (emitted : List Record) (block : ℕ) → ((r : Record) → Contains emitted r → IsRecord r) → (o p : Option Record)
    → IsNewest emitted block o → IsNewest emitted block p → o ≡ p
newest_unique emitted block all None None x y = refl
newest_unique emitted block all None (Some q) x y = absurd (x q y.0 y.1)
newest_unique emitted block all (Some r) None x y = absurd (y r x.0 x.1)
newest_unique emitted block all (Some r) (Some q) x y =
    let below = y.2 r x.0 x.1 in
    let above = x.2 q y.0 y.1 in
    let keys : key_of r ≡ key_of q = omega arith in
    let blocks : r.block ≡ q.block = x.1 ∙ sym y.1 in
    ap (λ (z : Record). Some z) (sym (reported_again r (all r x.0)) ∙ ap (record_of r.block) keys ∙ ap (λ b. record_of b (key_of q)) blocks ∙ reported_again q (all q y.0))

-- the place in a key is a slot number
pub place_small : (block key : ℕ) (q : Record) → record_at block key ≡ Some q → q.place < 65536
place_small block key q is = go (sizes key)
  where
    sizes : (k : ℕ) → (k < 2 ^ 32) ⊎ (2 ^ 32 ≤ k)
    sizes k = grind arith

    go : (key < 2 ^ 32) ⊎ (2 ^ 32 ≤ key) → q.place < 65536
    go (inl small) = let bad : None ≡ Some q = sym (untold_at block key small) ∙ is in absurd (cc)
    go (inr big) =
        let same : record_of block key ≡ q = same_Some _ _ (sym (reported_at block key big) ∙ is) in
        let place : (record_of block key).place ≡ q.place = ap (λ (p : Record). p.place) same in
        omega arith

-- two maps that are the same are the map of the same records
pub map_as : (records : List Record) (M N : ℕ → ℕ) → IsSame M N → IsMapOf records N → IsMapOf records M
map_as records M N same is = record {
  reported = λ block some.
      let e = same block in
      let t = is.reported block (omega arith) in
      (t.0, t.1, t.2, t.3 ∙ sym e);
  most = λ r has. let e = same r.block in let m = is.most r has in omega arith;
}

-- a map of some of the records has no greater key than a map of all of them
map_no_more : (records others : List Record) (M N : ℕ → ℕ) → ((r : Record) → Contains records r → Contains others r) → IsMapOf records M → IsMapOf others N → (b : ℕ) → M b ≤ N b
map_no_more records others M N some is other b = go (positive (M b))
  where
    positive : (k : ℕ) → (k ≡ 0) ⊎ (0 < k)
    positive k = grind arith

    go : (M b ≡ 0) ⊎ (0 < M b) → M b ≤ N b
    go (inl e) = omega arith
    go (inr reported) =
        let t = is.reported b reported in
        let most = other.most t.0 (some t.0 t.1) in
        let at : N t.0.block ≡ N b = ap N t.2 in
        let k = t.3 in
        omega arith

-- the map of a list is one map
pub map_unique : (records others : List Record) (M N : ℕ → ℕ) → HasSameRecords records others → IsMapOf records M → IsMapOf others N → IsSame M N
map_unique records others M N same is other block =
    let above = map_no_more records others M N (λ r. (same r).0) is other block in
    let below = map_no_more others records N M (λ r. (same r).1) other is block in
    omega arith

-- two maps of one list are one
pub same_map : (records : List Record) (M N : ℕ → ℕ) → IsMapOf records M → IsMapOf records N → M ≡ N
same_map records M N m n = let same = map_unique records records M N (λ r. ((λ h. h), (λ h. h))) m n in λ i block. same block i
