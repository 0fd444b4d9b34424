-- A block map as a function, by the pages that it has.
use Rattle.std.proofs.Common.{◌≡◌, ℕ, ◌+◌, ◌*◌, ◌/◌, ◌%◌, ◌^◌, ◌<◌, max, cond, slice_index, refl, sym, ap, ◌∙◌, subst, arith, Some, None, Result, Ok, Err, OnOk, OnErr, IsOk, ◌⊎◌, inl, inr, []}
use Rattle.std.proofs.lemmas.Bool.{cases_eq}
use Rattle.std.proofs.lemmas.Bool.Decides.{nat_tests}
use Rattle.map_join.specs.declared.block_map.MapRefusal.{MapRefusal}
use Rattle.map_join.specs.Maps.{Lanes, Entries, find, at, lanes_of, IsSame, join, lone, IsMapOf}
use Rattle.map_join.specs.Pages.{with_page, paged, AreNumbers, HasSet, IsPageJoined}
use Rattle.map_join.proofs.Joins.{tied, apart, lone_here, lone_else}

pub at_is : (m : Entries) (block : ℕ) → at m block ≡ lanes_of (find m (block / 64)) (block % 64)
unfolding at
at_is m block = refl

pub at_none : (block : ℕ) → at [] block ≡ 0
at_none block = at_is [] block

pub none_map : IsMapOf [] (at [])
none_map = record {
  reported = λ block above. let z = at_none block in absurd (omega arith);
  most = λ r has. let lt = has.1 in absurd (omega (arith, lt));
}

-- the page of a block, and its lane there
pub number_of : (number lane : ℕ) → lane < 64 → (64 * number + lane) / 64 ≡ number
number_of number lane lt = omega arith

pub lane_of : (number lane : ℕ) → lane < 64 → (64 * number + lane) % 64 ≡ lane
lane_of number lane lt = omega arith

pub at_lane : (m : Entries) (number lane : ℕ) → lane < 64 → at m (64 * number + lane) ≡ lanes_of (find m number) lane
at_lane m number lane lt =
    at_is m (64 * number + lane) ∙ ap (λ n. lanes_of (find m n) ((64 * number + lane) % 64)) (number_of number lane lt)
    ∙ ap (lanes_of (find m number)) (lane_of number lane lt)

pub with_here : (M : ℕ → ℕ) (number : ℕ) (f : ℕ → ℕ) (block : ℕ) → block / 64 ≡ number → with_page M number f block ≡ f (block % 64)
with_here M number f block is = grind (arith, nat_tests)

pub with_else : (M : ℕ → ℕ) (number : ℕ) (f : ℕ → ℕ) (block : ℕ) → (block / 64 ≡ number → ⊥) → with_page M number f block ≡ M block
with_else M number f block ne = grind (arith, nat_tests)

pub with_same : (M : ℕ → ℕ) (number : ℕ) (f g : ℕ → ℕ) → IsSame f g → IsSame (with_page M number f) (with_page M number g)
with_same M number f g same block = go (cases_eq (block / 64) number)
  where
    go : (block / 64 ≡ number) ⊎ (block / 64 ≡ number → ⊥) → with_page M number f block ≡ with_page M number g block
    go (inl is) = with_here M number f block is ∙ same (block % 64) ∙ sym (with_here M number g block is)
    go (inr ne) = with_else M number f block ne ∙ sym (with_else M number g block ne)

pub paged_here : (number : ℕ) (f : ℕ → ℕ) (block : ℕ) → block / 64 ≡ number → paged number f block ≡ f (block % 64)
paged_here number f block is = grind (arith, nat_tests)

pub paged_else : (number : ℕ) (f : ℕ → ℕ) (block : ℕ) → (block / 64 ≡ number → ⊥) → paged number f block ≡ 0
paged_else number f block ne = grind (arith, nat_tests)

-- a page of one key is the map of one block
pub paged_lone : (block key : ℕ) → IsSame (paged (block / 64) (lone (block % 64) key)) (lone block key)
paged_lone block key b = go (cases_eq (b / 64) (block / 64)) (cases_eq (b % 64) (block % 64))
  where
    go : (b / 64 ≡ block / 64) ⊎ (b / 64 ≡ block / 64 → ⊥) → (b % 64 ≡ block % 64) ⊎ (b % 64 ≡ block % 64 → ⊥)
        → paged (block / 64) (lone (block % 64) key) b ≡ lone block key b
    go (inl is) (inl same) =
        paged_here (block / 64) (lone (block % 64) key) b is ∙ lone_here (block % 64) key (b % 64) same ∙ sym (lone_here block key b (omega arith))
    go (inl is) (inr ne) =
        paged_here (block / 64) (lone (block % 64) key) b is ∙ lone_else (block % 64) key (b % 64) ne
        ∙ sym (lone_else block key b (λ e. ne (ap (λ x. x % 64) e)))
    go (inr ne) _ = paged_else (block / 64) (lone (block % 64) key) b ne ∙ sym (lone_else block key b (λ e. ne (ap (λ x. x / 64) e)))

module _ (m n : Entries) (number : ℕ) (keys : Lanes) (new : HasSet m n number keys) where
  set_here : (other : ℕ) → other ≡ number → find n other ≡ Some keys
  set_here other is = new other ∙ ap (λ b. cond b (Some keys) (find m other)) (tied number other (sym is))

  set_else : (other : ℕ) → (other ≡ number → ⊥) → find n other ≡ find m other
  set_else other ne = new other ∙ ap (λ b. cond b (Some keys) (find m other)) (apart number other (λ p. ne (sym p)))

  -- the map has the page's keys in its blocks, and the keys as before in others
  pub set_page : IsSame (at n) (with_page (at m) number (slice_index keys))
  set_page block = go (cases_eq (block / 64) number)
    where
      go : (block / 64 ≡ number) ⊎ (block / 64 ≡ number → ⊥) → at n block ≡ with_page (at m) number (slice_index keys) block
      go (inl is) =
          at_is n block ∙ ap (λ o. lanes_of o (block % 64)) (set_here (block / 64) is) ∙ sym (with_here (at m) number (slice_index keys) block is)
      go (inr ne) =
          at_is n block ∙ ap (λ o. lanes_of o (block % 64)) (set_else (block / 64) ne) ∙ sym (at_is m block)
          ∙ sym (with_else (at m) number (slice_index keys) block ne)

  pub set_numbers : number < 2 ^ 26 → AreNumbers m → AreNumbers n
  set_numbers low were other had has = go (cases_eq other number)
    where
      go : (other ≡ number) ⊎ (other ≡ number → ⊥) → other < 2 ^ 26
      go (inl is) = omega arith
      go (inr ne) = were other had (sym (set_else other ne) ∙ has)

-- a map of which one page was joined with keys is the join with that page
pub raised : (m n : Entries) (number : ℕ) (f : ℕ → ℕ) → IsPageJoined m n number f → IsSame (at n) (join (at m) (paged number f))
raised m n number f new block = go (cases_eq (block / 64) number)
  where
    now : at n block ≡ with_page (at m) number (slice_index new.0) block
    now = set_page m n number new.0 new.1 block

    go : (block / 64 ≡ number) ⊎ (block / 64 ≡ number → ⊥) → at n block ≡ max (at m block) (paged number f block)
    go (inl is) =
        now ∙ with_here (at m) number (slice_index new.0) block is ∙ new.2 (block % 64)
        ∙ ap (λ k. max k (f (block % 64))) (sym (at_is m block ∙ ap (λ i. lanes_of (find m i) (block % 64)) is))
        ∙ ap (λ k. max (at m block) k) (sym (paged_here number f block is))
    go (inr ne) =
        let e : at n block ≡ at m block = now ∙ with_else (at m) number (slice_index new.0) block ne in
        let p = paged_else number f block ne in
        grind arith

pub raised_key : (m n : Entries) (block key : ℕ) → IsPageJoined m n (block / 64) (lone (block % 64) key) → IsSame (at n) (join (at m) (lone block key))
raised_key m n block key new b =
    raised m n (block / 64) (lone (block % 64) key) new b ∙ ap (λ k. max (at m b) k) (paged_lone block key b)

pub raised_numbers : (m n : Entries) (number : ℕ) (f : ℕ → ℕ) → number < 2 ^ 26 → AreNumbers m → IsPageJoined m n number f → AreNumbers n
raised_numbers m n number f low were new = set_numbers m n number new.0 new.1 low were

-- a page that isn't there has no key
pub absent_at : (m : Entries) (block : ℕ) → find m (block / 64) ≡ None → at m block ≡ 0
absent_at m block none = at_is m block ∙ ap (λ o. lanes_of o (block % 64)) none

-- the same of a call that may fail
abbrev pub Answer : Type 0
Answer = Result (Unit {0}) MapRefusal

pub raised_ok : (result : Answer) (m n : Entries) (block key : ℕ) → OnOk result (IsPageJoined m n (block / 64) (lone (block % 64) key))
    → OnOk result (IsSame (at n) (join (at m) (lone block key)))
raised_ok (Ok _) m n block key new = raised_key m n block key new
raised_ok (Err _) m n block key new = tt

pub paged_ok : (result : Answer) (m n : Entries) (number : ℕ) (f : ℕ → ℕ) → OnOk result (IsPageJoined m n number f)
    → OnOk result (IsSame (at n) (join (at m) (paged number f)))
paged_ok (Ok _) m n number f new = raised m n number f new
paged_ok (Err _) m n number f new = tt

pub set_ok : (result : Answer) (m n : Entries) (number : ℕ) (keys : Lanes) (f : ℕ → ℕ) → IsSame (slice_index keys) f → OnOk result (HasSet m n number keys)
    → OnOk result (IsSame (at n) (with_page (at m) number f))
set_ok (Ok _) m n number keys f same new = λ block. set_page m n number keys new block ∙ with_same (at m) number (slice_index keys) f same block
set_ok (Err _) m n number keys f same new = tt

-- a call that fails only where the page isn't there
pub absent_there : (result : Answer) (m : Entries) (block : ℕ) → OnErr result (find m (block / 64) ≡ None) → 0 < at m block → IsOk result
absent_there (Ok _) m block none above = refl
absent_there (Err _) m block none above = let z = absent_at m block none in absurd (omega arith)

-- the numbers are kept where a call failed, and where it didn't
pub numbers_where : (result : Answer) (m n : Entries) (number : ℕ) (f : ℕ → ℕ) → number < 2 ^ 26 → AreNumbers m → OnOk result (IsPageJoined m n number f)
    → OnErr result (n ≡ m) → AreNumbers n
numbers_where (Ok _) m n number f low were new same = raised_numbers m n number f low were new
numbers_where (Err _) m n number f low were new same = subst AreNumbers (sym same) were
