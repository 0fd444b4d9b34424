-- A map is filled block by block.
use Rattle.std.proofs.Common.{◌≡◌, ℕ, ◌+◌, ◌<◌, ◌≤◌, ◌≢◌, max, List, length, All, Contains, slice_index_or, sym, refl, ◌∙◌, subst, arith}
use Rattle.std.proofs.lemmas.List.{get_or_default}
use mathlib.Core.Logic.{dite}
use native.Mathlib.Decide.{ℕ_discrete, dec_lt}
use Rattle.map_join.specs.declared.records.Record.{Record}
use Rattle.map_join.specs.Record.{key_of}
use Rattle.map_join.specs.Maps.{IsSame, join, only, IsMapOf}
use Rattle.map_join.proofs.Joins.{only_here, only_else}
use Rattle.map_words.specs.declared.view.Found.{Found}
use Rattle.map_words.specs.declared.view.View.{View}
use Rattle.map_words.specs.Answers.{IsGreatestKey, IsUpperBound, IsExact, AreExact}

-- a block's key is the greatest that the Taker took of it, and at least all that it found, each of which was exact
abbrev pub IsLast : View → ℕ → ℕ → Type 0
IsLast v block key = IsGreatestKey v.taken block key × IsUpperBound v block key × AreExact v block

-- each block below `count` has its last key in the map, and no other block any
pub record Gathered (v : View) (count : ℕ) (M : ℕ → ℕ) : Type 0 where
  pub done : (block : ℕ) → block < count → IsLast v block (M block)
  pub rest : (block : ℕ) → count ≤ block → M block ≡ 0

-- the map without entries
pub starts : (v : View) (M : ℕ → ℕ) → IsSame M (λ _. 0) → Gathered v 0 M
starts v M empty = record { done = λ b small. absurd (omega arith); rest = λ b high. empty b }

-- a block of which there is no record
pub skips : (v : View) (count : ℕ) (M : ℕ → ℕ) → Gathered v count M → IsLast v count 0 → Gathered v (count + 1) M
skips v count M so none = record {
  done = λ b small. dite (ℕ_discrete b count)
      (λ (e : b ≡ count). subst (λ (c : ℕ). IsLast v c (M c)) (sym e) (subst (λ (k : ℕ). IsLast v count k) (sym (so.rest count (omega arith))) none))
      (λ (ne : b ≢ count). so.done b (omega arith));
  rest = λ b high. so.rest b (omega arith);
}

-- a block whose greatest record is joined
pub joins : (v : View) (count : ℕ) (M N : ℕ → ℕ) (r : Record) → Gathered v count M → r.block ≡ count → IsLast v count (key_of r)
    → IsSame N (join M (only r)) → Gathered v (count + 1) N
joins v count M N r so here greatest same = record {
  done = λ b small. dite (ℕ_discrete b count)
      (λ (e : b ≡ count). subst (λ (c : ℕ). IsLast v c (N c)) (sym e) (subst (λ (k : ℕ). IsLast v count k) (sym at_count) greatest))
      (λ (ne : b ≢ count). subst (λ (k : ℕ). IsLast v b k) (sym (elsewhere b ne)) (so.done b (omega arith)));
  rest = λ b high. elsewhere b (omega arith) ∙ so.rest b (omega arith);
}
  where
    at_count : N count ≡ key_of r
    at_count = let zero : M count ≡ 0 = so.rest count (omega arith) in let one : only r count ≡ key_of r = only_here r count (sym here) in
        let is : N count ≡ max (M count) (only r count) = same count in omega arith

    elsewhere : (b : ℕ) → b ≢ count → N b ≡ M b
    elsewhere b ne = let none : only r b ≡ 0 = only_else r b (λ e. ne (e ∙ here)) in let is : N b ≡ max (M b) (only r b) = same b in omega arith

-- what is at a place of a list is contained in it
contained : {A : Type 0} (l : List A) (k : ℕ) (d : A) → k < length l → Contains l (slice_index_or l k d)
contained l k d small = (k, small, get_or_default l k (slice_index_or l k d) d small)

-- an element of a list in which all have a property has it
each : {A : Type 0} (P : A → Type 0) (l : List A) (x : A) → All P l → Contains l x → P x
each P l x all has = subst P has.2 (all has.0 x has.1)

-- all blocks are done
pub ends : (v : View) (count : ℕ) (M : ℕ → ℕ) → Gathered v count M → All (λ (r : Record). r.block < count) v.taken → IsMapOf v.taken M
ends v count M so inside = record {
  reported = λ b above. dite (dec_lt b count)
      (λ (small : b < count). let t = (so.done b small).0.reported above in (t.0, t.1, t.2.block, t.2.key))
      (λ (high : b < count → ⊥). let none = so.rest b (omega arith) in absurd (omega arith));
  most = λ r has. (so.done r.block (each (λ (q : Record). q.block < count) v.taken r inside has)).0.most r has refl;
}

-- and nothing found is above them
pub tops : (v : View) (count : ℕ) (M : ℕ → ℕ) → Gathered v count M → All (λ (f : Found). f.block < count) v.found → All (λ (f : Found). f.key ≤ M f.block) v.found
tops v count M so inside k d small =
    let f : Found = slice_index_or v.found k d in
    (so.done f.block (inside k d small)).1.found f (contained v.found k d small) refl

-- and each was exact
pub exacts : (v : View) (count : ℕ) (M : ℕ → ℕ) → Gathered v count M → All (λ (f : Found). f.block < count) v.found → All (IsExact v) v.found
exacts v count M so inside k d small =
    let f : Found = slice_index_or v.found k d in
    (so.done f.block (inside k d small)).2 f (contained v.found k d small) refl
