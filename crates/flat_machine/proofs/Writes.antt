-- The last write of a list that grows, and chains of writes.
use Rattle.std.proofs.Common.{◌≡◌, ℕ, suc, Bool, true, false, ◌+◌, ◌≤◌, ◌==◌, cond, List, [], ◌∷◌, ◌++◌, refl, sym, ap, ◌∙◌, arith, ◌⊎◌, inl, inr, Option, Some, None, Contains, subst}
use Rattle.std.proofs.lemmas.List.{append-nil, append_assoc}
use Rattle.std.proofs.lemmas.List.Elements.{Contains-push_cases}
use Rattle.std.proofs.lemmas.Bool.{cases_eq}
use Rattle.std.proofs.lemmas.Option.{same_Some}
use Rattle.map_join.specs.declared.records.Record.{Record}
use Rattle.flat_machine.specs.Flat.{Write, or_else, last_write, IsNewest}
use Rattle.flat_machine.specs.History.{ComesNext, IsChain, IsWriteChain}
use Rattle.flat_machine.proofs.Pairs.{equal, unequal, equal_back}

-- a write that is pushed is the last of its block, and no other block's
pub last_here : (ws : List Write) (w : Write) → last_write (ws ++ w ∷ []) w.block ≡ Some w
last_here [] w = ap (λ b. cond b (Some w) None) (equal w.block w.block refl)
last_here (v ∷ ws) w = ap (λ o. or_else o (cond (v.block == w.block) (Some v) None)) (last_here ws w)

pub last_else : (ws : List Write) (w : Write) (block : ℕ) → (block ≡ w.block → ⊥) → last_write (ws ++ w ∷ []) block ≡ last_write ws block
last_else [] w block ne = ap (λ b. cond b (Some w) None) (unequal w.block block (λ e. ne (sym e)))
last_else (v ∷ ws) w block ne = ap (λ o. or_else o (cond (v.block == block) (Some v) None)) (last_else ws w block ne)

-- the last write of a block is one of the list, and of the block
there_more : (ws : List Write) (v w : Write) (b : ℕ) (o : Option Write) → (o ≡ Some w → (Contains ws w) × (w.block ≡ b))
    → or_else o (cond (v.block == b) (Some v) None) ≡ Some w → (Contains (v ∷ ws) w) × (w.block ≡ b)
there_more ws v w b (Some x) following e = let old = following e in let low = old.0.1 in ((suc old.0.0, omega arith, old.0.2), old.1)
there_more ws v w b None following e = go (v.block == b) refl e
  where
    go : (q : Bool) → (v.block == b) ≡ q → cond q (Some v) None ≡ Some w → (Contains (v ∷ ws) w) × (w.block ≡ b)
    go true same is =
        let first : v ≡ w = same_Some _ _ is in
        ((0, omega arith, first), ap (λ (x : Write). x.block) (sym first) ∙ equal_back v.block b same)
    go false same is = absurd (cc)

pub last_there : (ws : List Write) (b : ℕ) (w : Write) → last_write ws b ≡ Some w → (Contains ws w) × (w.block ≡ b)
last_there [] b w is = absurd (cc)
last_there (v ∷ ws) b w is = there_more ws v w b (last_write ws b) (last_there ws b w) is

-- a chain of writes that goes one write on, which has the version after that of its block's last before it
pub write_chained : (before ws : List Write) (w : Write) → IsWriteChain before ws
    → ((x : Write) → last_write (before ++ ws) w.block ≡ Some x → w.version ≡ x.version + 1) → IsWriteChain before (ws ++ w ∷ [])
write_chained before [] w is next = (λ x last. next x (ap (λ xs. last_write xs w.block) (append-nil before) ∙ last), tt)
write_chained before (v ∷ ws) w is next =
    (is.0, write_chained (before ++ v ∷ []) ws w is.1 (λ x last. next x (ap (λ xs. last_write xs w.block) (sym (append_assoc before (v ∷ []) ws)) ∙ last)))

-- a write is at most the last of its block, and is that one where their versions are equal
pub record IsMost (ws : List Write) (w : Write) : Type 0 where
  pub newest : Write
  pub last : last_write ws w.block ≡ Some newest
  pub most : w.version ≤ newest.version
  pub same : w.version ≡ newest.version → w ≡ newest

most_more : (before : List Write) (w : Write) → ((v : Write) → Contains before v → IsMost before v)
    → ((x : Write) → last_write before w.block ≡ Some x → w.version ≡ x.version + 1)
    → (v : Write) → Contains (before ++ w ∷ []) v → IsMost (before ++ w ∷ []) v
most_more before w all next v has = go (Contains-push_cases before w v has)
  where
    old : IsMost before v → (v.block ≡ w.block) ⊎ (v.block ≡ w.block → ⊥) → IsMost (before ++ w ∷ []) v
    old is (inl same) =
        let up = next is.newest (ap (last_write before) (sym same) ∙ is.last) in
        let most = is.most in
        record {
          newest = w;
          last = ap (last_write (before ++ w ∷ [])) same ∙ last_here before w;
          most = omega arith;
          same = λ e. absurd (omega arith);
        }
    old is (inr ne) = record { newest = is.newest; last = last_else before w v.block ne ∙ is.last; most = is.most; same = is.same }

    go : Contains before v ⊎ (w ≡ v) → IsMost (before ++ w ∷ []) v
    go (inl there) = old (all v there) (cases_eq v.block w.block)
    go (inr is) = subst (IsMost (before ++ w ∷ [])) is (record { newest = w; last = last_here before w; most = omega arith; same = λ e. refl })

most_along : (before ws : List Write) → ((v : Write) → Contains before v → IsMost before v) → IsWriteChain before ws
    → (v : Write) → Contains (before ++ ws) v → IsMost (before ++ ws) v
most_along before [] all is = subst (λ xs. (v : Write) → Contains xs v → IsMost xs v) (sym (append-nil before)) all
most_along before (w ∷ ws) all is =
    subst (λ xs. (v : Write) → Contains xs v → IsMost xs v) (append_assoc before (w ∷ []) ws)
    (most_along (before ++ w ∷ []) ws (most_more before w all is.0) is.1)

-- so it is for each write of a chain
pub write_most : (ws : List Write) (w : Write) → IsWriteChain [] ws → Contains ws w → IsMost ws w
write_most ws w is has = most_along [] ws (λ v none. let low = none.1 in absurd (omega arith)) is w has

-- a chain that goes one record on, which comes next after those before it
pub chained : (before log : List Record) (r : Record) → IsChain before log → ((n : Record) → IsNewest (before ++ log) r.block (Some n) → ComesNext n r)
    → IsChain before (log ++ r ∷ [])
chained before [] r is next = (λ n newest. next n (subst (λ xs. IsNewest xs r.block (Some n)) (sym (append-nil before)) newest), tt)
chained before (q ∷ log) r is next =
    (is.0, chained (before ++ q ∷ []) log r is.1 (λ n newest. next n (subst (λ xs. IsNewest xs r.block (Some n)) (append_assoc before (q ∷ []) log) newest)))
