-- A claim and a release keep what is true of every state: only a worker's holder comes or goes.
use Rattle.std.proofs.Common.{◌≡◌, ℕ, Bool, refl, ap, ◌∙◌, subst, sym, ◌⊎◌, inl, inr}
use Rattle.std.proofs.lemmas.Bool.{cases_eq}
use Rattle.map_join.specs.Record.{record_of}
use Rattle.flat_machine.specs.Flat.{Flat, Holder, Worker, Block, IsArrays, for_block, with_pair, without_pair}
use Rattle.flat_machine.specs.History.{IsHistory}
use Rattle.flat_machine.proofs.Pairs.{with_else, without_else, with_arrays, without_arrays}
use Rattle.flat_machine.proofs.Slots.{arrays_same, history_as}

-- where the array's own holders stay, all stays
pub arrays_kept : (F : Flat) (keys : ℕ → ℕ) (held : ℕ → Holder → Bool) → IsHistory F keys → ((t : ℕ) (k : Holder) → IsArrays k → held t k ≡ F.held t k)
    → IsHistory (record F { held = held }) keys
arrays_kept F keys held is same =
    history_as F keys is is.limits.least is.limits.most is.groups (λ t. arrays_same F.groups keys t (F.held t) (held t) (F.tickets t) (same t) (is.holders t)) is.units
    (λ b has. (refl, same (record_of b (keys b)).place (Block b) (for_block b) ∙ has))

-- a worker's pair more, or one less, at one slot
pub with_worker : (F : Flat) (w s t : ℕ) (k : Holder) → IsArrays k → with_pair F.held s (Worker w) t k ≡ F.held t k
with_worker F w s t k of = go (cases_eq t s)
  where
    go : (t ≡ s) ⊎ (t ≡ s → ⊥) → with_pair F.held s (Worker w) t k ≡ F.held t k
    go (inl e) = subst (λ (n : ℕ). with_pair F.held s (Worker w) n k ≡ F.held n k) (sym e) (with_arrays F.held s w k of)
    go (inr ne) = ap (λ (h : Holder → Bool). h k) (with_else F.held s (Worker w) t ne)

pub without_worker : (F : Flat) (w s t : ℕ) (k : Holder) → IsArrays k → without_pair F.held s (Worker w) t k ≡ F.held t k
without_worker F w s t k of = go (cases_eq t s)
  where
    go : (t ≡ s) ⊎ (t ≡ s → ⊥) → without_pair F.held s (Worker w) t k ≡ F.held t k
    go (inl e) = subst (λ (n : ℕ). without_pair F.held s (Worker w) n k ≡ F.held n k) (sym e) (without_arrays F.held s w k of)
    go (inr ne) = ap (λ (h : Holder → Bool). h k) (without_else F.held s (Worker w) t ne)

pub claim_keeps : (F : Flat) (keys : ℕ → ℕ) (w s : ℕ) → IsHistory F keys → IsHistory (record F { held = with_pair F.held s (Worker w) }) keys
claim_keeps F keys w s is = arrays_kept F keys (with_pair F.held s (Worker w)) is (with_worker F w s)

pub release_keeps : (F : Flat) (keys : ℕ → ℕ) (w s : ℕ) → IsHistory F keys → IsHistory (record F { held = without_pair F.held s (Worker w) }) keys
release_keeps F keys w s is = arrays_kept F keys (without_pair F.held s (Worker w)) is (without_worker F w s)
