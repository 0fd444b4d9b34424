-- Who holds what after a commit.
use Rattle.std.proofs.Common.{◌≡◌, ℕ, Bool, true, refl, sym, ◌∙◌, subst, arith, Option, Some, None}
use Rattle.map_join.specs.declared.records.Record.{Record}
use Rattle.flat_machine.specs.Flat.{Flat, for_ticket, for_block, Holder, Worker, Ticket, Block, turned, IsNewest}
use Rattle.flat_machine.specs.Cases.{place_passed}
use Rattle.flat_machine.specs.History.{IsHistory}
use Rattle.flat_machine.proofs.Pairs.{turned_else, turned_just, just_one, IsJust, IsOnce}
use Rattle.flat_machine.proofs.Newest.{newest_key, newest_record, key_least}
use Rattle.flat_machine.proofs.Slots.{apart}

-- the slots' holders after a worker's ticket of a slot became the block's newest place
abbrev pub passed_on : Flat → ℕ → ℕ → ℕ → Option Record → ℕ → Holder → Bool
passed_on F w s b found = place_passed (turned F.held s (Ticket w) (Block b)) w b found

-- of these holders the slot is the block's alone, the old place the worker's alone, and all else is as before
pub record Passes (S : Holder → Type 0) (F : Flat) (w s b : ℕ) (found : Option Record) : Type 0 where
  pub unblocked : (d : ℕ) → F.held s (Block d) ≡ true → ⊥
  pub held : (q : Record) → found ≡ Some q → F.held q.place (Block b) ≡ true
  pub apart : (q : Record) → found ≡ Some q → q.place ≡ s → ⊥
  pub here : IsJust S (passed_on F w s b found s) (Block b)
  pub old : (q : Record) → found ≡ Some q → IsJust S (passed_on F w s b found q.place) (Worker w)
  pub rest : (t : ℕ) → (t ≡ s → ⊥) → ((q : Record) → found ≡ Some q → t ≡ q.place → ⊥) → passed_on F w s b found t ≡ F.held t

passed_here : (F : Flat) (w s b : ℕ) (o : Option Record) → ((q : Record) → o ≡ Some q → q.place ≡ s → ⊥) → passed_on F w s b o s ≡ turned F.held s (Ticket w) (Block b) s
passed_here F w s b None off = refl
passed_here F w s b (Some q) off = turned_else (turned F.held s (Ticket w) (Block b)) q.place (Block b) (Worker w) s (λ e. off q refl (sym e))

passed_else : (F : Flat) (w s b : ℕ) (o : Option Record) (t : ℕ) → (t ≡ s → ⊥) → ((q : Record) → o ≡ Some q → t ≡ q.place → ⊥) → passed_on F w s b o t ≡ F.held t
passed_else F w s b None t ne off = turned_else F.held s (Ticket w) (Block b) t ne
passed_else F w s b (Some q) t ne off =
    turned_else (turned F.held s (Ticket w) (Block b)) q.place (Block b) (Worker w) t (off q refl) ∙ turned_else F.held s (Ticket w) (Block b) t ne

pub passed : (S : Holder → Type 0) (F : Flat) (keys : ℕ → ℕ) (w s b : ℕ) (found : Option Record) → ((t : ℕ) → IsOnce S (F.held t)) → S (Ticket w) → S (Block b)
    → IsHistory F keys → IsNewest F.emitted b found → F.held s (Ticket w) ≡ true → Passes S F w s b found
passed S F keys w s b found once of_ticket of_block is newest mine = record {
  unblocked = unblocked;
  held = held;
  apart = away;
  here = subst (λ x. IsJust S x (Block b)) (sym (passed_here F w s b found away))
      (turned_just S F.held s (Ticket w) (Block b) (just_one S (F.held s) (Ticket w) (once s) of_ticket mine));
  old = λ q e. subst (λ o. IsJust S (passed_on F w s b o q.place) (Worker w)) (sym e)
      (turned_just S (turned F.held s (Ticket w) (Block b)) q.place (Block b) (Worker w)
      (subst (λ x. IsJust S x (Block b)) (sym (turned_else F.held s (Ticket w) (Block b) q.place (away q e)))
      (just_one S (F.held q.place) (Block b) (once q.place) of_block (held q e))));
  rest = passed_else F w s b found;
}
  where
    unblocked : (d : ℕ) → F.held s (Block d) ≡ true → ⊥
    unblocked d has = let e : Block d ≡ Ticket w = (is.holders s).once (Block d) (Ticket w) (for_block d) (for_ticket w) has mine in cc

    held : (q : Record) → found ≡ Some q → F.held q.place (Block b) ≡ true
    held q e =
        let reported : IsNewest F.emitted b (Some q) = subst (IsNewest F.emitted b) e newest in
        let k = newest_key F.emitted keys b q is.map reported in
        let big = key_least q (is.records q reported.0) in
        let y = (is.written b).1 (omega arith) in
        subst (λ (n : Record). F.held n.place (Block b) ≡ true) (newest_record F.emitted keys b q is.records is.map reported) y.2.place

    away : (q : Record) → found ≡ Some q → q.place ≡ s → ⊥
    away q e = apart F.held q.place s b (held q e) (unblocked b)
