-- Who holds slots after a step of worker 0, where no worker had a claim and all tickets were its own.
use Rattle.std.proofs.Common.{◌≡◌, ◌⊎◌, ℕ, Bool, true, false, true≢false, not, ◌&&◌, ◌||◌, refl, sym, ap, ◌∙◌, subst, inl, inr, ⊎_elim}
use Rattle.std.proofs.lemmas.Bool.{cases_eq}
use Rattle.flat_machine.specs.Flat.{Flat, Holder, Worker, Ticket, Block, Shut, for_ticket, for_block, for_shut, IsUnheld, IsArrayHeld, same_holder, with_pair, without_pair, turned}
use Rattle.flat_machine.proofs.Pairs.{with_here, with_else, without_here, without_else, turned_here, itself, one_holder}
use Rattle.array_book.specs.Acts.{AreIdle, IsIdle}

off : false ≡ true → ⊥
off e = true≢false (sym e)

or_cases : (a b : Bool) → (a || b) ≡ true → (a ≡ true) ⊎ (b ≡ true)
or_cases true b e = inl refl
or_cases false b e = inr e

and_first : (a b : Bool) → (a && not b) ≡ true → a ≡ true
and_first true b e = refl
and_first false b e = absurd (off e)

and_second : (a b : Bool) → (a && not b) ≡ true → b ≡ true → ⊥
and_second true true e is = off e
and_second true false e is = off is
and_second false b e is = off e

or_last : (b c : Bool) → c ≡ true → (b || c) ≡ true
or_last true c is = refl
or_last false c is = is

is_worker : Holder → Bool
is_worker (Worker w) = true
is_worker _ = false

is_ticket : Holder → Bool
is_ticket (Ticket w) = true
is_ticket _ = false

number : Holder → ℕ
number (Worker w) = w
number (Ticket w) = w
number (Block b) = b
number (Shut g) = g

has_with : (held : ℕ → Holder → Bool) (s : ℕ) (k : Holder) (t : ℕ) (j : Holder) → with_pair held s k t j ≡ true → (held t j ≡ true) ⊎ ((t ≡ s) × (j ≡ k))
has_with held s k t j e = go (cases_eq t s)
  where
    go : (t ≡ s) ⊎ (t ≡ s → ⊥) → (held t j ≡ true) ⊎ ((t ≡ s) × (j ≡ k))
    go (inl is) = ⊎_elim (λ (h : held t j ≡ true). inl h) (λ (h : same_holder j k ≡ true). inr (is, one_holder j k h)) (or_cases (held t j) (same_holder j k)
        (sym (subst (λ (n : ℕ). with_pair held s k n j ≡ (held n j || same_holder j k)) (sym is) (with_here held s k j)) ∙ e))
    go (inr ne) = inl (sym (ap (λ (h : Holder → Bool). h j) (with_else held s k t ne)) ∙ e)

-- what the set has without a pair
record HadElse (held : ℕ → Holder → Bool) (s : ℕ) (k : Holder) (t : ℕ) (j : Holder) : Type 0 where
  had : held t j ≡ true
  other : t ≡ s → j ≡ k → ⊥

has_without : (held : ℕ → Holder → Bool) (s : ℕ) (k : Holder) (t : ℕ) (j : Holder) → without_pair held s k t j ≡ true → HadElse held s k t j
has_without held s k t j e = go (cases_eq t s)
  where
    go : (t ≡ s) ⊎ (t ≡ s → ⊥) → HadElse held s k t j
    go (inl is) =
        let both : (held t j && not (same_holder j k)) ≡ true = sym (subst (λ (n : ℕ). without_pair held s k n j ≡ (held n j && not (same_holder j k))) (sym is) (without_here held s k j)) ∙ e in
        record {
          had = and_first (held t j) (same_holder j k) both;
          other = λ _ same. and_second (held t j) (same_holder j k) both (ap (λ (i : Holder). same_holder i k) same ∙ itself k);
        }
    go (inr ne) = record {
      had = sym (ap (λ (h : Holder → Bool). h j) (without_else held s k t ne)) ∙ e;
      other = λ is _. ne is;
    }

has_turned : (held : ℕ → Holder → Bool) (s : ℕ) (k l : Holder) (t : ℕ) (j : Holder) → turned held s k l t j ≡ true → HadElse held s k t j ⊎ ((t ≡ s) × (j ≡ l))
has_turned held s k l t j e = ⊎_elim
    (λ (h : without_pair held s k t j ≡ true). inl (has_without held s k t j h))
    (λ (h : (t ≡ s) × (j ≡ l)). inr h)
    (has_with (without_pair held s k) s l t j e)

pub turned_now : (held : ℕ → Holder → Bool) (s : ℕ) (k l : Holder) → turned held s k l s l ≡ true
turned_now held s k l = turned_here held s k l l ∙ or_last (held s l && not (same_holder l k)) (same_holder l l) (itself l)

-- worker 0 has a claim of the slot, and else all is idle
pub record IsBut (held : ℕ → Holder → Bool) (s : ℕ) : Type 0 where
  pub claims : (t w : ℕ) → held t (Worker w) ≡ true → (t ≡ s) × (w ≡ 0)
  pub tickets : (t w : ℕ) → held t (Ticket w) ≡ true → w ≡ 0

pub claimed_but : (held : ℕ → Holder → Bool) (s : ℕ) → AreIdle held → IsBut (with_pair held s (Worker 0)) s
unfolding number is_worker is_ticket
claimed_but held s idle = record {
  claims = λ t w e. ⊎_elim
      (λ (h : held t (Worker w) ≡ true). absurd (idle.claims t w h))
      (λ (h : (t ≡ s) × (Worker w ≡ Worker 0)). (h.0, ap number h.1))
      (has_with held s (Worker 0) t (Worker w) e);
  tickets = λ t w e. ⊎_elim
      (λ (h : held t (Ticket w) ≡ true). idle.tickets t w h)
      (λ (h : (t ≡ s) × (Ticket w ≡ Worker 0)). absurd (off (ap is_worker h.1)))
      (has_with held s (Worker 0) t (Ticket w) e);
}

pub released_idle : (held : ℕ → Holder → Bool) (s : ℕ) → IsBut held s → AreIdle (without_pair held s (Worker 0))
released_idle held s but = record {
  claims = λ t w e.
      let h = has_without held s (Worker 0) t (Worker w) e in
      let b = but.claims t w h.had in
      h.other b.0 (ap (λ (n : ℕ). Worker n) b.1);
  tickets = λ t w e. but.tickets t w (has_without held s (Worker 0) t (Ticket w) e).had;
}

pub ticketed_idle : (held : ℕ → Holder → Bool) (s : ℕ) → IsBut held s → AreIdle (turned held s (Worker 0) (Ticket 0))
unfolding number is_worker is_ticket
ticketed_idle held s but = record {
  claims = λ t w e. ⊎_elim
      (λ (h : HadElse held s (Worker 0) t (Worker w)). let b = but.claims t w h.had in h.other b.0 (ap (λ (n : ℕ). Worker n) b.1))
      (λ (h : (t ≡ s) × (Worker w ≡ Ticket 0)). off (ap is_ticket h.1))
      (has_turned held s (Worker 0) (Ticket 0) t (Worker w) e);
  tickets = λ t w e. ⊎_elim
      (λ (h : HadElse held s (Worker 0) t (Ticket w)). but.tickets t w h.had)
      (λ (h : (t ≡ s) × (Ticket w ≡ Ticket 0)). ap number h.1)
      (has_turned held s (Worker 0) (Ticket 0) t (Ticket w) e);
}

-- a slot comes to worker 0 from another holder
pub passed_but : (held : ℕ → Holder → Bool) (s : ℕ) (k : Holder) → AreIdle held → IsBut (turned held s k (Worker 0)) s
unfolding number is_worker is_ticket
passed_but held s k idle = record {
  claims = λ t w e. ⊎_elim
      (λ (h : HadElse held s k t (Worker w)). absurd (idle.claims t w h.had))
      (λ (h : (t ≡ s) × (Worker w ≡ Worker 0)). (h.0, ap number h.1))
      (has_turned held s k (Worker 0) t (Worker w) e);
  tickets = λ t w e. ⊎_elim
      (λ (h : HadElse held s k t (Ticket w)). idle.tickets t w h.had)
      (λ (h : (t ≡ s) × (Ticket w ≡ Worker 0)). absurd (off (ap is_worker h.1)))
      (has_turned held s k (Worker 0) t (Ticket w) e);
}

pub committed_idle : (held : ℕ → Holder → Bool) (s b : ℕ) → AreIdle held → AreIdle (turned held s (Ticket 0) (Block b))
unfolding number is_worker is_ticket
committed_idle held s b idle = record {
  claims = λ t w e. ⊎_elim
      (λ (h : HadElse held s (Ticket 0) t (Worker w)). idle.claims t w h.had)
      (λ (h : (t ≡ s) × (Worker w ≡ Block b)). off (sym (ap is_worker h.1)))
      (has_turned held s (Ticket 0) (Block b) t (Worker w) e);
  tickets = λ t w e. ⊎_elim
      (λ (h : HadElse held s (Ticket 0) t (Ticket w)). idle.tickets t w h.had)
      (λ (h : (t ≡ s) × (Ticket w ≡ Block b)). absurd (off (sym (ap is_ticket h.1))))
      (has_turned held s (Ticket 0) (Block b) t (Ticket w) e);
}

-- where the array keeps nothing of a slot, nobody holds it
pub is_free : (F : Flat) (s : ℕ) → IsIdle F → (IsArrayHeld F s → ⊥) → IsUnheld F s
is_free F s idle none k = go k (F.held s k) refl
  where
    go : (j : Holder) (b : Bool) → F.held s j ≡ b → F.held s j ≡ false
    go j false e = e
    go (Worker w) true e = absurd (idle.claims s w e)
    go (Ticket w) true e = absurd (none (Ticket w, for_ticket w, e))
    go (Block c) true e = absurd (none (Block c, for_block c, e))
    go (Shut g) true e = absurd (none (Shut g, for_shut g, e))
