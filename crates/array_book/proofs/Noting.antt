-- What a hand noted of a call that failed.
use Rattle.std.proofs.Common.{◌≡◌, ◌≢◌, ℕ, inl, inr, refl, sym, subst, Result, Ok, Err}
use Rattle.std.specs.Prelude.{MatchResult}
use Rattle.map_join.specs.declared.records.Record.{Record}
use Rattle.flat_machine.specs.declared.refusal.Refusal.{Refusal}
use Rattle.flat_machine.specs.declared.refusal.Refusal.TheVariants.{Memory}
use Rattle.step_core.specs.declared.claimed.What.{What}
use Rattle.step_core.specs.declared.claimed.What.TheVariants as given
use Rattle.step_core.specs.Placing.{Put, Again, IsWhatOf, block_for, put_for}
use Rattle.history.specs.Entries.{Carried}
use Rattle.array_book.specs.declared.fault.WorkFault.{WorkFault}
use Rattle.array_book.specs.declared.fault.WorkFault.TheVariants.{Core}
use Rattle.array_book.specs.Acts.{Act, unplaced_act}
use Rattle.array_book.specs.Outcomes.{Noted, WasRefused, GaveUp, HasGivenUp, HasLeft, HasPut, HasFailed, fault_of}

-- each refusal but out of memory is a fault of the array
pub fault_else : (q : Refusal) → q ≢ Memory → fault_of q ≡ Core q
fault_else Memory other = absurd (other refl)
fault_else _ other = refl

-- a refused commit, and then its ticket
pub given_up : (v m w : Carried Act) (what : Put) (slot t block : ℕ) (p q : Refusal) → WasRefused v what slot block p m → q ≡ p → t ≡ slot → GaveUp m t w
    → HasGivenUp v what slot block q w
given_up v m w what slot t block p q refused same at gave = record {
  between = m;
  refused = subst (λ (z : Refusal). WasRefused v what slot block z m) (sym same) refused;
  given_up = subst (λ (n : ℕ). GaveUp m n w) at gave;
}

-- a put whose commit was refused
pub put_err : {D E : Type 0} (of : D → Record) (why : E → Refusal) (r : Result D E) (reported : WorkFault) (v u w : Carried Act) (what : Put) (s block : ℕ)
    → MatchResult r (λ d. ⊥) (λ e. reported ≡ fault_of (why e)) → w ≡ u → HasPut of why v what s block r u → HasFailed v what s block reported w
put_err of why (Ok d) reported v u w what s block is same put = absurd is
put_err of why (Err e) reported v u w what s block is same put = record {
  why = why e;
  reported_is = is;
  noted = inr (subst (λ (z : Carried Act). HasLeft v what s block (why e) z) (sym same) put);
}

-- a put that was refused has failed, whichever block a fresh content is for
not_put : (v w : Carried Act) (x : What) (s b : ℕ) (q : Refusal) (reported : WorkFault) → IsWhatOf b x → reported ≡ fault_of q
    → Noted v (unplaced_act (put_for x) s (block_for x) q) w → HasFailed v (put_for x) s b reported w
not_put v u (given.Fresh x) s b q reported of is noted = record { why = q; reported_is = is; noted = inl noted }
not_put v u (given.CopyOf n) s b q reported of is noted =
    record { why = q; reported_is = is; noted = inl (subst (λ m. Noted v (unplaced_act Again s m q) u) of noted) }

pub not_waiting : {T E : Type 0} (why : E → Refusal) (v w : Carried Act) (x : What) (s b : ℕ) (tried : Result T E) (A : T → Type 0) (reported : WorkFault) → IsWhatOf b x
    → MatchResult tried (λ t. ⊥) (λ e. reported ≡ fault_of (why e)) → MatchResult tried A (λ e. Noted v (unplaced_act (put_for x) s (block_for x) (why e)) w)
    → HasFailed v (put_for x) s b reported w
not_waiting why v w x s b (Ok t) A reported of is noted = absurd is
not_waiting why v w x s b (Err e) A reported of is noted = not_put v w x s b (why e) reported of is noted

-- what is said of an error is said of the result that it is
pub failed_as : {T : Type 0} (A : T → Type 0) (B : WorkFault → Type 0) (r : Result T WorkFault) (e : WorkFault) → r ≡ Err e → B e → MatchResult r A B
failed_as A B r e is b = subst (λ x. MatchResult x A B) (sym is) b
