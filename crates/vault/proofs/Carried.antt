-- What calls make of a vault, one after the other.
use Rattle.std.proofs.Common.{inl, inr, ◌≡◌, ◌≢◌, ◌≤◌, ℕ, zero, suc, ◌+◌, Bool, true, Some, List, [], ◌∷◌, refl, sym, ◌∙◌, ap, subst, arith, length, take, Result, Ok, Err}
use Rattle.std.specs.Prelude.{OnOk, IfErr, IsErrOf, slice_get, option_map}
use Rattle.std.proofs.lemmas.Option.{none-some, same_Some}
use Rattle.std.proofs.lemmas.Bool.{true≢false}
use Rattle.extent_groups.specs.declared.place.Place.{Place}
use Rattle.extent_groups.specs.Cells.{Cells, held}
use Rattle.extent_groups.specs.Planned.{Intended, with_unit, after}
use Rattle.extent_groups.proofs.Finishing.{write_else}
use Rattle.vault.specs.declared.store.Stop.{Stop}
use Rattle.vault.specs.declared.store.VaultError.{VaultError}
use Rattle.vault.specs.declared.store.VaultError.TheVariants.{Memory, Misfit, Journal, Drive}
use Rattle.vault.specs.Images.{Image, SameOn, Matches, recovered, flat, is_lost}
use Rattle.vault.specs.Moments.{Torn, IsWrittenTo, IsTorn, IsFront, IsPartApplied, IsPreserved, AreTorn, IsWithinJournal, IsUnchanged, Elapses, HasCause, IsRejected, torn_at}
use Rattle.vault.proofs.Runs.{started, goes_on, both_runs}
use Rattle.vault.proofs.Writes.{torn_more, torn_on, torn_back, torn_not, torn_front, torn_matches, same_here, after_both, flat_last, take_next, in_list, in_batch}

pub on_ok_both : {T E : Type 0} (P Q : Type 0) (r : Result T E) → OnOk r P → OnOk r Q → OnOk r (P × Q)
on_ok_both P Q (Ok x) p q = (p, q)
on_ok_both P Q (Err e) p q = tt

pub on_ok_each : {T E A : Type 0} (P : A → Type 0) (r : Result T E) → ((a : A) → OnOk r (P a)) → OnOk r ((a : A) → P a)
on_ok_each P (Ok x) each = each
on_ok_each P (Err e) each = tt

pub on_ok_of : {T E : Type 0} (P : Type 0) (r : Result T E) → P → OnOk r P
on_ok_of P (Ok x) p = p
on_ok_of P (Err e) p = tt

pub if_err_of : {T E : Type 0} (Q : E → Type 0) (r : Result T E) → ((e : E) → Q e) → IfErr r Q
if_err_of Q (Ok x) each = tt
if_err_of Q (Err e) each = each e

pub unless_journal : {T : Type 0} (P : Type 0) (r : Result T VaultError) → (IsRejected r → P) → ((d : ℕ) → IsErrOf r (Drive d) → ⊥) → IfErr r (λ e. e ≢ Journal → P)
unless_journal P (Ok x) refused never = tt
unless_journal P (Err Memory) refused never = λ other. refused (inl refl)
unless_journal P (Err Misfit) refused never = λ other. refused (inr refl)
unless_journal P (Err Journal) refused never = λ other. absurd (other refl)
unless_journal P (Err (Drive d)) refused never = λ other. absurd (never d refl)

-- no call failed, and after two calls
pub no_cause : {T : Type 0} (may_name : ℕ → Type 0) (n m : ℕ) (x : T) → n ≤ m → HasCause may_name n m (Ok x)
no_cause may_name n m x le = record { later = le; journal = λ e. cc; drive = λ d e. cc }

pub cause_later : {T : Type 0} (may_name : ℕ → Type 0) (n m k : ℕ) (r : Result T VaultError) → n ≤ m → HasCause may_name m k r → HasCause may_name n k r
cause_later may_name n m k r le cause = record {
  later = omega (arith, le, cause.later);
  journal = cause.journal;
  drive = cause.drive;
}

pub cause_more : {T : Type 0} (names may_name : ℕ → Type 0) (n m : ℕ) (r : Result T VaultError) → ((d : ℕ) → names d → may_name d) → HasCause names n m r → HasCause may_name n m r
cause_more names may_name n m r to cause = record {
  later = cause.later;
  journal = cause.journal;
  drive = λ d e. ((cause.drive d e).0, (cause.drive d e).1, to d (cause.drive d e).2);
}

pub cause_passed : {T U : Type 0} (may_name : ℕ → Type 0) (n m : ℕ) (r : Result T VaultError) (failed : Result U VaultError) (e : VaultError) → r ≡ Err e → failed ≡ Err e
    → HasCause may_name n m r → HasCause may_name n m failed
cause_passed may_name n m r failed e is other cause = record {
  later = cause.later;
  journal = λ same. cause.journal (is ∙ ap (λ x. Err x) (same_err e _ (sym other ∙ same)));
  drive = λ d same. cause.drive d (is ∙ ap (λ x. Err x) (same_err e _ (sym other ∙ same)));
}
  where
    the_err : {T : Type 0} → VaultError → Result T VaultError → VaultError
    the_err d (Ok x) = d
    the_err d (Err e) = e

    same_err : {T : Type 0} (a b : VaultError) → ◌≡◌ {A = Result T VaultError} (Err a) (Err b) → a ≡ b
    same_err a b same = ap (the_err a) same

-- a write of a batch, by its place and its unit
pub at_place : (ws : List Intended) (k : ℕ) (p : Place) → option_map (λ (w : Intended). w.place) (slice_get ws k) ≡ Some p → (w : Intended) × (slice_get ws k ≡ Some w) × (w.place ≡ p)
at_place [] k p at = absurd (none-some p at)
at_place (w ∷ ws) zero p at = (w, refl, same_Some w.place p at)
at_place (w ∷ ws) (suc k) p at = at_place ws k p at

pub at_both : (ws : List Intended) (k : ℕ) (p : Place) (u : List ℕ) → option_map (λ (w : Intended). w.place) (slice_get ws k) ≡ Some p → option_map (λ (w : Intended). w.unit) (slice_get ws k) ≡ Some u
    → slice_get ws k ≡ Some (record { place = p; unit = u })
at_both [] k p u at by = absurd (none-some p at)
at_both (w ∷ ws) zero p u at by = ap (λ q. let v : Intended = record { place = q; unit = w.unit } in Some v) (same_Some w.place p at) ∙ ap (λ x. let v : Intended = record { place = p; unit = x } in Some v) (same_Some w.unit u by)
at_both (w ∷ ws) (suc k) p u at by = at_both ws k p u at by

pub place_in : (ws : List Intended) (k : ℕ) (p : Place) → option_map (λ (w : Intended). w.place) (slice_get ws k) ≡ Some p → IsWrittenTo ws p
place_in ws k p at = let found = at_place ws k p at in subst (IsWrittenTo ws) found.2 (in_list ws k found.0 found.1)

-- the units after one write more
pub after_next : (lost : List Bool) (ws : List Intended) (k : ℕ) (w : Intended) (base now next : Cells) → slice_get ws k ≡ Some w → SameOn lost now (after base (take k ws))
    → SameOn lost next (with_unit now w) → SameOn lost next (after base (take (k + 1) ws))
after_next lost ws k w base now next at so_far written x live =
    let longer : after base (take (k + 1) ws) ≡ with_unit (after base (take k ws)) w = ap (λ vs. after base vs) (take_next ws k w at) ∙ after_both (take k ws) (w ∷ []) base in
    written x live ∙ same_here (w ∷ []) now (after base (take k ws)) x (so_far x live) ∙ ap (λ c. held c x) (sym longer)

-- a write for a lost drive, which is skipped
pub after_skipped : (lost : List Bool) (ws : List Intended) (k : ℕ) (p : Place) (base now : Cells) → option_map (λ (w : Intended). w.place) (slice_get ws k) ≡ Some p → is_lost lost p.drive ≡ true
    → SameOn lost now (after base (take k ws)) → SameOn lost now (after base (take (k + 1) ws))
after_skipped lost ws k p base now at gone so_far =
    let found = at_place ws k p at in
    after_next lost ws k found.0 base now now found.1 so_far
    (λ x live. sym (write_else now found.0 x (λ e. true≢false (sym gone ∙ ap (λ (q : Place). is_lost lost q.drive) (sym found.2 ∙ e) ∙ live))))

-- the units after one batch more
pub after_batch : (lost : List Bool) (batches : List (List Intended)) (k : ℕ) (b : List Intended) (base now next : Cells) → slice_get batches k ≡ Some b → SameOn lost now (after base (flat (take k batches)))
    → SameOn lost next (after now b) → SameOn lost next (after base (flat (take (k + 1) batches)))
after_batch lost batches k b base now next at so_far written x live =
    let longer : after base (flat (take (k + 1) batches)) ≡ after (after base (flat (take k batches))) b =
    ap (λ bs. after base (flat bs)) (take_next batches k b at) ∙ ap (λ ws. after base ws) (flat_last (take k batches) b) ∙ after_both (flat (take k batches)) b base in
    written x live ∙ same_here b now (after base (flat (take k batches))) x (so_far x live) ∙ ap (λ c. held c x) (sym longer)

module _ {V : Type 0} (seen : V → Image) (may_leave : V → Stop → Image → Type 0) (moment : V → ℕ) (left_since : V → Stop → ℕ → Image → Type 0) (lost : List Bool) where
  -- nothing was written yet
  pub at_start : (old : V) → ((stop : Stop) (i : Image) → left_since old stop (moment old) i → may_leave old stop i)
      → IsPartApplied seen may_leave moment left_since lost old old
  at_start old only = record {
    finds = torn_not lost (seen old);
    leaves = λ torn. torn;
    moments = λ torn stop. started moment left_since stop old (IsTorn lost (seen old)) (λ i left. torn stop i (only stop i left));
  }

  -- a write more for one of the journal's places
  pub one_more : (old mid new : V) (place : Place) → IsPartApplied seen may_leave moment left_since lost old mid → IsWrittenTo (flat (seen old).journal) place → Torn place (seen mid) (seen new)
      → ((stop : Stop) → Elapses (moment mid) (moment new) (left_since mid stop) (left_since new stop) (torn_at place (may_leave mid stop)) (may_leave new stop))
      → IsPartApplied seen may_leave moment left_since lost old new
  one_more old mid new place so_far written torn time = record {
    finds = torn_more lost (seen old) (seen mid) (seen new) place so_far.finds written torn;
    leaves = λ start stop i now. during start stop i ((time stop).ends i now);
    moments = λ start stop. goes_on moment left_since stop old mid new (IsTorn lost (seen old)) _ _ (so_far.moments start stop) (time stop) (during start stop);
  }
    where
      during : AreTorn seen may_leave lost old → (stop : Stop) (i : Image) → torn_at place (may_leave mid stop) i → IsTorn lost (seen old) i
      during start stop i from = torn_more lost (seen old) from.0 i place (so_far.leaves start stop from.0 from.1) written from.2

  -- a call that changes nothing
  pub same_more : (old mid new : V) → IsPartApplied seen may_leave moment left_since lost old mid → seen new ≡ seen mid
      → ((stop : Stop) → Elapses (moment mid) (moment new) (left_since mid stop) (left_since new stop) (may_leave mid stop) (may_leave new stop))
      → IsPartApplied seen may_leave moment left_since lost old new
  same_more old mid new so_far same time = record {
    finds = subst (IsTorn lost (seen old)) (sym same) so_far.finds;
    leaves = λ start stop i now. so_far.leaves start stop i ((time stop).ends i now);
    moments = λ start stop. goes_on moment left_since stop old mid new (IsTorn lost (seen old)) _ _ (so_far.moments start stop) (time stop) (so_far.leaves start stop);
  }

  -- what a stop leaves is torn from what calls find meanwhile, too
  pub torn_mid : (old mid : V) → IsPartApplied seen may_leave moment left_since lost old mid → AreTorn seen may_leave lost old → AreTorn seen may_leave lost mid
  torn_mid old mid so_far start stop i now = torn_on lost (seen mid) (seen old) i (torn_back lost (seen old) (seen mid) so_far.finds) (so_far.leaves start stop i now)

  -- a batch that was read writes only places of the journal's writes
  pub batch_among : (mid new : V) (k : ℕ) (batch : List Intended) → seen new ≡ seen mid → slice_get (seen mid).journal k ≡ Some batch → IsWithinJournal batch (seen new)
  batch_among mid new k batch same at x written = subst (λ (s : Image). IsWrittenTo (flat s.journal) x) (sym same) (in_batch (seen mid).journal k batch x at written)

  -- two runs of writes
  pub both_more : (old mid new : V) → IsPartApplied seen may_leave moment left_since lost old mid → IsPartApplied seen may_leave moment left_since lost mid new → IsPartApplied seen may_leave moment left_since lost old new
  both_more old mid new first second = record {
    finds = torn_on lost (seen old) (seen mid) (seen new) first.finds second.finds;
    leaves = λ start stop i now. torn_on lost (seen old) (seen mid) i first.finds (second.leaves (torn_mid old mid first start) stop i now);
    moments = λ start stop. both_runs moment left_since stop old mid new (IsTorn lost (seen old)) (IsTorn lost (seen mid)) (IsTorn lost (seen old)) (first.moments start stop)
        (second.moments (torn_mid old mid first start) stop)
        (λ i p. p) (λ i q. torn_on lost (seen old) (seen mid) i first.finds q);
  }

  -- the journal is still whole, and mends all that was torn
  pub kept : (old new : V) → IsPartApplied seen may_leave moment left_since lost old new → AreTorn seen may_leave lost old → IsPreserved seen may_leave lost old new
  kept old new so_far start = record {
    journal = so_far.finds.journal;
    durable = λ stop. record { flushed = omega arith; leaves = λ i now. torn_front lost (seen new) i (torn_mid old new so_far start stop i now) };
    cells = torn_matches lost (seen old) (seen new) so_far.finds;
  }

  -- a call that was refused
  pub still_kept : (old mid new : V) → IsPreserved seen may_leave lost old mid → IsUnchanged seen may_leave mid new → IsPreserved seen may_leave lost old new
  still_kept old mid new kept same = record {
    journal = ap (λ (s : Image). s.journal) same.finds ∙ kept.journal;
    durable = λ stop. record {
      flushed = omega arith;
      leaves = λ i now. subst (λ (s : Image). IsFront lost s (length s.journal) i) (sym same.finds) ((kept.durable stop).leaves i (same.leaves stop i now));
    };
    cells = subst (Matches lost (recovered (seen old))) (sym same.finds) kept.cells;
  }
