-- What an array shows once a content was put into a slot and committed in one write.
use Rattle.std.proofs.Common.{◌≡◌, ℕ, ◌≤◌, Bool, true, false, cond, nat_le, length, inl, inr, arith, None, List, [], ◌∷◌, ◌++◌, refl, ap, sym, ◌∙◌, subst, Option, Some}
use Rattle.std.proofs.Math.ListN.{set}
use Rattle.std.proofs.lemmas.Bool.Decides.{nat_tests}
use Rattle.map_join.specs.declared.records.Record.{Record}
use Rattle.map_join.specs.Record.{key_of}
use Rattle.unit_store.specs.Views.{PartsView, FoundGone, WasNotCarried}
use Rattle.flat_machine.specs.Cases.{longest_log}
use Rattle.flat_machine.specs.declared.refusal.Refusal.{Refusal}
use Rattle.flat_machine.specs.declared.refusal.Refusal.TheVariants.{LogFull}
use Rattle.extents.specs.declared.header.Kind.{Kind}
use Rattle.extents.specs.declared.header.Kind.TheVariants as kind
use Rattle.flat_machine.specs.Flat.{Flat, kind_of, content_under}
use Rattle.flat_machine.specs.Steps.{FlatStep, FlatAnswer}
use Rattle.slot_tables.specs.AtOnce.{ArePutAtOnce}
use Rattle.slot_tables.specs.Changes.{wait_view, commit_view, full_reason, without_old}
use Rattle.slot_tables.specs.Views.{ArrayView, Kept, Newest, with_parts}
use Rattle.slot_tables.proofs.AtOnce.{at_once_kept}
use Rattle.disk_array.specs.Refused.{IsRefused}

abbrev pub shown : PartsView → List Record → List ℕ → List Kept → ArrayView
shown v log keys kept = record { parts = v; log = log; keys = keys; kept = kept }

-- its log, its keys and what is kept are those after a fill or a copy and a commit
pub placed_is : (a : ArrayView) (v : PartsView) (s b : ℕ) (k : Kept) (found : Option Record) (r : Record) (log : List Record) (keys : List ℕ) (kept : List Kept)
    → ((q : Record) → found ≡ Some q → q.place ≡ s → ⊥) → log ≡ a.log ++ r ∷ [] → keys ≡ set a.keys b (key_of r) → kept ≡ set (without_old a.kept found) s (Newest b)
    → shown v log keys kept ≡ commit_view (wait_view (with_parts a v) s k) s b found r
placed_is a v s b k found r log keys kept apart log_is keys_is kept_is = λ i.
    shown v (log_is i) (keys_is i) ((kept_is ∙ sym (at_once_kept a.kept s k (Newest b) found apart)) i)

-- what was put at once under a record was under an equal one, for an array that shows the same
pub as_put : (F : Flat) (step : FlatStep) (answer : FlatAnswer) (w s b : ℕ) (q r : Record) (y x : ArrayView) → q ≡ r → y ≡ x → ArePutAtOnce F step answer w s b r x
    → ArePutAtOnce F step answer w s b q y
as_put F step answer w s b q r y x reported shown put = subst (λ n. ArePutAtOnce F step answer w s b n y) (sym reported) (subst (ArePutAtOnce F step answer w s b r) (sym shown) put)

-- a content of this kind has it
pub kind_back : (k : Kind) (payload : List ℕ) → kind_of (content_under k payload) ≡ k
kind_back kind.Data payload = refl
kind_back kind.Trim payload = refl

-- a copy that the drives refused
gone_refused : (a y : ArrayView) (v : PartsView) (s : ℕ) (q : Refusal) → y ≡ with_parts a v → FoundGone a.parts v s q → IsRefused a y q
gone_refused a y v s q is gone = subst (λ z. IsRefused a z q) (sym is) (subst (IsRefused a (with_parts a v)) (sym gone.reported) (refl, gone.loses))

pub uncarried_refused : (a y : ArrayView) (v : PartsView) (from to : ℕ) (q : Refusal) → y ≡ with_parts a v → WasNotCarried a.parts v from to q → IsRefused a y q
uncarried_refused a y v from to q is (inl gone) = gone_refused a y v from q is gone
uncarried_refused a y v from to q is (inr gone) = gone_refused a y v to q is gone.1

-- the log isn't full
pub not_full : (a : ArrayView) → (longest_log ≤ length a.log → ⊥) → full_reason a ≡ None
not_full a short = go (nat_le longest_log (length a.log)) refl
  where
    go : (b : Bool) → nat_le longest_log (length a.log) ≡ b → full_reason a ≡ None
    go true is = absurd (short (grind (arith, nat_tests)))
    go false is = ap (λ b. cond b (Some LogFull) None) is
