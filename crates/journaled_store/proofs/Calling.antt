-- What is durable is acknowledged.
use Rattle.std.proofs.Common.{◌≡◌, ◌≤◌, ℕ, List, [], ◌∷◌, arith, refl}
use Rattle.std.specs.Prelude.{Contains, Result, OnOk}
use Rattle.std.proofs.lemmas.List.Elements.{All-cons, All-contains, All-nil}
use Rattle.tiered_array.specs.Views.{TiersView}
use Rattle.array_store.proofs.Holding.{follows_same}
use Rattle.byte_store.specs.Lasting.{Acknowledges, Flushes, HasAllOf}
use Rattle.vault.specs.Images.{Image}
use Rattle.vault.specs.declared.store.Stop.{Stop}
use Rattle.journaled_store.specs.Outlasting.{Outlasts, Point}
use Rattle.journaled_store.proofs.Lasting.{moved, on_ok_map}

within_one : {X : Type 0} (x : X) (more : List X) → Contains more x → HasAllOf (x ∷ []) more
within_one x more has b is = All-contains (Contains more) (x ∷ []) b (All-cons (Contains more) x [] has (All-nil (Contains more))) is

module _ {V X : Type 0} (shows : TiersView → X → Type 0) (known : V → Type 0) (seen : V → Image) (may_leave : V → Stop → Image → Type 0) (moment : V → ℕ) (left_since : V → Stop → ℕ → Image → Type 0)
    (counts_now : (vault : V) → known vault → (stop : Stop) (t : ℕ) (i : Image) → t ≤ moment vault → may_leave vault stop i → left_since vault stop t i)
    (only_now : (vault : V) → known vault → (stop : Stop) (i : Image) → left_since vault stop (moment vault) i → may_leave vault stop i) where
  flush_acknowledges : (p q : Point V) (now : X) → Flushes (Outlasts shows known seen may_leave) now p q → Acknowledges (Outlasts shows known seen may_leave) now now p q
  flush_acknowledges p q now flushes killed cut more_cut out c =
      moved shows known seen may_leave moment left_since counts_now only_now q q refl (follows_same q.tiers) (λ on. on) (λ lost cells live. live)
      (now ∷ []) (now ∷ []) (now ∷ []) more_cut (flushes killed cut out) (λ b has. has) (within_one now more_cut c.has_now)

  pub flushed_acknowledges : {T E : Type 0} (r : Result T E) (p q : Point V) (now : X) → OnOk r (Flushes (Outlasts shows known seen may_leave) now p q)
      → OnOk r (Acknowledges (Outlasts shows known seen may_leave) now now p q)
  flushed_acknowledges r p q now flushes = on_ok_map r (flush_acknowledges p q now) flushes
