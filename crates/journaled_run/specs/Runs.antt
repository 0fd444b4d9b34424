-- A run of calls in a vault, and what stops leave of it.
use Rattle.std.specs.Prelude.{◌≡◌, ℕ, ◌≤◌, List, [], ◌∷◌, ◌++◌}
use Rattle.vault.specs.Images.{Image, recovered}
use Rattle.vault.specs.declared.store.Stop.{Stop}
use Rattle.vault.specs.declared.store.Stop.TheVariants.{Killed}
use Rattle.byte_store.specs.Lasting.{Shown, HasAllOf}
use Rattle.tiered_array.specs.Matches.{RepresentsTiers}
use Rattle.tiered_array.specs.Tiered.{Tiered}
use Rattle.tiered_array.specs.Views.{TiersView}
use Rattle.array_calls.specs.Calls.{CallCase}
use Rattle.array_calls.specs.Growth.{Grows}
use Rattle.array_calls.specs.declared.call.CallAnswer.{CallAnswer}
use Rattle.array_calls.specs.declared.call.Call.{Call}
use Rattle.array_calls.specs.declared.call.Call.TheVariants as call
use Rattle.journaled_store.specs.Left.{HasBoth}
use Rattle.journaled_store.specs.Outlasting.{OpensAs, Outlasts, Point, parts_of}
use Rattle.std.specs.Prelude.{length}
use Rattle.journaled_run.specs.Showing.{IsShownIn}

-- A stop of a kind since a moment leaves a vault from which an array is opened with a store's groups, whichever of its drives are absent
-- then, that shows one of a list: bytes and block map, of one state.
abbrev pub OpensAmong : {V : Type 0} → (V → Stop → ℕ → Image → Type 0) → Point V → Stop → ℕ → List Shown → Type 0
OpensAmong left_since p stop t list = (i : Image) → left_since p.vault stop t i → OpensAs HasBoth list (parts_of p.tiers).groups (length (parts_of p.tiers).drives) (recovered i)

-- A call that was kept: the state after it, what is shown in it, and the store when the call returned.
pub record Completed (V : Type 0) : Type 0 where
  pub call : Call
  pub state : Tiered
  pub shown : Shown
  pub at : Point V

-- When the call returned, the store represented this state. A kill then leaves what is shown in it, and a loss of power something that was
-- shown up to then; after a flush that, too.
pub record IsCompleted {V : Type 0} (known : V → Type 0) (seen : V → Image) (may_leave : V → Stop → Image → Type 0) (before : List Shown) (k : Completed V) : Type 0 where
  pub matches : RepresentsTiers k.at.tiers k.state
  pub cut : List Shown
  pub within : HasAllOf cut (before ++ k.shown ∷ [])
  pub durable : k.call ≡ call.Flush → HasAllOf cut (k.shown ∷ [])
  pub outlasts : Outlasts HasBoth known seen may_leave k.at (k.shown ∷ []) cut

-- calls one after another, each from the state that the one before it left, with their answers
abbrev pub AreCompleted : {V : Type 0} → (Completed V → List Shown → Type 0) → ℕ → Tiered → List Shown → List Call → List CallAnswer → List (Completed V) → Tiered → Type 0
AreCompleted completed size T before [] [] [] U = U ≡ T
AreCompleted completed size T before (call ∷ calls) (answer ∷ answers) (k ∷ kept) U =
    (k.call ≡ call) × CallCase T call answer k.state × Grows T.flat k.state.flat × IsShownIn size k.state.flat k.shown × completed k before
    × AreCompleted completed size k.state (before ++ k.shown ∷ []) calls answers kept U
AreCompleted completed size T before _ _ _ U = ⊥

-- what was shown after each
abbrev pub shown_in : {V : Type 0} → List (Completed V) → List Shown
shown_in [] = []
shown_in (k ∷ kept) = k.shown ∷ shown_in kept

-- the calls' moments rise
abbrev pub Rises : {V : Type 0} → (V → ℕ) → ℕ → List (Completed V) → ℕ → Type 0
Rises moment first [] last = first ≤ last
Rises moment first (k ∷ kept) last = (first ≤ moment k.at.vault) × Rises moment (moment k.at.vault) kept last

-- A kill since a call returned leaves what was shown then or later, and so does any stop since a flush returned.
abbrev pub AreAcknowledged : {V : Type 0} → (V → ℕ) → (Stop → ℕ → List Shown → Type 0) → Shown → List (Completed V) → Type 0
AreAcknowledged moment opens last [] = Unit {0}
AreAcknowledged moment opens last (k ∷ kept) =
    opens Killed (moment k.at.vault) (k.shown ∷ shown_in kept ++ last ∷ [])
    × (k.call ≡ call.Flush → (stop : Stop) → opens stop (moment k.at.vault) (k.shown ∷ shown_in kept ++ last ∷ []))
    × AreAcknowledged moment opens last kept

-- A run of a store that shows `first`, to a store q. `before` is what a loss of power may leave before the run. The array at the end has the
-- state of the last call that was kept, or what the call after it made of that.
pub record IsKeptRun {V : Type 0} (known : V → Type 0) (seen : V → Image) (may_leave : V → Stop → Image → Type 0) (moment : V → ℕ) (left_since : V → Stop → ℕ → Image → Type 0)
    (size since : ℕ) (T : Tiered) (before : List Shown) (first : Shown) (calls : List Call) (answers : List CallAnswer) (q : Point V) : Type 0 where
  pub kept : List (Completed V)
  pub state : Tiered
  pub are : AreCompleted (λ k shown. IsCompleted known seen may_leave shown k) size T (before ++ first ∷ []) calls answers kept state
  pub last : Tiered
  pub now : RepresentsTiers q.tiers last
  pub shown : Shown
  pub is_shown : IsShownIn size last.flat shown
  -- a stop at any moment since the run began leaves what was shown before it, after one of its calls, or at its end
  pub any : (stop : Stop) → OpensAmong left_since q stop since (before ++ first ∷ shown_in kept ++ shown ∷ [])
  pub rise : Rises moment since kept (moment q.vault)
  pub acknowledged : AreAcknowledged moment (OpensAmong left_since q) shown kept
