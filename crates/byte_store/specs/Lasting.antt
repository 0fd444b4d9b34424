-- What stops leave of a store, as what it shows when it is opened again.
use Rattle.std.specs.Prelude.{◌≡◌, ◌≤◌, ℕ, List, [], ◌∷◌, Contains, slice_index}
use Rattle.byte_store.specs.Flat.{StoreState}

-- what a store shows: its bytes, and its keys, as those of an array's block map
pub record Shown : Type 0 where
  pub bytes : List ℕ
  pub keys : List ℕ

-- two lists have the same key at each place, 0 past their ends
abbrev pub SameKeys : List ℕ → List ℕ → Type 0
SameKeys some others = (k : ℕ) → slice_index some k ≡ slice_index others k

-- a store with these keys shows this in a state of the flat store
pub record ShowsState (keys : List ℕ) (F : StoreState) (what : Shown) : Type 0 where
  pub bytes_are : what.bytes ≡ F.bytes
  pub keys_are : SameKeys what.keys keys

-- a list has all of another
abbrev pub HasAllOf : {X : Type 0} → List X → List X → Type 0
HasAllOf {X} some more = (b : X) → Contains some b → Contains more b

-- a list has all of another, and what was shown before and after a call
pub record Covers {X : Type 0} (more some : List X) (before now : X) : Type 0 where
  pub each : HasAllOf some more
  pub has_before : Contains more before
  pub has_now : Contains more now

-- After a stop during a call or behind it the store shows what it would have shown after a stop before it, or what it showed before the
-- call, or after it: so a call is there whole or not at all. One that was refused in its middle may be there as far as it went.
pub record Lasts {S X : Type 0} (outlasts : S → List X → List X → Type 0) (moment : S → ℕ) (outlasts_since : S → ℕ → List X → List X → Type 0)
    (before now : X) (old new : S) : Type 0 where
  pub later : (killed cut : List X) → outlasts old killed cut → moment old ≤ moment new
  pub following : (killed cut more_killed more_cut : List X) → outlasts old killed cut → Covers more_killed killed before now → Covers more_cut cut before now
      → outlasts new more_killed more_cut
  pub during : (killed cut more_killed more_cut : List X) → outlasts old killed cut → Covers more_killed killed before now → Covers more_cut cut before now
      → outlasts_since new (moment old) more_killed more_cut
  -- for a run that began earlier
  pub earlier : (t : ℕ) (since_killed since_cut killed cut more_killed more_cut : List X) → t ≤ moment old
      → outlasts_since old t since_killed since_cut → outlasts old killed cut
      → HasAllOf since_killed more_killed → HasAllOf since_cut more_cut → Covers more_killed killed before now → Covers more_cut cut before now
      → outlasts_since new t more_killed more_cut

-- after a kill the store shows what it shows now; after a loss of power it may show what it did before, or might have shown before
abbrev pub Acknowledges : {S X : Type 0} → (S → List X → List X → Type 0) → X → X → S → S → Type 0
Acknowledges {S} {X} outlasts before now old new =
    (killed cut more_cut : List X) → outlasts old killed cut → Covers more_cut cut before now → outlasts new (now ∷ []) more_cut

-- after any stop the store shows what it shows now
abbrev pub Flushes : {S X : Type 0} → (S → List X → List X → Type 0) → X → S → S → Type 0
Flushes {S} {X} outlasts now old new = (killed cut : List X) → outlasts old killed cut → outlasts new (now ∷ []) (now ∷ [])
