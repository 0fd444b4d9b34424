-- What a kill or a loss of power leaves of a store, during a session and after it.
use Rattle.std.specs.Prelude.{◌≡◌, ℕ, ◌≤◌, ◌⊎◌, List, [], ◌∷◌, ◌++◌}
use Rattle.byte_store.specs.Flat.{StoreState}
use Rattle.byte_store.specs.Lasting.{Shown, HasAllOf}
use Rattle.byte_store.specs.declared.fault.StoreFault.{StoreFault}
use Rattle.nbd_serve.specs.Exchanges.{Exchange, RunsSession}
use Rattle.nbd_serve.specs.Stopping.{Comes, IsStoreAt, SaysChanged, SaysDurable, StoreType}

-- the store when a request was answered and when it had rested, and what it showed then
pub record Round (S : Type 0) : Type 0 where
  pub answered : S
  pub then : Shown
  pub rested : S
  pub after : Shown

-- a round of a store that represents this state in it
pub record IsServedRound {S : Type 0} (type : StoreType S) (old : S) (G : StoreState) (r : Round S) : Type 0 where
  pub came : Comes type.stays old r.answered
  pub answered : IsStoreAt type r.answered G r.then
  pub went : Comes type.stays r.answered r.rested
  pub rested : IsStoreAt type r.rested G r.after

-- a round for each exchange, each from the store that the one before it left
abbrev pub AreServedRounds : {S : Type 0} → StoreType S → (may : StoreFault → Type 0) (size : ℕ) (F : StoreState) (xs : List Exchange) (H : StoreState) → RunsSession may size F xs H → S → List (Round S) → S → Type 0
AreServedRounds type may size F [] H run old [] last = last ≡ old
AreServedRounds type may size F (x ∷ xs) H run old (r ∷ rs) last = IsServedRound type old run.0 r × AreServedRounds type may size run.0 xs H run.2 r.rested rs last
AreServedRounds type may size F [] H run old (r ∷ rs) last = ⊥
AreServedRounds type may size F (x ∷ xs) H run old [] last = ⊥

-- what the store showed, from the first on, at each of its rounds
abbrev pub passed : {S : Type 0} → Shown → List (Round S) → List Shown
passed first [] = first ∷ []
passed first (r ∷ rs) = first ∷ r.then ∷ passed r.after rs

-- a list has all of two others
pub record CoversBoth (more one two : List Shown) : Type 0 where
  pub first : HasAllOf one more
  pub second : HasAllOf two more

-- Each of some calls is there whole or not at all: a stop during them or after them leaves what a stop before them would have left, or
-- what the store showed in between.
pub record LastsThrough {S : Type 0} (type : StoreType S) (states : List Shown) (old new : S) : Type 0 where
  pub later : (killed cut : List Shown) → type.outlasts old killed cut → type.moment old ≤ type.moment new
  pub following : (killed cut more_killed more_cut : List Shown) → type.outlasts old killed cut → CoversBoth more_killed killed states → CoversBoth more_cut cut states
      → type.outlasts new more_killed more_cut
  pub during : (killed cut more_killed more_cut : List Shown) → type.outlasts old killed cut → CoversBoth more_killed killed states → CoversBoth more_cut cut states
      → type.outlasts_since new (type.moment old) more_killed more_cut
  -- for a run that began earlier
  pub earlier : (t : ℕ) (since_killed since_cut killed cut more_killed more_cut : List Shown) → t ≤ type.moment old
      → type.outlasts_since old t since_killed since_cut → type.outlasts old killed cut
      → HasAllOf since_killed more_killed → HasAllOf since_cut more_cut → CoversBoth more_killed killed states → CoversBoth more_cut cut states
      → type.outlasts_since new t more_killed more_cut

-- the moments of rounds don't fall
abbrev pub Rise : {S : Type 0} → (S → ℕ) → ℕ → List (Round S) → ℕ → Type 0
Rise moment first [] last = first ≤ last
Rise moment first (r ∷ rs) last = (first ≤ moment r.answered) × Rise moment (moment r.answered) rs last

-- a stop now, and one at some moment from t on, leave one of these lists
pub record HoldsSince {S : Type 0} (type : StoreType S) (store : S) (t : ℕ) (killed cut : List Shown) : Type 0 where
  pub now : type.outlasts store killed cut
  pub since : type.outlasts_since store t killed cut

-- What the reply to an exchange says holds: a kill leaves what the store showed at it or later, and so does any stop if the reply says
-- that all is durable. Else a loss of power may leave what it ever showed.
pub record IsHonored (holds : List Shown → List Shown → Type 0) (x : Exchange) (later all : List Shown) : Type 0 where
  pub changed : SaysChanged x.request x.reply → holds later all
  pub durable : SaysDurable x.request x.reply → holds later later

-- so it is of each exchange, from the moment on when it was answered
abbrev pub AreKept : {S : Type 0} → StoreType S → S → (all : List Shown) (final : Shown) → List Exchange → List (Round S) → Type 0
AreKept type new all final [] [] = Unit {0}
AreKept type new all final (x ∷ xs) (r ∷ rs) =
    IsHonored (HoldsSince type new (type.moment r.answered)) x (final ∷ r.then ∷ passed r.after rs) all × AreKept type new all final xs rs
AreKept type new all final [] (r ∷ rs) = ⊥
AreKept type new all final (x ∷ xs) [] = ⊥

-- What stops leave of a session with a store that showed `first`, and that made exchanges and ended in state G. Either none was made, and
-- the store is the one before, or the store was called.
pub record Endures {S : Type 0} (type : StoreType S) (may : StoreFault → Type 0) (size : ℕ) (F : StoreState) (xs : List Exchange) (H : StoreState)
    (run : RunsSession may size F xs H) (G : StoreState) (first : Shown) (old new : S) : Type 0 where
  pub rounds : List (Round S)
  pub last : S
  pub are : AreServedRounds type may size F xs H run old rounds last
  pub came : Comes type.stays last new
  pub final : Shown
  pub is : IsStoreAt type new G final
  pub lasts : ((xs ≡ []) × (new ≡ old) × (final ≡ first)) ⊎ LastsThrough type (final ∷ passed first rounds) old new
  -- the exchanges' moments rise from that of the store before to that of the store after
  pub rise : (killed cut : List Shown) → type.outlasts old killed cut → Rise type.moment (type.moment old) rounds (type.moment new)
  pub kept : (killed cut : List Shown) → type.outlasts old killed cut → AreKept type new (cut ++ final ∷ passed first rounds) final xs rounds
