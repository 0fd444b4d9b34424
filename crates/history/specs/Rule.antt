-- The rule: there is one history, of which each view tells the truth.
use Rattle.std.specs.Prelude.{◌≡◌, ℕ, ◌+◌, ◌<◌, ◌≤◌, ◌++◌, List, [], ◌∷◌, true, false, Option, Some, None}
use mathlib.Core.Option.{some}
use lib.ListN.{get_elem?}
use Rattle.atomic_table.specs.Table.{Me, Step}
use Rattle.atomic_table.specs.Seated.{TableId}
use Rattle.history.specs.declared.view.Entry.{Entry}
use Rattle.history.specs.declared.view.View.{View}
use Rattle.history.specs.Entries.{entry, entries_by, StartsWith}

abbrev pub no_table : TableId
no_table = record { words = 0; slots = 0; views_name = 0; atom = 0; block = 0; offset = 0; slot_names = [] }

-- the keeper, with no hand's seat
abbrev pub keeper : {E : Type 0} → ℕ → List (Entry E) → View E
keeper hired log = record { keeps = true; hired = hired; log = log; works = false; number = 0; seen = []; mine = [] }

-- the keeper with a hand's seat
abbrev pub keeper_with : {E : Type 0} → ℕ → List (Entry E) → ℕ → List (Entry E) → List (Entry E) → View E
keeper_with hired log number seen mine = record { keeps = true; hired = hired; log = log; works = true; number = number; seen = seen; mine = mine }

abbrev pub hand : {E : Type 0} → ℕ → List (Entry E) → List (Entry E) → View E
hand number seen mine = record { keeps = false; hired = 0; log = []; works = true; number = number; seen = seen; mine = mine }

abbrev pub nobody : {E : Type 0} → View E
nobody = record { keeps = false; hired = 0; log = []; works = false; number = 0; seen = []; mine = [] }

abbrev pub lent : {E : Type 0} → View E → View E → View E
lent v w = record { keeps = v.keeps; hired = v.hired; log = v.log; works = w.works; number = w.number; seen = w.seen; mine = w.mine }

abbrev pub kept_part : {E : Type 0} → View E → View E
kept_part v = record { keeps = v.keeps; hired = v.hired; log = v.log; works = false; number = 0; seen = []; mine = [] }

abbrev pub hand_part : {E : Type 0} → View E → View E
hand_part v = record { keeps = false; hired = 0; log = []; works = v.works; number = v.number; seen = v.seen; mine = v.mine }

abbrev pub hirer : {E : Type 0} → View E → View E
hirer v = record { keeps = v.keeps; hired = v.hired + 1; log = v.log; works = v.works; number = v.number; seen = v.seen; mine = v.mine }

abbrev pub hired_hand : {E : Type 0} → View E → View E
hired_hand v = hand v.hired v.log []

-- what is true of one view, if this is the keeper's seat, this the history, and so many were hired
pub record Fits {E : Type 0} (seat : ℕ) (log : List (Entry E)) (hired by : ℕ) (v : View E) : Type 0 where
  pub keeps : v.keeps ≡ true → (by ≡ seat) × (v.log ≡ log) × (v.hired ≡ hired)
  pub below : v.works ≡ true → v.number < hired
  pub mine : v.works ≡ true → entries_by v.number log ≡ v.mine
  pub seen : v.works ≡ true → StartsWith log v.seen

-- the seat is the hand of this number
abbrev pub WorksAsHand : {E : Type 0} → List (View E) → ℕ → ℕ → Type 0
WorksAsHand {E} views by n = (v : View E) × (get_elem? views by ≡ some v) × (v.works ≡ true) × (v.number ≡ n)

pub record IsOne {E : Type 0} (views : List (View E)) : Type 0 where
  pub seat : ℕ
  pub log : List (Entry E)
  pub hired : ℕ
  pub fits : (by : ℕ) (v : View E) → get_elem? views by ≡ some v → Fits seat log hired by v
  pub apart : (by other n : ℕ) → WorksAsHand views by n → WorksAsHand views other n → by ≡ other
  pub within : (n : ℕ) → hired ≤ n → entries_by n log ≡ []

-- an entry was added to the history, and to the hand's own
abbrev pub with_entry : {E : Type 0} → View E → E → View E
with_entry v e = record { keeps = v.keeps; hired = v.hired; log = v.log ++ entry v.number e ∷ []; works = v.works; number = v.number; seen = v.log ++ entry v.number e ∷ []; mine = v.mine ++ entry v.number e ∷ [] }

abbrev pub Sat : {E S : Type 0} → Step S → Me S (View E) → ℕ → Me S (View E) → Type 0
Sat s before found after = after ≡ (nobody, [])

abbrev pub EntryAppended : {E S : Type 0} → Option E → Step S → Me S (View E) → ℕ → Me S (View E) → Type 0
EntryAppended None s before found after = Unit {0}
EntryAppended (Some e) s before found after = (after ≡ (with_entry before.0 e, [])) × StartsWith before.0.log before.0.seen

-- the hand's own entries are all that the history has of it, and it begins with what the hand has seen
abbrev pub Checked : {E S : Type 0} → Step S → Me S (View E) → ℕ → Me S (View E) → Type 0
Checked s before found after = (after ≡ (before.0, [])) × (entries_by before.0.number before.0.log ≡ before.0.mine) × StartsWith before.0.log before.0.seen
    × (before.0.number < before.0.hired) × ((n : ℕ) → before.0.hired ≤ n → entries_by n before.0.log ≡ [])
