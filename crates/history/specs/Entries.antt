-- Lists of what was done.
use Rattle.std.specs.Prelude.{◌≡◌, ℕ, ◌==◌, ◌<◌, ◌≤◌, ◌++◌, List, [], ◌∷◌, Bool, true, false}
use Rattle.history.specs.declared.view.Entry.{Entry}

-- what is seen of the keeper: how many hands were hired, and all entries, in their order
pub record Course (E : Type 0) : Type 0 where
  pub hired : ℕ
  pub log : List (Entry E)

-- what is seen of a hand: its number, the history as it was right after its last entry, and its own entries
pub record Carried (E : Type 0) : Type 0 where
  pub number : ℕ
  pub seen : List (Entry E)
  pub mine : List (Entry E)

module _ {E : Type 0} where
  abbrev pub entry : ℕ → E → Entry E
  entry by what = record { by = by; what = what }

  abbrev pub cons_if : Bool → Entry E → List (Entry E) → List (Entry E)
  cons_if true e es = e ∷ es
  cons_if false e es = es

  -- the entries of one hand, in their order
  abbrev pub entries_by : ℕ → List (Entry E) → List (Entry E)
  entries_by n [] = []
  entries_by n (e ∷ es) = cons_if (e.by == n) e (entries_by n es)

  abbrev pub StartsWith : List (Entry E) → List (Entry E) → Type 0
  StartsWith log seen = (rest : List (Entry E)) × (log ≡ seen ++ rest)

-- The history right after the entry begins with all that the hand had seen and ends with the entry, which is one more of its own.
pub record Extends {E : Type 0} (v : Carried E) (what : E) (w : Carried E) : Type 0 where
  pub between : List (Entry E)
  pub seen : w.seen ≡ (v.seen ++ between) ++ entry v.number what ∷ []
  pub mine : w.mine ≡ v.mine ++ entry v.number what ∷ []
  pub number : w.number ≡ v.number

-- The hand's entries in the history are its own, in its order, and the history begins with what the hand has seen. No entry is of
-- a hand that wasn't hired.
pub record IsCoherent {E : Type 0} (k : Course E) (v : Carried E) : Type 0 where
  pub mine : entries_by v.number k.log ≡ v.mine
  pub seen : StartsWith k.log v.seen
  pub below : v.number < k.hired
  pub within : (n : ℕ) → k.hired ≤ n → entries_by n k.log ≡ []
