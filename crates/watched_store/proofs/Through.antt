-- What stops leave of a store is what they leave of a value that has it.
use Rattle.std.specs.Prelude.{ℕ, List}
use Rattle.byte_store.specs.Lasting.{Lasts}

-- a call that leaves of the store what it has to leaves the same of the value
pub through : {W S X : Type 0} → (store : W → S) → {outlasts : S → List X → List X → Type 0} → {moment : S → ℕ}
    → {since : S → ℕ → List X → List X → Type 0} → {before now : X} → {old new : W}
    → Lasts outlasts moment since before now (store old) (store new)
    → Lasts (λ w. outlasts (store w)) (λ w. moment (store w)) (λ w. since (store w)) before now old new
through store e = record { later = e.later; following = e.following; during = e.during; earlier = e.earlier }
