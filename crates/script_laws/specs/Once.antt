-- Relations of an answer and a state that give one of each.
use Rattle.std.specs.Prelude.{◌≡◌}

-- the relation gives at most one answer and one state
abbrev pub IsFunctional : {A S : Type 0} → (A → S → Type 0) → Type 0
IsFunctional {A} {S} R = (a b : A) (G H : S) → R a G → R b H → (a ≡ b) × (G ≡ H)

-- the relation gives at most one answer and one state, and that state has the property
pub record Settles {A S : Type 0} (P : S → Type 0) (R : A → S → Type 0) : Type 0 where
  pub once : IsFunctional R
  pub keeps : (a : A) (G : S) → R a G → P G
