-- Relations of an answer and a state that are made of tests, choices and steps. Each gives one answer and one state.
use Rattle.std.proofs.Common.{◌≡◌, ◌⊎◌, inl, inr, sym, ◌∙◌, subst}
use Rattle.script_laws.specs.Once.{IsFunctional, Settles}

-- this answer and this state
abbrev pub Ends : {A S : Type 0} → A → S → A → S → Type 0
Ends a x b G = (b ≡ a) × (G ≡ x)

-- one relation where Q is so, and another where it isn't
abbrev pub Asks : {A S : Type 0} → Type 0 → (A → S → Type 0) → (A → S → Type 0) → A → S → Type 0
Asks Q left right a G = (Q × left a G) ⊎ ((Q → ⊥) × right a G)

-- the relation of some x that is so
abbrev pub Picks : {A S X : Type 0} → (X → Type 0) → (X → A → S → Type 0) → A → S → Type 0
Picks {A} {S} {X} N next a G = (x : X) × N x × next x a G

-- one relation, then another by its answer and its state
abbrev pub Then : {A S B T : Type 0} → (B → T → Type 0) → (B → T → A → S → Type 0) → A → S → Type 0
Then {A} {S} {B} {T} R next a G = (m : B) × (M : T) × R m M × next m M a G

-- an end settles where its state has the property
pub ends : {A S : Type 0} {P : S → Type 0} {a : A} {x : S} → P x → Settles P (Ends a x)
ends {A} {S} {P} {a} {x} is = record {
  once = λ b c G H one other. (one.0 ∙ sym other.0, one.1 ∙ sym other.1);
  keeps = λ b G one. subst P (sym one.1) is;
}

-- a test settles where both sides do
pub asks : {A S : Type 0} {P : S → Type 0} {Q : Type 0} {R T : A → S → Type 0} → Settles P R → Settles P T → Settles P (Asks Q R T)
asks {A} {S} {P} {Q} {R} {T} left right = record { once = once; keeps = keeps }
  where
    once : IsFunctional (Asks Q R T)
    once a b G H (inl one) (inl other) = left.once a b G H one.1 other.1
    once a b G H (inl one) (inr other) = absurd (other.0 one.0)
    once a b G H (inr one) (inl other) = absurd (one.0 other.0)
    once a b G H (inr one) (inr other) = right.once a b G H one.1 other.1

    keeps : (a : A) (G : S) → Asks Q R T a G → P G
    keeps a G (inl one) = left.keeps a G one.1
    keeps a G (inr one) = right.keeps a G one.1

-- a choice settles where one thing can be chosen, and what follows it settles
pub picks : {A S X : Type 0} {P : S → Type 0} {N : X → Type 0} {next : X → A → S → Type 0} → ((x y : X) → N x → N y → x ≡ y)
    → ((x : X) → N x → Settles P (next x)) → Settles P (Picks N next)
picks {A} {S} {X} {P} {N} {next} one each = record {
  once = λ a b G H x y. (each y.0 y.1).once a b G H (subst (λ z. next z a G) (one x.0 y.0 x.1 y.1) x.2) y.2;
  keeps = λ a G x. (each x.0 x.1).keeps a G x.2;
}

-- two steps settle where each does
pub then : {A S B T : Type 0} {P : T → Type 0} {Q : S → Type 0} {R : B → T → Type 0} {next : B → T → A → S → Type 0} → Settles P R
    → ((m : B) (M : T) → P M → Settles Q (next m M)) → Settles Q (Then R next)
then {A} {S} {B} {T} {P} {Q} {R} {next} first each = record { once = once; keeps = λ a G x. (each x.0 x.1 (first.keeps x.0 x.1 x.2)).keeps a G x.3 }
  where
    once : IsFunctional (Then R next)
    once a b G H x y =
        let same = first.once x.0 y.0 x.1 y.1 x.2 y.2 in
        let moved : next y.0 y.1 a G = subst (λ (n : B). next n y.1 a G) same.0 (subst (λ (n : T). next x.0 n a G) same.1 x.3) in
        (each y.0 y.1 (first.keeps y.0 y.1 y.2)).once a b G H moved y.3

-- a relation settles where it implies one that does
pub settles_by : {A S : Type 0} {P : S → Type 0} (R T : A → S → Type 0) → ((a : A) (G : S) → R a G → T a G) → Settles P T → Settles P R
settles_by R T to is = record {
  once = λ a b G H one other. is.once a b G H (to a G one) (to b H other);
  keeps = λ a G one. is.keeps a G (to a G one);
}
