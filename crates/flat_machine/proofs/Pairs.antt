-- The set of pairs with one slot changed.
use Rattle.std.proofs.Common.{◌≡◌, ℕ, Bool, true, false, cond, not, ◌==◌, ◌&&◌, ◌||◌, refl, sym, ap, ◌∙◌, arith}
use Rattle.std.proofs.lemmas.Bool.Decides.{nat_tests}
use Rattle.flat_machine.specs.Flat.{Holder, Worker, Ticket, Block, Shut, IsArrays, for_ticket, for_block, for_shut, same_holder, put, with_pair, without_pair, turned}

pub equal : (a b : ℕ) → a ≡ b → (a == b) ≡ true
equal a b e = grind (arith, nat_tests)

pub unequal : (a b : ℕ) → (a ≡ b → ⊥) → (a == b) ≡ false
unequal a b ne = grind (arith, nat_tests)

pub equal_back : (a b : ℕ) → (a == b) ≡ true → a ≡ b
equal_back a b e = grind (arith, nat_tests)

pub flip : (a b : ℕ) → (a == b) ≡ (b == a)
flip a b = grind (arith, nat_tests)

pub put_here : {X : Type 0} (f : ℕ → X) (s : ℕ) (x : X) → put f s x s ≡ x
put_here f s x = ap (λ b. cond b x (f s)) (equal s s refl)

pub put_else : {X : Type 0} (f : ℕ → X) (s : ℕ) (x : X) (t : ℕ) → (t ≡ s → ⊥) → put f s x t ≡ f t
put_else f s x t ne = ap (λ b. cond b x (f t)) (unequal t s ne)

pub with_here : (held : ℕ → Holder → Bool) (s : ℕ) (k j : Holder) → with_pair held s k s j ≡ (held s j || same_holder j k)
with_here held s k j = ap (λ (h : Holder → Bool). h j) (put_here held s (λ i. held s i || same_holder i k))

pub with_else : (held : ℕ → Holder → Bool) (s : ℕ) (k : Holder) (t : ℕ) → (t ≡ s → ⊥) → with_pair held s k t ≡ held t
with_else held s k t ne = put_else held s _ t ne

pub without_here : (held : ℕ → Holder → Bool) (s : ℕ) (k j : Holder) → without_pair held s k s j ≡ (held s j && not (same_holder j k))
without_here held s k j = ap (λ (h : Holder → Bool). h j) (put_here held s (λ i. held s i && not (same_holder i k)))

pub without_else : (held : ℕ → Holder → Bool) (s : ℕ) (k : Holder) (t : ℕ) → (t ≡ s → ⊥) → without_pair held s k t ≡ held t
without_else held s k t ne = put_else held s _ t ne

pub turned_here : (held : ℕ → Holder → Bool) (s : ℕ) (k l j : Holder)
    → turned held s k l s j ≡ ((held s j && not (same_holder j k)) || same_holder j l)
turned_here held s k l j =
    with_here (without_pair held s k) s l j ∙ ap (λ b. b || same_holder j l) (without_here held s k j)

pub turned_else : (held : ℕ → Holder → Bool) (s : ℕ) (k l : Holder) (t : ℕ) → (t ≡ s → ⊥) → turned held s k l t ≡ held t
turned_else held s k l t ne = with_else (without_pair held s k) s l t ne ∙ without_else held s k t ne

-- a holder is itself, and what is the same as one is that one
pub itself : (k : Holder) → same_holder k k ≡ true
itself (Worker w) = equal w w refl
itself (Ticket w) = equal w w refl
itself (Block b) = equal b b refl
itself (Shut g) = equal g g refl

pub one_holder : (j k : Holder) → same_holder j k ≡ true → j ≡ k
one_holder (Worker v) (Worker w) e = ap (λ n. Worker n) (equal_back v w e)
one_holder (Ticket v) (Ticket w) e = ap (λ n. Ticket n) (equal_back v w e)
one_holder (Block a) (Block b) e = ap (λ n. Block n) (equal_back a b e)
one_holder (Shut g) (Shut h) e = ap (λ n. Shut n) (equal_back g h e)
one_holder (Worker v) (Ticket w) e = absurd (cc)
one_holder (Worker v) (Block w) e = absurd (cc)
one_holder (Worker v) (Shut w) e = absurd (cc)
one_holder (Ticket v) (Worker w) e = absurd (cc)
one_holder (Ticket v) (Block w) e = absurd (cc)
one_holder (Ticket v) (Shut w) e = absurd (cc)
one_holder (Block v) (Worker w) e = absurd (cc)
one_holder (Block v) (Ticket w) e = absurd (cc)
one_holder (Block v) (Shut w) e = absurd (cc)
one_holder (Shut v) (Worker w) e = absurd (cc)
one_holder (Shut v) (Ticket w) e = absurd (cc)
one_holder (Shut v) (Block w) e = absurd (cc)

-- none of these holders holds a slot, and exactly this one of them does
abbrev pub IsNobodys : (Holder → Type 0) → (Holder → Bool) → Type 0
IsNobodys S h = (j : Holder) → S j → h j ≡ false

abbrev pub IsJust : (Holder → Type 0) → (Holder → Bool) → Holder → Type 0
IsJust S h k = (j : Holder) → S j → h j ≡ same_holder j k

-- at most one of them does
abbrev pub IsOnce : (Holder → Type 0) → (Holder → Bool) → Type 0
IsOnce S h = (j k : Holder) → S j → S k → h j ≡ true → h k ≡ true → j ≡ k

-- any holder
abbrev pub Any : Holder → Type 0
Any k = Unit {0}

-- where a slot has at most one holder, the one that holds it is the only one
pub just_one : (S : Holder → Type 0) (h : Holder → Bool) (k : Holder) → IsOnce S h → S k → h k ≡ true → IsJust S h k
just_one S h k once mine held j of = go (h j) (same_holder j k) refl refl
  where
    go : (x y : Bool) → h j ≡ x → same_holder j k ≡ y → h j ≡ same_holder j k
    go true true hx hy = hx ∙ sym hy
    go false false hx hy = hx ∙ sym hy
    go true false hx hy = let e : j ≡ k = once j k of mine hx held in let bad : true ≡ false = sym (itself k) ∙ ap (λ i. same_holder i k) (sym e) ∙ hy in absurd (cc)
    go false true hx hy = let bad : true ≡ false = sym held ∙ ap h (sym (one_holder j k hy)) ∙ hx in absurd (cc)

pub just_once : (S : Holder → Type 0) (h : Holder → Bool) (k : Holder) → IsJust S h k → IsOnce S h
just_once S h k is i j of_i of_j hi hj = one_holder i k (sym (is i of_i) ∙ hi) ∙ sym (one_holder j k (sym (is j of_j) ∙ hj))

pub just_is : (S : Holder → Type 0) (h : Holder → Bool) (k j : Holder) → IsJust S h k → S j → h j ≡ true → j ≡ k
just_is S h k j is of held = one_holder j k (sym (is j of) ∙ held)

pub just_held : (S : Holder → Type 0) (h : Holder → Bool) (k : Holder) → IsJust S h k → S k → h k ≡ true
just_held S h k is of = is k of ∙ itself k

-- a slot that none of them held, with a holder
pub with_just : (S : Holder → Type 0) (held : ℕ → Holder → Bool) (s : ℕ) (k : Holder) → IsNobodys S (held s) → IsJust S (with_pair held s k s) k
with_just S held s k free j of = with_here held s k j ∙ ap (λ b. b || same_holder j k) (free j of)

-- a slot of one holder, without it, and with another in its place
leaves_none : (q : Bool) → (q && not q) ≡ false
leaves_none true = refl
leaves_none false = refl

pub without_nobody : (S : Holder → Type 0) (held : ℕ → Holder → Bool) (s : ℕ) (k : Holder) → IsJust S (held s) k → IsNobodys S (without_pair held s k s)
without_nobody S held s k is j of = without_here held s k j ∙ ap (λ b. b && not (same_holder j k)) (is j of) ∙ leaves_none (same_holder j k)

pub turned_just : (S : Holder → Type 0) (held : ℕ → Holder → Bool) (s : ℕ) (i k : Holder) → IsJust S (held s) i → IsJust S (turned held s i k s) k
turned_just S held s i k is j of =
    turned_here held s i k j ∙ ap (λ b. (b && not (same_holder j i)) || same_holder j k) (is j of) ∙ ap (λ b. b || same_holder j k) (leaves_none (same_holder j i))

pub turned_free : (S : Holder → Type 0) (held : ℕ → Holder → Bool) (s : ℕ) (i k : Holder) → IsNobodys S (held s) → IsJust S (turned held s i k s) k
turned_free S held s i k free j of = turned_here held s i k j ∙ ap (λ b. (b && not (same_holder j i)) || same_holder j k) (free j of)

-- a worker's claim is nothing to the array's own holders
or_false : (b : Bool) → (b || false) ≡ b
or_false true = refl
or_false false = refl

and_true : (b : Bool) → (b && true) ≡ b
and_true true = refl
and_true false = refl

pub not_workers : (k : Holder) (w : ℕ) → IsArrays k → same_holder k (Worker w) ≡ false
not_workers _ w (for_ticket v) = refl
not_workers _ w (for_block b) = refl
not_workers _ w (for_shut g) = refl

pub with_arrays : (held : ℕ → Holder → Bool) (s w : ℕ) (k : Holder) → IsArrays k → with_pair held s (Worker w) s k ≡ held s k
with_arrays held s w k of = with_here held s (Worker w) k ∙ ap (λ b. held s k || b) (not_workers k w of) ∙ or_false (held s k)

pub without_arrays : (held : ℕ → Holder → Bool) (s w : ℕ) (k : Holder) → IsArrays k → without_pair held s (Worker w) s k ≡ held s k
without_arrays held s w k of = without_here held s (Worker w) k ∙ ap (λ b. held s k && not b) (not_workers k w of) ∙ and_true (held s k)
