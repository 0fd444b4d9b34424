-- Laws of the exclusive or: of lists of bytes, and of units that may be missing.
use Rattle.std.proofs.Common.{◌≡◌, ℕ, zero, suc, ◌≤◌, Option, Some, None, List, [], ◌∷◌, length, refl, sym, ◌∙◌, ap, arith}
use Rattle.std.specs.Prelude.{replicate, bit_xor}
use Rattle.std.specs.Int.Bits.{xor_assoc, xor_self, xor_zero_l}
use Rattle.std.proofs.lemmas.Nat.{xor_comm}
use Rattle.extent_groups.specs.Units.{plus, add}

pub plus-comm : (u v : List ℕ) → plus u v ≡ plus v u
plus-comm [] [] = refl
plus-comm [] (y ∷ v) = refl
plus-comm (x ∷ u) [] = refl
plus-comm (x ∷ u) (y ∷ v) = ap (λ b. b ∷ plus u v) (xor_comm x y) ∙ ap (λ w. bit_xor y x ∷ w) (plus-comm u v)

pub plus-assoc : (u v w : List ℕ) → plus (plus u v) w ≡ plus u (plus v w)
plus-assoc [] v w = refl
plus-assoc (x ∷ u) [] w = refl
plus-assoc (x ∷ u) (y ∷ v) [] = refl
plus-assoc (x ∷ u) (y ∷ v) (z ∷ w) = ap (λ b. b ∷ plus (plus u v) w) (xor_assoc x y z) ∙ ap (λ t. bit_xor x (bit_xor y z) ∷ t) (plus-assoc u v w)

pub plus-self : (u : List ℕ) → plus u u ≡ replicate (length u) 0
plus-self [] = refl
plus-self (x ∷ u) = ap (λ b. b ∷ plus u u) (xor_self x) ∙ ap (λ t. 0 ∷ t) (plus-self u)

-- zeros change nothing, where there are enough of them
pub plus-zeros : (n : ℕ) (u : List ℕ) → length u ≤ n → plus (replicate n 0) u ≡ u
plus-zeros zero [] h = refl
plus-zeros zero (x ∷ u) h = absurd (omega arith)
plus-zeros (suc n) [] h = refl
plus-zeros (suc n) (x ∷ u) h = ap (λ b. b ∷ plus (replicate n 0) u) (xor_zero_l x) ∙ ap (λ t. x ∷ t) (plus-zeros n u (omega arith))

-- it is no longer than its second part
pub length-plus : (u v : List ℕ) → length (plus u v) ≤ length v
length-plus [] v = omega arith
length-plus (x ∷ u) [] = omega arith
length-plus (x ∷ u) (y ∷ v) = omega (arith, length-plus u v)

-- what is added twice cancels out
pub plus_twice : (u v : List ℕ) → length v ≤ length u → plus u (plus u v) ≡ v
plus_twice u v h = sym (plus-assoc u u v) ∙ ap (λ z. plus z v) (plus-self u) ∙ plus-zeros (length u) v h

-- two lists of which the exclusive or is zero are one
pub plus_same : (n : ℕ) (u v : List ℕ) → length u ≡ n → length v ≤ n → plus u v ≡ replicate n 0 → u ≡ v
plus_same n u v hu hv e =
    let short : length v ≤ length u = omega arith in
    let fits : length u ≤ n = omega arith in
    sym (plus-comm u (replicate n 0) ∙ plus-zeros n u fits) ∙ ap (plus u) (sym e) ∙ plus_twice u v short

-- the first two of three change places
pub plus_swap : (u v w : List ℕ) → plus u (plus v w) ≡ plus v (plus u w)
plus_swap u v w = sym (plus-assoc u v w) ∙ ap (λ z. plus z w) (plus-comm u v) ∙ plus-assoc v u w

-- new data u, the parity by difference q + d + u, and a rest r have the sum of old data d, parity q, and r
pub plus_difference : (d q u r : List ℕ) → length r ≤ length u → plus u (plus (plus (plus q d) u) r) ≡ plus d (plus q r)
plus_difference d q u r h =
    ap (plus u) (plus-assoc (plus q d) u r)
    ∙ plus_swap u (plus q d) (plus u r)
    ∙ ap (plus (plus q d)) (plus_twice u r h)
    ∙ ap (λ z. plus z r) (plus-comm q d)
    ∙ plus-assoc d q r

-- the same, of units that may be missing
pub add-comm : (a b : Option (List ℕ)) → add a b ≡ add b a
add-comm None None = refl
add-comm None (Some v) = refl
add-comm (Some u) None = refl
add-comm (Some u) (Some v) = ap (λ w. Some w) (plus-comm u v)

pub add-assoc : (a b c : Option (List ℕ)) → add (add a b) c ≡ add a (add b c)
add-assoc None b c = refl
add-assoc (Some u) None c = refl
add-assoc (Some u) (Some v) None = refl
add-assoc (Some u) (Some v) (Some w) = ap (λ t. Some t) (plus-assoc u v w)

pub add_swap : (a b c : Option (List ℕ)) → add a (add b c) ≡ add b (add a c)
add_swap a b c = sym (add-assoc a b c) ∙ ap (λ z. add z c) (add-comm a b) ∙ add-assoc b a c

-- zeros change nothing, where there are enough of them
pub add-zeros : (n : ℕ) (a : Option (List ℕ)) → ((v : List ℕ) → a ≡ Some v → length v ≤ n) → add (Some (replicate n 0)) a ≡ a
add-zeros n None h = refl
add-zeros n (Some v) h = ap (λ t. Some t) (plus-zeros n v (h v refl))
