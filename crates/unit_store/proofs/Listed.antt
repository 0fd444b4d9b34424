-- Lists of single writes, taken apart.
use Rattle.std.proofs.Common.{◌≡◌, ◌≤◌, ℕ, zero, suc, Option, List, [], ◌∷◌, ◌++◌, length, take, Contains, refl, sym, ◌∙◌, ap, subst, arith}
use Rattle.std.proofs.Math.Seq.{take-append_seam}
use Rattle.extent_groups.specs.declared.place.Place.{Place}
use Rattle.extent_groups.specs.Planned.{Intended}
use Rattle.unit_store.specs.Micros.{writes_in, note_after, IsWritten}
use Rattle.unit_store.specs.declared.micro.Micro.{Micro}
use Rattle.unit_store.specs.declared.micro.Micro.TheVariants.{NoteSet, Write, NoteClear}
use Rattle.unit_store.specs.declared.note.Note.{Note}

-- two lists, one after the other
pub writes_append : (one other : List Micro) → writes_in (one ++ other) ≡ writes_in one ++ writes_in other
writes_append [] other = refl
writes_append (NoteSet note ∷ one) other = writes_append one other
writes_append (Write drive at unit ∷ one) other = ap (λ ws. record { place = record { drive = drive; address = at }; unit = unit.items } ∷ ws) (writes_append one other)
writes_append (NoteClear ∷ one) other = writes_append one other

pub note_append : (before : Option Note) (one other : List Micro) → note_after before (one ++ other) ≡ note_after (note_after before one) other
note_append before [] other = refl
note_append before (NoteSet set ∷ one) other = note_append _ one other
note_append before (Write drive at unit ∷ one) other = note_append before one other
note_append before (NoteClear ∷ one) other = note_append _ one other

-- a write of either is one of both
pub first_of : {X : Type 0} (one other : List X) (x : X) → Contains one x → Contains (one ++ other) x
first_of [] other x has = let low = has.1 in absurd (omega (arith, low))
first_of (y ∷ one) other x (zero, low, e) = (zero, omega arith, e)
first_of (y ∷ one) other x (suc k, low, e) = let more = first_of one other x (k, omega (arith, low), e) in let far = more.1 in (suc more.0, omega (arith, far), more.2)

pub later_of : {X : Type 0} (one other : List X) (x : X) → Contains other x → Contains (one ++ other) x
later_of [] other x has = has
later_of (y ∷ one) other x has = let more = later_of one other x has in let far = more.1 in (suc more.0, omega (arith, far), more.2)

pub written_first : (one other : List Micro) (x : Place) → IsWritten one x → IsWritten (one ++ other) x
written_first one other x w = (w.0, subst (λ ws. Contains ws w.0) (sym (writes_append one other)) (first_of (writes_in one) (writes_in other) w.0 w.1), w.2)

pub written_later : (one other : List Micro) (x : Place) → IsWritten other x → IsWritten (one ++ other) x
written_later one other x w = (w.0, subst (λ ws. Contains ws w.0) (sym (writes_append one other)) (later_of (writes_in one) (writes_in other) w.0 w.1), w.2)

-- the first entries of a list, by its parts
pub taken : {X : Type 0} (all ys rest : List X) (n : ℕ) → ys ++ rest ≡ all → length ys ≡ n → take n all ≡ ys
taken all ys rest n whole many = subst (λ xs. take n xs ≡ ys) whole (subst (λ k. take k (ys ++ rest) ≡ ys) many (take-append_seam ys rest))

pub taken_all : {X : Type 0} (all ys rest : List X) (n : ℕ) → ys ++ rest ≡ all → rest ≡ [] → length ys ≤ n → take n all ≡ ys
taken_all all ys rest n whole none low = subst (λ xs. take n xs ≡ ys) whole (subst (λ xs. take n (ys ++ xs) ≡ ys) (sym none) (at ys n low))
  where
    at : {X : Type 0} (ys : List X) (n : ℕ) → length ys ≤ n → take n (ys ++ []) ≡ ys
    at [] zero low = refl
    at [] (suc n) low = refl
    at (y ∷ ys) zero low = absurd (omega (arith, low))
    at (y ∷ ys) (suc n) low = ap (λ xs. y ∷ xs) (at ys n (omega (arith, low)))

-- one entry more
pub whole_more : {X : Type 0} (all ys : List X) (x : X) (rest left : List X) → ys ++ rest ≡ all → rest ≡ x ∷ left → (ys ++ x ∷ []) ++ left ≡ all
whole_more all [] x rest left whole step = sym step ∙ whole
whole_more all (y ∷ ys) x rest left whole step =
    ap (λ xs. y ∷ xs) (whole_more (ys ++ rest) ys x rest left refl step) ∙ whole

pub one_longer : {X : Type 0} (ys : List X) (x : X) → length (ys ++ x ∷ []) ≡ suc (length ys)
one_longer [] x = refl
one_longer (y ∷ ys) x = ap (λ n. suc n) (one_longer ys x)

-- a write of the next entry is one of the list
pub among : (all ys : List Micro) (m : Micro) (rest left : List Micro) → ys ++ rest ≡ all → rest ≡ m ∷ left → (w : Intended) → Contains (writes_in (m ∷ [])) w → Contains (writes_in all) w
among all ys m rest left whole step w has =
    let next : Contains (writes_in (m ∷ left)) w = subst (λ ws. Contains ws w) (sym (writes_append (m ∷ []) left)) (first_of (writes_in (m ∷ [])) (writes_in left) w has) in
    subst (λ ms. Contains (writes_in ms) w) (ap (λ ms. ys ++ ms) (sym step) ∙ whole)
    (subst (λ ws. Contains ws w) (sym (writes_append ys (m ∷ left))) (later_of (writes_in ys) (writes_in (m ∷ left)) w next))
