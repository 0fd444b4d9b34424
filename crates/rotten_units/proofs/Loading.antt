-- Units of drives in memory, read one after the other.
use Rattle.std.proofs.Common.{◌≡◌, ◌≢◌, ◌<◌, ◌+◌, ◌⊎◌, inl, inr, ℕ, zero, suc, Bool, true, false, Some, is_some, List, [], ◌∷◌, ◌++◌, length, get_or, slice_get, slice_set, refl, sym, ◌∙◌, ap, subst, arith}
use Rattle.std.proofs.lemmas.Option.{same_Some, none-some, slice_get_within, slice_get_cases, slice_get-get_or}
use Rattle.std.proofs.lemmas.List.{length-set}
use Rattle.extents.specs.Condition.{Held}
use Rattle.extents.specs.Units.{AreUnitsSized}
use Rattle.extents.specs.declared.mem_drive.Condition.TheVariants.{Present}
use Rattle.extent_groups.specs.declared.place.Place.{Place}
use Rattle.extent_groups.specs.Cells.{Cells, held}
use Rattle.extent_groups.proofs.Places.{same_or_not, get-set_same, get-set_other}
use Rattle.vault.specs.Images.{is_lost}
use Rattle.vault.specs.Moments.{IsAsAttested, IsUnitAt}
use Rattle.vault.specs.declared.store.UnitRead.{UnitRead}
use Rattle.vault.specs.declared.store.UnitRead.TheVariants.{Rotten, Whole}
use Rattle.rotten_units.specs.Loaded.{AreFormed, AreReadOrNoted, IsReadOrNoted, KeepsNoted, NotesOnly}

-- an element of a list with one more
pub get_more : {A : Type 0} (xs : List A) (x y : A) (i : ℕ) → slice_get (xs ++ x ∷ []) i ≡ Some y → ((i ≡ length xs) × (x ≡ y)) ⊎ ((i < length xs) × (slice_get xs i ≡ Some y))
get_more [] x y zero e = inl (refl, same_Some _ _ e)
get_more [] x y (suc i) e = absurd (none-some y e)
get_more (z ∷ xs) x y zero e = inr (omega arith, e)
get_more (z ∷ xs) x y (suc i) e = elim (get_more xs x y i e) [
  | inl last ↦ (let is = last.0 in inl (omega (arith, is), last.1))
  | inr early ↦ (let low = early.0 in inr (omega (arith, low), early.1))
]

-- what a list has at an index, whatever it is asked to have past its end
pub get_is : {A : Type 0} (xs : List A) (i : ℕ) (past x : A) → slice_get xs i ≡ Some x → get_or xs i past ≡ x
get_is xs i past x e = same_Some _ _ (sym (slice_get-get_or xs i past (slice_get_within xs i x e)) ∙ e)

-- an element of a list with one element changed
pub get_set : {A : Type 0} (xs : List A) (i : ℕ) (x : A) (j : ℕ) (y : A) → i < length xs → slice_get (slice_set xs i x) j ≡ Some y → ((j ≡ i) × (x ≡ y)) ⊎ ((j ≢ i) × (slice_get xs j ≡ Some y))
get_set xs i x j y low e = elim (same_or_not j i) [
  | inl is ↦ inl (is, same_Some _ _ (sym (get-set_same xs i x low) ∙ ap (λ k. slice_get (slice_set xs i x) k) (sym is) ∙ e))
  | inr ne ↦ inr (ne, sym (get-set_other xs i j x ne) ∙ e)
]

pub sized_set : (size : ℕ) (units : List (List ℕ)) (i : ℕ) (unit : List ℕ) → i < length units → AreUnitsSized size units → length unit ≡ size → AreUnitsSized size (slice_set units i unit)
sized_set size units i unit low sized long at u e = elim (get_set units i unit at u low e) [ inl here ↦ ap length (sym here.1) ∙ long | inr other ↦ sized at u other.1 ]

pub long_set : (units : List (List ℕ)) (i : ℕ) (unit : List ℕ) → length (slice_set units i unit) ≡ length units
long_set units i unit = length-set units i unit

-- units of one size are of the length that one of them has
pub unit_size : (size long at : ℕ) (units : List (List ℕ)) → at < length units → AreUnitsSized size units → AreUnitsSized long units → long ≡ size
unit_size size long at units low sized same = elim (slice_get_cases units at).1 [
  | inl is ↦ sym (same at is.0 is.2) ∙ sized at is.0 is.2
  | inr past ↦ (let high = past.0 in absurd (omega (arith, high, low)))
]

-- a drive more
pub formed_more : (count size : ℕ) (caches : List Held) (m : Held) → AreFormed count size caches → m.condition ≡ Present → length m.units ≡ count → AreUnitsSized size m.units
    → AreFormed count size (caches ++ m ∷ [])
formed_more count size caches m formed present many sized = record {
  present = λ d x e. elim (get_more caches m x d e) [ inl last ↦ subst (λ (h : Held). h.condition ≡ Present) last.1 present | inr early ↦ formed.present d x early.1 ];
  many = λ d x e. elim (get_more caches m x d e) [ inl last ↦ subst (λ (h : Held). length h.units ≡ count) last.1 many | inr early ↦ formed.many d x early.1 ];
  sized = λ d x e. elim (get_more caches m x d e) [ inl last ↦ subst (λ (h : Held). AreUnitsSized size h.units) last.1 sized | inr early ↦ formed.sized d x early.1 ];
}

-- no drive
pub formed_none : (count size : ℕ) → AreFormed count size []
formed_none count size = record { present = λ d m e. absurd (none-some m e); many = λ d m e. absurd (none-some m e); sized = λ d m e. absurd (none-some m e) }

-- a place of a drive
abbrev pub at : ℕ → ℕ → Place
at d address = record { drive = d; address = address }

-- a unit that was read, after later calls: more may be noted, and the drive in memory has the same unit there
pub read_later : (noted more attested was : Place → Type 0) (c : Cells) (place : Place) (units now : List (List ℕ)) → KeepsNoted noted more → ((x : Place) → attested x → was x)
    → slice_get now place.address ≡ slice_get units place.address → IsReadOrNoted noted attested c place units → IsReadOrNoted more was c place now
read_later noted more attested was c place units now keeps before same is = record {
  there = is.there;
  found = λ out. is.found (λ n. out (keeps place n)) ∙ sym same;
  digest = λ out. before place (is.digest (λ n. out (keeps place n)));
}

-- one unit more
pub filled_more : (noted more attested mid : Place → Type 0) (c : Cells) (d i : ℕ) (units now : List (List ℕ)) → KeepsNoted noted more → ((x : Place) → mid x → attested x)
    → ((k : ℕ) → k ≢ i → slice_get now k ≡ slice_get units k) → ((k : ℕ) → k < i → IsReadOrNoted noted attested c (at d k) units) → IsReadOrNoted more mid c (at d i) now
    → (k : ℕ) → k < i + 1 → IsReadOrNoted more attested c (at d k) now
filled_more noted more attested mid c d i units now keeps before others filled is k below = elim (same_or_not k i) [
  | inl here ↦ subst (λ n. IsReadOrNoted more attested c (at d n) now) (sym here) (read_later more more mid attested c (at d i) now now (λ x n. n) before refl is)
  | inr ne ↦ read_later noted more attested attested c (at d k) units now keeps (λ x a. a) (others k ne) (filled k (let low = below in omega (arith, low, ne)))
]

pub read_none_yet : (noted attested : Place → Type 0) (lost : List Bool) (c : Cells) → AreReadOrNoted noted attested lost c []
read_none_yet noted attested lost c = record { each = λ d k m e not low. absurd (none-some m e) }

-- the units of one drive more
pub drive_more : (noted more attested mid : Place → Type 0) (lost : List Bool) (c : Cells) (caches : List Held) (m : Held) → KeepsNoted noted more → ((x : Place) → mid x → attested x)
    → AreReadOrNoted noted attested lost c caches → (is_lost lost (length caches) ≡ false → (k : ℕ) → k < length m.units → IsReadOrNoted more mid c (at (length caches) k) m.units)
    → AreReadOrNoted more attested lost c (caches ++ m ∷ [])
drive_more noted more attested mid lost c caches m keeps before are own = record {
  each = λ d k x e not low. elim (get_more caches m x d e) [
    | inl last ↦
        subst (λ (h : Held). IsReadOrNoted more attested c (at d k) h.units) last.1
        (subst (λ n. IsReadOrNoted more attested c (at n k) m.units) (sym last.0)
        (read_later more more mid attested c (at (length caches) k) m.units m.units (λ y n. n) before refl
        (own (subst (λ n. is_lost lost n ≡ false) last.0 not) k (subst (λ (h : Held). k < length h.units) (sym last.1) low))))
    | inr early ↦ read_later noted more attested attested c (at d k) x.units x.units keeps (λ y a. a) refl (are.each d k x early.1 not low)
  ];
}

-- what a read of a unit says
pub whole_found : (c : Cells) (place : Place) (out : List ℕ) (read : UnitRead) → read ≡ Whole → IsUnitAt c place out read → held c place ≡ Some out
whole_found c place out read is at = subst (λ r. IsUnitAt c place out r) is at

pub rotten_there : (c : Cells) (place : Place) (out : List ℕ) (read : UnitRead) → read ≡ Rotten → IsUnitAt c place out read → is_some (held c place) ≡ true
rotten_there c place out read is at = let u = subst (λ r. IsUnitAt c place out r) is at in ap (λ o. is_some o) u.1

pub says : (A : Type 0) (read r : UnitRead) → read ≡ r → IsAsAttested A read → IsAsAttested A r
says A read r is told = subst (λ q. IsAsAttested A q) is told

-- one place more is noted
pub only_more : (P noted more latest : Place → Type 0) (place : Place) → P place → NotesOnly P noted more → NotesOnly (λ x. place ≡ x) more latest → NotesOnly P noted latest
only_more P noted more latest place of one two x n = elim (two x n) [ inl m ↦ one x m | inr is ↦ inr (subst P is of) ]
