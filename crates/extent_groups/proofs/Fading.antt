-- Losses alone: a sound site's effective unit that exists afterwards is what it was, and the site stays sound.
use Rattle.std.proofs.Common.{◌≡◌, ℕ, zero, suc, ◌<◌, inl, inr, Option, Some, None, List, length, refl, sym, ◌∙◌, ap, subst}
use Rattle.std.specs.Prelude.{replicate, slice_get}
use Rattle.std.proofs.lemmas.Option.{none-some}
use Rattle.extent_groups.specs.declared.place.Place.{Place}
use Rattle.extent_groups.specs.Cells.{Cells, held}
use Rattle.extent_groups.specs.Units.{Site, Pair, InStripe, plus, add, xor_total, put, others, or_else, held_in, row_of, IsSoundAt}
use Rattle.extent_groups.specs.Calls.{Fades, FadesAt}
use Rattle.extent_groups.specs.Layout.{IsOf, IsDriveDisjoint}
use Rattle.extent_groups.specs.Stores.{KeepsAt}
use Rattle.extent_groups.proofs.Places.{same_or_not}
use Rattle.extent_groups.proofs.ExclusiveOr.{plus_same}
use Rattle.extent_groups.proofs.Totals.{Row, put_same, put_other, length-xor_total, total_split}

pub fades_trans : (a b c : Option (List ℕ)) → Fades a b → Fades b c → Fades a c
fades_trans a b c h (inr gone) = inr gone
fades_trans a b c (inl same) (inl e) = inl (e ∙ same)
fades_trans a b c (inr gone) (inl e) = inr (e ∙ gone)

-- what is there afterwards was there
pub faded : (a b : Option (List ℕ)) (v : List ℕ) → Fades a b → b ≡ Some v → a ≡ Some v
faded a b v (inl same) e = sym same ∙ e
faded a b v (inr gone) e = absurd (none-some v (sym gone ∙ e))

-- the first of two
fade_or : (a a' b b' : Option (List ℕ)) → Fades a a' → ((v : List ℕ) → b' ≡ Some v → b ≡ Some v) → ((u v : List ℕ) → a ≡ Some u → b ≡ Some v → u ≡ v)
    → (v : List ℕ) → or_else a' b' ≡ Some v → or_else a b ≡ Some v
fade_or a (Some u) b b' h k same v e = ap (λ o. or_else o b) (faded a (Some u) u h refl) ∙ e
fade_or None None b b' h k same v e = k v e
fade_or (Some u) None b b' h k same v e = ap (λ w. Some w) (same u v refl (k v e))

fade_add : (a a' b b' : Option (List ℕ)) → Fades a a' → ((v : List ℕ) → b' ≡ Some v → b ≡ Some v) → (v : List ℕ) → add a' b' ≡ Some v → add a b ≡ Some v
fade_add a None b b' h k v e = absurd (none-some v e)
fade_add a (Some u) b None h k v e = absurd (none-some v e)
fade_add a (Some u) b (Some w) h k v e = ap (λ o. add o b) (faded a (Some u) u h refl) ∙ ap (add (Some u)) (k w refl) ∙ e

-- every member of a row fades
abbrev pub RowFades : Row → Row → Type 0
RowFades r s = (k : ℕ) → Fades (r k) (s k)

pub fade_total : (n m : ℕ) (r s : Row) → RowFades r s → (v : List ℕ) → xor_total n m s ≡ Some v → xor_total n m r ≡ Some v
fade_total n zero r s h v e = e
fade_total n (suc m) r s h v e = fade_add (r m) (s m) (xor_total n m r) (xor_total n m s) (h m) (fade_total n m r s h) v e

put_fades : (r s : Row) (i : ℕ) (x : Option (List ℕ)) → RowFades r s → RowFades (put r i x) (put s i x)
put_fades r s i x h k = elim (same_or_not k i) [
  | inl e ↦ inl (ap (put s i x) e ∙ put_same s i x ∙ sym (put_same r i x) ∙ ap (put r i x) (sym e))
  | inr ne ↦ subst (λ z. Fades z (put s i x k)) (sym (put_other r i k x ne)) (subst (λ z. Fades (r k) z) (sym (put_other s i k x ne)) (h k))
]

pub fade_others : (n m i : ℕ) (r s : Row) → RowFades r s → (v : List ℕ) → others n m s i ≡ Some v → others n m r i ≡ Some v
fade_others n m i r s h v e = fade_total n m (put r i (Some (replicate n 0))) (put s i (Some (replicate n 0))) (put_fades r s i _ h) v e

-- a row is sound where its exclusive or, if no member is missing, is zero
abbrev pub IsSoundRow : ℕ → ℕ → Row → Type 0
IsSoundRow n m r = (v : List ℕ) → xor_total n m r ≡ Some v → v ≡ replicate n 0

-- the effective unit of a member of a row
abbrev pub effective : ℕ → ℕ → Row → ℕ → Option (List ℕ)
effective n m r i = or_else (r i) (others n m r i)

-- in a sound row a member is the exclusive or of the others
sound_member : (n m i : ℕ) (r : Row) → i < m → ((u : List ℕ) → r i ≡ Some u → length u ≡ n) → IsSoundRow n m r
    → (u v : List ℕ) → r i ≡ Some u → others n m r i ≡ Some v → u ≡ v
sound_member n m i r h size sound u v eu ev =
    let all : xor_total n m r ≡ Some (plus u v) = total_split n m i r h ∙ ap (λ a. add a (others n m r i)) eu ∙ ap (add (Some u)) ev in
    plus_same n u v (size u eu) (length-xor_total n m (put r i (Some (replicate n 0))) v ev) (sound (plus u v) all)

pub fade_effective : (n m i : ℕ) (r s : Row) → i < m → ((u : List ℕ) → r i ≡ Some u → length u ≡ n) → IsSoundRow n m r → RowFades r s
    → (v : List ℕ) → effective n m s i ≡ Some v → effective n m r i ≡ Some v
fade_effective n m i r s h size sound fades v e =
    fade_or (r i) (s i) (others n m r i) (others n m s i) (fades i) (fade_others n m i r s fades) (sound_member n m i r h size sound) v e

pub fade_sound : (n m : ℕ) (r s : Row) → IsSoundRow n m r → RowFades r s → IsSoundRow n m s
fade_sound n m r s sound fades v e = sound v (fade_total n m r s fades v e)

-- the members of a list of places fade where the places do
member_fades : (c new : Cells) (o : Option Place) → ((x : Place) → o ≡ Some x → FadesAt c new x) → Fades (held_in c o) (held_in new o)
member_fades c new None h = inl refl
member_fades c new (Some x) h = h x refl

pub row_fades : (c new : Cells) (places : List Place) → ((k : ℕ) (x : Place) → slice_get places k ≡ Some x → FadesAt c new x) → RowFades (row_of c places) (row_of new places)
row_fades c new places h k = member_fades c new (slice_get places k) (h k)

member_size : (n : ℕ) (c : Cells) (o : Option Place) → ((x : Place) (u : List ℕ) → held c x ≡ Some u → length u ≡ n) → (u : List ℕ) → held_in c o ≡ Some u → length u ≡ n
member_size n c None sized u e = absurd (none-some u e)
member_size n c (Some x) sized u e = sized x u e

-- what a row holds has the size of all that the drives hold
pub row_sized : (n : ℕ) (c : Cells) (places : List Place) → ((x : Place) (u : List ℕ) → held c x ≡ Some u → length u ≡ n)
    → (k : ℕ) (u : List ℕ) → row_of c places k ≡ Some u → length u ≡ n
row_sized n c places sized k u e = member_size n c (slice_get places k) sized u e

-- a sound site whose places fade is kept
pub site_fades : (n : ℕ) (c new : Cells) (t : Site) → ((x : Place) (u : List ℕ) → held c x ≡ Some u → length u ≡ n) → IsDriveDisjoint t
    → ((x : Place) → IsOf t x → FadesAt c new x) → IsSoundAt n c t → KeepsAt n c new t
site_fades n c new (Pair p q) sized whole fades sound = record {
  unit = fade_or (held c p) (held new p) (held c q) (held new q) (fades p (inl refl)) (λ v e. faded (held c q) (held new q) v (fades q (inr refl)) e) sound;
  sound = λ u v eu ev. sound u v (faded (held c p) (held new p) u (fades p (inl refl)) eu) (faded (held c q) (held new q) v (fades q (inr refl)) ev);
}
site_fades n c new (InStripe places parity i) sized whole fades sound =
    let rows = row_fades c new places (λ k x at. fades x (k, at)) in
    record {
      unit = fade_effective n (length places) i (row_of c places) (row_of new places) whole.0 (row_sized n c places sized i) sound rows;
      sound = fade_sound n (length places) (row_of c places) (row_of new places) sound rows;
    }
