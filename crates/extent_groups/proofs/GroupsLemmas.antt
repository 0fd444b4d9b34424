-- The groups with another one under a number; members that share no drive; and what agreement says of two groups.
use Rattle.std.proofs.Common.{◌≡◌, ◌≢◌, ℕ, zero, suc, ◌<◌, Bool, true, false, Option, Some, None, List, [], ◌∷◌, length, refl, sym, ◌∙◌, ap, arith}
use Rattle.std.specs.Prelude.{slice_get, unwrap_or, ◌==◌, is_some}
use Rattle.std.specs.List.{list_any}
use Rattle.std.proofs.lemmas.Bool.{eq-eqb, or_parts}
use Rattle.std.proofs.lemmas.List.Folds.{list_any_at}
use Rattle.std.proofs.lemmas.Option.{same_Some, slice_get_within, get_or_from_slice_get}
use Rattle.extents.specs.Owners.{Owners, owner_of}
use Rattle.extent_groups.specs.declared.class.Member.{Member}
use Rattle.extent_groups.specs.Faults.{is_on, shares_drive, is_owned}
use Rattle.extent_groups.specs.Groups.{Group, Groups, group_at, members_of, with_group, Agree}
use Rattle.extent_groups.proofs.Places.{get-set_same, get-set_other}

-- the group under the number
pub group_same : (t : Groups) (g : ℕ) (x : Option Group) → g < length t.table → group_at (with_group t g x) g ≡ x
group_same t g x h = ap (λ o. unwrap_or o None) (get-set_same t.table g x h)

-- the group under another number
pub group_other : (t : Groups) (g h : ℕ) (x : Option Group) → h ≢ g → group_at (with_group t g x) h ≡ group_at t h
group_other t g h x apart = ap (λ o. unwrap_or o None) (get-set_other t.table g h x apart)

-- a test that one element of a list passes
pub any_in : {X : Type 0} (p : X → Bool) (xs : List X) (k : ℕ) (x : X) → slice_get xs k ≡ Some x → p x ≡ true → list_any p xs ≡ true
any_in p xs k x at e = list_any_at p xs k x (slice_get_within xs k x at) (ap p (get_or_from_slice_get xs k x x at) ∙ e)

-- a drive that no member is on
pub not_on : (drive : ℕ) (ms : List Member) (k : ℕ) (m : Member) → is_on drive ms ≡ false → slice_get ms k ≡ Some m → m.drive ≡ drive → ⊥
not_on drive ms k m none at e =
    let on : is_on drive ms ≡ true = any_in (λ (n : Member). n.drive == drive) ms k m at (eq-eqb m.drive drive e) in
    let both : true ≡ false = sym on ∙ none in cc

-- what is not some is none
none_if : (o : Option ℕ) → is_some o ≡ false → o ≡ None
none_if None e = refl
none_if (Some x) e = absurd (let both : true ≡ false = e in cc)

-- a test that isn't true is false
false_if : (b : Bool) → (b ≡ true → ⊥) → b ≡ false
false_if true h = absurd (h refl)
false_if false h = refl

-- an extent that isn't owned, of a list in which none is
pub not_owned : (owners : Owners) (m : Member) → is_owned owners m ≡ false → owner_of owners m.drive m.extent ≡ None
not_owned owners m e = none_if (owner_of owners m.drive m.extent) e

pub none_owned : (owners : Owners) (ms : List Member) (k : ℕ) (m : Member) → list_any (is_owned owners) ms ≡ false → slice_get ms k ≡ Some m → owner_of owners m.drive m.extent ≡ None
none_owned owners ms k m none at =
    not_owned owners m (false_if (is_owned owners m) (λ e. (let both : true ≡ false = sym (any_in (is_owned owners) ms k m at e) ∙ none in cc)))

-- members no two of which share a drive
pub spread_of : (ms : List Member) → shares_drive ms ≡ false → (j k : ℕ) (a b : Member) → slice_get ms j ≡ Some a → slice_get ms k ≡ Some b → a.drive ≡ b.drive → j ≡ k
spread_of [] none j k a b at bt e = absurd (omega (arith, slice_get_within [] j a at))
spread_of (m ∷ ms) none zero zero a b at bt e = refl
spread_of (m ∷ ms) none zero (suc k) a b at bt e =
    absurd (not_on m.drive ms k b (or_parts (is_on m.drive ms) (shares_drive ms) none).0 bt (sym e ∙ sym (ap (λ (n : Member). n.drive) (same_Some m a at))))
spread_of (m ∷ ms) none (suc j) zero a b at bt e =
    absurd (not_on m.drive ms j a (or_parts (is_on m.drive ms) (shares_drive ms) none).0 at (e ∙ sym (ap (λ (n : Member). n.drive) (same_Some m b bt))))
spread_of (m ∷ ms) none (suc j) (suc k) a b at bt e = ap (λ n. suc n) (spread_of ms (or_parts (is_on m.drive ms) (shares_drive ms) none).1 j k a b at bt e)

-- where groups and owners agree, an extent is in one group only
pub apart_of : (t : Groups) (o : Owners) → Agree t o → (g h j k : ℕ) (a b : Member) → slice_get (members_of t g) j ≡ Some a → slice_get (members_of t h) k ≡ Some b
    → a.drive ≡ b.drive → a.extent ≡ b.extent → g ≡ h
apart_of t o agree g h j k a b at bt d e =
    same_Some _ _ (sym (agree.owned g j a at).1 ∙ ap (λ x. owner_of o x a.extent) d ∙ ap (λ y. owner_of o b.drive y) e ∙ (agree.owned h k b bt).1)
