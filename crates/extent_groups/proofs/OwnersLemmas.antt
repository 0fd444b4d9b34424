-- The owners with one extent's owner changed, and with that of several.
use Rattle.std.proofs.Common.{◌≡◌, ◌≢◌, ℕ, zero, suc, ◌<◌, inl, inr, Option, Some, None, List, [], ◌∷◌, length, refl, ◌∙◌, ap, subst, arith}
use Rattle.std.specs.Prelude.{slice_get, slice_set, unwrap_or}
use Rattle.std.proofs.lemmas.List.{length-set}
use Rattle.std.proofs.lemmas.Option.{same_Some}
use Rattle.extents.specs.Owners.{Owners, owner_of, with_owner, owner_row, IsExtent}
use Rattle.extent_groups.specs.declared.class.Member.{Member}
use Rattle.extent_groups.specs.Groups.{AreWide, AreThere, with_owners}
use Rattle.extent_groups.proofs.Places.{get-set_same, get-set_other, same_or_not}

-- the row of the drive
row_same : (o : Owners) (d e : ℕ) (w : Option ℕ) → d < length o.rows → owner_row (with_owner o d e w) d ≡ slice_set (owner_row o d) e w
row_same o d e w h = ap (λ r. unwrap_or r []) (get-set_same o.rows d _ h)

-- the row of another drive
row_other : (o : Owners) (d e x : ℕ) (w : Option ℕ) → x ≢ d → owner_row (with_owner o d e w) x ≡ owner_row o x
row_other o d e x w h = ap (λ r. unwrap_or r []) (get-set_other o.rows d x _ h)

-- the extent has its new owner
pub owner_same : (o : Owners) (d e : ℕ) (w : Option ℕ) → AreWide o → IsExtent o d e → owner_of (with_owner o d e w) d e ≡ w
owner_same o d e w wide there =
    let inside : e < length (owner_row o d) = omega (arith, wide d there.within, there.inside) in
    ap (λ r. unwrap_or (slice_get r e) None) (row_same o d e w there.within)
    ∙ ap (λ r. unwrap_or r None) (get-set_same (owner_row o d) e w inside)

-- another extent keeps its owner
pub owner_other : (o : Owners) (d e x y : ℕ) (w : Option ℕ) → d < length o.rows → (x ≡ d → y ≡ e → ⊥) → owner_of (with_owner o d e w) x y ≡ owner_of o x y
owner_other o d e x y w there h = elim (same_or_not x d) [
  | inl same ↦
      (let nearby : y ≢ e = λ q. h same q in
      rw same (ap (λ r. unwrap_or (slice_get r y) None) (row_same o d e w there) ∙ ap (λ r. unwrap_or r None) (get-set_other (owner_row o d) e y w nearby)))
  | inr apart ↦ ap (λ r. unwrap_or (slice_get r y) None) (row_other o d e x w apart)
]

-- an extent that exists before the change exists after it
pub extent_stays : (o : Owners) (d e x y : ℕ) (w : Option ℕ) → IsExtent o x y → IsExtent (with_owner o d e w) x y
extent_stays o d e x y w there = record { within = rw length-set there.within; inside = there.inside }

-- the rows stay as wide
pub wide_stays : (o : Owners) (d e : ℕ) (w : Option ℕ) → AreWide o → d < length o.rows → AreWide (with_owner o d e w)
wide_stays o d e w wide there x h =
    let within : x < length o.rows = rw length-set at h in
    elim (same_or_not x d) [
      | inl same ↦ rw same (ap (λ r. length r) (row_same o d e w there) ∙ length-set (owner_row o d) e w ∙ wide d there)
      | inr apart ↦ ap (λ r. length r) (row_other o d e x w apart) ∙ wide x within
    ]

-- the premises of the rest of the members, once the first one has its owner
rest_there : (o : Owners) (m : Member) (ms : List Member) (w : Option ℕ) → AreThere o (m ∷ ms) → AreThere (with_owner o m.drive m.extent w) ms
rest_there o m ms w there k a at = extent_stays o m.drive m.extent a.drive a.extent w (there (suc k) a at)

pub wide_all : (o : Owners) (ms : List Member) (w : Option ℕ) → AreWide o → AreThere o ms → AreWide (with_owners o ms w)
wide_all o [] w wide there = wide
wide_all o (m ∷ ms) w wide there = wide_all (with_owner o m.drive m.extent w) ms w (wide_stays o m.drive m.extent w wide (there 0 m refl).within) (rest_there o m ms w there)

pub extent_all : (o : Owners) (ms : List Member) (x y : ℕ) (w : Option ℕ) → IsExtent o x y → IsExtent (with_owners o ms w) x y
extent_all o [] x y w h = h
extent_all o (m ∷ ms) x y w h = extent_all (with_owner o m.drive m.extent w) ms x y w (extent_stays o m.drive m.extent x y w h)

-- an extent that none of the members is keeps its owner
pub owner_out : (o : Owners) (ms : List Member) (x y : ℕ) (w : Option ℕ) → AreThere o ms → ((k : ℕ) (m : Member) → slice_get ms k ≡ Some m → x ≡ m.drive → y ≡ m.extent → ⊥)
    → owner_of (with_owners o ms w) x y ≡ owner_of o x y
owner_out o [] x y w there none = refl
owner_out o (m ∷ ms) x y w there none =
    owner_out (with_owner o m.drive m.extent w) ms x y w (rest_there o m ms w there) (λ k a at. none (suc k) a at)
    ∙ owner_other o m.drive m.extent x y w (there 0 m refl).within (none 0 m refl)

-- one that has the owner already has it still
owner_kept : (o : Owners) (ms : List Member) (x y : ℕ) (w : Option ℕ) → AreWide o → AreThere o ms → owner_of o x y ≡ w → owner_of (with_owners o ms w) x y ≡ w
owner_kept o [] x y w wide there e = e
owner_kept o (m ∷ ms) x y w wide there e =
    let one = there 0 m refl in
    let still : owner_of (with_owner o m.drive m.extent w) x y ≡ w =
    elim (same_or_not x m.drive) [
      | inl p ↦ elim (same_or_not y m.extent) [
        | inl q ↦ rw (p, q) (owner_same o m.drive m.extent w wide one)
        | inr q ↦ owner_other o m.drive m.extent x y w one.within (λ _ r. q r) ∙ e
      ]
      | inr p ↦ owner_other o m.drive m.extent x y w one.within (λ r _. p r) ∙ e
    ] in
    owner_kept (with_owner o m.drive m.extent w) ms x y w (wide_stays o m.drive m.extent w wide one.within) (rest_there o m ms w there) still

-- each of the members has the owner
pub owner_in : (o : Owners) (ms : List Member) (w : Option ℕ) (k : ℕ) (m : Member) → AreWide o → AreThere o ms → slice_get ms k ≡ Some m → owner_of (with_owners o ms w) m.drive m.extent ≡ w
owner_in o [] w k m wide there at = cc
owner_in o (a ∷ ms) w zero m wide there at =
    let one = there 0 a refl in
    let same : a ≡ m = same_Some _ _ at in
    subst (λ (n : Member). owner_of (with_owners o (a ∷ ms) w) n.drive n.extent ≡ w) same
    (owner_kept (with_owner o a.drive a.extent w) ms a.drive a.extent w (wide_stays o a.drive a.extent w wide one.within) (rest_there o a ms w there) (owner_same o a.drive a.extent w wide one))
owner_in o (a ∷ ms) w (suc k) m wide there at =
    owner_in (with_owner o a.drive a.extent w) ms w k m (wide_stays o a.drive a.extent w wide (there 0 a refl).within) (rest_there o a ms w there) at
