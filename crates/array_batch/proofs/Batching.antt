-- What units that are put into a batch leave.
use Rattle.std.proofs.Common.{◌≡◌, ◌≢◌, ◌<◌, ◌≤◌, ◌+◌, inl, inr, ℕ, zero, suc, true, Option, Some, None, is_some, List, [], ◌∷◌, ◌++◌, get_or, slice_get, sym, ◌∙◌, ap, subst, refl, arith}
use Rattle.std.proofs.lemmas.Bool.{true≢false}
use Rattle.std.proofs.lemmas.Option.{none-some, same_Some}
use Rattle.extents.specs.Condition.{Held}
use Rattle.extent_groups.specs.declared.place.Place.{Place}
use Rattle.extent_groups.specs.Cells.{Cells, held}
use Rattle.extent_groups.specs.Planned.{Intended, after, over}
use Rattle.extent_groups.proofs.Finishing.{write_here, write_else}
use Rattle.extent_groups.proofs.Places.{same_or_not}
use Rattle.vault.proofs.Writes.{after_both}
use Rattle.array_batch.specs.Batched.{HasDriveUnits, KeepsDriveUnits}

abbrev pub at : ℕ → ℕ → Place
at d address = record { drive = d; address = address }

abbrev write : Place → List ℕ → Intended
write place unit = record { place = place; unit = unit }

over_there : (o : Option (List ℕ)) (unit : List ℕ) → is_some o ≡ true → over o unit ≡ Some unit
over_there (Some old) unit there = refl
over_there None unit there = absurd (true≢false (sym there))

module _ (batch now : List Intended) (place : Place) (unit : List ℕ) (put : now ≡ batch ++ write place unit ∷ []) (c : Cells) where
  longer : after c now ≡ after (after c batch) (write place unit ∷ [])
  longer = ap (λ ws. after c ws) put ∙ after_both batch (write place unit ∷ []) c

  -- the unit that was put there
  pub put_here : held (after c batch) place ≡ held c place → is_some (held c place) ≡ true → held (after c now) place ≡ Some unit
  put_here before there = ap (λ (e : Cells). held e place) longer ∙ write_here (after c batch) (write place unit)
      ∙ over_there (held (after c batch) place) unit (ap (λ (o : Option (List ℕ)). is_some o) before ∙ there)

  -- another place
  pub put_else : (x : Place) → x ≢ place → held (after c now) x ≡ held (after c batch) x
  put_else x ne = ap (λ (e : Cells). held e x) longer ∙ write_else (after c batch) (write place unit) x (λ e. ne (sym e))

-- places apart
pub other_address : (d a b : ℕ) → a ≢ b → at d a ≢ at d b
other_address d a b ne e = ne (ap (λ (x : Place). x.address) e)

pub other_drive : (x : Place) (d a : ℕ) → x.drive ≢ d → x ≢ at d a
other_drive x d a ne e = ne (ap (λ (y : Place). y.drive) e)

-- one unit of a drive more
pub unit_more : (c : Cells) (d k : ℕ) (units : List (List ℕ)) (unit : List ℕ) (was batch next : List Intended) → slice_get units k ≡ Some unit
    → (held (after c batch) (at d k) ≡ held c (at d k) → held (after c next) (at d k) ≡ Some unit)
    → ((x : Place) → x ≢ at d k → held (after c next) x ≡ held (after c batch) x)
    → ((a : ℕ) → k ≤ a → after c batch d a ≡ after c was d a) → KeepsDriveUnits d c (after c was)
    → ((a : ℕ) → a < k → after c batch d a ≡ slice_get units a) → (a : ℕ) → a < k + 1 → after c next d a ≡ slice_get units a
unit_more c d k units unit was batch next is put others rest keeps first a low = elim (same_or_not a k) [
  | inl here ↦ subst (λ n. after c next d n ≡ slice_get units n) (sym here) (put (rest k (omega arith) ∙ keeps k) ∙ sym is)
  | inr ne ↦ others (at d a) (other_address d a k ne) ∙ first a (omega (arith, low, ne))
]

-- an element that was read
pub element_is : {A : Type 0} (xs : List A) (i : ℕ) (other m : A) → slice_get xs i ≡ Some m → get_or xs i other ≡ m
element_is [] i other m e = absurd (none-some m e)
element_is (x ∷ xs) zero other m e = same_Some _ _ e
element_is (x ∷ xs) (suc i) other m e = element_is xs i other m e

-- one drive more
pub drive_more : (c : Cells) (k : ℕ) (drives now : List Held) (other : Held) (batch next : List Intended)
    → ((d : ℕ) → k ≤ d → slice_get now d ≡ slice_get drives d)
    → (KeepsDriveUnits k c (after c batch) → HasDriveUnits k (get_or now k other).units (after c next))
    → ((x : Place) → x.drive ≢ k → held (after c next) x ≡ held (after c batch) x)
    → ((x : Place) → k ≤ x.drive → held (after c batch) x ≡ held c x)
    → ((d : ℕ) (m : Held) → d < k → slice_get drives d ≡ Some m → HasDriveUnits d m.units (after c batch))
    → (d : ℕ) (m : Held) → d < k + 1 → slice_get drives d ≡ Some m → HasDriveUnits d m.units (after c next)
drive_more c k drives now other batch next kept put others rest first d m low is = elim (same_or_not d k) [
  | inl here ↦
      (let same : get_or now k other ≡ m = element_is now k other m (kept k (omega arith) ∙ ap (λ n. slice_get drives n) (sym here) ∙ is) in
      subst (λ n. HasDriveUnits n m.units (after c next)) (sym here)
      (subst (λ (h : Held). HasDriveUnits k h.units (after c next)) same (put (λ a. rest (at k a) (omega arith)))))
  | inr ne ↦ λ a within. others (at d a) ne ∙ first d m (omega (arith, low, ne)) is a within
]
