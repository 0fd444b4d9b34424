-- What a visit leads to.
use Rattle.std.proofs.Common.{get_or-set_same, get_or-set_other, ◌≡◌, ◌≢◌, ◌<◌, ◌≤◌, ◌+◌, ◌⊎◌, inl, inr, ⊎_elim, ℕ, zero, suc, arith, Bool, true, false, List, [], ◌∷◌, ◌++◌, length, length-append, slice_set, refl, sym, ◌∙◌, ap, subst}
use Rattle.std.specs.Prelude.{slice_get, slice_index_or, Some}
use Rattle.extents.specs.Failures.{unsteady}
use Rattle.extents.specs.Units.{loss}
use Rattle.extent_groups.specs.Cells.{Cells}
use Rattle.extent_groups.specs.Planned.{Intended, after}
use Rattle.extent_groups.proofs.Places.{same_or_not}
use Rattle.vault.specs.Images.{is_lost}
use Rattle.vault.proofs.Writes.{after_both}
use Rattle.history.specs.declared.view.Entry.{Entry}
use Rattle.history.specs.Entries.{Course, entry, entries_by}
use Rattle.history.proofs.Entries.{entries_own, entries_other}
use Rattle.unit_store.specs.Views.{DriveView}
use Rattle.cached_drive.specs.Saving.{Units, Brings, saved_by, last_of}
use Rattle.cached_drive.proofs.Bringing.{last_is}
use Rattle.std.proofs.lemmas.Option.{none-some, same_Some}
use Rattle.journaled_store.specs.Steps.{HasDrives, IsInStep, LeadsTo, view_at, views_to}

-- what the hands have saved after one more save
pub saved_own : (n : ℕ) (log : List (Entry Units)) (units : Units) → saved_by n (log ++ entry n units ∷ []) ≡ units
saved_own n log units = ap (last_of []) (entries_own n log (entry n units) refl) ∙ last_is [] (entries_by n log) (entry n units)

pub saved_other : (d n : ℕ) (log : List (Entry Units)) (units : Units) → n ≢ d → saved_by d (log ++ entry n units ∷ []) ≡ saved_by d log
saved_other d n log units ne = ap (last_of []) (entries_other d log (entry n units) ne)

-- a drive's save
pub leads_by : (k now : Course Units) (marks : List ℕ) (batch more writes : List Intended) (n : ℕ) (units : Units) → n < 16 → n < k.hired
    → now ≡ record { hired = k.hired; log = k.log ++ entry n units ∷ [] } → more ≡ batch ++ writes → Brings n (saved_by n k.log) units writes
    → LeadsTo k batch marks now more marks
leads_by k now marks batch more writes n units low below is put brings =
    let log = k.log ++ entry n units ∷ [] in
    subst (λ (m : Course Units). LeadsTo k batch marks m more marks) (sym is) (subst (λ ws. LeadsTo k batch marks (record { hired = k.hired; log = log }) ws marks) (sym put) (record {
      hired = refl;
      noted = refl;
      step = λ lost c s. record {
        each = λ d at hired there. ap (λ (e : Cells). e d at) (after_both batch writes c) ∙ elim (same_or_not d n) [
          | inl same ↦ subst (λ x. after (after c batch) writes x at ≡ slice_get (saved_by x log) at) (sym same)
              (brings.own (after c batch) (λ a. s.each n a below (subst (λ x. is_lost lost x ≡ false) same there)) at ∙ ap (λ us. slice_get us at) (sym (saved_own n k.log units)))
          | inr ne ↦ brings.others (after c batch) d at ne ∙ s.each d at hired there ∙ ap (λ us. slice_get us at) (sym (saved_other d n k.log units (λ e. ne (sym e))))
        ];
      };
      others = λ c d at high. ap (λ (e : Cells). e d at) (after_both batch writes c) ∙ brings.others (after c batch) d at (λ e. absurd (omega (arith, e, low, high)));
    }))

-- the drives before it are seen as they were
seen_before : (n m : ℕ) (log : List (Entry Units)) (units : Units) (lost : List Bool) (gone : Bool) → m ≤ n
    → views_to (log ++ entry n units ∷ []) (slice_set lost n gone) m ≡ views_to log lost m
seen_before n zero log units lost gone le = refl
seen_before n (suc m) log units lost gone le =
    let ne : n ≢ m = λ e. omega (arith, e, le) in
    let mark : slice_index_or (slice_set lost n gone) m true ≡ slice_index_or lost m true = get_or-set_other lost n m gone true (λ e. ne (sym e)) in
    ap (λ us. us ++ view_at (log ++ entry n units ∷ []) (slice_set lost n gone) m ∷ []) (seen_before n m log units lost gone (omega (arith, le)))
    ∙ ap (λ us. let v : DriveView = record { units = us; lost = slice_index_or (slice_set lost n gone) m true; failures = unsteady (loss false (slice_index_or (slice_set lost n gone) m true)) } in views_to log lost m ++ v ∷ []) (saved_other m n log units ne)
    ∙ ap (λ b. let v : DriveView = record { units = saved_by m log; lost = b; failures = unsteady (loss false b) } in views_to log lost m ++ v ∷ []) mark

-- a drive with these units
abbrev pub seen : Units → Bool → DriveView
seen units gone = record { units = units; lost = gone; failures = unsteady (loss false gone) }

-- one more is shown
pub seen_more : (n : ℕ) (log now : List (Entry Units)) (units : Units) (lost : List Bool) (gone : Bool) → n < length lost → now ≡ log ++ entry n units ∷ []
    → views_to now (slice_set lost n gone) (n + 1) ≡ views_to log lost n ++ record { units = units; lost = gone; failures = unsteady (loss false gone) } ∷ []
seen_more n log now units lost gone low is =
    let next : suc n ≡ n + 1 = omega arith in
    let mark : slice_index_or (slice_set lost n gone) n true ≡ gone = get_or-set_same lost n gone true low in
    subst (λ (l : List (Entry Units)). views_to l (slice_set lost n gone) (n + 1) ≡ views_to log lost n ++ record { units = units; lost = gone; failures = unsteady (loss false gone) } ∷ []) (sym is)
    (subst (λ m. views_to (log ++ entry n units ∷ []) (slice_set lost n gone) m ≡ views_to log lost n ++ record { units = units; lost = gone; failures = unsteady (loss false gone) } ∷ []) next
    (ap (λ us. us ++ view_at (log ++ entry n units ∷ []) (slice_set lost n gone) n ∷ []) (seen_before n n log units lost gone (omega arith))
    ∙ ap (λ us. let v : DriveView = record { units = us; lost = slice_index_or (slice_set lost n gone) n true; failures = unsteady (loss false (slice_index_or (slice_set lost n gone) n true)) } in views_to log lost n ++ v ∷ []) (saved_own n log units)
    ∙ ap (λ b. let v : DriveView = record { units = units; lost = b; failures = unsteady (loss false b) } in views_to log lost n ++ v ∷ []) mark))

pub views_many : (log : List (Entry Units)) (lost : List Bool) (n : ℕ) → length (views_to log lost n) ≡ n
views_many log lost zero = refl
views_many log lost (suc n) = length-append (views_to log lost n) (view_at log lost n ∷ []) ∙ (let many = views_many log lost n in omega (arith, many))

last_or_before : {X : Type 0} (xs : List X) (x y : X) (d : ℕ) → slice_get (xs ++ x ∷ []) d ≡ Some y → ((d < length xs) × (slice_get xs d ≡ Some y)) ⊎ ((d ≡ length xs) × (y ≡ x))
last_or_before [] x y zero at = inr (refl, sym (same_Some x y at))
last_or_before [] x y (suc d) at = absurd (none-some y at)
last_or_before (z ∷ xs) x y zero at = inl (omega arith, at)
last_or_before (z ∷ xs) x y (suc d) at = ⊎_elim
    (λ (h : (d < length xs) × (slice_get xs d ≡ Some y)). let low = h.0 in inl (omega (arith, low), h.1))
    (λ (h : (d ≡ length xs) × (y ≡ x)). inr (ap suc h.0, h.1))
    (last_or_before xs x y d at)

-- a drive that was shown
pub shown_at : (log : List (Entry Units)) (lost : List Bool) (n d : ℕ) (v : DriveView) → slice_get (views_to log lost n) d ≡ Some v → (d < n) × (v ≡ view_at log lost d)
shown_at log lost zero d v at = absurd (none-some v at)
shown_at log lost (suc n) d v at = ⊎_elim
    (λ (h : (d < length (views_to log lost n)) × (slice_get (views_to log lost n) d ≡ Some v)). let below = shown_at log lost n d v h.1 in let low = below.0 in (omega (arith, low), below.1))
    (λ (h : (d ≡ length (views_to log lost n)) × (v ≡ view_at log lost n)). let is : d ≡ n = h.0 ∙ views_many log lost n in (omega (arith, is), h.1 ∙ ap (view_at log lost) (sym is)))
    (last_or_before (views_to log lost n) (view_at log lost n) v d at)

-- once all drives were shown, the units in step are theirs
pub shown_has : (k now : Course Units) (batch more : List Intended) (lost : List Bool) (marks left : List ℕ) (n : ℕ) (drives : List DriveView) → LeadsTo k batch marks now more left → drives ≡ views_to now.log lost n → n ≤ now.hired
    → (gone : List Bool) (c : Cells) → IsInStep gone k batch c → HasDrives gone drives (after c more)
shown_has k now batch more lost marks left n drives leads is few gone c step = record {
  each = λ d at v there on.
      let one = shown_at now.log lost n d v (ap (λ l. slice_get l d) (sym is) ∙ there) in
      let low = one.0 in
      (leads.step gone c step).each d at (omega (arith, low, few)) on ∙ ap (λ (w : DriveView). slice_get w.units at) (sym one.1);
}

-- units that are the same are in step with the same
pub step_same : (lost : List Bool) (k : Course Units) (batch : List Intended) (c d : Cells) → ((drive at : ℕ) → d drive at ≡ after c batch drive at) → IsInStep lost k batch c → IsInStep lost k [] d
step_same lost k batch c d same step = record { each = λ drive at low on. same drive at ∙ step.each drive at low on }

pub drives_same : (lost : List Bool) (drives : List DriveView) (c d : Cells) → ((drive at : ℕ) → d drive at ≡ c drive at) → HasDrives lost drives c → HasDrives lost drives d
drives_same lost drives c d same has = record { each = λ drive at v there on. same drive at ∙ has.each drive at v there on }
