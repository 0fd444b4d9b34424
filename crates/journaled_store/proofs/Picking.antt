-- What a walk over the drives finds of a unit that is asked for.
use Rattle.std.proofs.Common.{◌≡◌, ◌≢◌, ◌<◌, ◌≤◌, ◌+◌, ◌⊎◌, inl, inr, ℕ, zero, suc, arith, Bool, true, false, List, [], ◌∷◌, ◌++◌, length, refl, sym, ◌∙◌, ap, subst}
use Rattle.std.specs.Prelude.{slice_get, slice_index_or, Some}
use Rattle.extent_groups.proofs.Places.{same_or_not}
use Rattle.history.specs.declared.view.Entry.{Entry}
use Rattle.history.specs.Entries.{entry}
use Rattle.unit_store.specs.Views.{DriveView}
use Rattle.cached_drive.specs.Saving.{Units, saved_by}
use Rattle.journaled_store.specs.declared.lookup.Lookup.{Lookup}
use Rattle.journaled_store.specs.Steps.{view_at, views_to}
use Rattle.journaled_store.specs.Picking.{HasPicked, IsLookedUp, IsLookupOf, Picks}
use Rattle.journaled_store.proofs.Leading.{saved_own, saved_other, shown_at, views_many}

-- a drive was shown
pub picks_by : (n : ℕ) (log now : List (Entry Units)) (w x : Lookup) (units : Units) → now ≡ log ++ entry n units ∷ []
    → (x.drive ≡ w.drive) × (x.address ≡ w.address) → (n ≡ w.drive → IsLookupOf units x) → (n ≢ w.drive → x ≡ w) → Picks n log w (n + 1) now x
picks_by n log now w x units is place own other = record {
  drive = place.0;
  address = place.1;
  keeps = λ has low. subst (λ (l : List (Entry Units)). IsLookupOf (saved_by x.drive l) x) (sym is) (elim (same_or_not n w.drive) [
    | inl same ↦ subst (λ d. IsLookupOf (saved_by d (log ++ entry n units ∷ [])) x) (same ∙ sym place.0) (subst (λ us. IsLookupOf us x) (sym (saved_own n log units)) (own same))
    | inr ne ↦ (
        let below : w.drive < n = omega (arith, low, place.0, ne) in
        let there : IsLookupOf (saved_by w.drive log) w = has below in
        subst (λ us. IsLookupOf us x) (sym (saved_other x.drive n log units (λ e. ne (e ∙ place.0))))
        (subst (λ (y : Lookup). IsLookupOf (saved_by y.drive log) y) (sym (other ne)) there)
        )
  ]);
}

-- all drives were shown
pub all_picked : (log : List (Entry Units)) (lost : List Bool) (n : ℕ) (drives : List DriveView) (w : Lookup) → drives ≡ views_to log lost n → n ≤ 16 → HasPicked n log w → IsLookedUp drives lost n w
all_picked log lost n drives w is few has = record {
  count_is = ap (λ (l : List DriveView). length l) is ∙ views_many log lost n;
  few = few;
  lost_is = λ v there. ap (λ (u : DriveView). u.lost) (sym (shown_at log lost n w.drive v (ap (λ l. slice_get l w.drive) (sym is) ∙ there)).1);
  here = λ v there.
      let one = shown_at log lost n w.drive v (ap (λ l. slice_get l w.drive) (sym is) ∙ there) in
      subst (λ (u : DriveView). IsLookupOf u.units w) (sym one.1) (has one.0);
}

-- before the first drive is shown
pub none_picked : (log : List (Entry Units)) (w : Lookup) → HasPicked 0 log w
none_picked log w low = absurd (omega (arith, low))
