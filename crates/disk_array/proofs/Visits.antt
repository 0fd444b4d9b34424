-- What is shown of drives one after the other, and an array whose drives look the same afterwards.
use Rattle.std.proofs.Common.{◌≡◌, ◌++◌, ◌∷◌, [], ℕ, suc, ◌+◌, ◌<◌, arith, Bool, true, false, List, Some, map, length, take, get_or, slice_set, slice_get, refl, sym, ap, subst, ◌∙◌}
use Rattle.std.specs.Option.{option_map}
use Rattle.std.specs.Vec.{with_items}
use Rattle.std.proofs.Math.Seq.{map-set_same, take-suc}
use Rattle.std.proofs.Math.ListN.{get_or-map}
use Rattle.std.proofs.lemmas.Option.{get_or_from_slice_get, slice_get-map, same_Some}
use Rattle.std.proofs.lemmas.List.{length-map}
use Rattle.extents.specs.Failures.{Failures, CountsFailure, StaysSteady}
use Rattle.extent_groups.specs.Calls.{NoPlace, KeepsDrive, KeepsDrives}
use Rattle.extent_groups.proofs.DriveCalls.{kept_same}
use Rattle.unit_store.specs.Fit.{IsFit}
use Rattle.unit_store.specs.Views.{DriveView, drive_units, drive_lost, drive_failures, drive_view, view_of}
use Rattle.unit_store.proofs.Making.{still_fit}
use Rattle.unit_store.proofs.Reading.{lent_back, written_back}
use Rattle.slot_tables.specs.Views.{IsWhole}
use Rattle.disk_array.specs.declared.array.Array.TheInside.{Inside}
use Rattle.disk_array.specs.Inside.{seen, IsReady}
use Rattle.disk_array.proofs.Ready.{parts_ready}

again : {X : Type 0} (xs ys zs : List X) → (xs ++ ys) ++ zs ≡ xs ++ (ys ++ zs)
again [] ys zs = refl
again (x ∷ xs) ys zs = ap (λ l. x ∷ l) (again xs ys zs)

module _ {X Y : Type 0} (f : X → Y) where
  -- an element is replaced by one that looks the same
  pub same_views : (xs ys : List X) (n : ℕ) (x y : X) → slice_get xs n ≡ Some x → f y ≡ f x → map f xs ≡ map f ys → map f (slice_set xs n y) ≡ map f ys
  same_views xs ys n x y there same views = map-set_same f xs n y x (same ∙ ap f (sym (get_or_from_slice_get xs n x x there))) ∙ views

  -- one more is shown
  pub shown_more : (xs ys : List X) (n : ℕ) (x : X) (first was now : List Y) → n < length ys → slice_get xs n ≡ Some x → map f xs ≡ map f ys
      → was ≡ first ++ take n (map f ys) → now ≡ was ++ f x ∷ [] → now ≡ first ++ take (n + 1) (map f ys)
  shown_more xs ys n x first was now inside there views was_is now_is =
      let many : n < length (map f ys) = rw (length-map ys f) inside in
      let here : get_or (map f ys) n (f x) ≡ f x = ap (λ l. get_or l n (f x)) (sym views) ∙ get_or-map f xs n x ∙ ap f (get_or_from_slice_get xs n x x there) in
      let next : suc n ≡ n + 1 = omega arith in
      subst (λ k. now ≡ first ++ take k (map f ys)) next (now_is ∙ ap (λ l. l ++ f x ∷ []) was_is ∙ again first (take n (map f ys)) (f x ∷ [])
      ∙ ap (λ y. first ++ (take n (map f ys) ++ y ∷ [])) (sym here) ∙ ap (λ l. first ++ l) (sym (take-suc (map f ys) n (f x) many)))

  -- elements at one place look the same where all do
  pub views_at : (xs ys : List X) (n : ℕ) (x y : X) → map f ys ≡ map f xs → slice_get xs n ≡ Some x → slice_get ys n ≡ Some y → f y ≡ f x
  views_at xs ys n x y same at_x at_y =
      same_Some (f y) (f x) (sym (slice_get-map f ys n ∙ ap (option_map f) at_y) ∙ ap (λ l. slice_get l n) same ∙ slice_get-map f xs n ∙ ap (option_map f) at_x)

  pub views_many : (xs ys : List X) → map f ys ≡ map f xs → length ys ≡ length xs
  views_many xs ys same = sym (length-map ys f) ∙ ap length same ∙ length-map xs f

-- a drive that is lost if it was, and failed as often
no_loss : (was is : Bool) (before after : Failures) → is ≡ was → after ≡ before → CountsFailure was is before after
no_loss true is before after same fails = subst (λ b. CountsFailure true b before after) (sym same) (subst (λ f. CountsFailure true true before f) (sym fails) (omega arith))
no_loss false is before after same fails = subst (λ b. CountsFailure false b before after) (sym same) (subst (λ f. CountsFailure false false before f) (sym fails) (omega arith))

still_steady : (was is : Bool) (before after : Failures) → is ≡ was → after ≡ before → StaysSteady was is before after
still_steady was is before after same fails steady = (ap (λ (f : Failures). f.steady) fails ∙ steady, same)

module _ {D : Type 0} (units : D → List (List ℕ)) (lost : D → Bool) (failures : D → Failures) where
  abbrev looks : D → DriveView
  looks = drive_view units lost failures

  kept_drive : (d : ℕ) (x y : D) → drive_view units lost failures y ≡ drive_view units lost failures x → KeepsDrive units lost failures (λ at. NoPlace (record { drive = d; address = at })) x y
  kept_drive d x y same = kept_same x y (ap drive_units same) (λ was. ap drive_lost same ∙ was)
      (no_loss (lost x) (lost y) (failures x) (failures y) (ap drive_lost same) (ap drive_failures same))
      (still_steady (lost x) (lost y) (failures x) (failures y) (ap drive_lost same) (ap drive_failures same))

  -- drives that look the same are kept
  pub kept_drives : (old new : List D) → map (drive_view units lost failures) new ≡ map (drive_view units lost failures) old → KeepsDrives units lost failures NoPlace old new
  kept_drives old new same = record { many = views_many looks old new same; each = λ d x y at_x at_y. kept_drive d x y (views_at looks old new d x y same at_x at_y) }

  module _ {C : Type 0} (a : Inside D C) (lent new : List D) (is : lent ≡ a.parts.drives.items)
      (views : map (drive_view units lost failures) new ≡ map (drive_view units lost failures) lent) where
    back : (with_items a.parts.drives new).items ≡ new
    back = written_back a.parts.drives lent new is (views_many looks lent new views)

    -- the array looks the same
    pub seen_same : seen units lost failures (record a { parts = lent_back a.parts new }) ≡ seen units lost failures a
    seen_same = ap (λ ds. record (seen units lost failures a) { parts = record (view_of units lost failures a.parts) { drives = ds } })
        (ap (map (drive_view units lost failures)) back ∙ views ∙ ap (map (drive_view units lost failures)) is)

    -- all that is always true of an array holds
    pub shown_matches : {Claims : Type 0} → IsFit units a.parts → IsWhole (seen units lost failures a) × Claims × IsReady units a
        → IsWhole (seen units lost failures (record a { parts = lent_back a.parts new })) × Claims × IsReady units (record a { parts = lent_back a.parts new })
    shown_matches fit matches = (
      subst IsWhole (sym seen_same) matches.0,
      matches.1,
      parts_ready units a (lent_back a.parts new) refl
          (still_fit a.parts (lent_back a.parts new) new fit refl refl refl back (subst (λ ds. KeepsDrives units lost failures NoPlace ds new) is (kept_drives lent new views))) matches.2,
    )
