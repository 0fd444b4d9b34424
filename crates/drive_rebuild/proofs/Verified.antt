-- Drives in memory that were tested are those of a vault.
use Rattle.std.proofs.Common.{◌≡◌, ◌<◌, inl, inr, ℕ, Bool, false, Option, Some, None, List, length, slice_get, refl, sym, ◌∙◌, ap, subst, arith, if◌then◌else◌}
use Rattle.std.specs.Prelude.{option_map}
use Rattle.std.proofs.lemmas.Option.{none-some, same_Some, slice_get-map, slice_get_cases, slice_get_past, slice_get_within}
use Rattle.extents.specs.Condition.{Held, failures_of, is_gone}
use Rattle.extents.specs.Failures.{Failures}
use Rattle.extents.specs.declared.mem_drive.Condition.{Condition}
use Rattle.extents.specs.declared.mem_drive.Condition.TheVariants.{Present}
use Rattle.extent_groups.specs.Groups.{Groups}
use Rattle.extent_groups.specs.Cells.{Cells, cell, cells}
use Rattle.extent_groups.specs.Calls.{KeepsDrives, NoPlace}
use Rattle.extent_groups.specs.Stores.{AreSound}
use Rattle.unit_store.specs.Fit.{IsFit}
use Rattle.unit_store.specs.Losses.{LosesOnly}
use Rattle.unit_store.specs.Memory.{held_failures, held_lost, held_units}
use Rattle.unit_store.specs.Slots.{cells_in}
use Rattle.unit_store.specs.Views.{DriveView, drive_view, view_of}
use Rattle.unit_store.specs.declared.parts.Parts.{Parts}
use Rattle.unit_store.proofs.Views.{view_cells, view_drives, view_length}
use Rattle.vault.specs.Images.{is_lost}
use Rattle.array_recovery.specs.Found.{AreFormed, HaveUnits}
use Rattle.drive_rebuild.specs.Rebuilt.{AreVerified}
use Rattle.drive_rebuild.proofs.Shown.{there}

-- drives that answer
abbrev pub Answer : List Held → Type 0
Answer drives = (d : ℕ) (m : Held) → slice_get drives d ≡ Some m → m.condition ≡ Present

pub of_held : (o : Option Held) (m : Held) (a : ℕ) → o ≡ Some m → held_lost m ≡ false → cell held_units held_lost o a ≡ slice_get m.units a
of_held o m a e alive = ap (λ (p : Option Held). cell held_units held_lost p a) e ∙ ap (λ b. if b then None else slice_get m.units a) alive

-- they keep what they hold in calls that write nothing
module _ (old new : List Held) (keeps : KeepsDrives held_units held_lost held_failures NoPlace old new) (answer : Answer old) where
  same : (d a : ℕ) → cells held_units held_lost old d a ≡ cells held_units held_lost new d a
  same d a = elim (slice_get_cases old d).1 [
    | inl some ↦
        (let n = there new d (let low = some.1 in let many = keeps.many in omega (arith, low, many)) in
        let present = answer d some.0 some.2 in
        let alive : held_lost some.0 ≡ false = ap is_gone present in
        let kept = keeps.each d some.0 n.0 some.2 n.1 in
        let still : held_lost n.0 ≡ false = (kept.steady (ap (λ (c : Condition). Failures.steady (failures_of c)) present)).1 ∙ alive in
        of_held (slice_get old d) some.0 a some.2 alive ∙ sym (kept.elsewhere a (λ never. never)) ∙ sym (of_held (slice_get new d) n.0 a n.1 still))
    | inr none ↦
        ap (λ (o : Option Held). cell held_units held_lost o a) none.1
        ∙ sym (ap (λ (o : Option Held). cell held_units held_lost o a) (slice_get_past new d (let high = none.0 in let many = keeps.many in omega (arith, high, many))))
  ]

  pub cells_same : cells held_units held_lost old ≡ cells held_units held_lost new
  cells_same = λ i d a. same d a i

pub sound_back : (old new : Parts Held) → LosesOnly held_units held_lost held_failures old new → Answer old.drives.items → AreSound new.groups (cells_in held_units held_lost new)
    → AreSound old.groups (cells_in held_units held_lost old)
sound_back old new only answer sound =
    subst (λ c. AreSound old.groups c) (sym (cells_same old.drives.items new.drives.items only.drives answer))
    (subst (λ (g : Groups). AreSound g (cells_in held_units held_lost new)) only.tables.groups sound)

-- an element of a list of what a function gives
of_map : {A B : Type 0} (f : A → B) (o : Option A) (y : B) → option_map f o ≡ Some y → (x : A) × (o ≡ Some x) × (f x ≡ y)
of_map f None y e = absurd (none-some y e)
of_map f (Some x) y e = (x, refl, same_Some _ _ e)

module _ (parts : Parts Held) (drives units size : ℕ) (lost : List Bool) (c : Cells) (many : length parts.drives.items ≡ drives) (formed : AreFormed units size parts.drives.items)
    (have : HaveUnits lost c parts.drives.items) (alive : (d : ℕ) → d < drives → is_lost lost d ≡ false) (fit : IsFit held_units parts)
    (sound : AreSound parts.groups (cells_in held_units held_lost parts)) where
  abbrev views : List DriveView
  views = (view_of held_units held_lost held_failures parts).drives

  viewed : (d : ℕ) (v : DriveView) → slice_get views d ≡ Some v → (m : Held) × (slice_get parts.drives.items d ≡ Some m) × (drive_view held_units held_lost held_failures m ≡ v)
  viewed d v e = of_map (drive_view held_units held_lost held_failures) (slice_get parts.drives.items d) v (sym (slice_get-map (drive_view held_units held_lost held_failures) parts.drives.items d) ∙ e)

  pub are_verified : AreVerified parts.groups drives units c
  are_verified = record {
    views = views;
    many = view_length held_units held_lost held_failures parts ∙ many;
    few = let long = view_length held_units held_lost held_failures parts in let most = fit.most in omega (arith, long, most);
    alive = λ d v e. let m = viewed d v e in ap (λ (w : DriveView). w.lost) (sym m.2) ∙ ap is_gone (formed.present d m.0 m.1);
    long = λ d v e. let m = viewed d v e in ap (λ (w : DriveView). length w.units) (sym m.2) ∙ formed.many d m.0 m.1;
    lies = λ d a v e low.
        let m = viewed d v e in
        have.each d a m.0 m.1 (alive d (let within = slice_get_within parts.drives.items d m.0 m.1 in omega (arith, within, many)))
        (subst (λ (w : DriveView). a < length w.units) (sym m.2) low)
        ∙ ap (λ (w : DriveView). slice_get w.units a) m.2;
    formed = fit.groups;
    fit = view_drives held_units held_lost held_failures parts fit.drives;
    sound = subst (λ x. AreSound parts.groups x) (sym (view_cells held_units held_lost held_failures parts)) sound;
  }
