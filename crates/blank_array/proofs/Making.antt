-- What a blank vault represents once the groups are in its table.
use Rattle.std.proofs.Common.{◌≡◌, ◌≢◌, ◌⊎◌, inl, inr, ℕ, zero, suc, ◌<◌, ◌≤◌, Bool, false, List, [], length, replicate, refl, sym, ap, ◌∙◌, subst, arith}
use Rattle.std.proofs.lemmas.Bool.{true≢false}
use Rattle.std.proofs.lemmas.Option.{same_Some}
use Rattle.extent_groups.specs.declared.place.Place.{Place}
use Rattle.extent_groups.specs.Cells.{Cells, held}
use Rattle.extent_groups.specs.Groups.{Groups, Agree, AreGroups}
use Rattle.extent_groups.specs.Planned.{Intended, after}
use Rattle.extents.specs.Owners.{Owners}
use Rattle.flat_machine.specs.Groups.{GroupsStand}
use Rattle.tiered_array.specs.Views.{TiersView}
use Rattle.group_form.specs.Form.{HasFormPlaces, HasGroups, SameButGroups}
use Rattle.vault.specs.Images.{Image, Matches, SameOn, flat, is_lost, recovered}
use Rattle.vault.specs.Moments.{AreLogged, IsSettled}
use Rattle.vault.specs.declared.store.Stop.{Stop}
use Rattle.journaled_store.specs.Left.{IsLeftOf}
use Rattle.array_recovery.specs.Reopened.{IsSoundFor, marked}
use Rattle.blank_array.specs.Blank.{IsBlankArray, IsBlankVault, unit_count}

-- groups that agree with owners of as many extents have extents of these drives
pub stands : (groups : Groups) (owners : Owners) (drives : ℕ) → AreGroups groups → Agree groups owners → length owners.rows ≡ drives → owners.extents ≡ groups.extents → GroupsStand groups drives
stands groups owners drives are agree many wide = record {
  table = are;
  there = λ g k m at.
      let is = (agree.owned g k m at).0 in
      let within = is.within in
      let inside = is.inside in
      (omega (arith, within, many), omega (arith, inside, wide));
}

abbrev at_place : ℕ → ℕ → Place
at_place drive address = record { drive = drive; address = address }

module _ {V : Type 0} (seen : V → Image) (may_leave : V → Stop → Image → Type 0) (groups : Groups) (drives : ℕ) (most : drives ≤ 16) (old mid new : V) (batch : List Intended) (lost : List Bool)
    (never : (d : ℕ) → is_lost lost d ≡ false) (blank : IsBlankVault seen may_leave groups drives old) (kept : Matches lost (after (recovered (seen old)) batch) (seen mid))
    (settled : IsSettled seen may_leave lost mid new) (form : (c : Cells) → HasFormPlaces c → HasGroups groups drives (after c batch)) (others : (c : Cells) → SameButGroups (after c batch) c) where
  emptied : SameOn lost (recovered (seen new)) (recovered (seen mid))
  emptied = subst (λ b. SameOn lost (after (seen new).cells (flat b)) (recovered (seen mid))) (sym settled.empty) settled.cells

  same : (x : Place) → held (recovered (seen new)) x ≡ held (after (recovered (seen old)) batch) x
  same x = emptied x (never x.drive) ∙ kept x (never x.drive)

  at_first : recovered (seen old) ≡ (seen old).cells
  at_first = ap (λ b. after (seen old).cells (flat b)) blank.empty

  stays : (d at : ℕ) → (d ≢ 16) ⊎ (at ≡ 0) → recovered (seen new) d at ≡ (seen old).cells d at
  stays d at out = same (at_place d at) ∙ others (recovered (seen old)) (at_place d at) out ∙ ap (λ (c : Cells). c d at) at_first

  no_table : (d : ℕ) → d < drives → d ≢ 16
  no_table d low = λ e. omega (arith, low, e, most)

  placed : HasGroups groups drives (after (recovered (seen old)) batch)
  placed = form (recovered (seen old)) (subst HasFormPlaces (sym at_first) blank.places)

  -- it is a blank array's
  pub made : IsBlankArray groups drives [] (recovered (seen new))
  made = record {
    units = record {
      each = λ d at low here inside. stays d at (inl (no_table d low)) ∙ blank.units.each d at low here inside;
      ends = λ d at low here past. stays d at (inl (no_table d low)) ∙ blank.units.ends d at low here past;
    };
    marks = stays 16 0 (inr refl) ∙ blank.marks;
    form = record {
      each = λ u low. same (at_place 16 (suc u)) ∙ placed.each u low;
      last = same (at_place 16 1025) ∙ placed.last;
    };
  }

-- a vault that has a blank array, durably, is one from which a store is opened
pub sound : {V X : Type 0} (shows : TiersView → X → Type 0) (seen : V → Image) (may_leave : V → Stop → Image → Type 0) (what : X) (groups : Groups) (drives : ℕ) (vault : V)
    → IsLeftOf shows what groups drives [] (recovered (seen vault)) → IsBlankArray groups drives [] (recovered (seen vault)) → AreLogged seen may_leave (marked (replicate 16 0)) vault
    → IsSoundFor shows seen may_leave what groups drives (unit_count groups) [] vault
sound shows seen may_leave what groups drives vault left is logged = record {
  left = left;
  away = λ d low gone. absurd (true≢false (sym gone));
  ends = λ d at low here past. is.units.ends d at low refl past;
  logged = subst (λ (marks : List ℕ). AreLogged seen may_leave (marked marks) vault) (same_Some (replicate 16 0) left.kept.marks (sym is.marks ∙ left.kept.noted)) logged;
}

-- no drive is lost of which none has a mark
pub never_lost : (n d : ℕ) → is_lost (replicate n false) d ≡ false
never_lost zero d = refl
never_lost (suc n) zero = refl
never_lost (suc n) (suc d) = never_lost n d

-- a batch that was empty at first writes nothing but groups
pub but_groups : (batch first : List Intended) → first ≡ [] → ((c : Cells) → SameButGroups (after c batch) (after c first)) → (c : Cells) → SameButGroups (after c batch) c
but_groups batch first none others c = subst (λ (ws : List Intended). SameButGroups (after c batch) (after c ws)) none (others c)
