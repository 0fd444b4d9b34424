-- An array whose last drive is lost and of no group represents the same state without that drive.
use Rattle.std.proofs.Common.{◌≡◌, ◌≤◌, ◌<◌, ◌+◌, ℕ, zero, suc, Bool, true, inl, inr, Option, Some, None, List, [], ◌∷◌, ◌++◌, length, slice_get, if◌then◌else◌, refl, sym, ap, ◌∙◌, subst, arith}
use Rattle.std.proofs.lemmas.List.{length-append}
use Rattle.std.proofs.lemmas.Option.{slice_get_within}
use Rattle.extent_groups.specs.declared.class.Member.{Member}
use Rattle.extent_groups.specs.Cells.{Cells, cell, cells}
use Rattle.extent_groups.specs.Groups.{Groups, members_of}
use Rattle.extent_groups.specs.Missing.{is_missing, missing_of}
use Rattle.extent_groups.proofs.Places.{same_or_not}
use Rattle.flat_machine.specs.Flat.{Flat}
use Rattle.flat_machine.specs.Groups.{GroupsStand}
use Rattle.flat_machine.specs.History.{IsHistory}
use Rattle.flat_machine.proofs.Slots.{history_as}
use Rattle.slot_tables.specs.Represents.{ShowsArray}
use Rattle.slot_tables.specs.Views.{key_at}
use Rattle.unit_store.specs.Shows.{ShowsUnits}
use Rattle.unit_store.specs.Views.{DriveView, PartsView, drive_cells, drive_lost, drive_units, lost_of}
use Rattle.tiered_array.specs.Matches.{RepresentsTiers}
use Rattle.tiered_array.specs.Tiered.{Tiered}
use Rattle.tiered_array.specs.Views.{TiersView}
use Rattle.drive_evacuation.specs.Evacuation.{AreClearOf, on_parts, with_drives}

-- a function of the element at each index, where the last one is as good as none
pushed : {X Y : Type 0} (f : Option X → Y) (xs : List X) (y : X) → f (Some y) ≡ f None → (d : ℕ) → f (slice_get (xs ++ y ∷ []) d) ≡ f (slice_get xs d)
pushed f [] y same zero = same
pushed f [] y same (suc d) = refl
pushed f (x ∷ xs) y same zero = refl
pushed f (x ∷ xs) y same (suc d) = pushed f xs y same d

module _ (t : TiersView) (T : Tiered) (rest : PartsView) (last : DriveView) (is : RepresentsTiers t T) (drives_are : t.world.array.parts.drives ≡ rest.drives ++ last ∷ [])
    (lost : last.lost ≡ true) (groups_are : rest.groups ≡ t.world.array.parts.groups) (enough : 3 ≤ length rest.drives) (clear : AreClearOf T.flat.groups (length rest.drives)) where
  abbrev F : Flat
  F = T.flat

  abbrev G : Flat
  G = with_drives F rest

  abbrev was : PartsView
  was = t.world.array.parts

  -- a lost drive has no unit, as one that isn't there
  same_cells : drive_cells was ≡ drive_cells rest
  same_cells = ap (λ (ds : List DriveView). cells drive_units drive_lost ds) drives_are
      ∙ (λ i d at. pushed (λ (o : Option DriveView). cell drive_units drive_lost o at) rest.drives last (ap (λ b. if b then None else slice_get last.units at) lost) d i)

  same_lost : lost_of was ≡ lost_of rest
  same_lost = ap (λ (ds : List DriveView). missing_of drive_lost ds) drives_are ∙ (λ i d. pushed (is_missing drive_lost) rest.drives last lost d i)

  one_more : F.drives ≡ length rest.drives + 1
  one_more = is.world.array.tables.drives ∙ ap (λ (ds : List DriveView). length ds) drives_are ∙ length-append rest.drives (last ∷ [])

  stand : GroupsStand F.groups (length rest.drives)
  stand = record {
    table = is.world.array.history.groups.table;
    there = λ g k m at.
        let inside = is.world.array.history.groups.there g k m at in
        let low = inside.0 in
        let many = one_more in
        (elim (same_or_not m.drive (length rest.drives)) [
          | inl on ↦ absurd (clear g (k, m, at, on))
          | inr off ↦ (omega (arith, low, many, off), inside.1)
        ]);
  }

  history : IsHistory G (key_at t.world.array)
  history =
      let h = is.world.array.history in
      let most = h.limits.most in
      let many = one_more in
      history_as F (key_at t.world.array) h enough (omega (arith, most, many)) stand h.holders h.units (λ b has. (refl, has))

  shows : ShowsArray (record t.world.array { parts = rest }) G
  shows = record {
    history = history;
    units = subst (λ (c : Cells). ShowsUnits rest.groups c F.units) same_cells (subst (λ (z : Groups). ShowsUnits z (drive_cells was) F.units) (sym groups_are) is.world.array.units);
    tables = record {
      groups = is.world.array.tables.groups ∙ sym groups_are;
      drives = refl;
      lost = is.world.array.tables.lost ∙ same_lost;
      failures = refl;
      log = is.world.array.tables.log;
      slots = is.world.array.tables.slots;
    };
  }

  pub without_last : RepresentsTiers (on_parts t rest) (record T { flat = G })
  without_last = record {
    world = record { array = shows; held = record { once = is.world.held.once; inside = is.world.held.inside }; hands = is.world.hands };
    order = is.order;
    long = is.long;
    each = is.each;
    end = is.end;
    marked = is.marked;
    marks = is.marks;
    hints = is.hints;
    holes = is.holes;
  }
