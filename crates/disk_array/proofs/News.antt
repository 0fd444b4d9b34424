-- An array that is put together from new tables and drives is new, and ready for the calls of its drives.
use Rattle.std.proofs.Common.{◌≡◌, ℕ, ◌*◌, ◌+◌, ◌≤◌, Bool, None, List, [], length, map, get_or, sym, ap, ◌∙◌, subst, arith, Vec}
use Rattle.std.proofs.lemmas.List.{length-map, length-replicate}
use Rattle.std.specs.Global.{Global}
use Rattle.std.specs.Prelude.{slice_index}
use Rattle.extents.specs.Failures.{Failures}
use Rattle.map_join.specs.declared.records.Record.{Record}
use Rattle.extents.specs.Owners.{Owners}
use Rattle.extents.specs.Sizes.{extent_units}
use Rattle.extents.specs.declared.shape.Shape.{Shape}
use Rattle.extents.specs.declared.shape.TheConstants.{HEADER_BYTES}
use Rattle.extent_groups.specs.Calls.{AreSized}
use Rattle.extent_groups.proofs.Fresh.{no_members}
use Rattle.unit_store.specs.Fit.{HaveUnitCount}
use Rattle.extent_groups.specs.Stores.{AreDrives}
use Rattle.unit_store.specs.Views.{drive_view, drive_units}
use Rattle.slot_tables.specs.Views.{Nothing, IsNew}
use Rattle.disk_array.specs.declared.array.Array.TheInside.{Inside}
use Rattle.slot_tables.specs.declared.tables.Tables.{Tables}
use Rattle.disk_array.specs.Inside.{seen, IsReady}
use Rattle.slot_tables.specs.Kept.{kepts_of, AreOf}
use Rattle.slot_tables.specs.New.{AreNew}
use Rattle.slot_tables.proofs.Counts.{none_below}
use Rattle.slot_tables.proofs.Places.{kept_past, kepts_many}

-- there are no places yet
no_places : {C : Type 0} (shape : Shape) (n : ℕ) (t : Tables C) → AreNew shape n t → length t.places.items ≡ 0
no_places shape n t new = sym t.places.ok.0 ∙ new.places

nothing_kept : {C : Type 0} (shape : Shape) (n : ℕ) (t : Tables C) → AreNew shape n t → (s : ℕ) → get_or (kepts_of t.places.items) s Nothing ≡ Nothing
nothing_kept shape n t new s = kept_past t.places.items s (let none = no_places shape n t new in omega (arith, none))

-- an array of these tables and drives
abbrev pub of_tables : {D C : Type 0} → Shape → Tables C → Vec D Global → Vec Record Global → List ℕ → Inside D C
of_tables shape t drives log live = record {
  parts = record { shape = shape; groups = t.groups; extents = t.extents; drives = drives; note = None };
  log = log;
  keys = t.keys;
  places = t.places;
  live = live;
  unit = t.unit;
  scratch = t.scratch;
}

pub is_new : {D C : Type 0} (units : D → List (List ℕ)) (lost : D → Bool) (failures : D → Failures) (shape : Shape) (t : Tables C) (drives : Vec D Global) (log : Vec Record Global) (live : List ℕ) (n : ℕ)
    → n ≡ length drives.items → log.items ≡ [] → AreDrives drive_units t.groups (map (drive_view units lost failures) drives.items) → AreNew shape n t → IsNew (seen units lost failures (of_tables shape t drives log live))
is_new units lost failures shape t drives log live n count none are new = record {
  empty = new.empty;
  agree = new.agree;
  rows = ap (λ (o : Owners). length o.rows) new.owners ∙ length-replicate n _ ∙ count ∙ sym (length-map drives.items (drive_view units lost failures));
  wide = ap (λ (o : Owners). o.extents) new.owners ∙ new.sizes.of_extents;
  drives = are;
  log = none;
  keys = new.zero;
  kept = nothing_kept shape n t new;
  room = record { kept = kepts_many t.places.items (let none = no_places shape n t new in omega (arith, none)); keys = new.keys ∙ new.sizes.of_blocks };
}

pub is_ready : {D C : Type 0} (units : D → List (List ℕ)) (shape : Shape) (t : Tables C) (drives : Vec D Global) (log : Vec Record Global) (live : List ℕ) (n : ℕ)
    → n ≡ length drives.items → 3 ≤ length drives.items → length drives.items ≤ 16 → HaveUnitCount units drives.items (shape.extents * extent_units shape.segments)
    → AreSized units (HEADER_BYTES + shape.payload) drives.items → AreNew shape n t → length live ≡ 512 → ((group : ℕ) → slice_index live group ≡ 0) → IsReady units (of_tables shape t drives log live)
is_ready units shape t drives log live n count least most many sized new numbers zero =
    let bytes = ap (λ p. HEADER_BYTES + p) new.sizes.of_payload in record {
      fit = record {
        shape = new.sizes;
        least = least;
        most = most;
        groups = new.table;
        drives = record {
          many = λ d x at. many d x at ∙ (λ i. (new.sizes.of_extents i) * extent_units (new.sizes.of_segments i));
          sized = subst (λ b. AreSized units b drives.items) bytes sized;
          there = λ g k m at. absurd (no_members t.groups g k m (new.empty.free g) at);
        };
        agree = new.agree;
        rows = ap (λ (o : Owners). length o.rows) new.owners ∙ length-replicate n _ ∙ count;
        wide = ap (λ (o : Owners). o.extents) new.owners ∙ new.sizes.of_extents;
      };
      unit = new.unit ∙ bytes;
      scratch = new.scratch ∙ ap (λ b. 2 * b) bytes;
      places = record { made = λ g is. absurd (is (new.empty.free g)); most = let none = new.places in omega (arith, none) };
      live = record { many = numbers; each = λ group low. zero group ∙ sym (none_below (kepts_of t.places.items) group 128 (nothing_kept shape n t new)) };
    }

pub are_of : {C : Type 0} (names : C → ℕ) (shape : Shape) (n : ℕ) (t : Tables C) → AreNew shape n t → AreOf names t.places.items
are_of names shape n t new = λ slot inside. let none = no_places shape n t new in absurd (omega (arith, none, inside))
