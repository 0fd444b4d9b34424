-- A list that gives a slot its unit, as a step's.
use Rattle.std.proofs.Common.{◌≡◌, ℕ, ◌⊎◌, inl, inr, Bool, true, Option, Some, None, List, [], ◌∷◌, length, Contains, refl, sym, ◌∙◌, ap, subst}
use Rattle.std.proofs.lemmas.List.{append-nil}
use Rattle.std.specs.Global.{Global}
use Rattle.std.specs.Prelude.{option_map, Vec, Result, Ok, Err, IfOk, IfErr, OnOk, MatchResult}
use Rattle.extents.specs.Failures.{Failures}
use Rattle.extent_groups.specs.declared.place.Place.{Place}
use Rattle.extent_groups.specs.Cells.{Cells}
use Rattle.extent_groups.specs.Groups.{Groups}
use Rattle.extent_groups.specs.Planned.{Intended}
use Rattle.extent_groups.specs.Stores.{unit_bytes, IsOwn}
use Rattle.extent_groups.specs.Units.{Site, Pair, InStripe}
use Rattle.extent_groups.specs.Layout.{IsOf}
use Rattle.extent_groups.proofs.Sites.{site_places}
use Rattle.flat_machine.specs.Cases.{FillCase, FillPasses, ticketed}
use Rattle.flat_machine.specs.declared.refusal.Refusal.{Refusal}
use Rattle.flat_machine.specs.declared.refusal.Refusal.TheVariants.{Memory}
use Rattle.flat_machine.specs.Flat.{Flat, Content, Fresh, Stored, Worker, put, waiting_unit}
use Rattle.flat_machine.specs.Steps.{Fill, Filled, Refused}
use Rattle.unit_store.specs.declared.micro.Micro.{Micro}
use Rattle.unit_store.specs.declared.micro.Micro.TheVariants.{NoteClear}
use Rattle.unit_store.specs.declared.note.Note.{Note}
use Rattle.unit_store.specs.declared.parts.Parts.{Parts}
use Rattle.unit_store.specs.Micros.{writes_in}
use Rattle.unit_store.specs.Notes.{IsSlotPlan}
use Rattle.unit_store.specs.Shows.{IsUnit}
use Rattle.unit_store.specs.Slots.{IsSlot, cells_in}
use Rattle.unit_store.specs.Views.{PartsView, view_of, drive_cells, IsLost, FoundGone}
use Rattle.unit_store.proofs.Listed.{writes_append}
use Rattle.unit_store.proofs.Views.{view_cells}
use Rattle.slot_tables.specs.Changes.{fill_reason, MayRefuse}
use Rattle.slot_tables.specs.Represents.{ShowsArray}
use Rattle.slot_tables.specs.Views.{ArrayView, with_parts}
use Rattle.slot_tables.proofs.Fares.{fared, leaves, gone_back, lost_shows, lost_leaves}
use Rattle.slot_tables.proofs.Fills.{fill_passes, fill_slot, fill_gone}
use Rattle.disk_array.specs.Refused.{OnlyLoses}
use Rattle.disk_array.proofs.Ready.{as_refused}
use Rattle.header_scan.specs.Stops.{IsMicro, IsNotedList}
use Rattle.crash_points.specs.Lists.{IsUnitList, IsStepList, IsListFor, CanRun}

-- the array that lost drives shows the state with these drives
pub still_shown : (a b : ArrayView) (F : Flat) → ShowsArray a F → OnlyLoses a b → ShowsArray b (fared F b.parts)
still_shown a b F shows loses = subst (λ (z : ArrayView). ShowsArray z (fared F b.parts)) (sym loses.0) (lost_shows a F b.parts shows loses.1)

-- its plan, over parts with that view
planned : {D : Type 0} (units : D → List (List ℕ)) (lost : D → Bool) (failures : D → Failures) (p : Parts D) (slot : ℕ) (bytes : List ℕ) (writes : List Intended) (parity : Option (List ℕ)) (v : PartsView)
    → view_of units lost failures p ≡ v → IsSlotPlan v.groups (drive_cells v) slot bytes writes parity → IsSlotPlan p.groups (cells_in units lost p) slot bytes writes parity
planned units lost failures p slot bytes writes parity v seen plan =
    subst (λ (c : Cells). IsSlotPlan p.groups c slot bytes writes parity) (view_cells units lost failures p)
    (subst (λ (z : PartsView). IsSlotPlan z.groups (drive_cells z) slot bytes writes parity) (sym seen) plan)

-- and it is a step's from one state to another, where that gives the slot the unit which the bytes are
pub micro_of : {D : Type 0} (units : D → List (List ℕ)) (lost : D → Bool) (failures : D → Failures) (p : Parts D) (F G : Flat) (slot : ℕ) (bytes : List ℕ) (unit : Stored) (list : List Micro) (v : PartsView)
    → IsUnitList v slot bytes list → view_of units lost failures p ≡ v → p.note ≡ None → IsSlot v.groups slot → length bytes ≡ unit_bytes v.groups → IsUnit bytes unit
    → G.groups ≡ F.groups → G.units ≡ put F.units slot (Some unit) → IsMicro units lost p F G list
micro_of units lost failures p F G slot bytes unit list v l seen none is long holds groups given = record {
  note = l.note;
  expected = plan.expected;
  writes = l.writes;
  unit = unit;
  none = none;
  slot = subst (λ n. IsSlot p.groups n) (sym l.of) (subst (λ (z : PartsView). IsSlot z.groups slot) (sym seen) is);
  long = ap length l.holds ∙ long ∙ ap (λ (z : PartsView). unit_bytes z.groups) (sym seen);
  listed = l.listed;
  plan = plan.plan;
  parity = plan.parity_is;
  noted = plan.noted;
  is = subst (λ u. IsUnit u unit) (sym l.holds) holds;
  groups = groups;
  units_are = given ∙ ap (λ n. put F.units n (Some unit)) (sym l.of);
}
  where
    plan : IsSlotPlan p.groups (cells_in units lost p) l.note.slot l.note.unit.items l.writes (option_map (λ x. x.items) l.note.parity)
    plan = subst (λ u. IsSlotPlan p.groups (cells_in units lost p) l.note.slot u l.writes (option_map (λ x. x.items) l.note.parity)) (sym l.holds)
        (subst (λ n. IsSlotPlan p.groups (cells_in units lost p) n bytes l.writes (option_map (λ x. x.items) l.note.parity)) (sym l.of)
        (planned units lost failures p slot bytes l.writes (option_map (λ x. x.items) l.note.parity) v seen l.plan))

-- a place that a slot's write may touch is one of its site
own_of : (site : Site) (x : Place) → IsOwn site x → IsOf site x
own_of (Pair p q) x own = own
own_of (InStripe row parity i) x (inl home) = (i, home)
own_of (InStripe row parity i) x (inr other) = (parity, other)

-- the writes in the list are those of its plan
writes_are : (note : Note) (writes : List Intended) (list : List Micro) → IsNotedList note writes list → writes_in list ≡ writes
writes_are note writes list l =
    ap writes_in l.is ∙ writes_append l.puts (NoteClear ∷ []) ∙ append-nil (writes_in l.puts) ∙ l.writes_are

-- it can be carried out over parts with that view
pub can_run : {D : Type 0} (units : D → List (List ℕ)) (lost : D → Bool) (failures : D → Failures) (b : ArrayView) (slot : ℕ) (bytes : List ℕ) (list : List Micro) → IsUnitList b.parts slot bytes list
    → CanRun units lost failures b list
can_run units lost failures b slot bytes list l p seen fit w has =
    let plan = planned units lost failures p slot bytes l.writes (option_map (λ x. x.items) l.note.parity) b.parts seen l.plan in
    let own = plan.plan.planned.own w (subst (λ ws. Contains ws w) (writes_are l.note l.writes list l.listed) has) in (
      site_places units p.groups p.drives.items slot own.0.0 fit.groups fit.drives own.0.1 w.place (own_of own.0.0 w.place own.0.2),
      ap length own.1 ∙ plan.plan.sized w.place,
    )

-- the list of a fill
pub fill_listed : {D : Type 0} (units : D → List (List ℕ)) (lost : D → Bool) (failures : D → Failures) (a b : ArrayView) (F : Flat) (w slot : ℕ) (x : Content) (bytes : List ℕ) (list : List Micro)
    → fill_reason a slot ≡ None → OnlyLoses a b → IsUnitList b.parts slot bytes list → IsSlot b.parts.groups slot → length bytes ≡ unit_bytes b.parts.groups → IsUnit bytes (waiting_unit a.parts.groups.payload x)
    → (IsLost b.parts slot → ⊥) → ShowsArray a F → F.held slot (Worker w) ≡ true → IsStepList units lost failures b F slot (Fill w slot x) (λ answer. answer ≡ Filled slot) list
fill_listed units lost failures a b F w slot x bytes list none loses l is long holds there shows held = record {
  before = fared F b.parts;
  after = fared (ticketed F w slot (Fresh x)) b.parts;
  answer = Filled slot;
  bytes = bytes;
  unit = waiting_unit F.groups.payload x;
  expected = fill_passes a F w slot none shows held;
  lost_are = refl;
  failures_are = refl;
  listed = l;
  front = holds.0;
  given = refl;
  leaves = lost_leaves a F b.parts shows loses.1;
  shows = still_shown a b F shows loses;
  took = refl;
  case = (
    refl,
    fill_passes a F w slot none shows held,
    λ gone. there (gone_back F a.parts b.parts slot shows.tables.groups loses.1.rest gone),
    leaves (ticketed F w slot (Fresh x)) a.parts b.parts shows.tables.lost shows.tables.failures loses.1.fares,
  );
  micro = λ p seen note. micro_of units lost failures p (fared F b.parts) (fared (ticketed F w slot (Fresh x)) b.parts) slot bytes (waiting_unit F.groups.payload x) list b.parts l seen note is long
      (subst (λ (z : Groups). IsUnit bytes (waiting_unit z.payload x)) (sym shows.tables.groups) holds) refl refl;
}

-- what a plan of a slot's unit answers for a fill
pub fill_flat : {D : Type 0} (units : D → List (List ℕ)) (lost : D → Bool) (failures : D → Failures) (a b : ArrayView) (slot : ℕ) (x : Content) (bytes : List ℕ) (result : Result (Vec Micro Global) Refusal)
    → fill_reason a slot ≡ None → length bytes ≡ unit_bytes a.parts.groups → IsUnit bytes (waiting_unit a.parts.groups.payload x) → OnlyLoses a b → IfOk result (λ list. IsUnitList b.parts slot bytes list.items)
    → OnOk result (IsLost b.parts slot → ⊥) → IfErr result (λ e. ((e ≡ Memory) × (b ≡ a)) ⊎ FoundGone a.parts b.parts slot e) → (F : Flat) (w : ℕ) → ShowsArray a F → F.held slot (Worker w) ≡ true
    → MatchResult result (λ list. IsStepList units lost failures b F slot (Fill w slot x) (λ answer. answer ≡ Filled slot) list.items)
    (λ e. MayRefuse e (FillPasses F w slot) ((G : Flat) × FillCase F w slot x (Refused e) G × ShowsArray b G))
fill_flat units lost failures a b slot x bytes (Ok list) none long holds loses l there err F w shows held =
    fill_listed units lost failures a b F w slot x bytes list.items none loses l (subst (λ (z : Groups). IsSlot z slot) (sym loses.1.rest.groups) (fill_slot a slot none))
    (long ∙ ap (λ (z : Groups). unit_bytes z) (sym loses.1.rest.groups)) holds there shows held
fill_flat units lost failures a b slot x bytes (Err e) none long holds loses l there (inl needs) F w shows held =
    subst (λ q. MayRefuse q (FillPasses F w slot) ((G : Flat) × FillCase F w slot x (Refused q) G × ShowsArray b G)) (sym needs.0) (fill_passes a F w slot none shows held)
fill_flat units lost failures a b slot x bytes (Err e) none long holds loses l there (inr gone) F w shows held =
    as_refused e (FillPasses F w slot) (λ G. FillCase F w slot x (Refused e) G) b (with_parts a b.parts) loses.0 (fill_gone a b.parts F w slot x e none gone shows held)

-- and that it can be carried out
pub run_flat : {D : Type 0} (units : D → List (List ℕ)) (lost : D → Bool) (failures : D → Failures) (b : ArrayView) (slot : ℕ) (bytes : List ℕ) (result : Result (Vec Micro Global) Refusal)
    → IfOk result (λ list. IsUnitList b.parts slot bytes list.items) → IfOk result (λ list. CanRun units lost failures b list.items)
run_flat units lost failures b slot bytes (Ok list) l = can_run units lost failures b slot bytes list.items l
run_flat units lost failures b slot bytes (Err e) l = tt

-- and which unit it gives its slot
pub list_flat : (b : ArrayView) (slot : ℕ) (bytes : List ℕ) (result : Result (Vec Micro Global) Refusal) → IfOk result (λ list. IsUnitList b.parts slot bytes list.items)
    → IfOk result (λ list. IsListFor b.parts slot list.items)
list_flat b slot bytes (Ok list) l = (bytes, l)
list_flat b slot bytes (Err e) l = tt
