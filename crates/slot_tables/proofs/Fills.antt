-- A slot is made to wait, and a fill of what is seen of an array is the flat machine's case.
use Rattle.std.proofs.Common.{◌≡◌, ◌≢◌, ℕ, ◌/◌, ◌<◌, true, length, refl, sym, ap, ◌∙◌, subst, arith, ◌⊎◌, inl, inr, Option, Some, None}
use Rattle.std.proofs.lemmas.List.{length-set, get_or-set_same, get_or-set_other}
use Rattle.std.proofs.lemmas.Bool.{cases_eq}
use Rattle.std.proofs.lemmas.Option.{same_Some}
use Rattle.map_join.specs.declared.records.Record.{Record}
use Rattle.extents.specs.declared.header.Kind.{Kind}
use Rattle.map_join.specs.Record.{record_of}
use Rattle.extent_groups.specs.declared.class.Class.{Class}
use Rattle.extent_groups.specs.declared.class.Class.TheVariants.{Mirrored, Parity}
use Rattle.extent_groups.specs.Groups.{Groups}
use Rattle.unit_store.specs.Slots.{IsSlot}
use Rattle.extent_groups.specs.Stores.{AreDrives}
use Rattle.unit_store.specs.Views.{PartsView, Shows, SameTables, WasPut, FoundGone, DrivesFare, drive_units}
use Rattle.flat_machine.specs.declared.refusal.Refusal.{Refusal}
use Rattle.extent_groups.specs.Groups.{group_at}
use Rattle.flat_machine.specs.Groups.{class_at}
use Rattle.flat_machine.specs.Flat.{Flat, Content, IsSized, kind_of, Worker, Ticket, Waiting, Fresh, content_of, Stored, waiting_unit, put, turned, class_of, IsArrays, IsArrayHeld}
use Rattle.flat_machine.specs.Steps.{Fill, Filled, Refused}
use Rattle.flat_machine.specs.Cases.{FillCase, FillPasses, ticketed}
use Rattle.flat_machine.proofs.Pairs.{put_here, put_else, turned_else, IsJust, turned_free}
use Rattle.slot_tables.specs.Changes.{wait_view, fill_view, fill_reason, fill_reason_of, MayRefuse}
use Rattle.slot_tables.specs.Views.{Kept, Nothing, Pending, Moving, Newest, Unmade, ArrayView, with_parts, kept_at, key_at, is_kept, is_waiting, IsWhole}
use Rattle.slot_tables.specs.Represents.{ArraySlot, IsTicketOf, InTables, ShowsArray}
use Rattle.slot_tables.proofs.Wholes.{whole_parts, slot_of_class}
use Rattle.slot_tables.proofs.Fares.{fared, itself, leaves, gone_as, gone_back, lost_shows, lost_leaves}
use Rattle.slot_tables.proofs.Slots.{ticket_slot, slot_same, one_slot, shows_after}
use Rattle.slot_tables.proofs.Kepts.{waiting_made, kept_iff, unkept, waiting_newest}
use Rattle.flat_machine.proofs.Tickets.{unheld}

-- the class of a slot is what is seen of it
pub class_seen : (a : ArrayView) (F : Flat) (s : ℕ) → ShowsArray a F → class_of F s ≡ class_at a.parts.groups s
class_seen a F s shows = ap (λ z. class_at z s) shows.tables.groups

-- an array is whole after a slot was made to wait
pub wait_whole : (a : ArrayView) (s : ℕ) (kept : Kept) → s < 65536 → kept_at a s ≡ Nothing
    → is_waiting kept ≡ true → ((r : Record) (k : Kind) → kept ≡ Moving r k → r.hop < 65535) → class_at a.parts.groups s ≢ None → IsWhole a → IsWhole (wait_view a s kept)
wait_whole a s kept inside free waits moves class whole = record {
  room = record { kept = length-set a.kept s kept ∙ whole.room.kept; keys = whole.room.keys };
  blocks = whole.blocks;
  keys = whole.keys;
  fit = whole.fit;
  newest = newest;
  only = λ t b is. only t b is (cases_eq t s);
  moving = λ t r k is. moving t r k is (cases_eq t s);
  there = λ t kept made. there t kept made (cases_eq t s);
  unmade = λ t is. unmade t is (cases_eq t s);
  groups = whole.groups;
  agree = whole.agree;
  rows = whole.rows;
  wide = whole.wide;
  drives = whole.drives;
}
  where
    newest : (b : ℕ) → 0 < key_at a b → kept_at (wait_view a s kept) (record_of b (key_at a b)).place ≡ Newest b
    newest b some =
        let at = whole.newest b some in
        let apart : (record_of b (key_at a b)).place ≢ s = λ e.
        let no : Newest b ≡ Nothing = sym at ∙ ap (kept_at a) e ∙ free in absurd (cc)
        in
        get_or-set_other a.kept s (record_of b (key_at a b)).place kept Nothing apart ∙ at

    kept_here : kept_at (wait_view a s kept) s ≡ kept
    kept_here = let room = whole.room.kept in get_or-set_same a.kept s kept Nothing (omega arith)

    only : (t b : ℕ) → kept_at (wait_view a s kept) t ≡ Newest b → (t ≡ s) ⊎ (t ≡ s → ⊥) → (0 < key_at a b) × ((record_of b (key_at a b)).place ≡ t)
    only t b is (inl e) = absurd (waiting_newest kept b waits (sym (ap (kept_at (wait_view a s kept)) e ∙ kept_here) ∙ is))
    only t b is (inr ne) = whole.only t b (sym (get_or-set_other a.kept s t kept Nothing ne) ∙ is)

    moving : (t : ℕ) (r : Record) (k : Kind) → kept_at (wait_view a s kept) t ≡ Moving r k → (t ≡ s) ⊎ (t ≡ s → ⊥) → r.hop < 65535
    moving t r k is (inl e) = moves r k (sym (ap (kept_at (wait_view a s kept)) e ∙ kept_here) ∙ is)
    moving t r k is (inr ne) = whole.moving t r k (sym (get_or-set_other a.kept s t kept Nothing ne) ∙ is)

    there : (t : ℕ) → kept_at (wait_view a s kept) t ≢ Nothing → kept_at (wait_view a s kept) t ≢ Unmade → (t ≡ s) ⊎ (t ≡ s → ⊥) → class_at a.parts.groups t ≢ None
    there t some made (inl e) = subst (λ n. class_at a.parts.groups n ≢ None) (sym e) class
    there t some made (inr ne) = whole.there t (λ e. some (get_or-set_other a.kept s t kept Nothing ne ∙ e)) (λ e. made (get_or-set_other a.kept s t kept Nothing ne ∙ e))

    unmade : (t : ℕ) → kept_at (wait_view a s kept) t ≡ Unmade → (t ≡ s) ⊎ (t ≡ s → ⊥) → group_at a.parts.groups (t / 128) ≡ None
    unmade t is (inl e) = absurd (waiting_made kept waits (sym (ap (kept_at (wait_view a s kept)) e ∙ kept_here) ∙ is))
    unmade t is (inr ne) = whole.unmade t (sym (get_or-set_other a.kept s t kept Nothing ne) ∙ is)

-- the tables after a slot was made to wait are the state's in which it does, with the drives of the parts then
pub wait_tables : (a : ArrayView) (v : PartsView) (F : Flat) (w s : ℕ) (kept : Kept) (c : Waiting) → s < 65536 → is_waiting kept ≡ true → IsTicketOf kept (Some c)
    → SameTables a.parts v → DrivesFare a.parts v → IsWhole a → ShowsArray a F → (IsArrayHeld F s → ⊥)
    → InTables (wait_view (with_parts a v) s kept) (fared (ticketed F w s c) v)
wait_tables a v F w s kept c inside waits ticket same fares whole shows free = record {
  groups = shows.tables.groups ∙ sym same.groups;
  drives = shows.tables.drives ∙ sym many;
  lost = refl;
  failures = refl;
  log = shows.tables.log;
  slots = one_slot P s here rest;
}
  where
    many : length v.drives ≡ length a.parts.drives
    many = fares.many

    P : ℕ → Type 0
    P t = ArraySlot t (kept_at (wait_view a s kept) t) ((ticketed F w s c).held t) ((ticketed F w s c).tickets t)

    kept_room : s < length a.kept
    kept_room = let e = whole.room.kept in omega arith

    just : IsJust IsArrays (turned F.held s (Worker w) (Ticket w) s) (Ticket w)
    just = turned_free IsArrays F.held s (Worker w) (Ticket w) (λ k of. unheld (F.held s k) (λ e. free (k, of, e)))

    here : P s
    here = slot_same s kept (kept_at (wait_view a s kept) s) (turned F.held s (Worker w) (Ticket w) s) (turned F.held s (Worker w) (Ticket w) s) (Some c) (put F.tickets s (Some c) s)
        (get_or-set_same a.kept s kept Nothing kept_room) refl (put_here F.tickets s (Some c))
        (ticket_slot s kept (turned F.held s (Worker w) (Ticket w) s) w (Some c) waits just ticket)

    rest : (t : ℕ) → (t ≡ s → ⊥) → P t
    rest t ne = slot_same t (kept_at a t) (kept_at (wait_view a s kept) t) (F.held t) (turned F.held s (Worker w) (Ticket w) t) (F.tickets t) (put F.tickets s (Some c) t)
        (get_or-set_other a.kept s t kept Nothing ne) (turned_else F.held s (Worker w) (Ticket w) t ne) (put_else F.tickets s (Some c) t ne) (shows.tables.slots t)

-- the units of the state in which a slot waits
pub wait_units : (F : Flat) (w s : ℕ) (c : Waiting) (v : PartsView) (u : Stored) → waiting_unit F.groups.payload (content_of c) ≡ u → Shows v (put F.units s (Some u))
    → Shows v (ticketed F w s c).units
wait_units F w s c v u is shows = subst (λ (x : Stored). Shows v (put F.units s (Some x))) (sym is) shows

-- a slot that can be filled is in a mirrored group, and nothing is kept of it
pub record CanFill (a : ArrayView) (s : ℕ) : Type 0 where
  pub class : class_at a.parts.groups s ≡ Some Mirrored
  pub free : kept_at a s ≡ Nothing

pub can_fill : (a : ArrayView) (s : ℕ) → fill_reason a s ≡ None → CanFill a s
can_fill a s none = go (class_at a.parts.groups s) refl (kept_at a s) refl none
  where
    go : (c : Option Class) → class_at a.parts.groups s ≡ c → (k : Kept) → kept_at a s ≡ k → fill_reason_of c k ≡ None → CanFill a s
    go (Some Mirrored) is_c Nothing is_k e = record { class = is_c; free = is_k }
    go (Some Mirrored) is_c (Pending k) is_k e = absurd (cc)
    go (Some Mirrored) is_c (Moving r k) is_k e = absurd (cc)
    go (Some Mirrored) is_c (Newest b) is_k e = absurd (cc)
    go (Some Mirrored) is_c Unmade is_k e = absurd (cc)
    go (Some Parity) is_c k is_k e = absurd (cc)
    go None is_c k is_k e = absurd (cc)

-- and whole after a fill
pub fill_whole : (a : ArrayView) (v : PartsView) (s : ℕ) (u : Stored) → s < 65536 → fill_reason a s ≡ None → WasPut a.parts v s u → AreDrives drive_units v.groups v.drives
    → (k : Kind) → IsWhole a → IsWhole (fill_view (with_parts a v) s k)
fill_whole a v s u inside none was drives k whole =
    let can = can_fill a s none in
    wait_whole (with_parts a v) s (Pending k) inside can.free refl (λ r l e. absurd (cc))
    (subst (λ (g : Groups). class_at g s ≢ None) (sym was.rest.groups) (λ e. let bad : Some Mirrored ≡ None = sym can.class ∙ e in cc))
    (whole_parts a v was.rest was.fares.many drives whole)

-- where nothing speaks against it, the fill is the flat machine's
pub fill_passes : (a : ArrayView) (F : Flat) (w s : ℕ) → fill_reason a s ≡ None → ShowsArray a F → F.held s (Worker w) ≡ true → FillPasses F w s
fill_passes a F w s none shows held = let can = can_fill a s none in (held, class_seen a F s shows ∙ can.class, unkept a F s can.free shows)

pub fill_slot : (a : ArrayView) (s : ℕ) → fill_reason a s ≡ None → IsSlot a.parts.groups s
fill_slot a s none = slot_of_class a.parts.groups s (λ e. let bad : Some Mirrored ≡ None = sym (can_fill a s none).class ∙ e in cc)

pub fill_case : (a : ArrayView) (v : PartsView) (F : Flat) (w s : ℕ) (x : Content) → s < 65536 → fill_reason a s ≡ None → IsSized a.parts.groups.payload x
    → WasPut a.parts v s (waiting_unit a.parts.groups.payload x) → IsWhole a → ShowsArray a F → F.held s (Worker w) ≡ true
    → (G : Flat) × (FillCase F w s x (Filled s) G) × (ShowsArray (fill_view (with_parts a v) s (kind_of x)) G)
fill_case a v F w s x inside none long was whole shows held =
    let passes = fill_passes a F w s none shows held in
    let case : FillCase F w s x (Filled s) (fared (ticketed F w s (Fresh x)) v) = (
      refl,
      passes,
      λ gone. was.there (gone_back F a.parts v s shows.tables.groups was.rest gone),
      leaves (ticketed F w s (Fresh x)) a.parts v shows.tables.lost shows.tables.failures was.fares,
    ) in (
      fared (ticketed F w s (Fresh x)) v,
      case,
      shows_after a (fill_view (with_parts a v) s (kind_of x)) F (fared (ticketed F w s (Fresh x)) v) (Fill w s x) (Filled s) shows
          (inside, subst (λ (z : Groups). IsSized z.payload x) (sym shows.tables.groups) long) case shows.history.map
          (wait_units F w s (Fresh x) v (waiting_unit a.parts.groups.payload x)
          (ap (λ (z : Groups). waiting_unit z.payload x) shows.tables.groups) (was.shows F.units shows.units))
          (wait_tables a v F w s (Pending (kind_of x)) (Fresh x) inside refl (x, refl, refl) was.rest was.fares whole shows passes.2),
    )

-- the slot is lost
pub fill_gone : (a : ArrayView) (v : PartsView) (F : Flat) (w s : ℕ) (x : Content) (q : Refusal) → fill_reason a s ≡ None → FoundGone a.parts v s q → ShowsArray a F → F.held s (Worker w) ≡ true
    → MayRefuse q (FillPasses F w s) ((G : Flat) × FillCase F w s x (Refused q) G × ShowsArray (with_parts a v) G)
fill_gone a v F w s x q none found shows held =
    subst (λ p. MayRefuse p (FillPasses F w s) ((G : Flat) × FillCase F w s x (Refused p) G × ShowsArray (with_parts a v) G)) (sym found.reported) (
      fared F v,
      (refl, fill_passes a F w s none shows held, gone_as F a.parts v s shows.tables.groups found.loses.rest found.gone, lost_leaves a F v shows found.loses),
      lost_shows a F v shows found.loses,
    )

-- and where something does, it is the flat machine's refusal
pub fill_refused : (a : ArrayView) (F : Flat) (w s : ℕ) (x : Content) (r : Refusal) → fill_reason a s ≡ Some r → ShowsArray a F → F.held s (Worker w) ≡ true
    → MayRefuse r (FillPasses F w s) ((G : Flat) × FillCase F w s x (Refused r) G × ShowsArray a G)
fill_refused a F w s x r some shows held = go (class_at a.parts.groups s) refl (kept_at a s) refl
  where
    P : Refusal → Type 0
    P q = MayRefuse q (FillPasses F w s) ((G : Flat) × FillCase F w s x (Refused q) G × ShowsArray a G)

    by_cases : (c : Option Class) → class_of F s ≡ c → (k : Kept) → kept_at a s ≡ k → fill_reason_of c k ≡ Some r → P r
    by_cases None is_c k is_k e = subst P (same_Some _ _ e) (F, (held, is_c, itself F), shows)
    by_cases (Some Parity) is_c k is_k e = subst P (same_Some _ _ e) (F, (held, is_c, itself F), shows)
    by_cases (Some Mirrored) is_c Nothing is_k e = absurd (cc)
    by_cases (Some Mirrored) is_c (Pending k) is_k e = subst P (same_Some _ _ e) (F, (held, is_c, (kept_iff a F s shows).0 (ap is_kept is_k), itself F), shows)
    by_cases (Some Mirrored) is_c (Moving m k) is_k e = subst P (same_Some _ _ e) (F, (held, is_c, (kept_iff a F s shows).0 (ap is_kept is_k), itself F), shows)
    by_cases (Some Mirrored) is_c Unmade is_k e = subst P (same_Some _ _ e) (F, (held, is_c, (kept_iff a F s shows).0 (ap is_kept is_k), itself F), shows)
    by_cases (Some Mirrored) is_c (Newest b) is_k e = subst P (same_Some _ _ e) (F, (held, is_c, (kept_iff a F s shows).0 (ap is_kept is_k), itself F), shows)

    go : (c : Option Class) → class_at a.parts.groups s ≡ c → (k : Kept) → kept_at a s ≡ k → P r
    go c is_c k is_k = by_cases c (class_seen a F s shows ∙ is_c) k is_k (sym (ap (λ o. fill_reason_of o (kept_at a s)) is_c ∙ ap (fill_reason_of c) is_k) ∙ some)

-- equal arrays are whole together
pub as_whole : (b a : ArrayView) → b ≡ a → IsWhole a → IsWhole b
as_whole b a e whole = subst IsWhole (sym e) whole

-- what holds of some state for one array does for an equal one
pub as_shown : (P : Flat → Type 0) (b a : ArrayView) → b ≡ a → (G : Flat) × (P G) × (ShowsArray a G) → (G : Flat) × (P G) × (ShowsArray b G)
as_shown P b a e x = (x.0, x.1, subst (λ (v : ArrayView). ShowsArray v x.0) (sym e) x.2)
