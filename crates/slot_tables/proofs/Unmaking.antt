-- An array whose group was dissolved is whole, and represents the state after it.
use Rattle.std.proofs.Common.{◌≡◌, ◌≢◌, ◌⊎◌, inl, inr, ℕ, ◌/◌, ◌%◌, ◌<◌, ◌≤◌, ◌==◌, ◌&&◌, ◌||◌, Bool, true, false, nat_lt, List, length, refl, sym, ap, ◌∙◌, subst, arith, None}
use Rattle.std.proofs.lemmas.Bool.{cases_eq, cases_lt}
use Rattle.std.proofs.lemmas.Bool.Decides.{nat_tests}
use Rattle.map_join.specs.Record.{record_of}
use Rattle.extents.specs.Owners.{Owners}
use Rattle.extent_groups.specs.Groups.{Groups, group_at, members_of, slots_in, with_group}
use Rattle.extent_groups.specs.Stores.{AreDrives}
use Rattle.extent_groups.proofs.GroupsLemmas.{group_same, group_other}
use Rattle.extent_groups.proofs.Readiness.{rows_given, extents_given}
use Rattle.unit_store.specs.Slots.{IsSlot}
use Rattle.unit_store.specs.Views.{PartsView, WasTaken, drive_units, drive_lost, drive_failures}
use Rattle.extent_groups.specs.Missing.{missing_of}
use Rattle.unit_store.specs.Losses.{failures_by_drive}
use Rattle.flat_machine.specs.Groups.{GroupsStand, class_at, class_below}
use Rattle.flat_machine.specs.Flat.{Flat, Holder, Worker, Block, Shut, IsArrays, for_block, for_shut}
use Rattle.flat_machine.specs.Moves.{IsIn, HasClaim, unmade}
use Rattle.flat_machine.specs.Steps.{Unmake, UnmadeGroup}
use Rattle.flat_machine.specs.Cases.{UnmakeCase}
use Rattle.flat_machine.proofs.Pairs.{turned_here}
use Rattle.flat_machine.proofs.Unmakes.{number_within, groups_fewer, none_still, in_group, held_in, held_past, held_else}
use Rattle.slot_tables.specs.Changes.{IsClosed, opened_view}
use Rattle.slot_tables.specs.Represents.{ArraySlot, InTables, ShowsArray, IsTicketOf}
use Rattle.slot_tables.specs.Views.{Kept, Nothing, Moving, Newest, Unmade, ArrayView, IsWhole, kept_at, key_at}
use Rattle.slot_tables.proofs.Fares.{itself}
use Rattle.slot_tables.proofs.Slots.{slot_same, shows_after}
use Rattle.slot_tables.proofs.Wholes.{slot_of_class}

-- how many slots the group has
abbrev pub count_of : ArrayView → ℕ → ℕ
count_of a g = slots_in a.parts.groups.segments (group_at a.parts.groups g)

module _ (a : ArrayView) (v : PartsView) (kept : List Kept) (g : ℕ) (whole : IsWhole a) (made : group_at a.parts.groups g ≢ None) (e : WasTaken a.parts g v)
    (closed : IsClosed g (count_of a g) a.kept kept) (free : (s : ℕ) → s / 128 ≡ g → s % 128 < count_of a g → kept_at a s ≡ Nothing) where
  within : g < length a.parts.groups.table
  within = number_within a.parts.groups g made

  many : length v.drives ≡ length a.parts.drives
  many = ap length e.drives

  -- what is kept for a ticket or a block stays, and was
  seated : (s : ℕ) (k : Kept) → (k ≡ Nothing → ⊥) → kept_at a s ≡ k → kept_at (opened_view a v kept) s ≡ k
  seated s k some is = closed.rest s (λ same low. some (sym is ∙ free s same low)) ∙ is

  -- a slot is one of the group's, or not
  either : (s : ℕ) → ((s / 128 ≡ g) × (s % 128 < count_of a g)) ⊎ (s / 128 ≡ g → s % 128 < count_of a g → ⊥)
  either s = go (cases_eq (s / 128) g) (cases_lt (s % 128) (count_of a g))
    where
      go : (s / 128 ≡ g) ⊎ (s / 128 ≡ g → ⊥) → (s % 128 < count_of a g) ⊎ (count_of a g ≤ s % 128) → ((s / 128 ≡ g) × (s % 128 < count_of a g)) ⊎ (s / 128 ≡ g → s % 128 < count_of a g → ⊥)
      go (inl same) (inl low) = inl (same, low)
      go (inl same) (inr high) = inr (λ q low. omega arith)
      go (inr ne) x = inr (λ q low. ne q)

  was : (s : ℕ) (k : Kept) → (k ≡ Unmade → ⊥) → kept_at (opened_view a v kept) s ≡ k → kept_at a s ≡ k
  was s k other is = go (either s)
    where
      go : ((s / 128 ≡ g) × (s % 128 < count_of a g)) ⊎ (s / 128 ≡ g → s % 128 < count_of a g → ⊥) → kept_at a s ≡ k
      go (inl in_it) = absurd (other (sym is ∙ closed.here s in_it.0 in_it.1))
      go (inr out) = sym (closed.rest s out) ∙ is

  there : (s : ℕ) → kept_at (opened_view a v kept) s ≢ Nothing → kept_at (opened_view a v kept) s ≢ Unmade → class_at (with_group a.parts.groups g None) s ≢ None
  there s some other = go (either s)
    where
      go : ((s / 128 ≡ g) × (s % 128 < count_of a g)) ⊎ (s / 128 ≡ g → s % 128 < count_of a g → ⊥) → class_at (with_group a.parts.groups g None) s ≢ None
      go (inl in_it) = absurd (other (closed.here s in_it.0 in_it.1))
      go (inr out) =
          let class : class_at a.parts.groups s ≢ None = whole.there s (λ is. some (closed.rest s out ∙ is)) (λ is. other (closed.rest s out ∙ is)) in
          let slot : IsSlot a.parts.groups s = slot_of_class a.parts.groups s class in
          λ none. class (sym (ap (λ o. class_below a.parts.groups.segments o (s % 128))
          (group_other a.parts.groups g (s / 128) None (λ same. out same (subst (λ h. s % 128 < slots_in a.parts.groups.segments (group_at a.parts.groups h)) same slot)))) ∙ none)

  open_number : (s : ℕ) → kept_at (opened_view a v kept) s ≡ Unmade → group_at (with_group a.parts.groups g None) (s / 128) ≡ None
  open_number s is = go (either s)
    where
      go : ((s / 128 ≡ g) × (s % 128 < count_of a g)) ⊎ (s / 128 ≡ g → s % 128 < count_of a g → ⊥) → group_at (with_group a.parts.groups g None) (s / 128) ≡ None
      go (inl in_it) = ap (group_at (with_group a.parts.groups g None)) in_it.0 ∙ group_same a.parts.groups g None within
      go (inr out) = none_still a.parts.groups g (s / 128) within (whole.unmade s (sym (closed.rest s out) ∙ is))

  pub unmade_whole : AreDrives drive_units v.groups v.drives → IsWhole (opened_view a v kept)
  unmade_whole drives = record {
    room = record { kept = closed.many ∙ whole.room.kept; keys = whole.room.keys ∙ ap (λ (z : Groups). z.blocks) (sym e.groups) };
    blocks = subst (λ (z : Groups). z.blocks ≤ 65536) (sym e.groups) whole.blocks;
    keys = whole.keys;
    fit = whole.fit;
    newest = λ b some. seated (record_of b (key_at a b)).place (Newest b) (λ q. cc) (whole.newest b some);
    only = λ s b is. whole.only s b (was s (Newest b) (λ q. cc) is);
    moving = λ s r k is. whole.moving s r k (was s (Moving r k) (λ q. cc) is);
    there = λ s some other. subst (λ (z : Groups). class_at z s ≢ None) (sym e.groups) (there s some other);
    unmade = λ s is. subst (λ (z : Groups). group_at z (s / 128) ≡ None) (sym e.groups) (open_number s is);
    groups = subst (λ (z : Groups). GroupsStand z (length v.drives)) (sym e.groups)
        (subst (GroupsStand (with_group a.parts.groups g None)) (sym many) (groups_fewer a.parts.groups (length a.parts.drives) g whole.groups within));
    agree = e.agree;
    rows = ap (λ (o : Owners). length o.rows) e.owners ∙ rows_given a.parts.owners (members_of a.parts.groups g) None ∙ whole.rows ∙ sym many;
    wide = ap (λ (o : Owners). o.extents) e.owners ∙ extents_given a.parts.owners (members_of a.parts.groups g) None ∙ whole.wide ∙ ap (λ (z : Groups). z.extents) (sym e.groups);
    drives = drives;
  }

  module _ (F : Flat) (w : ℕ) (shows : ShowsArray a F) (claimed : (s : ℕ) → IsIn F g s → HasClaim F w s) where
    made_in : group_at F.groups g ≢ None
    made_in = subst (λ (z : Groups). group_at z g ≢ None) (sym shows.tables.groups) made

    count_same : slots_in F.groups.segments (group_at F.groups g) ≡ count_of a g
    count_same = ap (λ (z : Groups). slots_in z.segments (group_at z g)) shows.tables.groups

    -- no holder of the array's holds a slot of the group
    none_held : (s : ℕ) (k : Holder) → IsArrays k → IsIn F g s → F.held s k ≡ false
    none_held s k of is = not_held (F.held s k) (λ has. (claimed s is).1 (k, of, has))
      where
        not_held : (q : Bool) → (q ≡ true → ⊥) → q ≡ false
        not_held true never = absurd (never refl)
        not_held false never = refl

    slot_in : (s : ℕ) → s / 128 ≡ g → nat_lt (s % 128) (slots_in F.groups.segments (group_at F.groups g)) ≡ true → ArraySlot s Unmade ((unmade F w g).held s) (F.tickets s)
    slot_in s same low =
        let is : IsIn F g s = in_group F (key_at a) w g shows.history made_in claimed s same low in
        let held = held_in F (key_at a) w g shows.history made_in claimed s same low in
        let below : s % 128 < count_of a g = let c = count_same in below_of (s % 128) (slots_in F.groups.segments (group_at F.groups g)) (count_of a g) low c in
        record {
          blocks = λ b. ap (λ (h : Holder → Bool). h (Block b)) held ∙ turned_here F.held s (Worker w) (Shut g) (Block b)
              ∙ ap (λ q. (q && true) || false) (none_held s (Block b) (for_block b) is);
          shut = λ h. ap (λ (k : Holder → Bool). k (Shut h)) held ∙ turned_here F.held s (Worker w) (Shut g) (Shut h)
              ∙ ap (λ q. (q && true) || (h == g)) (none_held s (Shut h) (for_shut h) is) ∙ ap (λ n. h == n) (sym same);
          waits = subst (λ k. IsTicketOf k (F.tickets s)) (free s same below) (shows.tables.slots s).waits;
        }
      where
        below_of : (i n m : ℕ) → nat_lt i n ≡ true → n ≡ m → i < m
        below_of i n m lt same = grind (arith, nat_tests)

    slots : (s : ℕ) → ArraySlot s (kept_at (opened_view a v kept) s) ((unmade F w g).held s) (F.tickets s)
    slots s = go (cases_eq (s / 128) g) (nat_lt (s % 128) (slots_in F.groups.segments (group_at F.groups g))) refl
      where
        above_of : (i n m : ℕ) → nat_lt i n ≡ false → n ≡ m → i < m → ⊥
        above_of i n m lt same low = absurd (grind (arith, nat_tests))

        below_of : (i n m : ℕ) → nat_lt i n ≡ true → n ≡ m → i < m
        below_of i n m lt same = grind (arith, nat_tests)

        out : (s / 128 ≡ g → s % 128 < count_of a g → ⊥) → (unmade F w g).held s ≡ F.held s → ArraySlot s (kept_at (opened_view a v kept) s) ((unmade F w g).held s) (F.tickets s)
        out off held = slot_same s (kept_at a s) (kept_at (opened_view a v kept) s) (F.held s) ((unmade F w g).held s) (F.tickets s) (F.tickets s) (closed.rest s off) held refl (shows.tables.slots s)

        go : (s / 128 ≡ g) ⊎ (s / 128 ≡ g → ⊥) → (q : Bool) → nat_lt (s % 128) (slots_in F.groups.segments (group_at F.groups g)) ≡ q
            → ArraySlot s (kept_at (opened_view a v kept) s) ((unmade F w g).held s) (F.tickets s)
        go (inr ne) q lt = out (λ same low. ne same) (held_else F (key_at a) w g shows.history made_in claimed s ne)
        go (inl same) false lt = out (λ x low. above_of (s % 128) (slots_in F.groups.segments (group_at F.groups g)) (count_of a g) lt count_same low)
            (held_past F (key_at a) w g shows.history made_in claimed s same lt)
        go (inl same) true lt = subst (λ k. ArraySlot s k ((unmade F w g).held s) (F.tickets s))
            (sym (closed.here s same (below_of (s % 128) (slots_in F.groups.segments (group_at F.groups g)) (count_of a g) lt count_same))) (slot_in s same lt)

    tables : InTables (opened_view a v kept) (unmade F w g)
    tables = record {
      groups = ap (λ (z : Groups). with_group z g None) shows.tables.groups ∙ sym e.groups;
      drives = shows.tables.drives ∙ sym many;
      lost = shows.tables.lost ∙ ap (missing_of drive_lost) (sym e.drives);
      failures = shows.tables.failures ∙ ap (failures_by_drive drive_failures) (sym e.drives);
      log = shows.tables.log;
      slots = slots;
    }

    case : UnmakeCase F w g (UnmadeGroup g) (unmade F w g)
    case = (refl, made_in, claimed, itself (unmade F w g))

    pub unmade_case : (G : Flat) × (UnmakeCase F w g (UnmadeGroup g) G) × (ShowsArray (opened_view a v kept) G)
    unmade_case = (
      unmade F w g,
      case,
      shows_after a (opened_view a v kept) F (unmade F w g) (Unmake w g) (UnmadeGroup g) shows tt case shows.history.map (e.shows F.units shows.units) tables,
    )
