-- An array that is put together from parts and a map keeps what every array keeps, and represents the restarted state.
use Rattle.std.proofs.Common.{◌≡◌, ◌≢◌, ℕ, ◌^◌, ◌<◌, ◌≤◌, ◌==◌, ◌&&◌, nat_lt, Bool, true, false, length, refl, sym, ap, ◌∙◌, subst, arith, ◌⊎◌, inl, inr, None}
use Rattle.std.proofs.lemmas.Bool.{cases_eq}
use Rattle.std.proofs.lemmas.Bool.Decides.{nat_tests}
use Rattle.map_join.specs.Record.{record_of}
use Rattle.extent_groups.specs.Groups.{Groups, Agree}
use Rattle.extent_groups.specs.Stores.{AreDrives}
use Rattle.unit_store.specs.Views.{PartsView, drive_units}
use Rattle.flat_machine.specs.Flat.{Flat, Block}
use Rattle.flat_machine.specs.Groups.{AreSizes, GroupsStand, class_at}
use Rattle.flat_machine.specs.History.{IsHistory}
use Rattle.flat_machine.specs.Restarted.{HasDistinctSlots, ReportMap, newest_places, restarted}
use Rattle.flat_machine.proofs.Restarts.{restarted_history}
use Rattle.slot_tables.specs.Views.{Kept, Nothing, Pending, Moving, Newest, Unmade, ArrayView, IsRoomy, IsWhole, kept_at, key_at}
use Rattle.slot_tables.specs.Represents.{ArraySlot, IsTicketOf, is_newest, is_shut, ShowsArray}
use Rattle.slot_tables.specs.Adopted.{IsKeptByMap, IsAdopted, HasParts}

-- the map's keys are keys of records
pub record AreKeysOf (keys : ℕ → ℕ) : Type 0 where
  pub least : (b : ℕ) → 0 < keys b → 2 ^ 32 ≤ keys b
  pub most : (b : ℕ) → keys b < 2 ^ 64

-- what is true of the parts alone
pub record ArePartsOf (v : PartsView) : Type 0 where
  pub sizes : AreSizes v.groups
  pub groups : GroupsStand v.groups (length v.drives)
  pub agree : Agree v.groups v.owners
  pub rows : length v.owners.rows ≡ length v.drives
  pub wide : v.owners.extents ≡ v.groups.extents
  pub drives : AreDrives drive_units v.groups v.drives

-- the newest place of a block is kept for it, and for no other
kept_newest : (groups : Groups) (keys : ℕ → ℕ) (b s : ℕ) (kept : Kept) → HasDistinctSlots groups keys → 0 < keys b → (record_of b (keys b)).place ≡ s → IsKeptByMap keys s kept → kept ≡ Newest b
kept_newest groups keys b s Nothing places some at placed = absurd (placed b some at)
kept_newest groups keys b s (Pending k) places some at placed = absurd placed
kept_newest groups keys b s Unmade places some at placed = absurd placed
kept_newest groups keys b s (Moving r k) places some at placed = absurd placed
kept_newest groups keys b s (Newest c) places some at placed = ap Newest (places.apart c b placed.0 some (placed.1 ∙ sym at))

pub adopted_whole : (v : PartsView) (keys : ℕ → ℕ) (a : ArrayView) → IsAdopted v keys a → AreKeysOf keys → HasDistinctSlots v.groups keys → ArePartsOf v → IsRoomy a → IsWhole a
adopted_whole v keys a is of places parts room = record {
  room = room;
  blocks = subst (λ (w : PartsView). w.groups.blocks ≤ 65536) (sym is.parts_are) parts.sizes.some_blocks.1;
  keys = λ b some. rw (is.keys_are b) (of.least b (rw (sym (is.keys_are b)) some));
  fit = λ b. rw (is.keys_are b) (of.most b);
  newest = λ b some. rw (is.keys_are b) (
      let has : 0 < keys b = rw (sym (is.keys_are b)) some in
      kept_newest v.groups keys b (record_of b (keys b)).place (kept_at a (record_of b (keys b)).place) places has refl (is.kept (record_of b (keys b)).place));
  only = λ s b kept. rw (is.keys_are b) (subst (IsKeptByMap keys s) kept (is.kept s));
  moving = λ s r k kept. absurd (subst (IsKeptByMap keys s) kept (is.kept s));
  there = λ s some made. rw (is.parts_are) (there s (kept_at a s) (is.kept s) some);
  unmade = λ s kept. absurd (subst (IsKeptByMap keys s) kept (is.kept s));
  groups = subst (λ (w : PartsView). GroupsStand w.groups (length w.drives)) (sym is.parts_are) parts.groups;
  agree = subst (λ (w : PartsView). Agree w.groups w.owners) (sym is.parts_are) parts.agree;
  rows = subst (λ (w : PartsView). length w.owners.rows ≡ length w.drives) (sym is.parts_are) parts.rows;
  wide = subst (λ (w : PartsView). w.owners.extents ≡ w.groups.extents) (sym is.parts_are) parts.wide;
  drives = subst (λ (w : PartsView). AreDrives drive_units w.groups w.drives) (sym is.parts_are) parts.drives;
}
  where
    there : (s : ℕ) (kept : Kept) → IsKeptByMap keys s kept → kept ≢ Nothing → class_at v.groups s ≢ None
    there s Nothing placed some = absurd (some refl)
    there s (Pending k) placed some = absurd placed
    there s Unmade placed some = absurd placed
    there s (Moving r k) placed some = absurd placed
    there s (Newest b) placed some = subst (λ n. class_at v.groups n ≢ None) placed.1 (places.slots b placed.0)

-- what the tables say of a slot
slot_says : (groups : Groups) (keys : ℕ → ℕ) (s : ℕ) (kept : Kept) → HasDistinctSlots groups keys → IsKeptByMap keys s kept → ArraySlot s kept (newest_places keys s) None
slot_says groups keys s kept places placed = record { blocks = λ b. blocks b kept placed; shut = λ g. not_shut kept placed g; waits = waits kept placed }
  where
    not_shut : (k : Kept) → IsKeptByMap keys s k → (g : ℕ) → false ≡ is_shut k s g
    not_shut Nothing p g = refl
    not_shut (Pending k) p g = refl
    not_shut (Moving r k) p g = refl
    not_shut (Newest b) p g = refl
    not_shut Unmade p g = absurd p

    waits : (k : Kept) → IsKeptByMap keys s k → IsTicketOf k None
    waits Unmade p = absurd p
    waits Nothing p = refl
    waits (Pending k) p = absurd p
    waits (Moving r k) p = absurd p
    waits (Newest b) p = refl

    both : (m n t : ℕ) → (0 < m → n ≡ t → ⊥) → (nat_lt 0 m && n == t) ≡ false
    both m n t never = go (nat_lt 0 m) (n == t) refl refl
      where
        go : (p q : Bool) → nat_lt 0 m ≡ p → (n == t) ≡ q → (p && q) ≡ false
        go false q e f = refl
        go true false e f = refl
        go true true e f = absurd (never (grind (arith, nat_tests)) (grind (arith, nat_tests)))

    here : (m n t : ℕ) → 0 < m → n ≡ t → (nat_lt 0 m && n == t) ≡ true
    here m n t some at = go (nat_lt 0 m) (n == t) (grind (arith, nat_tests)) (grind (arith, nat_tests))
      where
        go : (p q : Bool) → p ≡ true → q ≡ true → (p && q) ≡ true
        go p q e f = rw (e, f) refl

    same : (c b : ℕ) → c ≡ b → (c == b) ≡ true
    same c b e = grind (arith, nat_tests)

    other : (c b : ℕ) → (c ≡ b → ⊥) → (c == b) ≡ false
    other c b ne = grind (arith, nat_tests)

    blocks : (b : ℕ) (k : Kept) → IsKeptByMap keys s k → newest_places keys s (Block b) ≡ is_newest k b
    blocks b Nothing p = both (keys b) (record_of b (keys b)).place s (p b)
    blocks b (Pending k) p = absurd p
    blocks b Unmade p = absurd p
    blocks b (Moving r k) p = absurd p
    blocks b (Newest c) p = go (cases_eq c b)
      where
        go : (c ≡ b) ⊎ (c ≡ b → ⊥) → newest_places keys s (Block b) ≡ (c == b)
        go (inl e) = here (keys b) (record_of b (keys b)).place s (subst (λ n. 0 < keys n) e p.0) (subst (λ n. (record_of n (keys n)).place ≡ s) e p.1) ∙ sym (same c b e)
        go (inr ne) = both (keys b) (record_of b (keys b)).place s (λ some at. ne (places.apart c b p.0 some (p.1 ∙ sym at))) ∙ sym (other c b ne)

-- the array represents the restarted state
pub adopted_shows : (v : PartsView) (keys : ℕ → ℕ) (a : ArrayView) (F : Flat) → IsAdopted v keys a → HasDistinctSlots v.groups keys → ArePartsOf v → 3 ≤ length v.drives → length v.drives ≤ 16
    → HasParts v F → ReportMap F.groups F.units keys → ShowsArray a (restarted F keys a.log)
adopted_shows v keys a F is places parts least most has reports = record {
  history = subst (IsHistory (restarted F keys a.log)) (sym keys_are)
      (restarted_history F keys a.log (rw (has.groups) parts.sizes) (rw (has.drives) least) (rw (has.drives) most) (rw (has.groups, has.drives) parts.groups) reports is.log);
  units = rw (is.parts_are) has.units;
  tables = record {
    groups = rw (is.parts_are) has.groups;
    drives = rw (is.parts_are) has.drives;
    lost = rw (is.parts_are) has.lost;
    failures = rw (is.parts_are) has.failures;
    log = refl;
    slots = λ s. slot_says v.groups keys s (kept_at a s) places (is.kept s);
  };
}
  where
    keys_are : key_at a ≡ keys
    keys_are = λ i b. is.keys_are b i
