-- An array with one more drive, or with a member on another extent, is whole, and represents the state with the same.
use Rattle.std.proofs.Common.{◌≡◌, ◌≢◌, ℕ, ◌+◌, ◌/◌, ◌<◌, ◌≤◌, Bool, false, [], ◌∷◌, length, refl, sym, ap, ◌∙◌, subst, arith, inr, Option, Some, None}
use Rattle.std.specs.Prelude.{slice_get}
use Rattle.std.proofs.lemmas.List.{length-append}
use Rattle.extents.specs.Failures.{Failures, no_failures}
use Rattle.extents.specs.Owners.{Owners, with_owner}
use Rattle.extent_groups.specs.declared.class.Member.{Member}
use Rattle.extent_groups.specs.Groups.{Groups, group_at, members_of, with_group, swapped_in, Agree}
use Rattle.extent_groups.specs.Stores.{AreDrives}
use Rattle.extent_groups.proofs.Agreement.{agree_more}
use Rattle.extent_groups.proofs.Readiness.{rows_given}
use Rattle.unit_store.specs.Views.{PartsView, WasAdded, Shifted, NotShifted, ReportsUnmoved, drive_units, lost_of, failed_of}
use Rattle.flat_machine.specs.declared.refusal.Refusal.{Refusal}
use Rattle.flat_machine.specs.declared.refusal.Refusal.TheVariants.{NoGroup, BadMember, SameDrive, ExtentTaken, DriveLost, Gone}
use Rattle.flat_machine.specs.Groups.{GroupsStand, class_at}
use Rattle.flat_machine.specs.Flat.{Flat, put}
use Rattle.flat_machine.specs.Moves.{IsMoveReason, MovePasses, IsBeyondOf, IsFirstGone, moved_to, with_new_drive}
use Rattle.flat_machine.specs.Steps.{MoveExtent, MovedExtent, AddedDrive, Refused}
use Rattle.flat_machine.specs.Cases.{Leaves, MoveCase, AddCase, IsAllocating}
use Rattle.flat_machine.proofs.Regroups.{element, class_same, none_still, swapped_stand, add_keeps}
use Rattle.slot_tables.specs.Changes.{MayRefuse}
use Rattle.slot_tables.specs.Views.{ArrayView, with_parts, IsWhole, key_at}
use Rattle.slot_tables.specs.Represents.{InTables, ShowsArray}
use Rattle.slot_tables.proofs.Fares.{fared, itself, leaves, lost_shows, lost_leaves}
use Rattle.slot_tables.proofs.Slots.{shows_after}

pub added_whole : (a : ArrayView) (v : PartsView) (lost : Bool) (failures : Failures) → IsWhole a → WasAdded a.parts lost failures v → AreDrives drive_units v.groups v.drives
    → IsWhole (with_parts a v)
added_whole a v lost failures whole e drives = record {
  room = record { kept = whole.room.kept; keys = whole.room.keys ∙ ap (λ (z : Groups). z.blocks) (sym e.groups) };
  blocks = subst (λ (z : Groups). z.blocks ≤ 65536) (sym e.groups) whole.blocks;
  keys = whole.keys;
  fit = whole.fit;
  newest = whole.newest;
  only = whole.only;
  moving = whole.moving;
  there = λ s kept made. subst (λ (z : Groups). class_at z s ≢ None) (sym e.groups) (whole.there s kept made);
  unmade = λ s kept. subst (λ (z : Groups). group_at z (s / 128) ≡ None) (sym e.groups) (whole.unmade s kept);
  groups = subst (λ (z : Groups). GroupsStand z (length v.drives)) (sym e.groups) (record {
    table = whole.groups.table;
    there = λ g k m at. let y = whole.groups.there g k m at in let low = y.0 in let many = e.many in (omega arith, y.1);
  });
  agree = subst (λ (z : Groups). Agree z v.owners) (sym e.groups) (subst (Agree a.parts.groups) (sym e.owners) (agree_more a.parts.groups a.parts.owners whole.agree));
  rows = ap (λ (o : Owners). length o.rows) e.owners ∙ length-append a.parts.owners.rows _ ∙ ap (λ n. n + 1) whole.rows ∙ sym e.many;
  wide = ap (λ (o : Owners). o.extents) e.owners ∙ whole.wide ∙ ap (λ (z : Groups). z.extents) (sym e.groups);
  drives = drives;
}

-- the array with one more drive represents the state with one more
pub added_shows : (a : ArrayView) (v : PartsView) (F : Flat) (lost : Bool) (failures : Failures) → ShowsArray a F → WasAdded a.parts lost failures v → length a.parts.drives < 16
    → ShowsArray (with_parts a v) (with_new_drive F lost failures)
added_shows a v F lost failures shows e room = record {
  history = add_keeps F (key_at a) lost failures shows.history (subst (λ n. n < 16) (sym shows.tables.drives) room);
  units = e.shows F.units shows.units;
  tables = record {
    groups = shows.tables.groups ∙ sym e.groups;
    drives = ap (λ n. n + 1) shows.tables.drives ∙ sym e.many;
    lost = λ i d. lost_same d i;
    failures = λ i d. failures_same d i;
    log = shows.tables.log;
    slots = shows.tables.slots;
  };
}
  where
    lost_same : (d : ℕ) → put F.lost F.drives lost d ≡ lost_of v d
    lost_same d = ap (λ n. put F.lost n lost d) shows.tables.drives ∙ ap (λ f. put f (length a.parts.drives) lost d) shows.tables.lost ∙ sym (e.lost_are d)

    failures_same : (d : ℕ) → put F.failures F.drives failures d ≡ failed_of v d
    failures_same d = ap (λ n. put F.failures n failures d) shows.tables.drives ∙ ap (λ f. put f (length a.parts.drives) failures d) shows.tables.failures ∙ sym (e.failures_are d)

pub add_case : (F : Flat) (a : ArrayView) → ShowsArray a F → length a.parts.drives < 16 → AddCase F (AddedDrive (length a.parts.drives)) (with_new_drive F false no_failures)
add_case F a shows room = (sym shows.tables.drives, subst (λ n. n < 16) (sym shows.tables.drives) room, refl)

-- why a member can't be moved, stated over the flat state
pub reason_as : (a : ArrayView) (F : Flat) (g k : ℕ) (to : Member) (why : Option Refusal) → ShowsArray a F → IsMoveReason a.parts.groups (length a.parts.drives) g k to why
    → IsMoveReason F.groups F.drives g k to why
reason_as a F g k to why shows reason =
    subst (λ (z : Groups). IsMoveReason z F.drives g k to why) (sym shows.tables.groups)
    (subst (λ n. IsMoveReason a.parts.groups n g k to why) (sym shows.tables.drives) reason)

pub move_refused : (a : ArrayView) (F : Flat) (g k : ℕ) (to : Member) (r : Refusal) → IsMoveReason a.parts.groups (length a.parts.drives) g k to (Some r) → ShowsArray a F
    → MayRefuse r (IsAllocating F (MoveExtent g k to)) ((G : Flat) × MoveCase F g k to (Refused r) G × ShowsArray a G)
move_refused a F g k to NoGroup reason shows = (F, (reason_as a F g k to (Some NoGroup) shows reason, itself F), shows)
move_refused a F g k to BadMember reason shows = (F, (reason_as a F g k to (Some BadMember) shows reason, itself F), shows)
move_refused a F g k to SameDrive reason shows = (F, (reason_as a F g k to (Some SameDrive) shows reason, itself F), shows)
move_refused a F g k to ExtentTaken reason shows = (F, (reason_as a F g k to (Some ExtentTaken) shows reason, itself F), shows)
move_refused a F g k to _ reason shows = absurd reason

pub move_passes : (a : ArrayView) (F : Flat) (g k : ℕ) (to : Member) → IsMoveReason a.parts.groups (length a.parts.drives) g k to None → lost_of a.parts to.drive ≡ false → ShowsArray a F
    → MovePasses F g k to
move_passes a F g k to reason present shows = (reason_as a F g k to None shows reason, ap (λ f. f to.drive) shows.tables.lost ∙ present)

-- a member that couldn't be moved
pub move_stopped : (a : ArrayView) (v : PartsView) (F : Flat) (g k : ℕ) (to : Member) (r : Refusal) → MovePasses F g k to → NotShifted a.parts g k to v r → ShowsArray a F
    → MayRefuse r (IsAllocating F (MoveExtent g k to)) ((G : Flat) × MoveCase F g k to (Refused r) G × ShowsArray (with_parts a v) G)
move_stopped a v F g k to r passes is shows = go r is.reported
  where
    left : Leaves F (fared F v)
    left = lost_leaves a F v shows is.loses

    groups : v.groups ≡ F.groups
    groups = is.loses.rest.groups ∙ sym shows.tables.groups

    go : (r : Refusal) → ReportsUnmoved v g k to r → MayRefuse r (IsAllocating F (MoveExtent g k to)) ((G : Flat) × MoveCase F g k to (Refused r) G × ShowsArray (with_parts a v) G)
    go (DriveLost d) reported = (fared F v, (passes.0, reported.0, inr (ap F.lost reported.0 ∙ passes.1, reported.1, left)), lost_shows a F v shows is.loses)
    go (Gone s) reported = (
      fared F v,
      (
        passes,
        subst (λ (z : Groups). IsBeyondOf z (lost_of v) g k) groups reported.0,
        subst (λ (z : Groups). IsFirstGone z (lost_of v) g s) groups reported.1,
        left,
      ),
      lost_shows a F v shows is.loses,
    )
    go _ reported = absurd reported

module _ (a : ArrayView) (v : PartsView) (g k : ℕ) (to : Member) (reason : IsMoveReason a.parts.groups (length a.parts.drives) g k to None) (e : Shifted a.parts g k to v) where
  abbrev now : Groups
  now = with_group a.parts.groups g (swapped_in (group_at a.parts.groups g) k to)

  many : length v.drives ≡ length a.parts.drives
  many = e.fares.many

  abbrev was : Member
  was = (element (members_of a.parts.groups g) k reason.0).0

  member : slice_get (members_of a.parts.groups g) k ≡ Some was
  member = (element (members_of a.parts.groups g) k reason.0).1

  owners : v.owners ≡ with_owner (with_owner a.parts.owners was.drive was.extent None) to.drive to.extent (Some g)
  owners = e.owners was member

  pub moved_whole : IsWhole a → AreDrives drive_units v.groups v.drives → IsWhole (with_parts a v)
  moved_whole whole drives = record {
    room = record { kept = whole.room.kept; keys = whole.room.keys ∙ ap (λ (z : Groups). z.blocks) (sym e.groups) };
    blocks = subst (λ (z : Groups). z.blocks ≤ 65536) (sym e.groups) whole.blocks;
    keys = whole.keys;
    fit = whole.fit;
    newest = whole.newest;
    only = whole.only;
    moving = whole.moving;
    there = λ s kept made none.
        whole.there s kept made (sym (class_same a.parts.groups (length a.parts.drives) g k to whole.groups reason.0 reason.1 s) ∙ subst (λ (z : Groups). class_at z s ≡ None) e.groups none);
    unmade = λ s kept. subst (λ (z : Groups). group_at z (s / 128) ≡ None) (sym e.groups) (none_still a.parts.groups (length a.parts.drives) g k to whole.groups reason.0 reason.1 (s / 128) (whole.unmade s kept));
    groups = subst (λ (z : Groups). GroupsStand z (length v.drives)) (sym e.groups)
        (subst (GroupsStand now) (sym many) (swapped_stand a.parts.groups (length a.parts.drives) g k to whole.groups reason.0 reason.1));
    agree = e.agree;
    rows = ap (λ (o : Owners). length o.rows) owners
        ∙ rows_given (with_owner a.parts.owners was.drive was.extent None) (to ∷ []) (Some g) ∙ rows_given a.parts.owners (was ∷ []) None ∙ whole.rows ∙ sym many;
    wide = ap (λ (o : Owners). o.extents) owners ∙ whole.wide ∙ ap (λ (z : Groups). z.extents) (sym e.groups);
    drives = drives;
  }

  tables : (F : Flat) → ShowsArray a F → InTables (with_parts a v) (fared (moved_to F g k to) v)
  tables F shows = record {
    groups = ap (λ (z : Groups). with_group z g (swapped_in (group_at z g) k to)) shows.tables.groups ∙ sym e.groups;
    drives = shows.tables.drives ∙ sym many;
    lost = refl;
    failures = refl;
    log = shows.tables.log;
    slots = shows.tables.slots;
  }

  -- a member that was moved
  pub move_case : (F : Flat) → MovePasses F g k to → ShowsArray a F → (G : Flat) × MoveCase F g k to MovedExtent G × ShowsArray (with_parts a v) G
  move_case F passes shows = (
    fared (moved_to F g k to) v,
    case,
    shows_after a (with_parts a v) F (fared (moved_to F g k to) v) (MoveExtent g k to) MovedExtent shows tt case shows.history.map (e.shows F.units shows.units) (tables F shows),
  )
    where
      case : MoveCase F g k to MovedExtent (fared (moved_to F g k to) v)
      case = (
        passes,
        λ beyond. e.had (subst (λ (l : ℕ → Bool). IsBeyondOf a.parts.groups l g k) shows.tables.lost (subst (λ (z : Groups). IsBeyondOf z F.lost g k) shows.tables.groups beyond)),
        e.present,
        leaves (moved_to F g k to) a.parts v shows.tables.lost shows.tables.failures e.fares,
      )
