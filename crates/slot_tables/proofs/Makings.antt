-- Making a group in what is seen of an array is the flat machine's case.
use Rattle.std.proofs.Common.{◌≡◌, ◌≢◌, ℕ, ◌≤◌, ◌/◌, ◌⊎◌, Bool, true, false, not, ◌==◌, ◌&&◌, length, List, refl, sym, ap, ◌∙◌, subst, inl, inr, Option, Some, None}
use Rattle.extents.specs.Owners.{Owners}
use Rattle.extent_groups.specs.declared.class.Class.{Class}
use Rattle.extent_groups.specs.declared.class.Member.{Member}
use Rattle.extent_groups.specs.Geometry.{slot_count}
use Rattle.extent_groups.specs.Groups.{Groups, group_at, with_group}
use Rattle.extent_groups.proofs.Readiness.{rows_given, extents_given}
use Rattle.extent_groups.specs.Stores.{AreDrives}
use Rattle.unit_store.specs.Views.{PartsView, Shows, Entered, FoundLost, drive_units}
use Rattle.flat_machine.specs.declared.refusal.Refusal.{Refusal}
use Rattle.flat_machine.specs.declared.refusal.Refusal.TheVariants.{BadMember, SameDrive, ExtentTaken, DriveLost, Full}
use Rattle.flat_machine.specs.Steps.{Make, MadeGroup, Refused}
use Rattle.flat_machine.specs.Groups.{AreMembers, AreUnowned, ArePresent, IsFirstLost, GroupsStand, IsLowestFree, IsTableFull, class_at}
use Rattle.map_join.specs.Record.{record_of}
use Rattle.std.proofs.lemmas.Bool.{cases_eq}
use Rattle.extent_groups.proofs.GroupsLemmas.{group_other}
use Rattle.flat_machine.proofs.Pairs.{unequal}
use Rattle.flat_machine.specs.Flat.{Flat, Block, Shut, Waiting}
use Rattle.flat_machine.specs.Cases.{made, wiped, MakeCase, MakePasses, AreFit, IsAllocating}
use Rattle.flat_machine.proofs.Makes.{groups_more, class_kept}
use Rattle.slot_tables.specs.Changes.{MayRefuse, opened_of, IsOpened, opened_view}
use Rattle.slot_tables.specs.Making.{IsMakeReason}
use Rattle.slot_tables.specs.Views.{Kept, Nothing, Pending, Moving, Newest, Unmade, ArrayView, with_parts, kept_at, key_at, IsWhole}
use Rattle.slot_tables.specs.Represents.{ArraySlot, InTables, ShowsArray, IsTicketOf, is_newest, is_shut}
use Rattle.slot_tables.proofs.Fares.{fared, itself, leaves, lost_shows, lost_leaves}
use Rattle.slot_tables.proofs.Slots.{shows_after}

-- the groups with one more, of tables that may differ
abbrev more : Groups → ℕ → Class → List Member → Groups
more groups g class members = with_group groups g (Some (record { class = class; members = members }))

-- opening changes what is kept only where that is a claim of a dissolved group
opened_same : (k : Kept) → (k ≡ Unmade → ⊥) → opened_of k ≡ k
opened_same Nothing made = refl
opened_same (Pending k) made = refl
opened_same (Moving r k) made = refl
opened_same (Newest b) made = refl
opened_same Unmade made = absurd (made refl)

opened_back : (j k : Kept) → (k ≡ Nothing → ⊥) → opened_of j ≡ k → j ≡ k
opened_back Nothing k some e = e
opened_back (Pending l) k some e = e
opened_back (Moving r l) k some e = e
opened_back (Newest b) k some e = e
opened_back Unmade k some e = absurd (some (sym e))

opened_never : (j : Kept) → opened_of j ≡ Unmade → ⊥
opened_never Nothing e = cc
opened_never (Pending k) e = cc
opened_never (Moving r k) e = cc
opened_never (Newest b) e = cc
opened_never Unmade e = cc

pub entered_whole : (a : ArrayView) (v : PartsView) (kept : List Kept) (g : ℕ) (class : Class) (members : List Member) → IsWhole a → IsLowestFree a.parts.groups g
    → IsMakeReason a members None → Entered a.parts g class members v → IsOpened g a.kept kept → AreDrives drive_units v.groups v.drives → IsWhole (opened_view a v kept)
entered_whole a v kept g class members whole lowest reason e opened drives = record {
  room = record { kept = opened.many ∙ whole.room.kept; keys = whole.room.keys ∙ ap (λ (z : Groups). z.blocks) (sym e.groups) };
  blocks = subst (λ (z : Groups). z.blocks ≤ 65536) (sym e.groups) whole.blocks;
  keys = whole.keys;
  fit = whole.fit;
  newest = λ b some. seated (record_of b (key_at a b)).place (Newest b) (λ e. cc) (whole.newest b some);
  only = λ s b is. whole.only s b (was s (Newest b) (λ e. cc) is);
  moving = λ s r k is. whole.moving s r k (was s (Moving r k) (λ e. cc) is);
  there = λ s some made. subst (λ (z : Groups). class_at z s ≢ None) (sym e.groups)
      (class_kept a.parts.groups g (record { class = class; members = members }) s lowest.free (there s some made (cases_eq (s / 128) g)));
  unmade = λ s is. subst (λ (z : Groups). group_at z (s / 128) ≡ None) (sym e.groups) (unmade s is (cases_eq (s / 128) g));
  groups = subst (λ (z : Groups). GroupsStand z (length v.drives)) (sym e.groups)
      (subst (GroupsStand (more a.parts.groups g class members)) (sym many)
      (groups_more a.parts.groups (length a.parts.drives) g (record { class = class; members = members }) whole.groups lowest.limit reason.0 reason.1 reason.2));
  agree = e.agree;
  rows = ap (λ (o : Owners). length o.rows) e.owners ∙ rows_given a.parts.owners members (Some g) ∙ whole.rows ∙ sym many;
  wide = ap (λ (o : Owners). o.extents) e.owners ∙ extents_given a.parts.owners members (Some g) ∙ whole.wide ∙ ap (λ (z : Groups). z.extents) (sym e.groups);
  drives = drives;
}
  where
    many : length v.drives ≡ length a.parts.drives
    many = e.fares.many

    -- what is kept for a ticket or a block stays, and was
    seated : (s : ℕ) (k : Kept) → (k ≡ Unmade → ⊥) → kept_at a s ≡ k → kept_at (opened_view a v kept) s ≡ k
    seated s k made is = go (cases_eq (s / 128) g)
      where
        go : (s / 128 ≡ g) ⊎ (s / 128 ≡ g → ⊥) → kept_at (opened_view a v kept) s ≡ k
        go (inl same) = opened.here s same ∙ ap opened_of is ∙ opened_same k made
        go (inr ne) = opened.rest s ne ∙ is

    was : (s : ℕ) (k : Kept) → (k ≡ Nothing → ⊥) → kept_at (opened_view a v kept) s ≡ k → kept_at a s ≡ k
    was s k some is = go (cases_eq (s / 128) g)
      where
        go : (s / 128 ≡ g) ⊎ (s / 128 ≡ g → ⊥) → kept_at a s ≡ k
        go (inl same) = opened_back (kept_at a s) k some (sym (opened.here s same) ∙ is)
        go (inr ne) = sym (opened.rest s ne) ∙ is

    there : (s : ℕ) → kept_at (opened_view a v kept) s ≢ Nothing → kept_at (opened_view a v kept) s ≢ Unmade → (s / 128 ≡ g) ⊎ (s / 128 ≡ g → ⊥) → class_at a.parts.groups s ≢ None
    there s some made (inl same) = whole.there s (λ e. some (opened.here s same ∙ ap opened_of e)) (λ e. some (opened.here s same ∙ ap opened_of e))
    there s some made (inr ne) = whole.there s (λ e. some (opened.rest s ne ∙ e)) (λ e. made (opened.rest s ne ∙ e))

    unmade : (s : ℕ) → kept_at (opened_view a v kept) s ≡ Unmade → (s / 128 ≡ g) ⊎ (s / 128 ≡ g → ⊥) → group_at (more a.parts.groups g class members) (s / 128) ≡ None
    unmade s is (inl same) = absurd (opened_never (kept_at a s) (sym (opened.here s same) ∙ is))
    unmade s is (inr ne) = group_other a.parts.groups g (s / 128) (Some (record { class = class; members = members })) ne ∙ whole.unmade s (sym (opened.rest s ne) ∙ is)

and_true : (b : Bool) → (b && true) ≡ b
and_true true = refl
and_true false = refl

opened_newest : (k : Kept) (c : ℕ) → is_newest k c ≡ is_newest (opened_of k) c
opened_newest Nothing c = refl
opened_newest (Pending k) c = refl
opened_newest (Moving r k) c = refl
opened_newest (Newest b) c = refl
opened_newest Unmade c = refl

opened_ticket : (k : Kept) (t : Option Waiting) → IsTicketOf k t → IsTicketOf (opened_of k) t
opened_ticket Nothing t is = is
opened_ticket (Pending k) t is = is
opened_ticket (Moving r k) t is = is
opened_ticket (Newest b) t is = is
opened_ticket Unmade t is = is

-- the tables after a group was entered are the state's in which it is made
entered_tables : (a : ArrayView) (v : PartsView) (kept : List Kept) (F : Flat) (g : ℕ) (class : Class) (members : List Member) → Entered a.parts g class members v → IsOpened g a.kept kept
    → ShowsArray a F → InTables (opened_view a v kept) (fared (made F class members g) v)
entered_tables a v kept F g class members e opened shows = record {
  groups = ap (λ z. more z g class members) shows.tables.groups ∙ sym e.groups;
  drives = shows.tables.drives ∙ sym many;
  lost = refl;
  failures = refl;
  log = shows.tables.log;
  slots = λ s. slots s (cases_eq (s / 128) g);
}
  where
    many : length v.drives ≡ length a.parts.drives
    many = e.fares.many

    -- the number's pairs go, and all others stay
    shut : (s : ℕ) (k : Kept) (h : ℕ) → F.held s (Shut h) ≡ is_shut k s h → (s / 128 ≡ g) ⊎ (s / 128 ≡ g → ⊥) → (j : Kept) → ((s / 128 ≡ g) → j ≡ opened_of k) → ((s / 128 ≡ g → ⊥) → j ≡ k)
        → (F.held s (Shut h) && not (h == g)) ≡ is_shut j s h
    shut s k h is (inl same) j here rest = ap (λ z. z && not (h == g)) is ∙ gone k ∙ sym (ap (λ z. is_shut z s h) (here same))
      where
        gone : (k : Kept) → (is_shut k s h && not (h == g)) ≡ is_shut (opened_of k) s h
        gone Nothing = refl
        gone (Pending k) = refl
        gone (Moving r k) = refl
        gone (Newest b) = refl
        gone Unmade = ap (λ n. (h == n) && not (h == g)) same ∙ never (h == g)
          where
            never : (q : Bool) → (q && not q) ≡ false
            never true = refl
            never false = refl
    shut s k h is (inr ne) j here rest = ap (λ z. z && not (h == g)) is ∙ stays k ∙ sym (ap (λ z. is_shut z s h) (rest ne))
      where
        stays : (k : Kept) → (is_shut k s h && not (h == g)) ≡ is_shut k s h
        stays Nothing = refl
        stays (Pending k) = refl
        stays (Moving r k) = refl
        stays (Newest b) = refl
        stays Unmade = go (cases_eq h g)
          where
            go : (h ≡ g) ⊎ (h ≡ g → ⊥) → ((h == s / 128) && not (h == g)) ≡ (h == s / 128)
            go (inl e) = let off : (h == s / 128) ≡ false = unequal h (s / 128) (λ q. ne (sym q ∙ e)) in rw (off) refl
            go (inr other) = let off : (h == g) ≡ false = unequal h g other in rw (off) (and_true (h == s / 128))

    slots : (s : ℕ) → (s / 128 ≡ g) ⊎ (s / 128 ≡ g → ⊥) → ArraySlot s (kept_at (opened_view a v kept) s) ((made F class members g).held s) (F.tickets s)
    slots s where_is = let is = shows.tables.slots s in record {
      blocks = λ c. and_true (F.held s (Block c)) ∙ is.blocks c ∙ newest_same s c where_is;
      shut = λ h. shut s (kept_at a s) h (is.shut h) where_is (kept_at (opened_view a v kept) s) (opened.here s) (opened.rest s);
      waits = ticket_same s where_is is.waits;
    }
      where
        newest_same : (s c : ℕ) → (s / 128 ≡ g) ⊎ (s / 128 ≡ g → ⊥) → is_newest (kept_at a s) c ≡ is_newest (kept_at (opened_view a v kept) s) c
        newest_same s c (inl same) = opened_newest (kept_at a s) c ∙ sym (ap (λ z. is_newest z c) (opened.here s same))
        newest_same s c (inr ne) = sym (ap (λ z. is_newest z c) (opened.rest s ne))

        ticket_same : (s : ℕ) → (s / 128 ≡ g) ⊎ (s / 128 ≡ g → ⊥) → IsTicketOf (kept_at a s) (F.tickets s) → IsTicketOf (kept_at (opened_view a v kept) s) (F.tickets s)
        ticket_same s (inl same) is = subst (λ z. IsTicketOf z (F.tickets s)) (sym (opened.here s same)) (opened_ticket (kept_at a s) (F.tickets s) is)
        ticket_same s (inr ne) is = subst (λ z. IsTicketOf z (F.tickets s)) (sym (opened.rest s ne)) is

-- the tests' words, stated over the flat state
members_as : (a : ArrayView) (F : Flat) (members : List Member) → ShowsArray a F → AreMembers a.parts.groups.extents (length a.parts.drives) members
    → AreMembers F.groups.extents F.drives members
members_as a F members shows are =
    subst (λ (z : Groups). AreMembers z.extents F.drives members) (sym shows.tables.groups)
    (subst (λ d. AreMembers a.parts.groups.extents d members) (sym shows.tables.drives) are)

members_back : (a : ArrayView) (F : Flat) (members : List Member) → ShowsArray a F → AreMembers F.groups.extents F.drives members
    → AreMembers a.parts.groups.extents (length a.parts.drives) members
members_back a F members shows are =
    subst (λ (z : Groups). AreMembers z.extents (length a.parts.drives) members) shows.tables.groups (subst (λ d. AreMembers F.groups.extents d members) shows.tables.drives are)

unowned_as : (a : ArrayView) (F : Flat) (members : List Member) → ShowsArray a F → AreUnowned a.parts.groups members → AreUnowned F.groups members
unowned_as a F members shows unowned = subst (λ (z : Groups). AreUnowned z members) (sym shows.tables.groups) unowned

unowned_back : (a : ArrayView) (F : Flat) (members : List Member) → ShowsArray a F → AreUnowned F.groups members → AreUnowned a.parts.groups members
unowned_back a F members shows unowned = subst (λ (z : Groups). AreUnowned z members) shows.tables.groups unowned

-- why a group can't be made is why the flat machine refuses it
pub make_refused : (a : ArrayView) (F : Flat) (class : Class) (members : List Member) (r : Refusal) → IsMakeReason a members (Some r) → ShowsArray a F
    → MayRefuse r (IsAllocating F (Make class members)) ((G : Flat) × MakeCase F class members (Refused r) G × ShowsArray a G)
make_refused a F class members BadMember reason shows = (F, ((λ are. reason (members_back a F members shows are)), itself F), shows)
make_refused a F class members SameDrive reason shows = (F, (members_as a F members shows reason.0, reason.1, itself F), shows)
make_refused a F class members ExtentTaken reason shows =
    (F, (members_as a F members shows reason.0, reason.1, (λ unowned. reason.2 (unowned_back a F members shows unowned)), itself F), shows)
make_refused a F class members (DriveLost d) reason shows = (
  F,
  (
    record { members_are = members_as a F members shows reason.0; apart = reason.1; unowned = unowned_as a F members shows reason.2 },
    inl (subst (λ (l : ℕ → Bool). IsFirstLost l members d) (sym shows.tables.lost) reason.3),
    itself F,
  ),
  shows,
)
make_refused a F class members _ reason shows = absurd reason

-- the members can be a group's, and none of their drives is lost
fit_as : (a : ArrayView) (F : Flat) (members : List Member) → ShowsArray a F → IsMakeReason a members None → AreFit F members
fit_as a F members shows reason =
    record { members_are = members_as a F members shows reason.0; apart = reason.1; unowned = unowned_as a F members shows reason.2 }

present_as : (a : ArrayView) (F : Flat) (members : List Member) → ShowsArray a F → IsMakeReason a members None → ArePresent F.lost members
present_as a F members shows reason = subst (λ (l : ℕ → Bool). ArePresent l members) (sym shows.tables.lost) reason.3

pub make_full : (a : ArrayView) (F : Flat) (class : Class) (members : List Member) → IsMakeReason a members None → IsTableFull a.parts.groups → ShowsArray a F
    → (G : Flat) × MakeCase F class members (Refused Full) G × ShowsArray a G
make_full a F class members reason full shows =
    (F, (fit_as a F members shows reason, present_as a F members shows reason, subst IsTableFull (sym shows.tables.groups) full, itself F), shows)

-- where nothing speaks against a group, the flat machine makes it
pub make_passes : (a : ArrayView) (F : Flat) (members : List Member) (g : ℕ) → IsMakeReason a members None → IsLowestFree a.parts.groups g → ShowsArray a F → MakePasses F members g
make_passes a F members g reason lowest shows =
    (fit_as a F members shows reason, present_as a F members shows reason, subst (λ (z : Groups). IsLowestFree z g) (sym shows.tables.groups) lowest)

pub make_case : (a : ArrayView) (v : PartsView) (kept : List Kept) (F : Flat) (class : Class) (members : List Member) (g : ℕ) → IsMakeReason a members None → IsLowestFree a.parts.groups g
    → Entered a.parts g class members v → IsOpened g a.kept kept → ShowsArray a F
    → (G : Flat) × (MakeCase F class members (MadeGroup g) G) × (ShowsArray (opened_view a v kept) G)
make_case a v kept F class members g reason lowest e opened shows = (
  fared (made F class members g) v,
  case,
  shows_after a (opened_view a v kept) F (fared (made F class members g) v) (Make class members) (MadeGroup g) shows tt case shows.history.map units
      (entered_tables a v kept F g class members e opened shows),
)
  where
    case : MakeCase F class members (MadeGroup g) (fared (made F class members g) v)
    case = (
      make_passes a F members g reason lowest shows,
      e.present,
      leaves (made F class members g) a.parts v shows.tables.lost shows.tables.failures e.fares,
    )

    units : Shows v (made F class members g).units
    units = subst (λ (z : Groups). Shows v (wiped F.units z.payload g (slot_count class (length members) z.segments))) (sym shows.tables.groups) (e.shows F.units shows.units)

-- a drive failed while the extents were wiped
pub make_lost : (a : ArrayView) (v : PartsView) (F : Flat) (class : Class) (members : List Member) (g : ℕ) (q : Refusal) → IsMakeReason a members None → IsLowestFree a.parts.groups g
    → FoundLost a.parts members v q → ShowsArray a F
    → MayRefuse q (IsAllocating F (Make class members)) ((G : Flat) × MakeCase F class members (Refused q) G × ShowsArray (with_parts a v) G)
make_lost a v F class members g q reason lowest found shows =
    subst (λ z. MayRefuse z (IsAllocating F (Make class members)) ((G : Flat) × MakeCase F class members (Refused z) G × ShowsArray (with_parts a v) G)) (sym found.reported.1) (
      fared F v,
      (fit_as a F members shows reason, inr ((g, make_passes a F members g reason lowest shows), found.reported.2), lost_leaves a F v shows found.loses),
      lost_shows a F v shows found.loses,
    )
