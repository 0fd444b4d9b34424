-- The block that makes room, and the slots that are open, as the tables show them.
use Rattle.std.proofs.Common.{◌≡◌, ◌↔◌, inl, inr, ℕ, ◌<◌, Bool, false, true, IsTrue, sym, ◌∙◌, subst, Option, Some, None}
use Rattle.std.specs.Prelude.{IfSome, MatchOption}
use Rattle.extent_groups.specs.declared.class.Class.{Class}
use Rattle.extent_groups.specs.Groups.{Groups}
use Rattle.extent_groups.specs.Missing.{IsGone}
use Rattle.extent_groups.specs.Stores.{IsSlotOf}
use Rattle.unit_store.specs.Views.{IsLost, lost_of}
use Rattle.flat_machine.specs.Flat.{IsUnheld}
use Rattle.flat_machine.specs.Cases.{IsGoneIn}
use Rattle.slot_tables.specs.Views.{ArrayView, key_at, IsWhole}
use Rattle.slot_tables.proofs.Newest.{block_inside}
use Rattle.slot_tables.proofs.Hands.{free_iff}
use Rattle.map_join.specs.Record.{record_at}
use Rattle.migrator.specs.Ages.{Marked, IsMarked, IsOldest}
use Rattle.migrator.specs.First.{IsFirst}
use Rattle.migrator.specs.Slots.{IsMirrored}
use Rattle.tiered_array.specs.Tiered.{Tiered}
use Rattle.tiered_array.specs.Matches.{RepresentsTiers}
use Rattle.tiered_array.specs.Marking.{AreMarked}
use Rattle.tiered_array.specs.Inside.{IsFreeHere, IsFreeOf, IsThereHere}
use Rattle.tiered_array.specs.Planning.{IsNextAppend, IsDueHere}
use Rattle.tiered_array.specs.Room.{IsFirstOf, IsOpen, IsNextOpen, IsReadable, IsDueOf, IsDue}
use Rattle.tiered_array.specs.Views.{TiersView}
use Rattle.tiered_array.specs.declared.planner.Planner.{Planner}
use Rattle.tiered_array.proofs.Marks.{mirrored_record, oldest_by}
use Rattle.tiered_array.proofs.Standing.{groups_of, first_as, append_by}

module _ (a : ArrayView) (m : Marked) (whole : IsWhole a) (marked : AreMarked m.marks a.parts.groups (key_at a)) where
  abbrev pub Readable : ℕ → Type 0
  Readable = IsReadable a.parts.groups (lost_of a.parts) (key_at a)

  -- the oldest of the marked blocks that are there is the oldest that can be read
  readable_is : (found : Option ℕ) → IsOldest m.order (λ b. IsMarked m.marks b × IsThereHere a b) found → IsOldest m.order Readable found
  readable_is found oldest = oldest_by m.order (λ b. IsMarked m.marks b × IsThereHere a b) Readable found same oldest
    where
      same : (b : ℕ) → (IsMarked m.marks b × IsThereHere a b) ↔ Readable b
      same b = (
        λ h. ((marked b).0 h.0, h.1.1),
        λ h. ((marked b).1 h.0, (let r = mirrored_record a.parts.groups (record_at b (key_at a b)) h.0 in block_inside a b r.0 whole.room r.1, h.1)),
      )

  -- one is found
  pub due_some : (found : Option ℕ) (b : ℕ) → found ≡ Some b → IsOldest m.order (λ b. IsMarked m.marks b × IsThereHere a b) found
      → IsDueOf m.order a.parts.groups (lost_of a.parts) (key_at a) (Some b)
  due_some found b same oldest = inl (subst (IsOldest m.order Readable) same (readable_is found oldest))

  -- none is, and the oldest of all is taken
  pub due_none : (found chosen : Option ℕ) → found ≡ None → IsOldest m.order (λ b. IsMarked m.marks b × IsThereHere a b) found
      → IsOldest m.order (IsMirrored a.parts.groups (key_at a)) chosen → IsDueOf m.order a.parts.groups (lost_of a.parts) (key_at a) chosen
  due_none found None same none oldest = oldest
  due_none found (Some b) same none oldest = inr (subst (IsOldest m.order Readable) same (readable_is found none), oldest)

-- what is found is one of the array's blocks
pub found_below : (a : ArrayView) (m : Marked) (found chosen : Option ℕ) → IsOldest m.order (λ b. IsMarked m.marks b × IsThereHere a b) found
    → (MatchOption found (Unit {0}) (λ b. b < a.parts.groups.blocks) → chosen ≡ found) → chosen ≡ found
found_below a m None chosen oldest same = same tt
found_below a m (Some b) chosen oldest same = same oldest.passes.1.0

-- which block makes room, for each state that is represented
abbrev pub DueIs : TiersView → Option ℕ → Type 0
DueIs t chosen = (T : Tiered) → RepresentsTiers t T → IsDue T (key_at t.world.array) chosen

pub due_is : (t : TiersView) (a : ArrayView) (chosen : Option ℕ) → a ≡ t.world.array
    → (AreMarked t.planner.ages.marks a.parts.groups (key_at a) → IsDueHere a t.planner chosen) → DueIs t chosen
due_is t a chosen same due T matches =
    let groups = groups_of t T matches in
    let keys = key_at t.world.array in
    let marks = subst (λ z. AreMarked t.planner.ages.marks z keys) groups matches.marks in
    let here = subst (λ (x : ArrayView). AreMarked t.planner.ages.marks x.parts.groups (key_at x)) (sym same) marks in
    let is = subst (λ (x : ArrayView). IsDueHere x t.planner chosen) same (due here) in
    subst (λ order. IsDueOf order T.flat.groups T.flat.lost keys chosen) matches.order
    (subst (λ lost. IsDueOf t.planner.ages.order T.flat.groups lost keys chosen) (sym matches.world.array.tables.lost)
    (subst (λ z. IsDueOf t.planner.ages.order z (lost_of t.world.array.parts) keys chosen) (sym groups) is))

-- a slot is gone in the state exactly if it is by the lost drives of the world
pub gone_iff : (t : TiersView) (T : Tiered) (s : ℕ) → RepresentsTiers t T → IsLost t.world.array.parts s ↔ IsGoneIn T.flat s
gone_iff t T s matches =
    let groups = groups_of t T matches in
    let lost = matches.world.array.tables.lost in (
      λ h. subst (λ l. IsGone T.flat.groups l s) (sym lost) (subst (λ z. IsGone z (lost_of t.world.array.parts) s) (sym groups) h),
      λ h. subst (λ l. IsGone t.world.array.parts.groups l s) lost (subst (λ z. IsGone z T.flat.lost s) groups h),
    )

-- as the tables show it, nobody holds a slot and it isn't gone
abbrev pub IsOpenHere : TiersView → ℕ → Type 0
IsOpenHere t s = IsFreeHere t.world s × (IsLost t.world.array.parts s → ⊥)

pub open_iff : (t : TiersView) (T : Tiered) (s : ℕ) → RepresentsTiers t T → IsOpenHere t s ↔ IsOpen T s
open_iff t T s matches = (
  λ h. ((free_iff t.world T.flat s matches.world).0 h.0, λ gone. h.1 ((gone_iff t T s matches).1 gone)),
  λ h. ((free_iff t.world T.flat s matches.world).1 h.0, λ gone. h.1 ((gone_iff t T s matches).0 gone)),
)

pub next_is : (t : TiersView) (p : Planner) (a : ArrayView) (T : Tiered) (slot : Option ℕ) → a ≡ t.world.array → p ≡ t.planner → RepresentsTiers t T
    → IsNextAppend a p (IsOpenHere t) slot → IsNextOpen T (key_at t.world.array) slot
next_is t p a T slot array planner matches h = append_by (IsOpenHere t) (IsOpen T) t p a T slot (λ s. open_iff t T s matches) array planner matches h

-- what the tables show as open is free
pub open_found : (class : Class) (m : TiersView) (z : Groups) (slot : Option ℕ) → z ≡ m.world.array.parts.groups
    → IsFirst (λ s. IsSlotOf class z s × IsOpenHere m s) slot → IfSome slot (IsFreeOf class m.world)
open_found class m z None groups first = tt
open_found class m z (Some s) groups first = (subst (λ g. IsSlotOf class g s) groups first.holds.0, first.holds.1.0)

-- the lowest open slot of a class
module _ (class : Class) where
  abbrev pub FreeOf : Tiered → ℕ → Type 0
  FreeOf T s = IsSlotOf class T.flat.groups s × IsUnheld T.flat s

  abbrev pub OpenOf : Tiered → ℕ → Type 0
  OpenOf T s = IsSlotOf class T.flat.groups s × IsOpen T s

  abbrev pub First : TiersView → TiersView → (Tiered → ℕ → Type 0) → Option ℕ → Type 0
  First t m P slot = (T : Tiered) → RepresentsTiers t T → IsFirst (P T) slot × RepresentsTiers m T

  -- where no slot is free none is open
  pub open_none : (t m : TiersView) → First t m FreeOf None → First t m OpenOf None
  open_none t m none T matches = let f = none T matches in ((λ n ready. f.0 n (ready.0, ready.1.0)), f.1)

  -- the lowest free slot, if it isn't gone
  pub open_lowest : (t m : TiersView) (a : ArrayView) (lowest : ℕ) (gone : Bool) → a ≡ m.world.array → (IsTrue gone ↔ IsLost a.parts lowest) → gone ≡ false
      → First t m FreeOf (Some lowest) → First t m OpenOf (Some lowest)
  open_lowest t m a lowest gone array reported not_gone first T matches =
      let f = first T matches in (
        record { holds = (f.0.holds.0, (f.0.holds.1, there f.1)); least = λ n ready. f.0.least n (ready.0, ready.1.0) },
        f.1,
      )
    where
      there : RepresentsTiers m T → IsGoneIn T.flat lowest → ⊥
      there st is =
          let here : IsLost a.parts lowest = subst (λ (x : ArrayView). IsLost x.parts lowest) (sym array) ((gone_iff m T lowest st).1 is) in
          let both : true ≡ false = sym (reported.1 here) ∙ not_gone in absurd (cc)

  -- and else the lowest that the tables show
  pub open_shown : (t m : TiersView) (z : Groups) (lowest : ℕ) (slot : Option ℕ) → z ≡ m.world.array.parts.groups → First t m FreeOf (Some lowest)
      → IsFirst (λ s. IsSlotOf class z s × IsOpenHere m s) slot → First t m OpenOf slot
  open_shown t m z lowest slot groups first shown T matches =
      let f = first T matches in
      let same : z ≡ T.flat.groups = groups ∙ sym (groups_of m T f.1) in
      let here = subst (λ g. IsFirst (λ s. IsSlotOf class g s × IsOpenHere m s) slot) same shown in (
        first_as (λ s. IsSlotOf class T.flat.groups s × IsOpenHere m s) (OpenOf T) slot
            (λ s. ((λ h. (h.0, (open_iff m T s f.1).0 h.1)), (λ h. (h.0, (open_iff m T s f.1).1 h.1)))) here,
        f.1,
      )

  abbrev pub FirstOf : TiersView → TiersView → Option ℕ → Type 0
  FirstOf t m slot = (T : Tiered) → RepresentsTiers t T → IsFirstOf (FreeOf T) (OpenOf T) slot × RepresentsTiers m T

  pub any_open : (t m : TiersView) (slot : ℕ) → First t m OpenOf (Some slot) → FirstOf t m (Some slot)
  any_open t m slot first T matches = let f = first T matches in (inl f.0, f.1)

  pub any_free : (t m u : TiersView) (slot : Option ℕ) → First t m OpenOf None → First m u FreeOf slot → FirstOf t u slot
  any_free t m u slot none first T matches =
      let n = none T matches in
      let f = first T n.1 in (of slot n.0 f.0, f.1)
    where
      of : (o : Option ℕ) → IsFirst (OpenOf T) None → IsFirst (FreeOf T) o → IsFirstOf (FreeOf T) (OpenOf T) o
      of None h first = first
      of (Some s) h first = inr (h, first)
