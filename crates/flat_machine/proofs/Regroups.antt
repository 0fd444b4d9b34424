-- A member that goes onto another extent, and one more drive, keep what is true of every state.
use Rattle.std.proofs.Common.{◌≡◌, ◌≢◌, ℕ, ◌+◌, ◌/◌, ◌%◌, ◌<◌, Bool, false, ◌==◌, cond, nat_lt, List, get_or, length, refl, sym, ap, ◌∙◌, subst, arith, ◌⊎◌, inl, inr, Option, Some, None}
use Rattle.std.specs.Prelude.{slice_get, slice_set}
use Rattle.std.proofs.lemmas.List.{length-set}
use Rattle.std.proofs.lemmas.List.Folds.{list_any_none}
use Rattle.std.proofs.lemmas.Bool.{cases_eq}
use Rattle.std.proofs.lemmas.Option.{same_Some, slice_get_within, slice_get-get_or}
use Rattle.extents.specs.Failures.{Failures}
use Rattle.extent_groups.specs.declared.class.Member.{Member}
use Rattle.extent_groups.specs.Faults.{is_on}
use Rattle.extent_groups.specs.Geometry.{slot_count}
use Rattle.extent_groups.specs.Groups.{Group, Groups, group_at, members_of, members_in, with_group, with_member, swapped_in, IsFormed, HasMemberAt}
use Rattle.extent_groups.proofs.GroupsLemmas.{group_same, group_other}
use Rattle.extent_groups.proofs.Agreement.{members_other}
use Rattle.extent_groups.proofs.Places.{get-set_same, get-set_other}
use Rattle.extent_groups.proofs.Swapping.{formed_swap}
use Rattle.flat_machine.specs.Groups.{class_at, class_below, GroupsStand}
use Rattle.flat_machine.specs.Flat.{Flat}
use Rattle.flat_machine.specs.Moves.{IsMoveTarget, IsMoveReason, moved_to, with_new_drive}
use Rattle.flat_machine.specs.History.{HoldersStand, UnitMatches, IsHistory}
use Rattle.flat_machine.proofs.Pairs.{unequal}
use Rattle.flat_machine.proofs.Slots.{history_as}
use Rattle.flat_machine.proofs.Unmakes.{number_within}

-- a group that has a member is made
pub group_of_member : (o : Option Group) (k : ℕ) (m : Member) → slice_get (members_in o) k ≡ Some m → (group : Group) × (o ≡ Some group) × (slice_get group.members k ≡ Some m)
group_of_member None k m at = let bad : None ≡ Some m = at in absurd (cc)
group_of_member (Some group) k m at = (group, refl, at)

-- none of the members is on the drive
none_on : (drive : ℕ) (ms : List Member) → ((k : ℕ) (m : Member) → slice_get ms k ≡ Some m → m.drive ≡ drive → ⊥) → is_on drive ms ≡ false
none_on drive ms away = list_any_none (λ m. m.drive == drive) ms (λ k d low. unequal (get_or ms k d).drive drive (away k (get_or ms k d) (slice_get-get_or ms k d low)))

-- a list that has an element of a number has that element
pub element : (ms : List Member) (k : ℕ) → slice_get ms k ≢ None → (m : Member) × (slice_get ms k ≡ Some m)
element ms k some = go (slice_get ms k) refl
  where
    go : (o : Option Member) → slice_get ms k ≡ o → (m : Member) × (slice_get ms k ≡ Some m)
    go None e = absurd (some e)
    go (Some m) e = (m, e)

-- a group's member is another extent
module _ (groups : Groups) (drives g k : ℕ) (to : Member) (stand : GroupsStand groups drives) (some : slice_get (members_of groups g) k ≢ None) (target : IsMoveTarget groups drives g to) where
  abbrev found : (group : Group) × (group_at groups g ≡ Some group) × (slice_get group.members k ≡ Some (element (members_of groups g) k some).0)
  found = group_of_member (group_at groups g) k (element (members_of groups g) k some).0 (element (members_of groups g) k some).1

  abbrev now : Groups
  now = with_group groups g (swapped_in (group_at groups g) k to)

  within : g < length groups.table
  within = number_within groups g (λ none. let bad : Some found.0 ≡ None = sym found.1 ∙ none in cc)

  group_now : group_at now g ≡ Some (with_member found.0 k to)
  group_now = group_same groups g (swapped_in (group_at groups g) k to) within ∙ ap (λ o. swapped_in o k to) found.1

  members_now : members_of now g ≡ slice_set found.0.members k to
  members_now = ap members_in group_now

  as_long : (i : ℕ) → class_below groups.segments (Some (with_member found.0 k to)) i ≡ class_below groups.segments (Some found.0) i
  as_long i = ap (λ n. cond (nat_lt i (slot_count found.0.class n groups.segments)) (Some found.0.class) None) (length-set found.0.members k to)

  pub class_same : (s : ℕ) → class_at now s ≡ class_at groups s
  class_same s = go (cases_eq (s / 128) g)
    where
      go : (s / 128 ≡ g) ⊎ (s / 128 ≡ g → ⊥) → class_at now s ≡ class_at groups s
      go (inl same) = ap (λ h. class_below groups.segments (group_at now h) (s % 128)) same ∙ ap (λ o. class_below groups.segments o (s % 128)) group_now
          ∙ as_long (s % 128) ∙ sym (ap (λ h. class_below groups.segments (group_at groups h) (s % 128)) same ∙ ap (λ o. class_below groups.segments o (s % 128)) found.1)
      go (inr ne) = ap (λ o. class_below groups.segments o (s % 128)) (group_other groups g (s / 128) (swapped_in (group_at groups g) k to) ne)

  pub none_still : (h : ℕ) → group_at groups h ≡ None → group_at now h ≡ None
  none_still h none = go (cases_eq h g)
    where
      go : (h ≡ g) ⊎ (h ≡ g → ⊥) → group_at now h ≡ None
      go (inl same) = let bad : Some found.0 ≡ None = sym found.1 ∙ ap (group_at groups) (sym same) ∙ none in absurd (cc)
      go (inr ne) = group_other groups g h (swapped_in (group_at groups g) k to) ne ∙ none

  -- each member of a group after the move is the target extent, or was a member before
  was_there : (h j : ℕ) (m : Member) → slice_get (members_of now h) j ≡ Some m → ((h ≡ g) × (m ≡ to)) ⊎ (slice_get (members_of groups h) j ≡ Some m)
  was_there h j m at = go (cases_eq h g) (cases_eq j k)
    where
      old : (h ≡ g) → slice_get found.0.members j ≡ Some m → slice_get (members_of groups h) j ≡ Some m
      old same there = ap (λ i. slice_get (members_of groups i) j) same ∙ ap (λ o. slice_get (members_in o) j) found.1 ∙ there

      new : (h ≡ g) → slice_get (slice_set found.0.members k to) j ≡ Some m
      new same = sym (ap (λ i. slice_get (members_of now i) j) same ∙ ap (λ ms. slice_get ms j) members_now) ∙ at

      go : (h ≡ g) ⊎ (h ≡ g → ⊥) → (j ≡ k) ⊎ (j ≡ k → ⊥) → ((h ≡ g) × (m ≡ to)) ⊎ (slice_get (members_of groups h) j ≡ Some m)
      go (inl same) (inl e) = inl (
        same,
        sym (same_Some to m
            (sym (get-set_same found.0.members k to (slice_get_within found.0.members k (element (members_of groups g) k some).0 found.2)) ∙ ap (slice_get (slice_set found.0.members k to)) (sym e) ∙ new same)),
      )
      go (inl same) (inr ne) = inr (old same (sym (get-set_other found.0.members k j to ne) ∙ new same))
      go (inr ne) e = inr (ap (λ ms. slice_get ms j) (sym (members_other groups g h (swapped_in (group_at groups g) k to) ne)) ∙ at)

  formed : (h : ℕ) (group : Group) → group_at now h ≡ Some group → (h ≡ g) ⊎ (h ≡ g → ⊥) → IsFormed group.members
  formed h group at (inl same) =
      let e : with_member found.0 k to ≡ group = same_Some (with_member found.0 k to) group (sym group_now ∙ ap (group_at now) (sym same) ∙ at) in
      subst (λ (x : Group). IsFormed x.members) e (formed_swap found.0.members k to (stand.table.formed g found.0 found.1)
      (none_on to.drive found.0.members (λ j m here drive. target.apart (j, m, ap (λ o. slice_get (members_in o) j) found.1 ∙ here, drive))))
  formed h group at (inr ne) = stand.table.formed h group (sym (group_other groups g h (swapped_in (group_at groups g) k to) ne) ∙ at)

  -- no group has the extent
  nobodys : (h j : ℕ) (m : Member) → slice_get (members_of groups h) j ≡ Some m → m.drive ≡ to.drive → m.extent ≡ to.extent → ⊥
  nobodys h j m at drive extent = target.unowned h (subst (λ e. HasMemberAt (members_of groups h) to.drive e) extent (subst (λ d. HasMemberAt (members_of groups h) d m.extent) drive (j, at)))

  apart : (h i j l : ℕ) (a b : Member) → ((h ≡ g) × (a ≡ to)) ⊎ (slice_get (members_of groups h) j ≡ Some a)
      → ((i ≡ g) × (b ≡ to)) ⊎ (slice_get (members_of groups i) l ≡ Some b) → a.drive ≡ b.drive → a.extent ≡ b.extent → h ≡ i
  apart h i j l a b (inl x) (inl y) drive extent = x.0 ∙ sym y.0
  apart h i j l a b (inl x) (inr y) drive extent =
      absurd (nobodys i l b y (sym drive ∙ ap (λ (m : Member). m.drive) x.1) (sym extent ∙ ap (λ (m : Member). m.extent) x.1))
  apart h i j l a b (inr x) (inl y) drive extent =
      absurd (nobodys h j a x (drive ∙ ap (λ (m : Member). m.drive) y.1) (extent ∙ ap (λ (m : Member). m.extent) y.1))
  apart h i j l a b (inr x) (inr y) drive extent = stand.table.apart h i j l a b x y drive extent

  there : (h j : ℕ) (m : Member) → ((h ≡ g) × (m ≡ to)) ⊎ (slice_get (members_of groups h) j ≡ Some m) → (m.drive < drives) × (m.extent < groups.extents)
  there h j m (inl x) = subst (λ (n : Member). (n.drive < drives) × (n.extent < groups.extents)) (sym x.1) (target.drive, target.extent)
  there h j m (inr x) = stand.there h j m x

  pub swapped_stand : GroupsStand now drives
  swapped_stand = record {
    table = record {
      segments = stand.table.segments;
      numbers = length-set groups.table g (swapped_in (group_at groups g) k to) ∙ stand.table.numbers;
      formed = λ h group at. formed h group at (cases_eq h g);
      apart = λ h i j l a b at bt drive extent. apart h i j l a b (was_there h j a at) (was_there i l b bt) drive extent;
    };
    there = λ h j m at. there h j m (was_there h j m at);
  }

pub move_keeps : (F : Flat) (keys : ℕ → ℕ) (g k : ℕ) (to : Member) → IsHistory F keys → IsMoveReason F.groups F.drives g k to None → IsHistory (moved_to F g k to) keys
move_keeps F keys g k to is passes =
    history_as F keys is is.limits.least is.limits.most (swapped_stand F.groups F.drives g k to is.groups passes.0 passes.1) (λ s. holders s (is.holders s))
    (λ s. subst (λ o. UnitMatches F.groups.payload F.emitted F.writes keys s o (F.tickets s) (F.units s)) (sym (class_same F.groups F.drives g k to is.groups passes.0 passes.1 s)) (is.units s))
    (λ b has. (refl, has))
  where
    holders : (s : ℕ) → HoldersStand F.groups keys s (F.held s) (F.tickets s) → HoldersStand (moved_to F g k to).groups keys s (F.held s) (F.tickets s)
    holders s old = record {
      once = old.once;
      inside = old.inside;
      waits = old.waits;
      waiting = old.waiting;
      block = old.block;
      shut = λ h hh. let y = old.shut h hh in (y.0, none_still F.groups F.drives g k to is.groups passes.0 passes.1 h y.1);
    }

-- one more drive
pub add_keeps : (F : Flat) (keys : ℕ → ℕ) (lost : Bool) (failures : Failures) → IsHistory F keys → F.drives < 16 → IsHistory (with_new_drive F lost failures) keys
add_keeps F keys lost failures is room =
    let groups : GroupsStand F.groups (F.drives + 1) = record { table = is.groups.table; there = λ g k m at. let y = is.groups.there g k m at in let low = y.0 in (omega arith, y.1) } in
    history_as F keys is (omega (arith, is.limits.least)) (omega arith) groups is.holders is.units (λ b has. (refl, has))
