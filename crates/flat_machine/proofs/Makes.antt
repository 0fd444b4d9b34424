-- Making a group keeps what is true of every state.
use Rattle.std.proofs.Common.{◌≡◌, ◌≢◌, ℕ, ◌/◌, ◌%◌, ◌<◌, Bool, true, false, not, ◌==◌, ◌&&◌, cond, nat_lt, is_some, List, length, replicate, refl, sym, ap, ◌∙◌, subst, arith, ◌⊎◌, inl, inr, Option, Some, None}
use Rattle.std.specs.Prelude.{slice_get}
use Rattle.std.proofs.lemmas.List.{length-replicate, length-set}
use Rattle.std.proofs.lemmas.Bool.{cases_eq}
use Rattle.std.proofs.lemmas.Bool.Decides.{nat_tests}
use Rattle.std.proofs.lemmas.Option.{same_Some}
use Rattle.map_join.specs.Record.{record_of}
use Rattle.extents.specs.Header.{record_in}
use Rattle.extent_groups.specs.declared.class.Class.{Class}
use Rattle.extent_groups.specs.declared.class.Member.{Member}
use Rattle.extent_groups.specs.Geometry.{slot_count}
use Rattle.extent_groups.specs.Groups.{Group, Groups, group_at, members_of, with_group, IsFormed, HasMemberAt}
use Rattle.extent_groups.proofs.GroupsLemmas.{group_same, group_other}
use Rattle.extent_groups.proofs.Agreement.{members_same, members_other}
use Rattle.flat_machine.specs.Groups.{class_at, class_below, AreMembers, AreApart, AreUnowned, GroupsStand}
use Rattle.flat_machine.specs.Flat.{Flat, Holder, Ticket, Block, Shut, same_holder, Waiting, blank_header, Stored, waiting_unit, content_of, class_of}
use Rattle.flat_machine.specs.Cases.{made, MakePasses}
use Rattle.flat_machine.specs.History.{HoldersStand, UnitMatches, IsHistory}
use Rattle.flat_machine.proofs.Pairs.{equal}
use Rattle.flat_machine.proofs.Slots.{history_as}

-- an extent of a list
matches_of : (ms : List Member) (k : ℕ) (m : Member) → slice_get ms k ≡ Some m → HasMemberAt ms m.drive m.extent
matches_of ms k m at = (k, at)

matches_as : (ms : List Member) (k : ℕ) (m n : Member) → slice_get ms k ≡ Some m → m.drive ≡ n.drive → m.extent ≡ n.extent → HasMemberAt ms n.drive n.extent
matches_as ms k m n at drive extent = subst (λ e. HasMemberAt ms n.drive e) extent (subst (λ d. HasMemberAt ms d m.extent) drive (matches_of ms k m at))

-- one more group among groups none of which has one of its members
pub groups_more : (groups : Groups) (drives g : ℕ) (new : Group) → GroupsStand groups drives → g < 512 → AreMembers groups.extents drives new.members
    → AreApart new.members → AreUnowned groups new.members → GroupsStand (with_group groups g (Some new)) drives
groups_more groups drives g new all limit are spread unowned = record {
  table = record {
    segments = all.table.segments;
    numbers = length-set groups.table g (Some new) ∙ all.table.numbers;
    formed = λ h group is. formed h group is (cases_eq h g);
    apart = λ h i j k a b at bt drive extent. apart h i j k a b at bt drive extent (cases_eq h g) (cases_eq i g);
  };
  there = λ h k m at. there h k m at (cases_eq h g);
}
  where
    within : g < length groups.table
    within = let n = all.table.numbers in omega arith

    here : (h : ℕ) → h ≡ g → members_of (with_group groups g (Some new)) h ≡ new.members
    here h same = ap (members_of (with_group groups g (Some new))) same ∙ members_same groups g (Some new) within

    formed : (h : ℕ) (group : Group) → group_at (with_group groups g (Some new)) h ≡ Some group → (h ≡ g) ⊎ (h ≡ g → ⊥) → IsFormed group.members
    formed h group is (inl same) =
        let e : new ≡ group = same_Some new group (sym (group_same groups g (Some new) within) ∙ ap (group_at (with_group groups g (Some new))) (sym same) ∙ is) in
        subst (λ (x : Group). IsFormed x.members) e (record { enough = are.least; few = are.most; spread = spread })
    formed h group is (inr ne) = all.table.formed h group (sym (group_other groups g h (Some new) ne) ∙ is)

    there : (h k : ℕ) (m : Member) → slice_get (members_of (with_group groups g (Some new)) h) k ≡ Some m → (h ≡ g) ⊎ (h ≡ g → ⊥)
        → (m.drive < drives) × (m.extent < groups.extents)
    there h k m at (inl same) = are.there k m (ap (λ ms. slice_get ms k) (sym (here h same)) ∙ at)
    there h k m at (inr ne) = all.there h k m (ap (λ ms. slice_get ms k) (sym (members_other groups g h (Some new) ne)) ∙ at)

    apart : (h i j k : ℕ) (a b : Member) → slice_get (members_of (with_group groups g (Some new)) h) j ≡ Some a
        → slice_get (members_of (with_group groups g (Some new)) i) k ≡ Some b → a.drive ≡ b.drive → a.extent ≡ b.extent
        → (h ≡ g) ⊎ (h ≡ g → ⊥) → (i ≡ g) ⊎ (i ≡ g → ⊥) → h ≡ i
    apart h i j k a b at bt drive extent (inl x) (inl y) = x ∙ sym y
    apart h i j k a b at bt drive extent (inr x) (inr y) =
        all.table.apart h i j k a b (ap (λ ms. slice_get ms j) (sym (members_other groups g h (Some new) x)) ∙ at)
        (ap (λ ms. slice_get ms k) (sym (members_other groups g i (Some new) y)) ∙ bt) drive extent
    apart h i j k a b at bt drive extent (inl x) (inr y) =
        absurd (unowned i b.drive b.extent (matches_of (members_of groups i) k b (ap (λ ms. slice_get ms k) (sym (members_other groups g i (Some new) y)) ∙ bt))
        (matches_as new.members j a b (ap (λ ms. slice_get ms j) (sym (here h x)) ∙ at) drive extent))
    apart h i j k a b at bt drive extent (inr x) (inl y) =
        absurd (unowned h a.drive a.extent (matches_of (members_of groups h) j a (ap (λ ms. slice_get ms j) (sym (members_other groups g h (Some new) x)) ∙ at))
        (matches_as new.members k b a (ap (λ ms. slice_get ms k) (sym (here i y)) ∙ bt) (sym drive) (sym extent)))

-- a slot of a group is one still where a group is made of a number that was free
pub class_kept : (groups : Groups) (g : ℕ) (new : Group) (s : ℕ) → group_at groups g ≡ None → class_at groups s ≢ None → class_at (with_group groups g (Some new)) s ≢ None
class_kept groups g new s free some = go (cases_eq (s / 128) g)
  where
    go : (s / 128 ≡ g) ⊎ (s / 128 ≡ g → ⊥) → class_at (with_group groups g (Some new)) s ≢ None
    go (inl same) = absurd (some (ap (λ o. class_below groups.segments o (s % 128)) (ap (group_at groups) same ∙ free)))
    go (inr ne) = λ none. some (sym (ap (λ o. class_below groups.segments o (s % 128)) (group_other groups g (s / 128) (Some new) ne)) ∙ none)

and_true : (b : Bool) → (b && true) ≡ b
and_true true = refl
and_true false = refl

and_left : (a b : Bool) → (a && b) ≡ true → a ≡ true
and_left true b e = refl
and_left false b e = absurd (cc)

and_right : (a b : Bool) → (a && not b) ≡ true → b ≡ false
and_right true false e = refl
and_right true true e = absurd (cc)
and_right false b e = absurd (cc)

no_unit : (unit : Option Stored) (class : Option Class) → is_some unit ≡ is_some class → class ≡ None → unit ≡ None
no_unit None class there none = refl
no_unit (Some u) class there none = let bad : true ≡ false = there ∙ ap is_some none in absurd (cc)

module _ (F : Flat) (keys : ℕ → ℕ) (class : Class) (members : List Member) (g : ℕ) (is : IsHistory F keys) (passes : MakePasses F members g) where
  abbrev new : Group
  new = record { class = class; members = members }

  abbrev G : Flat
  G = made F class members g

  within : g < length F.groups.table
  within = let n = is.groups.table.numbers in let limit = passes.2.limit in omega arith

  free : group_at F.groups g ≡ None
  free = passes.2.free

  class_was : (s : ℕ) → s / 128 ≡ g → class_of F s ≡ None
  class_was s same = ap (λ o. class_below F.groups.segments o (s % 128)) (ap (group_at F.groups) same ∙ free)

  class_now : (s : ℕ) → s / 128 ≡ g → class_of G s ≡ class_below F.groups.segments (Some new) (s % 128)
  class_now s same = ap (λ o. class_below F.groups.segments o (s % 128)) (ap (group_at G.groups) same ∙ group_same F.groups g (Some new) within)

  class_else : (s : ℕ) → (s / 128 ≡ g → ⊥) → class_of G s ≡ class_of F s
  class_else s ne = ap (λ o. class_below F.groups.segments o (s % 128)) (group_other F.groups g (s / 128) (Some new) ne)

  bare : (s : ℕ) → s / 128 ≡ g → F.units s ≡ None
  bare s same = no_unit (F.units s) (class_of F s) (is.units s).there (class_was s same)

  unit_else : (s : ℕ) → (s / 128 ≡ g → ⊥) → G.units s ≡ F.units s
  unit_else s ne = grind (arith, nat_tests)

  abbrev blank : Stored
  blank = record { header = blank_header; payload = replicate F.groups.payload 0 }

  -- a slot of the group, which was no slot before
  unit_here : (s : ℕ) → s / 128 ≡ g → G.units s ≡ cond (nat_lt (s % 128) (slot_count class (length members) F.groups.segments)) (Some blank) None
  unit_here s same =
      ap (λ b. cond (b && nat_lt (s % 128) (slot_count class (length members) F.groups.segments)) (Some blank) (F.units s)) (equal (s / 128) g same)
      ∙ ap (λ o. cond (nat_lt (s % 128) (slot_count class (length members) F.groups.segments)) (Some blank) o) (bare s same)

  no_ticket : (s : ℕ) → s / 128 ≡ g → (c : Waiting) → F.tickets s ≡ Some c → ⊥
  no_ticket s same c waits = let bad : None ≡ Some (waiting_unit F.groups.payload (content_of c)) = sym (bare s same) ∙ (is.units s).blank c waits in cc

  held_was : (s : ℕ) (k : Holder) → G.held s k ≡ true → F.held s k ≡ true
  held_was s k has = and_left (F.held s k) (not (same_holder k (Shut g))) has

  holders : (s : ℕ) → HoldersStand G.groups keys s (G.held s) (F.tickets s)
  holders s = record {
    once = λ j k of_j of_k hj hk. old.once j k of_j of_k (held_was s j hj) (held_was s k hk);
    inside = λ k of hk. old.inside k of (held_was s k hk);
    waits = λ c e. let y = old.waits c e in (y.0, and_true (F.held s (Ticket y.0)) ∙ y.1);
    waiting = λ w hw. old.waiting w (held_was s (Ticket w) hw);
    block = λ b hb. old.block b (held_was s (Block b) hb);
    shut = λ h hh. let y = old.shut h (held_was s (Shut h) hh) in (y.0, group_other F.groups g h (Some new) (other h hh) ∙ y.1);
  }
    where
      old : HoldersStand F.groups keys s (F.held s) (F.tickets s)
      old = is.holders s

      other : (h : ℕ) → G.held s (Shut h) ≡ true → h ≡ g → ⊥
      other h hh same =
          let off : same_holder (Shut h) (Shut g) ≡ false = and_right (F.held s (Shut h)) (same_holder (Shut h) (Shut g)) hh in
          let on : (h == g) ≡ true = equal h g same in
          let bad : true ≡ false = sym on ∙ off in
          cc

  units : (s : ℕ) → (s / 128 ≡ g) ⊎ (s / 128 ≡ g → ⊥) → UnitMatches F.groups.payload F.emitted F.writes keys s (class_of G s) (F.tickets s) (G.units s)
  units s (inl same) = subst (UnitMatches F.groups.payload F.emitted F.writes keys s (class_of G s) (F.tickets s)) (sym (unit_here s same))
      (subst (λ o. UnitMatches F.groups.payload F.emitted F.writes keys s o (F.tickets s) (cond (nat_lt (s % 128) (slot_count class (length members) F.groups.segments)) (Some blank) None))
      (sym (class_now s same)) (now (nat_lt (s % 128) (slot_count class (length members) F.groups.segments))))
    where
      now : (q : Bool) → UnitMatches F.groups.payload F.emitted F.writes keys s (cond q (Some class) None) (F.tickets s) (cond q (Some blank) None)
      now true = record {
        there = refl;
        sized = λ u e. ap (λ (y : Stored). length y.payload) (sym (same_Some blank u e)) ∙ length-replicate F.groups.payload 0;
        header = λ u r e reported. let bad : None ≡ Some r = ap (λ (y : Stored). record_in y.header) (same_Some blank u e) ∙ reported in absurd (cc);
        content = λ u r w e reported. let bad : None ≡ Some r = ap (λ (y : Stored). record_in y.header) (same_Some blank u e) ∙ reported in absurd (cc);
        blank = λ c e. absurd (no_ticket s same c e);
        rests = λ c e. absurd (no_ticket s same c e);
      }
      now false = record {
        there = refl;
        sized = λ u e. absurd (cc);
        header = λ u r e reported. absurd (cc);
        content = λ u r w e reported. absurd (cc);
        blank = λ c e. absurd (no_ticket s same c e);
        rests = λ c e. absurd (no_ticket s same c e);
      }
  units s (inr ne) = subst (UnitMatches F.groups.payload F.emitted F.writes keys s (class_of G s) (F.tickets s)) (sym (unit_else s ne))
      (subst (λ o. UnitMatches F.groups.payload F.emitted F.writes keys s o (F.tickets s) (F.units s)) (sym (class_else s ne)) (is.units s))

  places : (b : ℕ) → F.held (record_of b (keys b)).place (Block b) ≡ true
      → (G.units (record_of b (keys b)).place ≡ F.units (record_of b (keys b)).place) × (G.held (record_of b (keys b)).place (Block b) ≡ true)
  places b has = (unit_else (record_of b (keys b)).place away, and_true (F.held (record_of b (keys b)).place (Block b)) ∙ has)
    where
      away : (record_of b (keys b)).place / 128 ≡ g → ⊥
      away same =
          let some = ((is.holders (record_of b (keys b)).place).block b has).0 in
          let at = ((is.written b).1 some).2.unit in
          let bad : None ≡ Some at.stored = sym (bare (record_of b (keys b)).place same) ∙ at.there in
          cc

  pub make_keeps : IsHistory (made F class members g) keys
  make_keeps =
      history_as F keys is is.limits.least is.limits.most (groups_more F.groups F.drives g new is.groups passes.2.limit passes.0.members_are passes.0.apart passes.0.unowned)
      holders (λ s. units s (cases_eq (s / 128) g)) places
