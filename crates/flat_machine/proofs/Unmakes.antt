-- Dissolving a group keeps what is true of every state.
use Rattle.std.proofs.Common.{◌≡◌, ◌≢◌, ℕ, ◌/◌, ◌%◌, ◌<◌, ◌≤◌, Bool, true, false, ◌==◌, ◌&&◌, cond, nat_lt, is_some, List, length, refl, sym, ap, ◌∙◌, subst, arith, ◌⊎◌, inl, inr, Option, Some, None}
use Rattle.std.specs.Prelude.{slice_get, unwrap_or}
use Rattle.std.proofs.lemmas.Option.{slice_get_past}
use Rattle.std.proofs.lemmas.List.{length-set}
use Rattle.std.proofs.lemmas.Bool.{cases_eq, cases_lt}
use Rattle.std.proofs.lemmas.Bool.Decides.{nat_tests}
use Rattle.map_join.specs.declared.records.Record.{Record}
use Rattle.map_join.specs.Record.{record_of}
use Rattle.extent_groups.specs.declared.class.Class.{Class}
use Rattle.extent_groups.specs.declared.class.Member.{Member}
use Rattle.extent_groups.specs.Groups.{Group, Groups, group_at, slots_in, members_of, with_group, IsFormed}
use Rattle.extent_groups.proofs.GroupsLemmas.{group_same, group_other}
use Rattle.extent_groups.proofs.Agreement.{members_other}
use Rattle.extent_groups.proofs.Fresh.{no_members}
use Rattle.flat_machine.specs.Groups.{class_below, GroupsStand}
use Rattle.flat_machine.specs.Flat.{Flat, Holder, Worker, Ticket, Block, Shut, IsArrays, for_ticket, for_block, for_shut, Waiting, Write, Stored, waiting_unit, content_of, class_of, turned}
use Rattle.flat_machine.specs.Moves.{IsIn, HasClaim, unmade}
use Rattle.flat_machine.specs.History.{HoldersStand, UnitMatches, IsHistory}
use Rattle.flat_machine.proofs.Pairs.{equal, unequal, not_workers, IsNobodys, IsJust, just_once, just_is, turned_just}
use Rattle.flat_machine.proofs.Slots.{history_as, free_waits}

-- only the number of a dissolved group holds the slot
shut_matches : (groups : Groups) (keys : ℕ → ℕ) (s g : ℕ) (h : Holder → Bool) → s < 65536 → IsJust IsArrays h (Shut g) → g ≡ s / 128 → group_at groups g ≡ None → HoldersStand groups keys s h None
shut_matches groups keys s g h inside is group free = record {
  once = just_once IsArrays h (Shut g) is;
  inside = λ k of hk. inside;
  waits = λ d e. absurd (cc);
  waiting = λ v hv. let e : Ticket v ≡ Shut g = just_is IsArrays h (Shut g) (Ticket v) is (for_ticket v) hv in absurd (cc);
  block = λ c hc. let e : Block c ≡ Shut g = just_is IsArrays h (Shut g) (Block c) is (for_block c) hc in absurd (cc);
  shut = λ i hi.
      let e : Shut i ≡ Shut g = just_is IsArrays h (Shut g) (Shut i) is (for_shut i) hi in
      let same : i ≡ g = cc in
      (same ∙ group, ap (group_at groups) same ∙ free);
}

-- a number of which a group is made is one that there is
pub number_within : (groups : Groups) (g : ℕ) → group_at groups g ≢ None → g < length groups.table
number_within groups g some = go (cases_lt g (length groups.table))
  where
    go : (g < length groups.table) ⊎ (length groups.table ≤ g) → g < length groups.table
    go (inl low) = low
    go (inr past) = absurd (some (ap (λ x. unwrap_or x None) (slice_get_past groups.table g past)))

-- one group fewer
pub groups_fewer : (groups : Groups) (drives g : ℕ) → GroupsStand groups drives → g < length groups.table → GroupsStand (with_group groups g None) drives
groups_fewer groups drives g all within = record {
  table = record {
    segments = all.table.segments;
    numbers = length-set groups.table g None ∙ all.table.numbers;
    formed = λ h group is. formed h group is (cases_eq h g);
    apart = λ h i j k a b at bt drive extent.
        all.table.apart h i j k a b (ap (λ ms. slice_get ms j) (sym (else_where h j a at)) ∙ at) (ap (λ ms. slice_get ms k) (sym (else_where i k b bt)) ∙ bt) drive extent;
  };
  there = λ h k m at. all.there h k m (ap (λ ms. slice_get ms k) (sym (else_where h k m at)) ∙ at);
}
  where
    gone : group_at (with_group groups g None) g ≡ None
    gone = group_same groups g None within

    formed : (h : ℕ) (group : Group) → group_at (with_group groups g None) h ≡ Some group → (h ≡ g) ⊎ (h ≡ g → ⊥) → IsFormed group.members
    formed h group is (inl same) = let bad : None ≡ Some group = sym gone ∙ ap (group_at (with_group groups g None)) (sym same) ∙ is in absurd (cc)
    formed h group is (inr ne) = all.table.formed h group (sym (group_other groups g h None ne) ∙ is)

    else_where : (h k : ℕ) (m : Member) → slice_get (members_of (with_group groups g None) h) k ≡ Some m → members_of (with_group groups g None) h ≡ members_of groups h
    else_where h k m at = go (cases_eq h g)
      where
        go : (h ≡ g) ⊎ (h ≡ g → ⊥) → members_of (with_group groups g None) h ≡ members_of groups h
        go (inl same) = absurd (no_members (with_group groups g None) h k m (ap (group_at (with_group groups g None)) same ∙ gone) at)
        go (inr ne) = members_other groups g h None ne

-- a number without a group stays without one
pub none_still : (groups : Groups) (g h : ℕ) → g < length groups.table → group_at groups h ≡ None → group_at (with_group groups g None) h ≡ None
none_still groups g h within none = go (cases_eq h g)
  where
    go : (h ≡ g) ⊎ (h ≡ g → ⊥) → group_at (with_group groups g None) h ≡ None
    go (inl same) = ap (group_at (with_group groups g None)) same ∙ group_same groups g None within
    go (inr ne) = group_other groups g h None ne ∙ none

-- an index below the slots of an optional group has a class, and only such an index has
class_below_some : (segments : ℕ) (o : Option Group) (i : ℕ) → nat_lt i (slots_in segments o) ≡ true → class_below segments o i ≢ None
class_below_some segments None i low = λ e. let bad : false ≡ true = no_zero i ∙ low in cc
  where
    no_zero : (i : ℕ) → false ≡ nat_lt i 0
    no_zero i = grind (arith, nat_tests)
class_below_some segments (Some group) i low = λ e. let bad : Some group.class ≡ None = ap (λ q. cond q (Some group.class) None) (sym low) ∙ e in cc

class_below_none : (segments : ℕ) (o : Option Group) (i : ℕ) → nat_lt i (slots_in segments o) ≡ false → class_below segments o i ≡ None
class_below_none segments None i high = refl
class_below_none segments (Some group) i high = ap (λ q. cond q (Some group.class) None) high

-- a slot of no group has no unit, and nothing waits there
bare_matches : (payload : ℕ) (emitted : List Record) (writes : List Write) (keys : ℕ → ℕ) (s : ℕ) (t : Option Waiting) → ((c : Waiting) → t ≡ Some c → ⊥)
    → UnitMatches payload emitted writes keys s None t None
bare_matches payload emitted writes keys s t never = record {
  there = refl;
  sized = λ u e. absurd (cc);
  header = λ u r e reported. absurd (cc);
  content = λ u r w e reported. absurd (cc);
  blank = λ c e. absurd (never c e);
  rests = λ c e. absurd (never c e);
}

no_unit : (unit : Option Stored) (class : Option Class) → is_some unit ≡ is_some class → class ≡ None → unit ≡ None
no_unit None class there none = refl
no_unit (Some u) class there none = let bad : true ≡ false = there ∙ ap is_some none in absurd (cc)

some_class : (unit : Option Stored) (class : Option Class) (u : Stored) → is_some unit ≡ is_some class → unit ≡ Some u → class ≢ None
some_class unit class u there is = λ none. let bad : true ≡ false = sym (ap is_some is) ∙ there ∙ ap is_some none in cc

not_held : (q : Bool) → (q ≡ true → ⊥) → q ≡ false
not_held true never = absurd (never refl)
not_held false never = refl

module _ (F : Flat) (keys : ℕ → ℕ) (w g : ℕ) (is : IsHistory F keys) (made : group_at F.groups g ≢ None) (claimed : (s : ℕ) → IsIn F g s → HasClaim F w s) where
  abbrev count : ℕ
  count = slots_in F.groups.segments (group_at F.groups g)

  abbrev G : Flat
  G = unmade F w g

  within : g < length F.groups.table
  within = number_within F.groups g made

  -- whether the slot is one of the group's
  is_in : ℕ → Bool
  is_in s = (s / 128 == g) && nat_lt (s % 128) count

  pub in_group : (s : ℕ) → s / 128 ≡ g → nat_lt (s % 128) count ≡ true → IsIn F g s
  in_group s same low = record {
    group = same;
    made = class_below_some F.groups.segments (group_at F.groups (s / 128)) (s % 128) (ap (λ h. nat_lt (s % 128) (slots_in F.groups.segments (group_at F.groups h))) same ∙ low);
  }

  pub held_in : (s : ℕ) → s / 128 ≡ g → nat_lt (s % 128) count ≡ true → G.held s ≡ turned F.held s (Worker w) (Shut g) s
  held_in s same low = ap (λ q. cond (q && nat_lt (s % 128) count) (turned F.held s (Worker w) (Shut g) s) (F.held s)) (equal (s / 128) g same)
      ∙ ap (λ q. cond q (turned F.held s (Worker w) (Shut g) s) (F.held s)) low

  pub held_past : (s : ℕ) → s / 128 ≡ g → nat_lt (s % 128) count ≡ false → G.held s ≡ F.held s
  held_past s same high = ap (λ q. cond (q && nat_lt (s % 128) count) (turned F.held s (Worker w) (Shut g) s) (F.held s)) (equal (s / 128) g same)
      ∙ ap (λ q. cond q (turned F.held s (Worker w) (Shut g) s) (F.held s)) high

  pub held_else : (s : ℕ) → (s / 128 ≡ g → ⊥) → G.held s ≡ F.held s
  held_else s ne = ap (λ q. cond (q && nat_lt (s % 128) count) (turned F.held s (Worker w) (Shut g) s) (F.held s)) (unequal (s / 128) g ne)

  unit_here : (s : ℕ) → s / 128 ≡ g → G.units s ≡ None
  unit_here s same = ap (λ q. cond q None (F.units s)) (equal (s / 128) g same)

  unit_else : (s : ℕ) → (s / 128 ≡ g → ⊥) → G.units s ≡ F.units s
  unit_else s ne = ap (λ q. cond q None (F.units s)) (unequal (s / 128) g ne)

  pub class_here : (s : ℕ) → s / 128 ≡ g → class_of G s ≡ None
  class_here s same = ap (λ o. class_below F.groups.segments o (s % 128)) (ap (group_at G.groups) same ∙ group_same F.groups g None within)

  pub class_else : (s : ℕ) → (s / 128 ≡ g → ⊥) → class_of G s ≡ class_of F s
  class_else s ne = ap (λ o. class_below F.groups.segments o (s % 128)) (group_other F.groups g (s / 128) None ne)

  -- the array holds a slot of the group for nobody
  nobodys : (s : ℕ) → IsIn F g s → IsNobodys IsArrays (F.held s)
  nobodys s of j arrays = not_held (F.held s j) (λ has. (claimed s of).1 (j, arrays, has))

  no_ticket : (s : ℕ) → s / 128 ≡ g → (q : Bool) → nat_lt (s % 128) count ≡ q → (c : Waiting) → F.tickets s ≡ Some c → ⊥
  no_ticket s same true low c waits =
      let none : F.tickets s ≡ None = free_waits F.groups keys s (F.held s) (F.tickets s) (is.holders s) (nobodys s (in_group s same low)) in
      let bad : None ≡ Some c = sym none ∙ waits in cc
  no_ticket s same false high c waits =
      let none : class_of F s ≡ None =
      class_below_none F.groups.segments (group_at F.groups (s / 128)) (s % 128) (ap (λ h. nat_lt (s % 128) (slots_in F.groups.segments (group_at F.groups h))) same ∙ high) in
      let bare : F.units s ≡ None = no_unit (F.units s) (class_of F s) (is.units s).there none in
      let bad : None ≡ Some (waiting_unit F.groups.payload (content_of c)) = sym bare ∙ (is.units s).blank c waits in cc

  inside : (s : ℕ) → s / 128 ≡ g → s < 65536
  inside s same = let n = is.groups.table.numbers in let low = within in omega arith

  kept_shut : (s : ℕ) → HoldersStand F.groups keys s (F.held s) (F.tickets s) → HoldersStand G.groups keys s (F.held s) (F.tickets s)
  kept_shut s old = record {
    once = old.once;
    inside = old.inside;
    waits = old.waits;
    waiting = old.waiting;
    block = old.block;
    shut = λ h hh. let y = old.shut h hh in (y.0, none_still F.groups g h within y.1);
  }

  same_holders : (s : ℕ) → G.held s ≡ F.held s → HoldersStand G.groups keys s (G.held s) (F.tickets s)
  same_holders s same = subst (λ h. HoldersStand G.groups keys s h (F.tickets s)) (sym same) (kept_shut s (is.holders s))

  holders : (s : ℕ) → HoldersStand G.groups keys s (G.held s) (F.tickets s)
  holders s = go (cases_eq (s / 128) g) (nat_lt (s % 128) count) refl
    where
      go : (s / 128 ≡ g) ⊎ (s / 128 ≡ g → ⊥) → (q : Bool) → nat_lt (s % 128) count ≡ q → HoldersStand G.groups keys s (G.held s) (F.tickets s)
      go (inr ne) q lt = same_holders s (held_else s ne)
      go (inl same) false high = same_holders s (held_past s same high)
      go (inl same) true low =
          let nobody = nobodys s (in_group s same low) in
          let none : F.tickets s ≡ None = free_waits F.groups keys s (F.held s) (F.tickets s) (is.holders s) nobody in
          subst (λ h. HoldersStand G.groups keys s h (F.tickets s)) (sym (held_in s same low))
          (subst (λ t. HoldersStand G.groups keys s (turned F.held s (Worker w) (Shut g) s) t) (sym none)
          (shut_matches G.groups keys s g (turned F.held s (Worker w) (Shut g) s) (inside s same)
          (turned_just IsArrays F.held s (Worker w) (Shut g) (λ j of. nobody j of ∙ sym (not_workers j w of))) (sym same) (group_same F.groups g None within)))

  units : (s : ℕ) → (s / 128 ≡ g) ⊎ (s / 128 ≡ g → ⊥) → UnitMatches F.groups.payload F.emitted F.writes keys s (class_of G s) (F.tickets s) (G.units s)
  units s (inl same) = subst (UnitMatches F.groups.payload F.emitted F.writes keys s (class_of G s) (F.tickets s)) (sym (unit_here s same))
      (subst (λ o. UnitMatches F.groups.payload F.emitted F.writes keys s o (F.tickets s) None) (sym (class_here s same))
      (bare_matches F.groups.payload F.emitted F.writes keys s (F.tickets s) (no_ticket s same (nat_lt (s % 128) count) refl)))
  units s (inr ne) = subst (UnitMatches F.groups.payload F.emitted F.writes keys s (class_of G s) (F.tickets s)) (sym (unit_else s ne))
      (subst (λ o. UnitMatches F.groups.payload F.emitted F.writes keys s o (F.tickets s) (F.units s)) (sym (class_else s ne)) (is.units s))

  places : (b : ℕ) → F.held (record_of b (keys b)).place (Block b) ≡ true
      → (G.units (record_of b (keys b)).place ≡ F.units (record_of b (keys b)).place) × (G.held (record_of b (keys b)).place (Block b) ≡ true)
  places b has = (unit_else (record_of b (keys b)).place away, ap (λ (h : Holder → Bool). h (Block b)) (held_else (record_of b (keys b)).place away) ∙ has)
    where
      away : (record_of b (keys b)).place / 128 ≡ g → ⊥
      away same =
          let some = ((is.holders (record_of b (keys b)).place).block b has).0 in
          let at = ((is.written b).1 some).2.unit in
          let of : IsIn F g (record_of b (keys b)).place = record {
            group = same;
            made = some_class (F.units (record_of b (keys b)).place) (class_of F (record_of b (keys b)).place) at.stored (is.units (record_of b (keys b)).place).there at.there;
          } in
          (claimed (record_of b (keys b)).place of).1 (Block b, for_block b, has)

  pub unmake_keeps : IsHistory (unmade F w g) keys
  unmake_keeps =
      history_as F keys is is.limits.least is.limits.most (groups_fewer F.groups F.drives g is.groups within) holders (λ s. units s (cases_eq (s / 128) g)) places

-- a slot has the holders that it had, or it was the worker's and is the group's number's
pub unmade_at : (F : Flat) (keys : ℕ → ℕ) (w g : ℕ) → IsHistory F keys → group_at F.groups g ≢ None → ((s : ℕ) → IsIn F g s → HasClaim F w s) → (t : ℕ)
    → ((unmade F w g).held t ≡ F.held t) ⊎ ((F.held t (Worker w) ≡ true) × ((unmade F w g).held t ≡ turned F.held t (Worker w) (Shut g) t))
unmade_at F keys w g is made claimed t = go (cases_eq (t / 128) g) (nat_lt (t % 128) (slots_in F.groups.segments (group_at F.groups g))) refl
  where
    go : (t / 128 ≡ g) ⊎ (t / 128 ≡ g → ⊥) → (q : Bool) → nat_lt (t % 128) (slots_in F.groups.segments (group_at F.groups g)) ≡ q
        → ((unmade F w g).held t ≡ F.held t) ⊎ ((F.held t (Worker w) ≡ true) × ((unmade F w g).held t ≡ turned F.held t (Worker w) (Shut g) t))
    go (inr ne) q lt = inl (held_else F keys w g is made claimed t ne)
    go (inl same) false high = inl (held_past F keys w g is made claimed t same high)
    go (inl same) true low = inr ((claimed t (in_group F keys w g is made claimed t same low)).0, held_in F keys w g is made claimed t same low)
