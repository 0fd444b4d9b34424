-- How many groups have a member on a drive: a move off it lowers that.
use Rattle.std.proofs.Common.{◌≡◌, ◌≢◌, ◌+◌, ◌<◌, ◌≤◌, ◌==◌, ℕ, Bool, true, false, cond, inl, inr, Option, Some, None, List, length, get_or, slice_get, sym, ap, ◌∙◌, arith}
use Rattle.std.specs.Prelude.{count_by, slice_set}
use Rattle.std.proofs.lemmas.Bool.{eqb-true}
use Rattle.std.proofs.lemmas.List.Folds.{list_any_none}
use Rattle.std.proofs.lemmas.List.Quantifiers.{position-Some}
use Rattle.std.proofs.lemmas.List.Sums.{count_by-le-length, sum_by-set}
use Rattle.std.proofs.lemmas.Option.{same_Some, slice_get-get_or, slice_get_within, unwrap_or-slice_get}
use Rattle.extent_groups.specs.declared.class.Member.{Member}
use Rattle.extent_groups.specs.Faults.{is_on}
use Rattle.extent_groups.specs.Groups.{AreGroups, Group, Groups, group_at, members_in, members_of, swapped_in, with_group}
use Rattle.extent_groups.specs.Stores.{HasMemberOn}
use Rattle.extent_groups.proofs.GroupsLemmas.{any_in}
use Rattle.extent_groups.proofs.Places.{get-set_other, get-set_same, same_or_not}
use Rattle.flat_machine.proofs.Pairs.{unequal}
use Rattle.flat_machine.proofs.Regroups.{group_of_member}
use Rattle.flat_machine.proofs.Unmakes.{number_within}
use Rattle.rebalancer.specs.Carrying.{member_on}

-- whether a group has a member on the drive
abbrev pub is_carrier : ℕ → Option Group → Bool
is_carrier drive group = is_on drive (members_in group)

-- how many groups have one there
abbrev pub carriers : Groups → ℕ → ℕ
carriers t drive = count_by (is_carrier drive) t.table

pub most_carriers : (t : Groups) (drive : ℕ) → AreGroups t → carriers t drive ≤ 512
most_carriers t drive are =
    let most = count_by-le-length (is_carrier drive) t.table in
    let many = are.numbers in
    omega (arith, most, many)

-- none of the members is on the drive
none_on : (drive : ℕ) (ms : List Member) → ((k : ℕ) (m : Member) → slice_get ms k ≡ Some m → m.drive ≡ drive → ⊥) → is_on drive ms ≡ false
none_on drive ms away = list_any_none (λ m. m.drive == drive) ms (λ k d low. unequal (get_or ms k d).drive drive (away k (get_or ms k d) (slice_get-get_or ms k d low)))

module _ (t : Groups) (drive g k : ℕ) (to : Member) (are : AreGroups t) (at : member_on t g drive ≡ Some k) (apart : HasMemberOn t g to.drive → ⊥) where
  abbrev was : Member
  was = get_or (members_of t g) k to

  there : slice_get (members_of t g) k ≡ Some was
  there = slice_get-get_or (members_of t g) k to (position-Some (λ (m : Member). m.drive == drive) (members_of t g) k to at).0

  on : was.drive ≡ drive
  on = eqb-true was.drive drive (position-Some (λ (m : Member). m.drive == drive) (members_of t g) k to at).1

  abbrev found : (group : Group) × (group_at t g ≡ Some group) × (slice_get group.members k ≡ Some was)
  found = group_of_member (group_at t g) k was there

  within : g < length t.table
  within = number_within t g (λ none. let bad : Some found.0 ≡ None = sym found.1 ∙ none in cc)

  before : is_carrier drive (get_or t.table g None) ≡ true
  before = ap (is_carrier drive) (sym (unwrap_or-slice_get t.table g None)) ∙ any_in (λ (m : Member). m.drive == drive) (members_of t g) k was there (ap (λ n. n == drive) on ∙ same drive)
    where
      same : (d : ℕ) → (d == d) ≡ true
      same d = grind (arith)

  -- no other member was on the drive, and the one that comes isn't
  away : (j : ℕ) (m : Member) → slice_get (slice_set found.0.members k to) j ≡ Some m → m.drive ≡ drive → ⊥
  away j m is e = elim (same_or_not j k) [
    | inl same ↦
        (let inside = slice_get_within found.0.members k was found.2 in
        let there_now : Some to ≡ Some m = sym (get-set_same found.0.members k to inside) ∙ ap (λ n. slice_get (slice_set found.0.members k to) n) (sym same) ∙ is in
        apart (k, was, there, on ∙ sym e ∙ sym (ap (λ (n : Member). n.drive) (same_Some to m there_now))))
    | inr other ↦
        other ((are.formed g found.0 found.1).spread j k m was (sym (get-set_other found.0.members k j to other) ∙ is) found.2 (e ∙ sym on))
  ]

  after : is_carrier drive (swapped_in (group_at t g) k to) ≡ false
  after = ap (λ o. is_carrier drive (swapped_in o k to)) found.1 ∙ none_on drive (slice_set found.0.members k to) away

  pub one_fewer : carriers (with_group t g (swapped_in (group_at t g) k to)) drive + 1 ≡ carriers t drive
  one_fewer =
      let set = sum_by-set (λ (x : Option Group). cond (is_carrier drive x) 1 0) t.table g (swapped_in (group_at t g) k to) None within in
      let value : Bool → ℕ = λ b. cond b 1 0 in
      let one : value (is_carrier drive (get_or t.table g None)) ≡ 1 = ap value before in
      let none : value (is_carrier drive (swapped_in (group_at t g) k to)) ≡ 0 = ap value after in
      omega (arith, set, one, none)
