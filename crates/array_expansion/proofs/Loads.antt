-- The loads of the drives, by the groups alone: one table of owners agrees with the groups, and a move by the plan lowers the sum of
-- the squares of its loads.
use Rattle.std.proofs.Common.{◌≡◌, ℕ, ◌+◌, ◌*◌, ◌<◌, ◌≤◌, Bool, List, [], Option, Some, None, length, get_or, refl, sym, ap, ◌∙◌, subst, arith}
use Rattle.std.specs.Prelude.{unwrap_or, is_some, count_by}
use Rattle.std.proofs.Math.Nat.{mul-le-mul_left}
use Rattle.std.proofs.lemmas.List.{same_lists, length-set}
use Rattle.std.proofs.lemmas.List.Sums.{sum_by-le, get_or-le-sum_by, count_by-le-length}
use Rattle.std.proofs.lemmas.Option.{slice_get-get_or}
use Rattle.extents.specs.Owners.{Owners, owner_row, owner_of, load_of, with_owner, IsExtent}
use Rattle.extent_groups.specs.declared.class.Member.{Member}
use Rattle.extent_groups.specs.Groups.{Groups, Agree, AreWide, IsMove, group_at, swapped_in, with_group}
use Rattle.extent_groups.proofs.Swapping.{agree_swap}
use Rattle.flat_machine.specs.Groups.{GroupsStand}
use Rattle.flat_machine.specs.Moves.{IsMoveReason}
use Rattle.flat_machine.proofs.Regroups.{group_of_member}
use Rattle.flat_machine.proofs.Unmakes.{number_within}
use Rattle.rebalancer.specs.declared.shift.Shift.{Shift}
use Rattle.rebalancer.specs.Balancing.{IsBalance, sum_of_squares}
use Rattle.rebalancer.proofs.Squares.{evens}

-- the row of a drive that is there
row_at : (o : Owners) (d : ℕ) (x : List (Option ℕ)) → d < length o.rows → owner_row o d ≡ get_or o.rows d x
row_at o d x low = ap (λ r. unwrap_or r []) (slice_get-get_or o.rows d x low)

-- what two tables that agree with the groups say of an extent
module _ (t : Groups) (a b : Owners) (left : Agree t a) (right : Agree t b) where
  owner_too : (d e g : ℕ) → owner_of a d e ≡ Some g → owner_of b d e ≡ Some g
  owner_too d e g is =
      let at = left.matches g d e is in
      (right.owned g at.0 (record { drive = d; extent = e }) at.1).1

module _ (t : Groups) (a b : Owners) (left : Agree t a) (right : Agree t b) where
  one_owner : (d e : ℕ) → owner_of a d e ≡ owner_of b d e
  one_owner d e = go (owner_of a d e) (owner_of b d e) refl refl
    where
      go : (x y : Option ℕ) → owner_of a d e ≡ x → owner_of b d e ≡ y → x ≡ y
      go None None p q = refl
      go (Some g) y p q = sym (owner_too t a b left right d e g p) ∙ q
      go None (Some g) p q = sym p ∙ owner_too t b a right left d e g q

  module _ (many : length a.rows ≡ length b.rows) (wide : a.extents ≡ b.extents) where
    one_row : (d : ℕ) → d < length a.rows → owner_row a d ≡ owner_row b d
    one_row d low =
        let low_too : d < length b.rows = omega (arith, many, low) in
        same_lists (owner_row a d) (owner_row b d) (left.wide d low ∙ wide ∙ sym (right.wide d low_too)) (λ e x inside.
        let inside_too : e < length (owner_row b d) = omega (arith, left.wide d low, right.wide d low_too, wide, inside) in
        let owner : Option (Option ℕ) → Option ℕ = λ o. unwrap_or o None in
        sym (ap owner (slice_get-get_or (owner_row a d) e x inside)) ∙ one_owner d e ∙ ap owner (slice_get-get_or (owner_row b d) e x inside_too))

    pub one_table : a ≡ b
    one_table =
        let rows : a.rows ≡ b.rows =
        same_lists a.rows b.rows many (λ d x low.
        let low_too : d < length b.rows = omega (arith, many, low) in
        sym (row_at a d x low) ∙ one_row d low ∙ row_at b d x low_too) in
        ap (λ n. let o : Owners = record { extents = n; rows = a.rows } in o) wide
        ∙ ap (λ r. let o : Owners = record { extents = b.extents; rows = r } in o) rows

-- a square is no greater than that of a greater number
square_most : (n m : ℕ) → n ≤ m → n * n ≤ m * m
square_most n m low = omega (arith, mul-le-mul_left n low, mul-le-mul_left m low)

-- the sum of the squares of the loads of sixteen drives of 512 extents
pub squares_most : (o : Owners) → AreWide o → length o.rows ≤ 16 → o.extents ≤ 512 → sum_of_squares o ≤ 4194304
squares_most o wide few narrow =
    let most = sum_by-le (λ (row : List (Option ℕ)). count_by is_some row * count_by is_some row) 262144 o.rows (λ d x low.
    let row : List (Option ℕ) = get_or o.rows d x in
    let long : length row ≡ o.extents = ap (λ r. length r) (sym (row_at o d x low)) ∙ wide d low in
    square_most (count_by is_some row) 512 (omega (arith, count_by-le-length is_some row, long, narrow))) in
    omega (arith, most, few)

-- a move by the plan
module _ (t : Groups) (o after : Owners) (drives g k : ℕ) (to : Member)
    (stand : GroupsStand t drives) (reason : IsMoveReason t drives g k to None)
    (agree : Agree t o) (rows : length o.rows ≡ drives) (wide : o.extents ≡ t.extents)
    (agrees : Agree (with_group t g (swapped_in (group_at t g) k to)) after)
    (rows_too : length after.rows ≡ drives) (wide_too : after.extents ≡ t.extents) where
  free : owner_of o to.drive to.extent ≡ None
  free = go (owner_of o to.drive to.extent) refl
    where
      go : (x : Option ℕ) → owner_of o to.drive to.extent ≡ x → x ≡ None
      go None is = refl
      go (Some h) is = absurd (reason.1.unowned h (agree.matches h to.drive to.extent is))

  here : IsExtent o to.drive to.extent
  here = let target = reason.1 in record { within = omega (arith, target.drive, rows); inside = omega (arith, target.extent, wide) }

  -- the owners then are those of the move
  is_move : IsMove t o after g k to
  is_move was at =
      let found = group_of_member (group_at t g) k was at in
      let within : g < length t.table = number_within t g (λ none. let bad : Some found.0 ≡ None = sym found.1 ∙ none in cc) in
      let next : Owners = with_owner (with_owner o was.drive was.extent None) to.drive to.extent (Some g) in
      let swapped = agree_swap t o g k found.0 was to agree within found.1 (stand.table.formed g found.0 found.1) found.2 here free in
      let groups = ap (λ x. with_group t g (swapped_in x k to)) (sym found.1) in
      one_table (with_group t g (swapped_in (group_at t g) k to)) after next agrees (subst (λ z. Agree z next) groups swapped)
      (rows_too ∙ sym rows ∙ sym (length-set (with_owner o was.drive was.extent None).rows to.drive _ ∙ length-set o.rows was.drive _)) (wide_too ∙ sym wide)

-- a move by the plan lowers the sum
pub squares_fall : (t : Groups) (o after : Owners) (drives : ℕ) (lost : List Bool) (s : Shift)
    → GroupsStand t drives → IsMoveReason t drives s.group s.member s.to None
    → Agree t o → length o.rows ≡ drives → o.extents ≡ t.extents → IsBalance o t lost (Some s)
    → Agree (with_group t s.group (swapped_in (group_at t s.group) s.member s.to)) after → length after.rows ≡ drives → after.extents ≡ t.extents
    → sum_of_squares after + 2 ≤ sum_of_squares o
squares_fall t o after drives lost s stand reason agree rows wide plan agrees rows_too wide_too =
    let shift = plan.1 in
    let drives_are = shift.allowed.drives in
    evens o after t plan.0 s.member s.group s.to agree shift.member shift.extent drives_are.taker.present.there.within drives_are.uneven
    (is_move t o after drives s.group s.member s.to stand reason agree rows wide agrees rows_too wide_too)

-- the sum where some drive has two extents in groups
pub squares_some : (o : Owners) (d : ℕ) → d < length o.rows → 2 ≤ load_of o d → 4 ≤ sum_of_squares o
squares_some o d low two =
    let part = get_or-le-sum_by (λ (row : List (Option ℕ)). count_by is_some row * count_by is_some row) o.rows d [] low in
    let load : load_of o d ≡ count_by is_some (get_or o.rows d []) = ap (λ row. count_by is_some row) (row_at o d [] low) in
    omega (arith, square_most 2 (count_by is_some (get_or o.rows d [])) (omega (arith, load, two)), part)
