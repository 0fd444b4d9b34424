-- The table's groups after one number is written.
use Rattle.std.proofs.Common.{◌≡◌, ℕ, ◌<◌, ◌≤◌, Bool, true, false, Option, Some, None, List, Vec, Global, length, refl, sym, ◌∙◌, ap, subst, arith, get_or}
use Rattle.std.specs.Prelude.{slice_get, slice_set, option_map, unwrap_or, IsSome, nat_lt, if◌then◌else◌}
use Rattle.std.specs.List.{list_any}
use Rattle.std.proofs.lemmas.List.{map-set, length-map}
use Rattle.std.proofs.lemmas.Option.{same_Some, slice_get-map, slice_get_read, slice_get-get_or}
use Rattle.extents.specs.Owners.{Owners, owner_of, with_owner, IsExtent}
use Rattle.extents.specs.declared.shape.Shape.{Shape}
use Rattle.extent_groups.specs.declared.class.Class.{Class}
use Rattle.extent_groups.specs.declared.class.Member.{Member}
use Rattle.extent_groups.specs.declared.table.Kept.{Kept}
use Rattle.std.proofs.lemmas.Bool.Decides.{nat_tests}
use Rattle.extent_groups.specs.declared.refusal.GroupRefusal.TheVariants.{TooFew, TooMany, SameDrive, ExtentTaken}
use Rattle.extent_groups.specs.Faults.{shares_drive, is_owned, put_fault, swap_check_of, is_on}
use Rattle.extent_groups.specs.Groups.{Group, Groups, group_at, members_in, members_of, with_group, with_owners, AreThere, IsFormed, AreGroups, Agree, IsFree, with_member}
use Rattle.extent_groups.specs.Kept.{group_of, groups_in}
use Rattle.extent_groups.proofs.GroupsLemmas.{none_owned, not_owned, spread_of}
use Rattle.extent_groups.proofs.Agreement.{agree_put, agree_take, groups_with}
use Rattle.extent_groups.proofs.Swapping.{agree_swap, formed_swap}

-- one number written is one group set
pub groups_in-set : (shape : Shape) (kept : List (Option Kept)) (g : ℕ) (x : Option Kept) → groups_in shape (slice_set kept g x) ≡ with_group (groups_in shape kept) g (option_map group_of x)
groups_in-set shape kept g x =
    ap (λ (table : List (Option Group)). let t : Groups = record { extents = shape.extents; segments = shape.segments; payload = shape.payload; blocks = shape.blocks; table = table } in t)
    (map-set (option_map group_of) kept g x)

-- what has passed every check: members that form a group, of extents that no group owns
pub record HasPassed (o : Owners) (ms : List Member) : Type 0 where
  pub formed : IsFormed ms
  pub free : (k : ℕ) (m : Member) → slice_get ms k ≡ Some m → owner_of o m.drive m.extent ≡ None

-- a check that passed, and those after it
pub check_passed : {X : Type 0} (b : Bool) (x : X) (rest : Option X) → (if b then Some x else rest) ≡ None → (b ≡ false) × (rest ≡ None)
check_passed true x rest e = absurd (let both : Some x ≡ None = e in cc)
check_passed false x rest e = (refl, e)

-- a test of two numbers that failed
not_below : (a b : ℕ) → nat_lt a b ≡ false → b ≤ a
not_below a b e = grind (arith, nat_tests)

pub passed : (o : Owners) (ms : List Member) → put_fault o ms ≡ None → HasPassed o ms
passed o ms e =
    let few = check_passed (nat_lt (length ms) 3) TooFew _ e in
    let many = check_passed (nat_lt 8 (length ms)) TooMany _ few.1 in
    let drives = check_passed (shares_drive ms) SameDrive _ many.1 in
    let taken = check_passed (list_any (is_owned o) ms) ExtentTaken _ drives.1 in
    let form : IsFormed ms = record { enough = not_below (length ms) 3 few.0; few = not_below 8 (length ms) many.0; spread = spread_of ms drives.0 } in
    record { formed = form; free = λ k m at. none_owned o ms k m taken.0 at }

-- making a group: what the table shows then, that it agrees with the owners, and that it is well formed
pub record IsPut (t' : Groups) (t : Groups) (o : Owners) (g : ℕ) (group : Group) : Type 0 where
  pub shown : t' ≡ with_group t g (Some group)
  pub agree : Agree t' (with_owners o group.members (Some g))
  pub groups : AreGroups t'

pub is_put : (shape : Shape) (kept : List (Option Kept)) (t : Groups) (o : Owners) (g : ℕ) (class : Class) (v : Vec Member Global) (ms : List Member)
    → groups_in shape kept ≡ t → v.items ≡ ms → AreGroups t → Agree t o → IsFree t g → AreThere o ms → put_fault o ms ≡ None
    → IsPut (groups_in shape (slice_set kept g (Some (record { class = class; members = v })))) t o g (record { class = class; members = ms })
is_put shape kept t o g class v ms view items are agree free there fine =
    let ok = passed o ms fine in
    let group : Group = record { class = class; members = ms } in
    let shown : groups_in shape (slice_set kept g (Some (record { class = class; members = v }))) ≡ with_group t g (Some group) =
    groups_in-set shape kept g (Some (record { class = class; members = v }))
    ∙ ap (λ s. with_group s g (Some (record { class = class; members = v.items }))) view
    ∙ ap (λ l. with_group t g (Some (record { class = class; members = l }))) items in
    let agree' = agree_put t o g group agree free there ok.free in
    record {
      shown = shown;
      agree = subst (λ s. Agree s (with_owners o ms (Some g))) (sym shown) agree';
      groups = subst AreGroups (sym shown) (groups_with t (with_owners o ms (Some g)) g (Some group) are agree' free.within (λ x e. subst (λ (y : Group). IsFormed y.members) (same_Some group x e) ok.formed));
    }

-- dissolving a group
pub record IsTaken (t' : Groups) (t : Groups) (o : Owners) (g : ℕ) (group : Group) : Type 0 where
  pub shown : t' ≡ with_group t g None
  pub agree : Agree t' (with_owners o group.members None)
  pub groups : AreGroups t'

pub is_taken : (shape : Shape) (kept : List (Option Kept)) (t : Groups) (o : Owners) (g : ℕ) (group : Group)
    → groups_in shape kept ≡ t → AreGroups t → Agree t o → g < length t.table → group_at t g ≡ Some group → IsTaken (groups_in shape (slice_set kept g None)) t o g group
is_taken shape kept t o g group view are agree within made =
    let shown : groups_in shape (slice_set kept g None) ≡ with_group t g None = groups_in-set shape kept g None ∙ ap (λ s. with_group s g None) view in
    let agree' = agree_take t o g group agree within made in
    record {
      shown = shown;
      agree = subst (λ s. Agree s (with_owners o group.members None)) (sym shown) agree';
      groups = subst AreGroups (sym shown) (groups_with t (with_owners o group.members None) g None are agree' within (λ x e. absurd cc));
    }

-- swapping a member
pub record IsSwapped (t' : Groups) (t : Groups) (o : Owners) (g k : ℕ) (group : Group) (was to : Member) : Type 0 where
  pub shown : t' ≡ with_group t g (Some (with_member group k to))
  pub agree : Agree t' (with_owner (with_owner o was.drive was.extent None) to.drive to.extent (Some g))
  pub groups : AreGroups t'

pub is_swapped : (shape : Shape) (kept : List (Option Kept)) (t : Groups) (o : Owners) (g k : ℕ) (group : Group) (x : Option Kept) (was to : Member)
    → groups_in shape kept ≡ t → AreGroups t → Agree t o → g < length t.table → group_at t g ≡ Some group → option_map group_of x ≡ Some (with_member group k to)
    → slice_get group.members k ≡ Some was → IsExtent o to.drive to.extent → swap_check_of o group.members to ≡ None
    → IsSwapped (groups_in shape (slice_set kept g x)) t o g k group was to
is_swapped shape kept t o g k group x was to view are agree within made is at here fine =
    let drives = check_passed (is_on to.drive group.members) SameDrive _ fine in
    let taken = check_passed (is_owned o to) ExtentTaken _ drives.1 in
    let formed = are.formed g group made in
    let shown : groups_in shape (slice_set kept g x) ≡ with_group t g (Some (with_member group k to)) =
    groups_in-set shape kept g x ∙ ap (λ s. with_group s g (option_map group_of x)) view ∙ ap (λ y. with_group t g y) is in
    let agree' = agree_swap t o g k group was to agree within made formed at here (not_owned o to taken.0) in
    record {
      shown = shown;
      agree = subst (λ s. Agree s (with_owner (with_owner o was.drive was.extent None) to.drive to.extent (Some g))) (sym shown) agree';
      groups = subst AreGroups (sym shown)
          (groups_with t (with_owner (with_owner o was.drive was.extent None) to.drive to.extent (Some g)) g (Some (with_member group k to)) are agree' within
          (λ y e. subst (λ (z : Group). IsFormed z.members) (same_Some (with_member group k to) y e) (formed_swap group.members k to formed drives.0)));
    }

-- what is kept under a number is the group of that number
pub number_is : (shape : Shape) (kept : List (Option Kept)) (t : Groups) (g : ℕ) (y : Option Kept) → groups_in shape kept ≡ t → g < length t.table → y ≡ get_or kept g y → option_map group_of y ≡ group_at t g
number_is shape kept t g y view within is =
    let inside : g < length kept = omega (arith, ap (λ (s : Groups). length s.table) view, length-map kept (option_map group_of)) in
    sym (ap (λ o. unwrap_or o None) (slice_get-map (option_map group_of) kept g ∙ ap (option_map (option_map group_of)) (slice_get_read kept (length kept) g y refl inside is)))
    ∙ ap (λ s. group_at s g) view

-- the member that is read by its number
pub was_of : (t : Groups) (g k : ℕ) (group : Group) (ms : List Member) (d : Member) → group_at t g ≡ Some group → ms ≡ group.members
    → (IsSome (group_at t g) → k < length (members_of t g)) → slice_get group.members k ≡ Some (get_or ms k d)
was_of t g k group ms d made is inside =
    let below : k < length group.members = subst (λ o. k < length (members_in o)) made (inside (subst (λ o. IsSome o) (sym made) refl)) in
    slice_get-get_or group.members k d below ∙ ap (λ l. Some (get_or l k d)) (sym is)
