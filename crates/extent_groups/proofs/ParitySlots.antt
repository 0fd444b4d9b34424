-- The table of how many slots each parity group has: kept as groups change, and read at one number.
use Rattle.std.proofs.Common.{◌≡◌, ◌∙◌, ℕ, zero, suc, ◌-◌, ◌*◌, ◌<◌, ◌≤◌, Option, Some, None, List, [], ◌∷◌, length, refl, sym, ap, subst, arith, get_or}
use Rattle.std.specs.Prelude.{slice_get, slice_set, slice_index, option_map, unwrap_or, map, replicate}
use Rattle.std.proofs.lemmas.List.{map-set, length-set}
use Rattle.std.proofs.Math.Seq.{map-set_same}
use Rattle.extents.specs.declared.shape.Shape.{Shape}
use Rattle.extent_groups.specs.declared.class.Class.{Class}
use Rattle.extent_groups.specs.declared.class.Class.TheVariants.{Mirrored, Parity}
use Rattle.extent_groups.specs.declared.class.Member.{Member}
use Rattle.extent_groups.specs.Geometry.{slot_count}
use Rattle.std.proofs.lemmas.Option.{same_Some}
use Rattle.extent_groups.specs.declared.table.Kept.{Kept}
use Rattle.extent_groups.specs.Groups.{Group, Groups, AreGroups, group_at, class_in, slots_in, parity_slots_in, parity_count, parity_slots_of, with_member}
use Rattle.extent_groups.specs.Kept.{group_of, groups_in}

-- ---- as groups change

-- one number written
pub slots_written : (shape : Shape) (kept : List (Option Kept)) (slots : List ℕ) (g n : ℕ) (x : Option Kept) → slots ≡ parity_slots_of (groups_in shape kept)
    → n ≡ parity_slots_in shape.segments (option_map group_of x) → slice_set slots g n ≡ parity_slots_of (groups_in shape (slice_set kept g x))
slots_written shape kept slots g n x are is =
    ap (λ l. slice_set l g n) are
    ∙ ap (λ k. slice_set (parity_slots_of (groups_in shape kept)) g k) is
    ∙ sym (map-set (parity_slots_in shape.segments) (map (option_map group_of) kept) g (option_map group_of x))
    ∙ ap (map (parity_slots_in shape.segments)) (sym (map-set (option_map group_of) kept g x))

-- an optional read of a list, with a default
read_at : {X : Type 0} (l : List X) (i : ℕ) (d : X) → unwrap_or (slice_get l i) d ≡ get_or l i d
read_at [] i d = refl
read_at (x ∷ l) zero d = refl
read_at (x ∷ l) (suc i) d = read_at l i d

-- another member of a group changes nothing
pub slots_swapped : (shape : Shape) (kept : List (Option Kept)) (slots : List ℕ) (t : Groups) (g k : ℕ) (group : Group) (x : Option Kept) (to : Member)
    → slots ≡ parity_slots_of (groups_in shape kept) → groups_in shape kept ≡ t → group_at t g ≡ Some group → option_map group_of x ≡ Some (with_member group k to)
    → slots ≡ parity_slots_of (groups_in shape (slice_set kept g x))
slots_swapped shape kept slots t g k group x to are view made is =
    let here : get_or (map (option_map group_of) kept) g None ≡ Some group =
    sym (read_at (map (option_map group_of) kept) g None) ∙ ap (λ s. group_at s g) view ∙ made in
    let members : length (slice_set group.members k to) ≡ length group.members = length-set group.members k to in
    let same : parity_slots_in shape.segments (option_map group_of x) ≡ parity_slots_in shape.segments (get_or (map (option_map group_of) kept) g None) =
    ap (parity_slots_in shape.segments) is ∙ ap (λ n. parity_count group.class n shape.segments) members ∙ sym (ap (parity_slots_in shape.segments) here) in
    are
    ∙ sym (map-set_same (parity_slots_in shape.segments) (map (option_map group_of) kept) g (option_map group_of x) None same)
    ∙ ap (map (parity_slots_in shape.segments)) (sym (map-set (option_map group_of) kept g x))

-- no number has a group
pub slots_free : (shape : Shape) (n : ℕ) → replicate n 0 ≡ parity_slots_of (groups_in shape (replicate n None))
slots_free shape zero = refl
slots_free shape (suc n) = ap (λ l. 0 ∷ l) (slots_free shape n)

-- ---- as they are read

read_map : (segments : ℕ) (table : List (Option Group)) (g : ℕ) → slice_index (map (parity_slots_in segments) table) g ≡ parity_slots_in segments (unwrap_or (slice_get table g) None)
read_map segments [] g = refl
read_map segments (x ∷ table) zero = refl
read_map segments (x ∷ table) (suc g) = read_map segments table g

-- the slots of one number
pub slots_at : (groups : Groups) (g : ℕ) → slice_index (parity_slots_of groups) g ≡ parity_slots_in groups.segments (group_at groups g)
slots_at groups g = read_map groups.segments groups.table g

-- of a parity group they are its slots
slots_if_parity : (segments : ℕ) (o : Option Group) → class_in o ≡ Some Parity → parity_slots_in segments o ≡ slots_in segments o
slots_if_parity segments None made = absurd cc
slots_if_parity segments (Some group) made = by group.class refl
  where
    by : (class : Class) → group.class ≡ class → parity_count group.class (length group.members) segments ≡ slot_count group.class (length group.members) segments
    by Mirrored e = absurd (let both : Some Mirrored ≡ Some Parity = ap (λ c. Some c) (sym e) ∙ made in cc)
    by Parity e = rw e refl

pub parity_slots : (groups : Groups) (g : ℕ) → class_in (group_at groups g) ≡ Some Parity → slice_index (parity_slots_of groups) g ≡ slots_in groups.segments (group_at groups g)
parity_slots groups g made = slots_at groups g ∙ slots_if_parity groups.segments (group_at groups g) made

-- and there are some
some_if_parity : (segments : ℕ) (o : Option Group) → 1 ≤ segments → ((group : Group) → o ≡ Some group → 3 ≤ length group.members) → class_in o ≡ Some Parity → 0 < slots_in segments o
some_if_parity segments None some form made = absurd cc
some_if_parity segments (Some group) some form made =
    let class : group.class ≡ Parity = same_Some _ _ made in
    let n = form group refl in
    rw class (several segments (length group.members) some n)
  where
    several : (s n : ℕ) → 1 ≤ s → 3 ≤ n → 0 < 2 * s * (n - 1)
    several zero n a b = absurd (omega arith)
    several (suc s) zero a b = absurd (omega arith)
    several (suc s) (suc n) a b = omega (arith, a, b)

pub some_slots : (groups : Groups) (g : ℕ) → AreGroups groups → class_in (group_at groups g) ≡ Some Parity → 0 < slice_index (parity_slots_of groups) g
some_slots groups g are made =
    subst (λ n. 0 < n) (sym (parity_slots groups g made))
    (some_if_parity groups.segments (group_at groups g) are.segments.0 (λ group at. (are.formed g group at).enough) made)

-- where there are some it is a parity group
is_parity : (segments : ℕ) (o : Option Group) → 0 < parity_slots_in segments o → class_in o ≡ Some Parity
is_parity segments None some = absurd (omega arith)
is_parity segments (Some group) some = by group.class refl
  where
    by : (class : Class) → group.class ≡ class → Some group.class ≡ Some Parity
    by Mirrored e = let none : 0 < parity_count Mirrored (length group.members) segments = subst (λ c. 0 < parity_count c (length group.members) segments) e some in absurd (omega (arith, none))
    by Parity e = ap (λ c. Some c) e

pub parity_made : (groups : Groups) (g : ℕ) → 0 < slice_index (parity_slots_of groups) g → class_in (group_at groups g) ≡ Some Parity
parity_made groups g some = is_parity groups.segments (group_at groups g) (subst (λ n. 0 < n) (slots_at groups g) some)
