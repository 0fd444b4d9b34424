-- Units spell one table of groups only.
use Rattle.std.proofs.Common.{◌≡◌, ◌⊎◌, ◌<◌, ◌≤◌, ◌+◌, ◌*◌, ◌/◌, ◌%◌, ◌++◌, ℕ, zero, suc, Option, Some, None, List, [], ◌∷◌, length, slice_get, refl, sym, ◌∙◌, ap, arith, inl, inr}
use Rattle.std.specs.Prelude.{unwrap_or}
use Rattle.std.proofs.lemmas.Bool.{cases_lt}
use Rattle.std.proofs.lemmas.Option.{same_Some, none-some, slice_get_past, slice_get-get_or, unwrap_or-slice_get}
use Rattle.extent_groups.specs.declared.class.Class.{Class}
use Rattle.extent_groups.specs.declared.class.Class.TheVariants.{Mirrored, Parity}
use Rattle.extent_groups.specs.declared.class.Member.{Member}
use Rattle.extent_groups.specs.Groups.{AreGroups, Group, Groups, IsFormed, class_in, group_at, members_in, members_of}
use Rattle.group_form.specs.Form.{SpellsGroups, member_bytes, class_number, count_unit, group_unit, half_code, member_code}

-- lists with the same elements are equal
pub same_lists : {A : Type 0} (xs ys : List A) → ((k : ℕ) → slice_get xs k ≡ slice_get ys k) → xs ≡ ys
same_lists [] [] same = refl
same_lists [] (y ∷ ys) same = absurd (none-some y (same 0))
same_lists (x ∷ xs) [] same = absurd (none-some x (sym (same 0)))
same_lists (x ∷ xs) (y ∷ ys) same = cc (same_Some x y (same 0), same_lists xs ys (λ k. same (suc k)))

class_is : (a b : Class) → class_number a ≡ class_number b → a ≡ b
class_is Mirrored Mirrored e = refl
class_is Mirrored Parity e = absurd (omega (arith, e))
class_is Parity Mirrored e = absurd (omega (arith, e))
class_is Parity Parity e = refl

class_some : (a : Class) → 0 ≡ class_number a → ⊥
class_some Mirrored e = omega (arith, e)
class_some Parity e = omega (arith, e)

extent_is : (a b : ℕ) → a % 256 ≡ b % 256 → a / 256 ≡ b / 256 → a ≡ b
extent_is a b low high = omega (arith, low, high)

member_is : (a b : Member) → a.drive ≡ b.drive → a.extent ≡ b.extent → a ≡ b
member_is a b d e = ap (λ x. let m : Member = record { drive = x; extent = a.extent } in m) d ∙ ap (λ x. let m : Member = record { drive = b.drive; extent = x } in m) e

-- the first element and the rest
head_is : {x y : ℕ} {xs ys : List ℕ} → x ∷ xs ≡ y ∷ ys → x ≡ y
head_is e = cc

tail_is : {x y : ℕ} {xs ys : List ℕ} → x ∷ xs ≡ y ∷ ys → xs ≡ ys
tail_is e = cc

-- a member's class and extent, as the code has it
bytes_are : (a b : Class) (m n : Member) → member_bytes a m ≡ member_bytes b n → (a ≡ b) × (m ≡ n)
bytes_are a b m n e =
    let one = tail_is e in
    let two = tail_is one in
    let three = tail_is two in
    (class_is a b (head_is e), member_is m n (head_is one) (extent_is m.extent n.extent (head_is two) (head_is three)))

-- codes of optional members
code_is : (a b : Class) (m n : Option Member) → member_code (Some a) m ≡ member_code (Some b) n → m ≡ n
code_is a b None None e = refl
code_is a b None (Some n) e = absurd (class_some b (head_is e))
code_is a b (Some m) None e = absurd (class_some a (sym (head_is e)))
code_is a b (Some m) (Some n) e = ap Some (bytes_are a b m n e).1

code_length : (class : Option Class) (m : Option Member) → length (member_code class m) ≡ 4
code_length None m = refl
code_length (Some class) None = refl
code_length (Some class) (Some m) = refl

-- equal lists, of which the first parts have the same length
parts_are : (a b x y : List ℕ) → length a ≡ length b → a ++ x ≡ b ++ y → (a ≡ b) × (x ≡ y)
parts_are [] [] x y long e = (refl, e)
parts_are [] (b ∷ bs) x y long e = absurd (omega (arith, long))
parts_are (a ∷ more) [] x y long e = absurd (omega (arith, long))
parts_are (a ∷ ms) (b ∷ bs) x y long e =
    let more = parts_are ms bs x y (omega (arith, long)) (tail_is e) in
    let first = head_is e in
    let rest = more.0 in
    (cc, more.1)

-- the members of which a group's code is made
abbrev CodesAre : Option Class → Option Class → List Member → List Member → ℕ → Type 0
CodesAre a b ms ns k = member_code a (slice_get ms k) ≡ member_code b (slice_get ns k)

half_is : (a b : Option Class) (ms ns : List Member) (from : ℕ) → half_code a ms from ≡ half_code b ns from
    → CodesAre a b ms ns from × CodesAre a b ms ns (from + 1) × CodesAre a b ms ns (from + 2) × CodesAre a b ms ns (from + 3)
half_is a b ms ns from e =
    let long = λ (k : ℕ). code_length a (slice_get ms k) ∙ sym (code_length b (slice_get ns k)) in
    let one = parts_are (member_code a (slice_get ms from)) (member_code b (slice_get ns from)) _ _ (long from) e in
    let two = parts_are (member_code a (slice_get ms (from + 1))) (member_code b (slice_get ns (from + 1))) _ _ (long (from + 1)) one.1 in
    let three = parts_are (member_code a (slice_get ms (from + 2))) (member_code b (slice_get ns (from + 2))) _ _ (long (from + 2)) two.1 in
    (one.0, two.0, three.0, three.1)

codes_below : (a b : Option Class) (ms ns : List Member) → half_code a ms 0 ≡ half_code b ns 0 → half_code a ms 4 ≡ half_code b ns 4
    → (k : ℕ) → k < 8 → CodesAre a b ms ns k
codes_below a b ms ns e f zero low = (half_is a b ms ns 0 e).0
codes_below a b ms ns e f (suc zero) low = (half_is a b ms ns 0 e).1
codes_below a b ms ns e f (suc (suc zero)) low = (half_is a b ms ns 0 e).2
codes_below a b ms ns e f (suc (suc (suc zero))) low = (half_is a b ms ns 0 e).3
codes_below a b ms ns e f (suc (suc (suc (suc zero)))) low = (half_is a b ms ns 4 f).0
codes_below a b ms ns e f (suc (suc (suc (suc (suc zero))))) low = (half_is a b ms ns 4 f).1
codes_below a b ms ns e f (suc (suc (suc (suc (suc (suc zero)))))) low = (half_is a b ms ns 4 f).2
codes_below a b ms ns e f (suc (suc (suc (suc (suc (suc (suc zero))))))) low = (half_is a b ms ns 4 f).3
codes_below a b ms ns e f (suc (suc (suc (suc (suc (suc (suc (suc k)))))))) low = absurd (omega (arith, low))

-- a first member
first_of : (ms : List Member) → 3 ≤ length ms → (m : Member) × (slice_get ms 0 ≡ Some m)
first_of [] many = absurd (omega (arith, many))
first_of (m ∷ ms) many = (m, refl)

abbrev IsFormedIn : Option Group → Type 0
IsFormedIn o = (group : Group) → o ≡ Some group → IsFormed group.members

-- codes of two groups of which one isn't there
not_there : (b : Class) (ns : List Member) → 3 ≤ length ns → member_code None None ≡ member_code (Some b) (slice_get ns 0) → ⊥
not_there b ns many e =
    let first = first_of ns many in
    class_some b (head_is (e ∙ ap (member_code (Some b)) first.1))

same_class : (a b : Class) (ms ns : List Member) → 3 ≤ length ms → 3 ≤ length ns
    → member_code (Some a) (slice_get ms 0) ≡ member_code (Some b) (slice_get ns 0) → a ≡ b
same_class a b ms ns many more e =
    let m = first_of ms many in
    let n = first_of ns more in
    (bytes_are a b m.0 n.0 (sym (ap (member_code (Some a)) m.1) ∙ (e ∙ ap (member_code (Some b)) n.1))).0

same_members : (a b : Class) (ms ns : List Member) → length ms ≤ 8 → length ns ≤ 8
    → ((k : ℕ) → k < 8 → CodesAre (Some a) (Some b) ms ns k) → ms ≡ ns
same_members a b ms ns few less codes = same_lists ms ns (λ k. at k (cases_lt k 8))
  where
    at : (k : ℕ) → (k < 8) ⊎ (8 ≤ k) → slice_get ms k ≡ slice_get ns k
    at k (inl low) = code_is a b (slice_get ms k) (slice_get ns k) (codes k low)
    at k (inr high) = slice_get_past ms k (omega (arith, high, few)) ∙ sym (slice_get_past ns k (omega (arith, high, less)))

-- groups are given by their codes
same_group : (o p : Option Group) → IsFormedIn o → IsFormedIn p
    → ((k : ℕ) → k < 8 → CodesAre (class_in o) (class_in p) (members_in o) (members_in p) k) → o ≡ p
same_group None None one two codes = refl
same_group None (Some b) one two codes = absurd (not_there b.class b.members (two b refl).enough (codes 0 (omega arith)))
same_group (Some a) None one two codes = absurd (not_there a.class a.members (one a refl).enough (sym (codes 0 (omega arith))))
same_group (Some a) (Some b) one two codes =
    let x = one a refl in
    let y = two b refl in
    let class = same_class a.class b.class a.members b.members x.enough y.enough (codes 0 (omega arith)) in
    let members = same_members a.class b.class a.members b.members x.few y.few codes in
    ap Some (group_is a b class members)
  where
    group_is : (a b : Group) → a.class ≡ b.class → a.members ≡ b.members → a ≡ b
    group_is a b c m = ap (λ x. let g : Group = record { class = x; members = a.members } in g) c ∙ ap (λ x. let g : Group = record { class = b.class; members = x } in g) m

-- a group's two units
first_half : (groups : Groups) (g : ℕ) → group_unit groups (2 * g) ≡ half_code (class_in (group_at groups g)) (members_of groups g) 0
first_half groups g =
    let group : (2 * g) / 2 ≡ g = omega arith in
    let from : 4 * ((2 * g) % 2) ≡ 0 = omega arith in
    ap (λ k. half_code (class_in (group_at groups k)) (members_of groups k) (4 * ((2 * g) % 2))) group
    ∙ ap (half_code (class_in (group_at groups g)) (members_of groups g)) from

second_half : (groups : Groups) (g : ℕ) → group_unit groups (2 * g + 1) ≡ half_code (class_in (group_at groups g)) (members_of groups g) 4
second_half groups g =
    let group : (2 * g + 1) / 2 ≡ g = omega arith in
    let from : 4 * ((2 * g + 1) % 2) ≡ 4 = omega arith in
    ap (λ k. half_code (class_in (group_at groups k)) (members_of groups k) (4 * ((2 * g + 1) % 2))) group
    ∙ ap (half_code (class_in (group_at groups g)) (members_of groups g)) from

module _ (a b : Groups) (are : AreGroups a) (too : AreGroups b) (same : (u : ℕ) → u < 1024 → group_unit a u ≡ group_unit b u) where
  group_same : (g : ℕ) → g < 512 → group_at a g ≡ group_at b g
  group_same g low = same_group (group_at a g) (group_at b g) (λ x is. are.formed g x is) (λ x is. too.formed g x is)
      (codes_below (class_in (group_at a g)) (class_in (group_at b g)) (members_of a g) (members_of b g)
      (sym (first_half a g) ∙ (same (2 * g) (omega (arith, low)) ∙ first_half b g))
      (sym (second_half a g) ∙ (same (2 * g + 1) (omega (arith, low)) ∙ second_half b g)))

  table_same : a.table ≡ b.table
  table_same = same_lists a.table b.table (λ g. at g (cases_lt g 512))
    where
      at : (g : ℕ) → (g < 512) ⊎ (512 ≤ g) → slice_get a.table g ≡ slice_get b.table g
      at g (inl low) = number_at a.table g (omega (arith, low, are.numbers)) ∙ (ap Some (group_same g low) ∙ sym (number_at b.table g (omega (arith, low, too.numbers))))
        where
          number_at : (table : List (Option Group)) (g : ℕ) → g < length table → slice_get table g ≡ Some (unwrap_or (slice_get table g) None)
          number_at table g low = slice_get-get_or table g None low ∙ ap Some (sym (unwrap_or-slice_get table g None))
      at g (inr high) = slice_get_past a.table g (omega (arith, high, are.numbers)) ∙ sym (slice_get_past b.table g (omega (arith, high, too.numbers)))

  pub same_groups : a.extents ≡ b.extents → a.segments ≡ b.segments → a.payload ≡ b.payload → a.blocks ≡ b.blocks → a ≡ b
  same_groups e s p n =
      ap (λ x. let g : Groups = record { extents = x; segments = a.segments; payload = a.payload; blocks = a.blocks; table = a.table } in g) e
      ∙ (ap (λ x. let g : Groups = record { extents = b.extents; segments = x; payload = a.payload; blocks = a.blocks; table = a.table } in g) s
      ∙ (ap (λ x. let g : Groups = record { extents = b.extents; segments = b.segments; payload = x; blocks = a.blocks; table = a.table } in g) p
      ∙ (ap (λ x. let g : Groups = record { extents = b.extents; segments = b.segments; payload = b.payload; blocks = x; table = a.table } in g) n
      ∙ ap (λ x. let g : Groups = record { extents = b.extents; segments = b.segments; payload = b.payload; blocks = b.blocks; table = x } in g) table_same)))

-- units spell one table of groups and one number of drives
pub one_spelled : (a b : Groups) (n m : ℕ) (units : List (List ℕ)) → AreGroups a → AreGroups b
    → a.extents ≡ b.extents → a.segments ≡ b.segments → a.payload ≡ b.payload → a.blocks ≡ b.blocks
    → SpellsGroups a n units → SpellsGroups b m units → (a ≡ b) × (n ≡ m)
one_spelled a b n m units are too e s p k one two = (
  same_groups a b are too (λ u low. same_Some _ _ (sym (one.each u low) ∙ two.each u low)) e s p k,
  head_is (same_Some (count_unit n) (count_unit m) (sym one.last ∙ two.last)),
)
