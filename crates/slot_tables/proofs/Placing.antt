-- There are places for the slots of each group that is made, and so for each slot that is of one.
use Rattle.std.proofs.Common.{◌≡◌, ◌≢◌, ℕ, ◌+◌, ◌*◌, ◌/◌, ◌%◌, ◌<◌, ◌≤◌, ◌∙◌, ap, arith, ◌⊎◌, inl, inr, Bool, true, false, IsTrue, Option, None}
use Rattle.std.specs.Prelude.{slice_get}
use Rattle.std.proofs.lemmas.Bool.{cases_eq}
use Rattle.extent_groups.specs.Groups.{AreGroups, Group, Groups, IsFree, group_at, members_in, members_of, with_group}
use Rattle.extent_groups.proofs.GroupsLemmas.{group_other}
use Rattle.unit_store.proofs.Outcomes.{group_past}
use Rattle.flat_machine.specs.Groups.{class_at, class_below}
use Rattle.slot_tables.specs.Kept.{HavePlaces}

-- with another group, or none, under a number for whose slots there are places
pub placed_with : (t : Groups) (g n : ℕ) (x : Option Group) → 128 * g + 128 ≤ n → HavePlaces t n → HavePlaces (with_group t g x) n
placed_with t g n x enough have = record { made = λ h is. go h is (cases_eq h g); most = have.most }
  where
    go : (h : ℕ) → group_at (with_group t g x) h ≢ None → (h ≡ g) ⊎ (h ≡ g → ⊥) → 128 * h + 128 ≤ n
    go h is (inl e) = omega (arith, e, enough)
    go h is (inr ne) = have.made h (λ none. is (group_other t g h x ne ∙ none))

-- with more places
pub placed_longer : (t : Groups) (m n : ℕ) → m ≤ n → n ≤ 65536 → HavePlaces t m → HavePlaces t n
placed_longer t m n longer most have = record { made = λ g is. let enough = have.made g is in omega (arith, enough, longer); most = most }

-- a slot of a group that is made
pub placed_slot : (t : Groups) (s n : ℕ) → class_at t s ≢ None → HavePlaces t n → s < n
placed_slot t s n is have =
    let enough = have.made (s / 128) (λ none. is (ap (λ o. class_below t.segments o (s % 128)) none)) in
    omega (arith, enough)

-- a group that has a member is made
pub made_of_member : (t : Groups) (g k : ℕ) → slice_get (members_of t g) k ≢ None → group_at t g ≢ None
made_of_member t g k is none = is (ap (λ o. slice_get (members_in o) k) none)

-- places for the groups below a number: enough, and no more than are enough for all groups
pub record AreFewestBelow (t : Groups) (g places : ℕ) : Type 0 where
  pub before : (h : ℕ) → h < g → group_at t h ≢ None → 128 * h + 128 ≤ places
  pub most : places ≤ 128 * g
  pub fewest : (n : ℕ) → HavePlaces t n → places ≤ n

-- one number more: its group is made or not
pub fewest_made : (t : Groups) (g n p : ℕ) → group_at t g ≢ None → p ≡ 128 * (g + 1) → AreFewestBelow t g n → AreFewestBelow t (g + 1) p
fewest_made t g n p made is below = record {
  before = λ h low has. omega (arith, low, is);
  most = omega (arith, is);
  fewest = λ m have. let enough = have.made g made in omega (arith, enough, is);
}

pub fewest_free : (t : Groups) (g n p : ℕ) → group_at t g ≡ None → p ≡ n → AreFewestBelow t g n → AreFewestBelow t (g + 1) p
fewest_free t g n p free is below = record {
  before = λ h low made. go h low made (cases_eq h g);
  most = let most = below.most in omega (arith, most, is);
  fewest = λ m have. let least = below.fewest m have in omega (arith, least, is);
}
  where
    go : (h : ℕ) → h < g + 1 → group_at t h ≢ None → (h ≡ g) ⊎ (h ≡ g → ⊥) → 128 * h + 128 ≤ p
    go h low made (inl e) = absurd (made (ap (group_at t) e ∙ free))
    go h low made (inr ne) = let enough = below.before h (omega (arith, low, ne)) made in omega (arith, enough, is)

-- by a test whether a number is free: its group is made or not
pub tested_made : (t : Groups) (g : ℕ) (test : Bool) → test ≡ false → (IsFree t g → IsTrue test) → AreGroups t → g < 512 → group_at t g ≢ None
tested_made t g test is free are low none =
    let numbers = are.numbers in
    let so : test ≡ true = free (record { within = omega (arith, numbers, low); free = none }) in
    absurd (cc)

pub tested_free : (t : Groups) (g : ℕ) (test : Bool) → test ≡ true → (IsTrue test → IsFree t g) → group_at t g ≡ None
tested_free t g test is free = (free is).free

-- all numbers are done
pub fewest_all : (t : Groups) (g n : ℕ) → AreGroups t → g ≡ 512 → AreFewestBelow t g n → HavePlaces t n
fewest_all t g n are end below = record {
  made = λ h made. below.before h (let low = group_past t h are made in omega (arith, end, low)) made;
  most = let most = below.most in omega (arith, end, most);
}
