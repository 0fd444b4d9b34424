-- The tests that come before a group is made, and its units put into the table.
use Rattle.std.proofs.Common.{◌≡◌, ◌≢◌, ℕ, suc, ◌+◌, ◌<◌, ◌≤◌, Bool, true, false, ◌==◌, ◌||◌, cond, List, [], ◌∷◌, length, refl, sym, ap, ◌∙◌, subst, arith, ◌⊎◌, inl, inr, Option, Some, None, is_some, nat_lt}
use Rattle.std.specs.Prelude.{slice_get}
use Rattle.std.specs.List.{list_any}
use Rattle.std.proofs.lemmas.Bool.{cases_eq}
use Rattle.std.proofs.lemmas.Bool.Decides.{nat_tests}
use Rattle.extents.specs.Owners.{Owners, owner_of}
use Rattle.extent_groups.specs.declared.class.Member.{Member}
use Rattle.extent_groups.specs.declared.refusal.GroupRefusal.{GroupRefusal}
use Rattle.extent_groups.specs.declared.refusal.GroupRefusal.TheVariants as fault
use Rattle.extent_groups.specs.Faults.{is_on, shares_drive, is_owned, put_fault}
use Rattle.extent_groups.specs.Groups.{Groups, group_at, AreThere, AreGroups, IsFree, Agree}
use Rattle.extent_groups.proofs.GroupsLemmas.{none_owned, spread_of}
use Rattle.flat_machine.specs.Groups.{AreMembers, AreApart, AreUnowned, IsLowestFree}
use Rattle.flat_machine.proofs.Pairs.{equal_back}
use Rattle.flat_machine.specs.declared.refusal.Refusal.{Refusal}
use Rattle.flat_machine.specs.declared.refusal.Refusal.TheVariants.{SameDrive, ExtentTaken}
use Rattle.slot_tables.specs.Making.{reported_of, IsPutReason, IsMakeReason}
use Rattle.slot_tables.specs.Views.{ArrayView, IsWhole}

-- an element that passes a test
any_true : {X : Type 0} (p : X → Bool) (xs : List X) → list_any p xs ≡ true → (k : ℕ) × (x : X) × (slice_get xs k ≡ Some x) × (p x ≡ true)
any_true p [] e = absurd (cc)
any_true {X} p (x ∷ xs) e = go (p x) refl (λ f. any_true p xs f)
  where
    go : (b : Bool) → p x ≡ b → (list_any p xs ≡ true → (k : ℕ) × (y : X) × (slice_get xs k ≡ Some y) × (p y ≡ true))
        → (k : ℕ) × (y : X) × (slice_get (x ∷ xs) k ≡ Some y) × (p y ≡ true)
    go true is later = (0, x, refl, is)
    go false is later = let r = later (sym (ap (λ b. b || list_any p xs) is) ∙ e) in (suc r.0, r.1, r.2, r.3)

next_apart : (m : Member) (ms : List Member) → AreApart (m ∷ ms) → AreApart ms
next_apart m ms apart j k a b at bt d = let e : suc j ≡ suc k = apart (suc j) (suc k) a b at bt d in omega arith

-- two members on one drive speak against them
shared_not : (ms : List Member) → shares_drive ms ≡ true → AreApart ms → ⊥
shared_not [] e apart = cc
shared_not (m ∷ ms) e apart = go (is_on m.drive ms) refl (λ f. shared_not ms f)
  where
    go : (b : Bool) → is_on m.drive ms ≡ b → (shares_drive ms ≡ true → AreApart ms → ⊥) → ⊥
    go true is later =
        let r = any_true (λ (n : Member). n.drive == m.drive) ms is in
        let bad : 0 ≡ suc r.0 = apart 0 (suc r.0) m r.1 refl r.2 (sym (equal_back r.1.drive m.drive r.3)) in
        omega arith
    go false is later = later (sym (ap (λ b. b || shares_drive ms) is) ∙ e) (next_apart m ms apart)

some_of : (o : Option ℕ) → is_some o ≡ true → (n : ℕ) × (o ≡ Some n)
some_of (Some n) e = (n, refl)
some_of None e = absurd (cc)

-- an extent that is owned speaks against the members, and where none is no group has one
owned_not : (groups : Groups) (owners : Owners) (ms : List Member) → Agree groups owners → list_any (is_owned owners) ms ≡ true → AreUnowned groups ms → ⊥
owned_not groups owners ms agree e unowned =
    let r = any_true (is_owned owners) ms e in
    let g = some_of (owner_of owners r.1.drive r.1.extent) r.3 in
    unowned g.0 r.1.drive r.1.extent (agree.matches g.0 r.1.drive r.1.extent g.1) (r.0, r.2)

unowned_of : (groups : Groups) (owners : Owners) (ms : List Member) → Agree groups owners → list_any (is_owned owners) ms ≡ false → AreUnowned groups ms
unowned_of groups owners ms agree none g drive extent theirs mine =
    let m : Member = record { drive = drive; extent = extent } in
    let free : owner_of owners drive extent ≡ None = none_owned owners ms mine.0 m none mine.1 in
    let owned : owner_of owners drive extent ≡ Some g = (agree.owned g theirs.0 m theirs.1).1 in
    let bad : None ≡ Some g = sym free ∙ owned in
    cc

-- the tests of the extents are those of the flat machine
pub members_of_test : (a : ArrayView) (ms : List Member) → IsWhole a → (3 ≤ length ms) × (length ms ≤ 8) × AreThere a.parts.owners ms → AreMembers a.parts.groups.extents (length a.parts.drives) ms
members_of_test a ms whole are = record {
  least = are.0;
  most = are.1;
  there = λ k m at.
      let is = are.2 k m at in
      let within = is.within in let inside = is.inside in let rows = whole.rows in let wide = whole.wide in
      (omega arith, omega arith);
}

-- what the test finds of three to eight members
abbrev last : Bool → Bool → Option GroupRefusal
last x y = cond x (Some fault.SameDrive) (cond y (Some fault.ExtentTaken) None)

-- why members make no group is given by what the test of them found
pub reason_reported : (a : ArrayView) (ms : List Member) → IsWhole a → (3 ≤ length ms) × (length ms ≤ 8) × AreThere a.parts.owners ms → IsPutReason a ms (reported_of (put_fault a.parts.owners ms))
reason_reported a ms whole are = subst (λ o. IsPutReason a ms (reported_of o)) (sym is) (go (shares_drive ms) refl (list_any (is_owned a.parts.owners) ms) refl)
  where
    few : (n : ℕ) → 3 ≤ n → nat_lt n 3 ≡ false
    few n h = grind (arith, nat_tests)

    many : (n : ℕ) → n ≤ 8 → nat_lt 8 n ≡ false
    many n h = grind (arith, nat_tests)

    is : put_fault a.parts.owners ms ≡ last (shares_drive ms) (list_any (is_owned a.parts.owners) ms)
    is = ap (λ b. cond b (Some fault.TooFew) (cond (nat_lt 8 (length ms)) (Some fault.TooMany) (last (shares_drive ms) (list_any (is_owned a.parts.owners) ms)))) (few (length ms) are.0)
        ∙ ap (λ b. cond b (Some fault.TooMany) (last (shares_drive ms) (list_any (is_owned a.parts.owners) ms))) (many (length ms) are.1)

    go : (x : Bool) → shares_drive ms ≡ x → (y : Bool) → list_any (is_owned a.parts.owners) ms ≡ y → IsPutReason a ms (reported_of (last (shares_drive ms) (list_any (is_owned a.parts.owners) ms)))
    go true is_x y is_y = subst (λ b. IsPutReason a ms (reported_of (last b (list_any (is_owned a.parts.owners) ms)))) (sym is_x) (members_of_test a ms whole are, shared_not ms is_x)
    go false is_x true is_y = subst (λ b. IsPutReason a ms (reported_of (last b (list_any (is_owned a.parts.owners) ms)))) (sym is_x)
        (subst (λ b. IsPutReason a ms (reported_of (last false b))) (sym is_y) (members_of_test a ms whole are, spread_of ms is_x, owned_not a.parts.groups a.parts.owners ms whole.agree is_y))
    go false is_x false is_y = subst (λ b. IsPutReason a ms (reported_of (last b (list_any (is_owned a.parts.owners) ms)))) (sym is_x)
        (subst (λ b. IsPutReason a ms (reported_of (last false b))) (sym is_y) (members_of_test a ms whole are, spread_of ms is_x, unowned_of a.parts.groups a.parts.owners ms whole.agree is_y))

-- the numbers before one that is free are made, so it is the lowest
pub lowest_is : (groups : Groups) (n : ℕ) → AreGroups groups → IsFree groups n → ((h : ℕ) → h < n → group_at groups h ≢ None) → IsLowestFree groups n
lowest_is groups n are free so_far = record {
  limit = let within = free.within in let numbers = are.numbers in omega arith;
  free = free.free;
  below = so_far;
}

-- one number more that is made
pub made_more : (groups : Groups) (n : ℕ) → AreGroups groups → n < 512 → (IsFree groups n → ⊥) → ((h : ℕ) → h < n → group_at groups h ≢ None)
    → (h : ℕ) → h < n + 1 → group_at groups h ≢ None
made_more groups n are low made so_far h high none = go (cases_eq h n)
  where
    go : (h ≡ n) ⊎ (h ≡ n → ⊥) → ⊥
    go (inl e) = made (record { within = let numbers = are.numbers in omega arith; free = ap (group_at groups) (sym e) ∙ none })
    go (inr ne) = so_far h (omega arith) none

-- the fault may be found and reported in any way
pub reason_as : (a : ArrayView) (ms : List Member) (o : Option Refusal) (f : Option GroupRefusal) → IsWhole a → (3 ≤ length ms) × (length ms ≤ 8) × AreThere a.parts.owners ms
    → o ≡ reported_of f → f ≡ put_fault a.parts.owners ms → IsPutReason a ms o
reason_as a ms o f whole are reported fault = subst (IsPutReason a ms) (sym (reported ∙ ap reported_of fault)) (reason_reported a ms whole are)

-- a fault of the members is why no group is made of them
pub make_reported : (a : ArrayView) (ms : List Member) (q : Refusal) → IsPutReason a ms (Some q) → IsMakeReason a ms (Some q)
make_reported a ms SameDrive reason = reason
make_reported a ms ExtentTaken reason = reason
make_reported a ms _ reason = absurd reason
