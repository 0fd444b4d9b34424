-- A test of tables from outside: what its parts say of groups and owners.
use Rattle.std.proofs.Common.{◌≡◌, ℕ, suc, ◌<◌, ◌≤◌, inl, inr, Bool, true, false, Option, Some, None, List, [], ◌∷◌, length, refl, sym, ◌∙◌, ap, arith, eq-eqb}
use Rattle.std.specs.Prelude.{◌==◌, ◌&&◌, ◌||◌, slice_get, unwrap_or}
use Rattle.std.specs.List.{list_any}
use Rattle.std.proofs.lemmas.Bool.Decides.{nat_tests}
use Rattle.std.proofs.lemmas.Option.{none-some, slice_get_past, slice_get_cases}
use Rattle.extents.specs.Owners.{Owners, owner_of, owner_row}
use Rattle.extent_groups.specs.declared.class.Member.{Member}
use Rattle.extent_groups.specs.Groups.{Groups, members_of, AreGroups, AreWide, AreOwned, HasMemberAt, RowMatches, Agree, is_extent}
use Rattle.extent_groups.proofs.Fresh.{no_members}
use Rattle.extent_groups.proofs.GroupsLemmas.{any_in}
use Rattle.extent_groups.proofs.Swapping.{named}

both_true : (a b : Bool) → (a && b) ≡ true → (a ≡ true) × (b ≡ true)
both_true true b h = (refl, h)
both_true false b h = absurd (let both : false ≡ true = h in cc)

one_number : (a b : ℕ) → (a == b) ≡ true → a ≡ b
one_number a b e = grind (arith, nat_tests)

matches_more : (m : Member) (ms : List Member) (d e : ℕ) (b : Bool) → is_extent d e m ≡ b → (b || list_any (is_extent d e) ms) ≡ true → (list_any (is_extent d e) ms ≡ true → HasMemberAt ms d e) → HasMemberAt (m ∷ ms) d e
matches_more m ms d e true is h later =
    let both = both_true (m.drive == d) (m.extent == e) is in
    (0, named d e m (sym (one_number m.drive d both.0)) (sym (one_number m.extent e both.1)))
matches_more m ms d e false is h later = let r = later h in (suc r.0, r.1)

-- what the test of the members found
pub matches_if : (ms : List Member) (d e : ℕ) → list_any (is_extent d e) ms ≡ true → HasMemberAt ms d e
matches_if [] d e h = absurd (let both : false ≡ true = h in cc)
matches_if (m ∷ ms) d e h = matches_more m ms d e (is_extent d e m) refl h (λ k. matches_if ms d e k)

pub matches_only : (ms : List Member) (d e : ℕ) → HasMemberAt ms d e → list_any (is_extent d e) ms ≡ true
matches_only ms d e s =
    any_in (is_extent d e) ms s.0 (record { drive = d; extent = e }) s.1 (ap (λ b. b && (e == e)) (eq-eqb d d refl) ∙ eq-eqb e e refl)

-- a number from 512 on has no group, so all its members are owned
pub owned_past : (t : Groups) (o : Owners) (g : ℕ) → AreGroups t → 512 ≤ g → AreOwned o (members_of t g) g
owned_past t o g are past k m at =
    let far : length t.table ≤ g = omega (arith, past, are.numbers) in
    absurd (no_members t g k m (ap (λ x. unwrap_or x None) (slice_get_past t.table g far)) at)

-- what is owned is owned on a drive of the table
pub matches_all : (t : Groups) (o : Owners) → ((d : ℕ) → d < length o.rows → RowMatches t (owner_row o d) d) → (g d e : ℕ) → owner_of o d e ≡ Some g → HasMemberAt (members_of t g) d e
matches_all t o rows g d e owned = elim (slice_get_cases o.rows d).1 [
  | inl there ↦ rows d there.1 e g (in_row (slice_get (owner_row o d) e) refl)
  | inr past ↦ absurd (none-some g (sym (ap (λ r. unwrap_or (slice_get (unwrap_or r []) e) None) past.1) ∙ owned))
] where
  in_row : (x : Option (Option ℕ)) → slice_get (owner_row o d) e ≡ x → slice_get (owner_row o d) e ≡ Some (Some g)
  in_row None at = absurd (none-some g (sym (ap (λ x. unwrap_or x None) at) ∙ owned))
  in_row (Some x) at = at ∙ ap (λ y. Some y) (sym (ap (λ x. unwrap_or x None) at) ∙ owned)

-- the parts of the test together are agreement
pub agree_of : (t : Groups) (o : Owners) → AreWide o → ((g : ℕ) → AreOwned o (members_of t g) g) → ((d : ℕ) → d < length o.rows → RowMatches t (owner_row o d) d) → Agree t o
agree_of t o wide owned rows = record { owned = owned; matches = matches_all t o rows; wide = wide }

pub rows_of_agree : (t : Groups) (o : Owners) → Agree t o → (d : ℕ) → d < length o.rows → RowMatches t (owner_row o d) d
rows_of_agree t o agree d within e g at = agree.matches g d e (ap (λ x. unwrap_or x None) at)
