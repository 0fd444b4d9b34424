-- The way back from a unit to its slot is the inverse of the geometry.
use Rattle.std.proofs.Common.{◌≡◌, ◌≢◌, ℕ, zero, suc, ◌+◌, ◌-◌, ◌*◌, ◌/◌, ◌%◌, ◌<◌, ◌≤◌, ◌⊎◌, inl, inr, Bool, true, false, Option, Some, None, length, refl, sym, ◌∙◌, ap, subst, arith, nat_lt, cond, if◌then◌else◌}
use Rattle.std.specs.Prelude.{◌==◌}
use Rattle.std.proofs.Math.Nat.{mul-le-mul_right}
use Rattle.std.proofs.lemmas.Bool.Decides.{nat_tests}
use Rattle.std.proofs.lemmas.Option.{same_Some, none-some}
use Rattle.extent_groups.specs.declared.class.Class.TheVariants.{Mirrored, Parity}
use Rattle.extent_groups.specs.declared.geometry.Spot.{Spot}
use Rattle.extent_groups.specs.declared.role.Role.{Role}
use Rattle.extent_groups.specs.declared.role.Role.TheVariants.{Slot, ParityUnit, Unused}
use Rattle.extent_groups.specs.Groups.{Group, IsFormed, class_in, slots_in, members_in}
use Rattle.extent_groups.specs.Geometry.{slot_count, spot_at, parity_of, data_member, copy_index, stripe_index}
use Rattle.extent_groups.specs.Roles.{LiesAt, IsRole, IsRoleIn, mirrored_role, parity_role}
use Rattle.extent_groups.proofs.GeometryLaws.{copies_law}
use Rattle.extent_groups.proofs.LayoutLaw.{one_address}

-- a number made of a row and a rest gives both
pub parts : (n q m : ℕ) → m < n → ((q * n + m) / n ≡ q) × ((q * n + m) % n ≡ m)
parts n q m h =
    let rest : (q * n + m) % n < n = omega arith in
    let whole : (q * n + m) / n * n + (q * n + m) % n ≡ q * n + m = omega arith in
    one_address n ((q * n + m) / n) q ((q * n + m) % n) m whole rest h

-- the spot of a position that is made of a row and a member
pub spot_is : (n m o k : ℕ) → m < n → k ≡ o / 2 * n + m → spot_at n k (o % 2) ≡ record { member = m; offset = o }
spot_is n m o k h e =
    let both = parts n (o / 2) m h in
    let member : k % n ≡ m = ap (λ x. x % n) e ∙ both.1 in
    let row : k / n ≡ o / 2 = ap (λ x. x / n) e ∙ both.0 in
    let offset : 2 * (k / n) + o % 2 ≡ o = omega (arith, row) in
    ap (λ x. let y : Spot = record { member = x; offset = 2 * (k / n) + o % 2 } in y) member ∙ ap (λ x. let y : Spot = record { member = m; offset = x } in y) offset

-- a position is even, or one above an even one
even_or_odd : (k : ℕ) → (2 * (k / 2) ≡ k) ⊎ (2 * (k / 2) + 1 ≡ k)
even_or_odd k = side (k % 2) refl (omega arith) where
  side : (u : ℕ) → k % 2 ≡ u → u < 2 → (2 * (k / 2) ≡ k) ⊎ (2 * (k / 2) + 1 ≡ k)
  side zero e h = inl (omega (arith, e))
  side (suc u) e h = inr (omega (arith, e, h))

copy_lies : (n m o : ℕ) → m < n → LiesAt Mirrored n (copy_index n (record { member = m; offset = o })) m o
copy_lies n m o h =
    let k : ℕ = o / 2 * n + m in
    let i : ℕ = copy_index n (record { member = m; offset = o }) in
    let pair : i / 2 ≡ k / 2 = omega arith in
    let unit : i % 2 ≡ o % 2 = omega arith in
    elim (even_or_odd k) [
      | inl e ↦ inl (ap (λ j. spot_at n (2 * j) (i % 2)) pair ∙ ap (spot_at n (2 * (k / 2))) unit ∙ spot_is n m o (2 * (k / 2)) h e)
      | inr e ↦ inr (ap (λ j. spot_at n (2 * j + 1) (i % 2)) pair ∙ ap (spot_at n (2 * (k / 2) + 1)) unit ∙ spot_is n m o (2 * (k / 2) + 1) h e)
    ]

-- a slot of which a unit lies at a place is the one that the place gives
copy_reported : (n s i m o : ℕ) → 2 ≤ n → i < slot_count Mirrored n s → LiesAt Mirrored n i m o → copy_index n (record { member = m; offset = o }) ≡ i
copy_reported n s i m o two low (inl e) = ap (copy_index n) (sym e) ∙ (copies_law n s i two low).first_back
copy_reported n s i m o two low (inr e) = ap (copy_index n) (sym e) ∙ (copies_law n s i two low).second_back

pub mirrored_is : (n s m o : ℕ) → 2 ≤ n → m < n → IsRole Mirrored n s m o (mirrored_role n (slot_count Mirrored n s) m o)
mirrored_is n s m o two h = by_test (nat_lt (copy_index n (record { member = m; offset = o })) (slot_count Mirrored n s)) refl where
  below : (a b : ℕ) → nat_lt a b ≡ true → a < b
  below a b e = grind (arith, nat_tests)

  past : (a b : ℕ) → nat_lt a b ≡ false → b ≤ a
  past a b e = grind (arith, nat_tests)

  by_test : (b : Bool) → nat_lt (copy_index n (record { member = m; offset = o })) (slot_count Mirrored n s) ≡ b → IsRole Mirrored n s m o (if b then Slot (copy_index n (record { member = m; offset = o })) else Unused)
  by_test true e = (below _ _ e, copy_lies n m o h)
  by_test false e = λ i low lies. (let reported = copy_reported n s i m o two low lies in let far = past _ _ e in absurd (omega (arith, reported, far, low)))

-- the data member with this many others before it
before_is : (n p m : ℕ) → m < n → p < n → m ≢ p → (data_member p (cond (nat_lt m p) m (m - 1)) ≡ m) × (cond (nat_lt m p) m (m - 1) < n - 1)
before_is n p m h k ne = (grind (arith, nat_tests), grind (arith, nat_tests))

stripe_lies : (n s m o : ℕ) → 2 ≤ n → m < n → o < 2 * s → m ≢ parity_of n (o / 2) → (stripe_index n m o < slot_count Parity n s) × LiesAt Parity n (stripe_index n m o) m o
stripe_lies n s m o two h low ne =
    let wanders : o / 2 % n < n = omega arith in
    let held : parity_of n (o / 2) < n = omega arith in
    let q : ℕ = cond (nat_lt m (parity_of n (o / 2))) m (m - 1) in
    let before = before_is n (parity_of n (o / 2)) m h held ne in
    let i : ℕ = stripe_index n m o in
    let half : i / 2 ≡ o / 2 * (n - 1) + q = omega arith in
    let unit : i % 2 ≡ o % 2 = omega arith in
    let both = parts (n - 1) (o / 2) q before.1 in
    let row : i / 2 / (n - 1) ≡ o / 2 = ap (λ x. x / (n - 1)) half ∙ both.0 in
    let rest : i / 2 % (n - 1) ≡ q = ap (λ x. x % (n - 1)) half ∙ both.1 in
    let less : o / 2 + 1 ≤ s = omega (arith, low) in (
      omega (arith, before.1, mul-le-mul_right (n - 1) less),
      (
        ap (λ r. data_member (parity_of n r) (i / 2 % (n - 1))) row ∙ ap (data_member (parity_of n (o / 2))) rest ∙ before.0,
        omega (arith, row, unit),
      ),
    )

pub parity_is : (n s m o : ℕ) → 2 ≤ n → m < n → o < 2 * s → IsRole Parity n s m o (parity_role n m o)
parity_is n s m o two h low = by_test (m == parity_of n (o / 2)) refl where
  same : (a b : ℕ) → (a == b) ≡ true → a ≡ b
  same a b e = grind (arith, nat_tests)

  apart : (a b : ℕ) → (a == b) ≡ false → a ≢ b
  apart a b e = grind (arith, nat_tests)

  by_test : (b : Bool) → (m == parity_of n (o / 2)) ≡ b → IsRole Parity n s m o (if b then ParityUnit else Slot (stripe_index n m o))
  by_test true e = same _ _ e
  by_test false e = stripe_lies n s m o two h low (apart _ _ e)

-- the same, of an optional group
pub mirrored_in : (x : Option Group) (s m o slots n : ℕ) (r : Role) → ((g : Group) → x ≡ Some g → IsFormed g.members) → class_in x ≡ Some Mirrored → m < length (members_in x)
    → n ≡ length (members_in x) → slots ≡ slots_in s x → r ≡ mirrored_role n slots m o → IsRoleIn x s m o r
mirrored_in None s m o slots n r formed class low en es er = absurd (none-some Mirrored class)
mirrored_in (Some g) s m o slots n r formed class low en es er =
    let is : g.class ≡ Mirrored = same_Some _ _ class in
    let two : 2 ≤ length g.members = omega (arith, (formed g refl).enough) in
    let e : r ≡ mirrored_role (length g.members) (slot_count Mirrored (length g.members) s) m o =
    er ∙ ap (λ z. mirrored_role z slots m o) en ∙ ap (λ z. mirrored_role (length g.members) z m o) (es ∙ ap (λ c. slot_count c (length g.members) s) is) in
    subst (λ c. IsRole c (length g.members) s m o r) (sym is) (subst (IsRole Mirrored (length g.members) s m o) (sym e) (mirrored_is (length g.members) s m o two low))

pub parity_in : (x : Option Group) (s m o n : ℕ) (r : Role) → ((g : Group) → x ≡ Some g → IsFormed g.members) → class_in x ≡ Some Parity → m < length (members_in x) → o < 2 * s
    → n ≡ length (members_in x) → r ≡ parity_role n m o → IsRoleIn x s m o r
parity_in None s m o n r formed class low within en er = absurd (none-some Parity class)
parity_in (Some g) s m o n r formed class low within en er =
    let is : g.class ≡ Parity = same_Some _ _ class in
    let two : 2 ≤ length g.members = omega (arith, (formed g refl).enough) in
    let e : r ≡ parity_role (length g.members) m o = er ∙ ap (λ z. parity_role z m o) en in
    subst (λ c. IsRole c (length g.members) s m o r) (sym is) (subst (IsRole Parity (length g.members) s m o) (sym e) (parity_is (length g.members) s m o two low within))
