-- The owners of extents are one table, and the shift that a plan chooses of them is one.
use Rattle.std.proofs.Common.{◌≡◌, ◌⊎◌, inl, inr, ℕ, ◌<◌, ◌≤◌, Bool, true, List, [], length, get_or, slice_index_or, unwrap_or, refl, sym, ap, ◌∙◌, subst, arith, Option, Some, None}
use Rattle.std.proofs.lemmas.List.{ext_get_or}
use Rattle.std.proofs.lemmas.Option.{same_Some, slice_get-get_or}
use Rattle.extents.specs.Owners.{Owners, owner_row, owner_of, load_of, lowest_free_of}
use Rattle.extent_groups.specs.Groups.{Groups, Agree}
use Rattle.rebalancer.specs.declared.shift.Shift.{Shift}
use Rattle.rebalancer.specs.Carrying.{member_on, CarriesGroup, CanGive, IsLowest}
use Rattle.rebalancer.specs.Balancing.{PairBefore, IsBalanceShift, IsBalance}
use Rattle.rebalancer.specs.Rebuilding.{IsBestTarget, IsRebuildShift, IsRebuild}
use Rattle.script_laws.proofs.Quiet.{order_of}

-- ---- the owners of a table of groups

module _ (groups : Groups) (o p : Owners) (one : Agree groups o) (other : Agree groups p) where
  -- an extent has one owner
  owner_once : (d e : ℕ) → owner_of o d e ≡ owner_of p d e
  owner_once d e = by (owner_of o d e) (owner_of p d e) refl refl
    where
      by : (x y : Option ℕ) → owner_of o d e ≡ x → owner_of p d e ≡ y → owner_of o d e ≡ owner_of p d e
      by None None a b = a ∙ sym b
      by None (Some h) a b = let at = other.matches h d e b in (one.owned h at.0 _ at.1).1 ∙ sym b
      by (Some g) y a b = let at = one.matches g d e a in a ∙ sym (other.owned g at.0 _ at.1).1

  -- a row is read by its owners
  row_at : (q : Owners) (d : ℕ) → d < length q.rows → owner_row q d ≡ get_or q.rows d []
  row_at q d low = ap (λ r. unwrap_or r []) (slice_get-get_or q.rows d [] low)

  owner_at : (q : Owners) (d e : ℕ) → e < length (owner_row q d) → owner_of q d e ≡ get_or (owner_row q d) e None
  owner_at q d e low = ap (λ r. unwrap_or r None) (slice_get-get_or (owner_row q d) e None low)

  pub owners_once : length o.rows ≡ length p.rows → o.extents ≡ p.extents → o ≡ p
  owners_once many wide = λ i. record { extents = wide i; rows = rows i }
    where
      row_once : (d : ℕ) → d < length o.rows → d < length p.rows → owner_row o d ≡ owner_row p d
      row_once d low too = ext_get_or None (owner_row o d) (owner_row p d) (one.wide d low ∙ wide ∙ sym (other.wide d too))
          (λ e within. sym (owner_at o d e within) ∙ owner_once d e
          ∙ owner_at p d e (let long = one.wide d low in let as_long = other.wide d too in omega arith))

      rows : o.rows ≡ p.rows
      rows = ext_get_or [] o.rows p.rows many (λ d low. let too : d < length p.rows = omega arith in
          sym (row_at o d low) ∙ row_once d low too ∙ row_at p d too)

-- ---- which of sixteen drives are lost

pub lost_once : (lost : ℕ → Bool) (xs ys : List Bool) → length xs ≡ 16 → length ys ≡ 16 → ((d : ℕ) → d < 16 → slice_index_or xs d true ≡ lost d)
    → ((d : ℕ) → d < 16 → slice_index_or ys d true ≡ lost d) → xs ≡ ys
lost_once lost xs ys many too at there = ext_get_or true xs ys (many ∙ sym too)
    (λ d low. let within : d < 16 = omega arith in at d within ∙ sym (there d within))

-- ---- the shift that rebalances

-- of two pairs of drives one comes before the other, or they are one
before_or : (o : Owners) (f t g u : ℕ) → PairBefore o f t g u ⊎ (PairBefore o g u f t ⊎ ((f ≡ g) × (t ≡ u)))
before_or o f t g u = elim (order_of (load_of o g) (load_of o f)) [
  | inl less ↦ inl (inl less)
  | inr (inr more) ↦ inr (inl (inl more))
  | inr (inl givers) ↦ elim (order_of (load_of o t) (load_of o u)) [
    | inl less ↦ inl (inr (givers, inl less))
    | inr (inr more) ↦ inr (inl (inr (sym givers, inl more)))
    | inr (inl takers) ↦ elim (order_of f g) [
      | inl less ↦ inl (inr (givers, inr (takers, inl less)))
      | inr (inr more) ↦ inr (inl (inr (sym givers, inr (sym takers, inl more))))
      | inr (inl same) ↦ elim (order_of t u) [
        | inl less ↦ inl (inr (givers, inr (takers, inr (same, less))))
        | inr (inr more) ↦ inr (inl (inr (sym givers, inr (sym takers, inr (sym same, more)))))
        | inr (inl as_well) ↦ inr (inr (same, as_well))
      ]
    ]
  ]
]

-- a shift is its four numbers
same_shift : (s r : Shift) → s.group ≡ r.group → s.member ≡ r.member → s.to.drive ≡ r.to.drive → s.to.extent ≡ r.to.extent → s ≡ r
same_shift s r groups members drives extents = λ i. record { group = groups i; member = members i; to = record { drive = drives i; extent = extents i } }

same_extent : (o : Owners) (s r : Shift) → s.to.drive ≡ r.to.drive → lowest_free_of o s.to.drive ≡ Some s.to.extent → lowest_free_of o r.to.drive ≡ Some r.to.extent
    → s.to.extent ≡ r.to.extent
same_extent o s r drives a b = same_Some s.to.extent r.to.extent (sym a ∙ ap (lowest_free_of o) drives ∙ b)

module _ (o : Owners) (groups : Groups) (lost : List Bool) where
  balance_shift : (f g : ℕ) (s r : Shift) → IsBalanceShift o groups lost f s → IsBalanceShift o groups lost g r → s ≡ r
  balance_shift f g s r a b = by (before_or o f s.to.drive g r.to.drive)
    where
      by : PairBefore o f s.to.drive g r.to.drive ⊎ (PairBefore o g r.to.drive f s.to.drive ⊎ ((f ≡ g) × (s.to.drive ≡ r.to.drive))) → s ≡ r
      by (inl before) = absurd (b.first f s.to.drive s.group a.allowed before)
      by (inr (inl before)) = absurd (a.first g r.to.drive r.group b.allowed before)
      by (inr (inr pair)) = same_shift s r group member pair.1 (same_extent o s r pair.1 a.extent b.extent)
        where
          given : CanGive groups f s.to.drive r.group
          given = subst (λ n. CanGive groups n s.to.drive r.group) (sym pair.0) (subst (λ n. CanGive groups g n r.group) (sym pair.1) b.allowed.group)

          gives : CanGive groups g r.to.drive s.group
          gives = subst (λ n. CanGive groups n r.to.drive s.group) pair.0 (subst (λ n. CanGive groups f n s.group) pair.1 a.allowed.group)

          group : s.group ≡ r.group
          group = let up = a.lowest r.group given in let down = b.lowest s.group gives in omega arith

          member : s.member ≡ r.member
          member = same_Some s.member r.member (sym a.member ∙ ap (λ n. member_on groups n f) group ∙ ap (member_on groups r.group) pair.0 ∙ b.member)

  pub balance_once : (p q : Option Shift) → IsBalance o groups lost p → IsBalance o groups lost q → p ≡ q
  balance_once None None a b = refl
  balance_once None (Some r) a b = absurd (a b.0 r.to.drive r.group b.1.allowed)
  balance_once (Some s) None a b = absurd (b a.0 s.to.drive s.group a.1.allowed)
  balance_once (Some s) (Some r) a b = ap (λ (n : Shift). Some n) (balance_shift a.0 b.0 s r a.1 b.1)

  -- ---- the shift that rebuilds

  lowest_once : (P : ℕ → Type 0) (m n : ℕ) → IsLowest P m → IsLowest P n → m ≡ n
  lowest_once P m n a b = let up = a.least n b.holds in let down = b.least m a.holds in omega arith

  target_once : (g d e : ℕ) → IsBestTarget o groups lost g d → IsBestTarget o groups lost g e → d ≡ e
  target_once g d e a b = by (a.best e b.target) (b.best d a.target)
    where
      by : (load_of o d < load_of o e) ⊎ ((load_of o d ≡ load_of o e) × (d ≤ e)) → (load_of o e < load_of o d) ⊎ ((load_of o e ≡ load_of o d) × (e ≤ d)) → d ≡ e
      by (inl x) (inl y) = absurd (omega arith)
      by (inl x) (inr y) = absurd (omega (arith, x, y.0))
      by (inr x) (inl y) = absurd (omega (arith, x.0, y))
      by (inr x) (inr y) = omega (arith, x.1, y.1)

  rebuild_shift : (drive : ℕ) (s r : Shift) → IsRebuildShift o groups lost drive s → IsRebuildShift o groups lost drive r → s ≡ r
  rebuild_shift drive s r a b = same_shift s r group member to (same_extent o s r to a.extent b.extent)
    where
      group : s.group ≡ r.group
      group = lowest_once (λ g. CarriesGroup groups drive g) s.group r.group a.lowest b.lowest

      member : s.member ≡ r.member
      member = same_Some s.member r.member (sym a.member ∙ ap (λ n. member_on groups n drive) group ∙ b.member)

      to : s.to.drive ≡ r.to.drive
      to = target_once r.group s.to.drive r.to.drive (subst (λ g. IsBestTarget o groups lost g s.to.drive) group a.to) b.to

  pub rebuild_once : (drive : ℕ) (p q : Option Shift) → IsRebuild o groups lost drive p → IsRebuild o groups lost drive q → p ≡ q
  rebuild_once drive None None a b = refl
  rebuild_once drive None (Some r) a b = absurd (a b.gone r.group b.lowest r.to.drive b.to.target)
  rebuild_once drive (Some s) None a b = absurd (b a.gone s.group a.lowest s.to.drive a.to.target)
  rebuild_once drive (Some s) (Some r) a b = ap (λ (n : Shift). Some n) (rebuild_shift drive s r a b)
