-- From where a slot lies to where the next one does, without a division.
use Rattle.std.proofs.Common.{◌≡◌, ◌≢◌, ℕ, ◌+◌, ◌-◌, ◌*◌, ◌/◌, ◌%◌, ◌<◌, ◌≤◌, inl, inr, sym, ◌∙◌, ap, subst, arith, if◌then◌else◌}
use Rattle.std.specs.Prelude.{◌==◌}
use Rattle.std.proofs.lemmas.Bool.{cases_lt}
use Rattle.std.proofs.lemmas.Bool.Decides.{nat_tests}
use Rattle.extent_groups.specs.declared.geometry.Spot.{Spot}
use Rattle.extent_groups.specs.declared.geometry.Stripe.{Stripe}
use Rattle.extent_groups.specs.Geometry.{spot_at, parity_of, data_member, stripe_of}
use Rattle.extent_groups.proofs.Roles.{parts, spot_is}

-- two positions further on the same row, or on the next one
pub two_on : (n k : ℕ) → k % n + 2 < n → spot_at n (k + 2) 0 ≡ record { member = k % n + 2; offset = 2 * (k / n) }
two_on n k h =
    let whole : k / n * n + k % n ≡ k = omega arith in
    let unit : 2 * (k / n) % 2 ≡ 0 = omega arith in
    ap (spot_at n (k + 2)) (sym unit) ∙ spot_is n (k % n + 2) (2 * (k / n)) (k + 2) h (let row : 2 * (k / n) / 2 ≡ k / n = omega arith in rw row (omega (arith, whole)))

pub two_wrapped : (n k : ℕ) → 2 ≤ n → n ≤ k % n + 2 → spot_at n (k + 2) 0 ≡ record { member = k % n + 2 - n; offset = 2 * (k / n) + 2 }
two_wrapped n k two h =
    let whole : k / n * n + k % n ≡ k = omega arith in
    let rest : k % n < n = omega arith in
    let unit : (2 * (k / n) + 2) % 2 ≡ 0 = omega arith in
    ap (spot_at n (k + 2)) (sym unit) ∙ spot_is n (k % n + 2 - n) (2 * (k / n) + 2) (k + 2) (omega (arith, rest, two))
    (let row : (2 * (k / n) + 2) / 2 ≡ k / n + 1 = omega arith in rw row (omega (arith, whole, h)))

-- a stripe by its row, how many others are before the member, and which unit of the segment it is
abbrev pub stripe_in : ℕ → ℕ → ℕ → ℕ → Stripe
stripe_in n r q u = record { stripe = r; member = data_member (parity_of n r) q; offset = 2 * r + u; parity = parity_of n r }

stripe_is : (n r q u i : ℕ) → q < n - 1 → u < 2 → i ≡ 2 * (r * (n - 1) + q) + u → stripe_of n i ≡ stripe_in n r q u
stripe_is n r q u i h low e =
    let half : i / 2 ≡ r * (n - 1) + q = omega (arith, e, low) in
    let unit : i % 2 ≡ u = omega (arith, e, low) in
    let both = parts (n - 1) r q h in
    let row : i / 2 / (n - 1) ≡ r = ap (λ x. x / (n - 1)) half ∙ both.0 in
    let rest : i / 2 % (n - 1) ≡ q = ap (λ x. x % (n - 1)) half ∙ both.1 in
    ap (λ x. stripe_in n x (i / 2 % (n - 1)) (i % 2)) row ∙ ap (λ x. stripe_in n r x (i % 2)) rest ∙ ap (stripe_in n r q) unit

pub stripe_odd : (n i : ℕ) → i % 2 ≢ 0 → i / 2 % (n - 1) + 1 < n - 1 → stripe_of n (i + 1) ≡ stripe_in n (i / 2 / (n - 1)) (i / 2 % (n - 1) + 1) 0
stripe_odd n i ne h =
    let whole : i / 2 / (n - 1) * (n - 1) + i / 2 % (n - 1) ≡ i / 2 = omega arith in
    let half : i / 2 / (n - 1) * (n - 1) + (i / 2 % (n - 1) + 1) ≡ i / 2 + 1 = omega (arith, whole) in
    stripe_is n (i / 2 / (n - 1)) (i / 2 % (n - 1) + 1) 0 (i + 1) h (omega arith) (rw half (omega (arith, ne)))

pub stripe_wrapped : (n i : ℕ) → 2 ≤ n → i % 2 ≢ 0 → i / 2 % (n - 1) + 1 ≡ n - 1 → stripe_of n (i + 1) ≡ stripe_in n (i / 2 / (n - 1) + 1) 0 0
stripe_wrapped n i two ne h =
    let whole : i / 2 / (n - 1) * (n - 1) + i / 2 % (n - 1) ≡ i / 2 = omega arith in
    let half : (i / 2 / (n - 1) + 1) * (n - 1) + 0 ≡ i / 2 + 1 = omega (arith, whole, h) in
    stripe_is n (i / 2 / (n - 1) + 1) 0 0 (i + 1) (omega (arith, two)) (omega arith) (rw half (omega (arith, ne)))

-- the parity is one member lower in the next row, and after member 0 it is the last
pub parity_next : (n r : ℕ) → 1 ≤ n → parity_of n (r + 1) ≡ (if parity_of n r == 0 then n - 1 else parity_of n r - 1)
parity_next n r some = elim (cases_lt (r % n + 1) n) [
  | inl h ↦
      let whole : r + 1 ≡ r / n * n + (r % n + 1) = omega arith in
      let rest : (r + 1) % n ≡ r % n + 1 = ap (λ x. x % n) whole ∙ (parts n (r / n) (r % n + 1) h).1 in
      ap (λ t. n - 1 - t) rest ∙ down n (r % n) h
  | inr m ↦
      let low : r % n < n = omega (arith, some) in
      let last : r % n + 1 ≡ n = omega (arith, low, m) in
      let whole : r + 1 ≡ (r / n + 1) * n + 0 = omega (arith, last) in
      let rest : (r + 1) % n ≡ 0 = ap (λ x. x % n) whole ∙ (parts n (r / n + 1) 0 some).1 in
      ap (λ t. n - 1 - t) rest ∙ up n (r % n) last
] where
  down : (n t : ℕ) → t + 1 < n → n - 1 - (t + 1) ≡ (if n - 1 - t == 0 then n - 1 else n - 1 - t - 1)
  down n t h = grind (arith, nat_tests)

  up : (n t : ℕ) → t + 1 ≡ n → n - 1 - 0 ≡ (if n - 1 - t == 0 then n - 1 else n - 1 - t - 1)
  up n t h = grind (arith, nat_tests)

-- the data member after one, which is past the last member exactly at the end of a row
pub member_next : (p q : ℕ) → (if data_member p q + 1 == p then data_member p q + 1 + 1 else data_member p q + 1) ≡ data_member p (q + 1)
member_next p q = grind (arith, nat_tests)

pub row_ends : (n p q : ℕ) → p < n → q < n - 1 → data_member p (q + 1) < n → q + 1 < n - 1
row_ends n p q h k below = grind (arith, nat_tests)

pub row_goes_on : (n p q : ℕ) → p < n → q < n - 1 → n ≤ data_member p (q + 1) → q + 1 ≡ n - 1
row_goes_on n p q h k past = grind (arith, nat_tests)

-- the first data member
pub member_first : (p : ℕ) → (if 0 == p then 0 + 1 else 0) ≡ data_member p 0
member_first p = grind (arith, nat_tests)

-- the stripe that is counted on to within a row, and to the next row
pub stripe_on : (n i m : ℕ) (at : Stripe) → 2 ≤ n → at ≡ stripe_of n i → i % 2 ≢ 0 → m ≡ (if at.member + 1 == at.parity then at.member + 1 + 1 else at.member + 1) → m < n
    → (let y : Stripe = record { stripe = at.stripe; member = m; offset = at.offset - 1; parity = at.parity } in y) ≡ stripe_of n (i + 1)
stripe_on n i m at two e ne is below =
    let rest : i / 2 % (n - 1) < n - 1 = omega (arith, two) in
    let held : parity_of n (i / 2 / (n - 1)) < n = omega (arith, two) in
    let member : m ≡ data_member (parity_of n (i / 2 / (n - 1))) (i / 2 % (n - 1) + 1) =
    is ∙ ap (λ (s : Stripe). if s.member + 1 == s.parity then s.member + 1 + 1 else s.member + 1) e ∙ member_next (parity_of n (i / 2 / (n - 1))) (i / 2 % (n - 1)) in
    let inside = row_ends n (parity_of n (i / 2 / (n - 1))) (i / 2 % (n - 1)) held rest (subst (λ x. x < n) member below) in
    let offset : at.offset - 1 ≡ 2 * (i / 2 / (n - 1)) + 0 = (let o = ap (λ (s : Stripe). s.offset) e in omega (arith, o, ne)) in
    ap (λ x. let y : Stripe = record { stripe = at.stripe; member = x; offset = at.offset - 1; parity = at.parity } in y) member
    ∙ ap (λ x. let y : Stripe = record { stripe = at.stripe; member = data_member (parity_of n (i / 2 / (n - 1))) (i / 2 % (n - 1) + 1); offset = x; parity = at.parity } in y) offset
    ∙ ap (λ (s : Stripe). let y : Stripe = record { stripe = s.stripe; member = data_member (parity_of n (i / 2 / (n - 1))) (i / 2 % (n - 1) + 1); offset = 2 * (i / 2 / (n - 1)) + 0; parity = s.parity } in y) e
    ∙ sym (stripe_odd n i ne inside)

pub stripe_over : (n i m p : ℕ) (at : Stripe) → 2 ≤ n → at ≡ stripe_of n i → i % 2 ≢ 0 → n ≤ (if at.member + 1 == at.parity then at.member + 1 + 1 else at.member + 1)
    → p ≡ (if at.parity == 0 then n - 1 else at.parity - 1) → m ≡ (if 0 == p then 0 + 1 else 0)
    → (let y : Stripe = record { stripe = at.stripe + 1; member = m; offset = at.offset + 1; parity = p } in y) ≡ stripe_of n (i + 1)
stripe_over n i m p at two e ne past parity member =
    let rest : i / 2 % (n - 1) < n - 1 = omega (arith, two) in
    let held : parity_of n (i / 2 / (n - 1)) < n = omega (arith, two) in
    let out = subst (λ x. n ≤ x) (ap (λ (s : Stripe). if s.member + 1 == s.parity then s.member + 1 + 1 else s.member + 1) e ∙ member_next (parity_of n (i / 2 / (n - 1))) (i / 2 % (n - 1))) past in
    let over = row_goes_on n (parity_of n (i / 2 / (n - 1))) (i / 2 % (n - 1)) held rest out in
    let at_parity : p ≡ parity_of n (i / 2 / (n - 1) + 1) =
    parity ∙ ap (λ (s : Stripe). if s.parity == 0 then n - 1 else s.parity - 1) e ∙ sym (parity_next n (i / 2 / (n - 1)) (omega (arith, two))) in
    let at_member : m ≡ data_member (parity_of n (i / 2 / (n - 1) + 1)) 0 = member ∙ member_first p ∙ ap (λ x. data_member x 0) at_parity in
    let row : at.stripe + 1 ≡ i / 2 / (n - 1) + 1 = ap (λ (s : Stripe). s.stripe + 1) e in
    let offset : at.offset + 1 ≡ 2 * (i / 2 / (n - 1) + 1) + 0 = (let o = ap (λ (s : Stripe). s.offset) e in omega (arith, o, ne)) in
    ap (λ x. let y : Stripe = record { stripe = x; member = m; offset = at.offset + 1; parity = p } in y) row
    ∙ ap (λ x. let y : Stripe = record { stripe = i / 2 / (n - 1) + 1; member = x; offset = at.offset + 1; parity = p } in y) at_member
    ∙ ap (λ x. let y : Stripe = record { stripe = i / 2 / (n - 1) + 1; member = data_member (parity_of n (i / 2 / (n - 1) + 1)) 0; offset = x; parity = p } in y) offset
    ∙ ap (λ x. let y : Stripe = record { stripe = i / 2 / (n - 1) + 1; member = data_member (parity_of n (i / 2 / (n - 1) + 1)) 0; offset = 2 * (i / 2 / (n - 1) + 1) + 0; parity = x } in y) at_parity
    ∙ sym (stripe_wrapped n i two ne over)

-- the spot that is counted on to
pub spot_on : (n k : ℕ) (at : Spot) → at ≡ spot_at n k 1 → at.member + 2 < n → (let y : Spot = record { member = at.member + 2; offset = at.offset - 1 } in y) ≡ spot_at n (k + 2) 0
spot_on n k at e h =
    ap (λ (s : Spot). let y : Spot = record { member = s.member + 2; offset = s.offset - 1 } in y) e
    ∙ ap (λ o. let y : Spot = record { member = k % n + 2; offset = o } in y) (let same : 2 * (k / n) + 1 - 1 ≡ 2 * (k / n) = omega arith in same)
    ∙ sym (two_on n k (subst (λ (s : Spot). s.member + 2 < n) e h))

pub spot_over : (n k : ℕ) (at : Spot) → 2 ≤ n → at ≡ spot_at n k 1 → n ≤ at.member + 2 → (let y : Spot = record { member = at.member + 2 - n; offset = at.offset + 1 } in y) ≡ spot_at n (k + 2) 0
spot_over n k at two e h =
    ap (λ (s : Spot). let y : Spot = record { member = s.member + 2 - n; offset = s.offset + 1 } in y) e
    ∙ ap (λ o. let y : Spot = record { member = k % n + 2 - n; offset = o } in y) (let same : 2 * (k / n) + 1 + 1 ≡ 2 * (k / n) + 2 = omega arith in same)
    ∙ sym (two_wrapped n k two (subst (λ (s : Spot). n ≤ s.member + 2) e h))
