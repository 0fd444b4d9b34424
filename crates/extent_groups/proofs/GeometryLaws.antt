-- The laws of the geometry: within the group, apart, and back from a unit to its index.
use Rattle.std.proofs.Common.{◌≡◌, ◌≢◌, ℕ, ◌+◌, ◌-◌, ◌*◌, ◌/◌, ◌%◌, ◌<◌, ◌≤◌, inl, inr, refl, sym, ap, arith, cond, nat_lt}
use Rattle.std.proofs.Math.Nat.{mul-le-mul_left, div-lt_iff_lt-mul}
use Rattle.std.proofs.lemmas.Bool.{cases_lt}
use Rattle.std.proofs.lemmas.Bool.Decides.{nat_tests}
use Rattle.extent_groups.specs.Geometry.{spot_at, copies_of, parity_of, data_member, stripe_of, copy_index, AreCopies, IsStripe}

-- a position below n * s lies in a row below s
row_below : (n s k : ℕ) → 0 < n → k < n * s → k / n < s
row_below n s k some h = let inside : k < s * n = omega arith in (div-lt_iff_lt-mul {k = n} {x = k} {y = s} some).1 inside

-- two consecutive numbers aren't both multiples of a number that is at least 2
not_in_turn : (n p q a b : ℕ) → 2 ≤ n → a ≡ n * p → b ≡ n * q → b ≡ a + 1 → ⊥
not_in_turn n p q a b two e f next =
    elim (cases_lt p q) [
      | inl below ↦ let more : p + 1 ≤ q = omega arith in let wide = mul-le-mul_left n more in omega (arith, wide)
      | inr above ↦ let wide = mul-le-mul_left n above in omega (arith, wide)
    ]

-- two consecutive positions lie on different members
members_differ : (n k : ℕ) → 2 ≤ n → k % n ≡ (k + 1) % n → ⊥
members_differ n k two e =
    let some : 0 < n = omega arith in
    let here : n * (k / n) + k % n ≡ k = omega arith in
    let there : n * ((k + 1) / n) + (k + 1) % n ≡ k + 1 = omega arith in
    not_in_turn n (k / n) ((k + 1) / n) (n * (k / n)) (n * ((k + 1) / n)) two refl refl (omega (arith, here, there, e))

-- a spot gives its position and its unit
position_back : (n q r k u : ℕ) → n * q + r ≡ k → u < 2 → (2 * q + u) / 2 * n + r ≡ k
position_back n q r k u e h =
    let row : (2 * q + u) / 2 ≡ q = omega arith in rw row (omega arith)

-- the spot of a position gives the index of the pair that it is of
spot_back : (n i k : ℕ) → 0 < n → k / 2 ≡ i / 2 → copy_index n (spot_at n k (i % 2)) ≡ i
spot_back n i k some e =
    let whole : n * (k / n) + k % n ≡ k = omega arith in
    let unit : i % 2 < 2 = omega arith in
    let back = position_back n (k / n) (k % n) k (i % 2) whole unit in
    rw back (omega arith)

pub copies_law : (n s i : ℕ) → 2 ≤ n → i < 2 * (n * s / 2) → AreCopies n s i (copies_of n i)
copies_law n s i two h =
    let some : 0 < n = omega arith in
    let low = row_below n s (2 * (i / 2)) some (omega arith) in
    let high = row_below n s (2 * (i / 2) + 1) some (omega arith) in
    record {
      first_inside = (omega arith, omega (arith, low));
      second_inside = (omega arith, omega (arith, high));
      apart = λ e. members_differ n (2 * (i / 2)) two e;
      first_back = spot_back n i (2 * (i / 2)) some (omega arith);
      second_back = spot_back n i (2 * (i / 2) + 1) some (omega arith);
    }

-- the member of a number of others: another than the parity's, and the number of others below it is that one
record IsOther (n p q m : ℕ) : Type 0 where
  inside : m < n
  apart : m ≢ p
  counted : cond (nat_lt m p) m (m - 1) ≡ q

other_member : (n p q : ℕ) → p < n → q < n - 1 → IsOther n p q (data_member p q)
other_member n p q h k = record {
  inside = grind (arith, nat_tests);
  apart = grind (arith, nat_tests);
  counted = grind (arith, nat_tests);
}

pub stripe_law : (n s i : ℕ) → 2 ≤ n → i < 2 * s * (n - 1) → IsStripe n s i (stripe_of n i)
stripe_law n s i two h =
    let some : 0 < n - 1 = omega arith in
    let r = i / 2 / (n - 1) in
    let low : i / 2 / (n - 1) < s = row_below (n - 1) s (i / 2) some (omega arith) in
    let wanders : i / 2 / (n - 1) % n < n = omega arith in
    let held : parity_of n (i / 2 / (n - 1)) < n = omega arith in
    let spare : i / 2 % (n - 1) < n - 1 = omega arith in
    let other = other_member n (parity_of n (i / 2 / (n - 1))) (i / 2 % (n - 1)) held spare in
    let row : (2 * (i / 2 / (n - 1)) + i % 2) / 2 ≡ i / 2 / (n - 1) = omega arith in
    record {
      inside = (other.inside, omega (arith, low), held);
      row = sym row;
      apart = other.apart;
      one_parity = ap (parity_of n) row;
      back =
          (let unit : (2 * (i / 2 / (n - 1)) + i % 2) % 2 ≡ i % 2 = omega arith in
          let whole : i / 2 / (n - 1) * (n - 1) + i / 2 % (n - 1) ≡ i / 2 = omega arith in
          rw (row, unit, other.counted, whole) (omega arith));
    }
