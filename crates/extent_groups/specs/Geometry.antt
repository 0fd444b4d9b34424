-- Where the slots of a group lie, as numbers: n members, numbered from 0, and s segments in each extent.
use Rattle.std.specs.Prelude.{◌≡◌, ◌≢◌, ℕ, ◌+◌, ◌-◌, ◌*◌, ◌/◌, ◌%◌, ◌<◌, nat_lt, if◌then◌else◌}
use Rattle.extent_groups.specs.declared.class.Class.{Class}
use Rattle.extent_groups.specs.declared.class.Class.TheVariants.{Mirrored, Parity}
use Rattle.extent_groups.specs.declared.geometry.Spot.{Spot}
use Rattle.extent_groups.specs.declared.geometry.Copies.{Copies}
use Rattle.extent_groups.specs.declared.geometry.Stripe.{Stripe}

-- how many slots a group has
abbrev pub slot_count : Class → ℕ → ℕ → ℕ
slot_count Mirrored n s = 2 * (n * s / 2)
slot_count Parity n s = 2 * s * (n - 1)

-- a unit of a segment position: on member k mod n, in row k / n
abbrev pub spot_at : ℕ → ℕ → ℕ → Spot
spot_at n k unit = record { member = k % n; offset = 2 * (k / n) + unit }

-- the copies of a mirrored index: it is unit i mod 2 of pair i / 2, whose two positions follow one another
abbrev pub copies_of : ℕ → ℕ → Copies
copies_of n i = record { first = spot_at n (2 * (i / 2)) (i % 2); second = spot_at n (2 * (i / 2) + 1) (i % 2) }

-- the member that holds the parity of a stripe
abbrev pub parity_of : ℕ → ℕ → ℕ
parity_of n r = n - 1 - r % n

-- the member with q others before it, the parity's member not counted
abbrev pub data_member : ℕ → ℕ → ℕ
data_member parity q = if nat_lt q parity then q else q + 1

-- the stripe of a parity index, where it lies in it, and the parity's member
abbrev pub stripe_of : ℕ → ℕ → Stripe
stripe_of n i =
    let r = i / 2 / (n - 1) in
    record { stripe = r; member = data_member (parity_of n r) (i / 2 % (n - 1)); offset = 2 * r + i % 2; parity = parity_of n r }

-- the index whose copy lies on a member at an offset
abbrev pub copy_index : ℕ → Spot → ℕ
copy_index n x = 2 * ((x.offset / 2 * n + x.member) / 2) + x.offset % 2

-- the index that lies on a member at an offset of a parity group, where that isn't the parity's
abbrev pub stripe_index : ℕ → ℕ → ℕ → ℕ
stripe_index n member offset =
    let parity = parity_of n (offset / 2) in
    2 * (offset / 2 * (n - 1) + (if nat_lt member parity then member else member - 1)) + offset % 2

-- what holds of the copies of an index below the number of slots: they lie within the group, on different members, and each gives
-- the index
pub record AreCopies (n s i : ℕ) (copies : Copies) : Type 0 where
  pub first_inside : (copies.first.member < n) × (copies.first.offset < 2 * s)
  pub second_inside : (copies.second.member < n) × (copies.second.offset < 2 * s)
  pub apart : copies.first.member ≢ copies.second.member
  pub first_back : copy_index n copies.first ≡ i
  pub second_back : copy_index n copies.second ≡ i

-- what holds of the stripe of an index below the number of slots: it lies within the group and not on the parity's member, its
-- offset alone gives that member, and its place gives the index
pub record IsStripe (n s i : ℕ) (at : Stripe) : Type 0 where
  pub inside : (at.member < n) × (at.offset < 2 * s) × (at.parity < n)
  pub row : at.stripe ≡ at.offset / 2
  pub apart : at.member ≢ at.parity
  pub one_parity : parity_of n (at.offset / 2) ≡ at.parity
  pub back : stripe_index n at.member at.offset ≡ i
