-- How many blocks hold a disk's bytes.
use Rattle.std.proofs.Common.{ℕ, ◌-◌, ◌*◌, ◌/◌, ◌<◌, ◌≤◌, arith}
use Rattle.std.proofs.Math.Nat.{div-lt_iff_lt-mul}

-- the last byte lies in one of the most blocks
pub fewer : (size block most : ℕ) → 0 < size → 0 < block → size ≤ most * block → (size - 1) / block < most
fewer size block most some unit within = let below : size - 1 < most * block = omega arith in (div-lt_iff_lt-mul unit).1 below
