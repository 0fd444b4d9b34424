-- The number of four bytes, the lowest first, as a hash reads it byte by byte.
use Rattle.std.proofs.Common.{◌≡◌, ℕ, ◌+◌, ◌*◌, ◌/◌, ◌^◌, ◌<◌, fold, arith}
use Rattle.std.specs.Hash.{le_bytes}

pub number_of_bytes : (n : ℕ) → n < 2 ^ 32 → n ≡ fold (λ number byte. number / 256 + byte * 2 ^ 24) 0 (le_bytes 4 n)
unfolding le_bytes
number_of_bytes n fits = omega (arith, fits)
