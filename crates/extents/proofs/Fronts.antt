-- The first bytes of units: of whole units they are the units.
use Rattle.std.proofs.Common.{◌≡◌, ◌<◌, ℕ, zero, suc, List, [], ◌∷◌, length, refl, sym, ◌∙◌, arith}
use Rattle.extents.specs.Units.{AreUnitsSized, HaveFront}

-- units of `size` bytes have prefixes of `size` bytes
pub have_whole : (size : ℕ) (units : List (List ℕ)) → AreUnitsSized size units → HaveFront size units
have_whole size units sized at unit there = omega (arith, sized at unit there)

-- units that are there have one size
pub one_size : (one other : ℕ) (units : List (List ℕ)) (at : ℕ) → at < length units → AreUnitsSized one units → AreUnitsSized other units → one ≡ other
one_size one other [] at low sized also = absurd (omega (arith, low))
one_size one other (unit ∷ units) zero low sized also = sym (sized 0 unit refl) ∙ also 0 unit refl
one_size one other (unit ∷ units) (suc at) low sized also = one_size one other units at (omega (arith, low)) (λ k. sized (suc k)) (λ k. also (suc k))
