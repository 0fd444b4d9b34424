-- Lists of single writes, entry by entry.
use Rattle.std.proofs.Common.{◌≡◌, ℕ, zero, suc, Some, List, [], ◌∷◌, slice_get, refl, arith}
use Rattle.unit_store.specs.declared.micro.Micro.{Micro}
use Rattle.unit_store.specs.declared.micro.Micro.TheVariants.{NoteSet, Write, NoteClear}
use Rattle.unit_store.specs.declared.parts.Parts.{Parts}
use Rattle.unit_store.specs.Micros.{AreWrites}

-- where each entry alone writes only whole units to existing places, so does the list
pub each_write : {D : Type 0} (units : D → List (List ℕ)) (parts : Parts D) (list : List Micro)
    → ((k : ℕ) (m : Micro) → slice_get list k ≡ Some m → AreWrites units parts (m ∷ [])) → AreWrites units parts list
each_write units parts [] each w (k, low, is) = absurd (omega (arith, low))
each_write units parts (NoteSet note ∷ list) each w there = each_write units parts list (λ k m is. each (suc k) m is) w there
each_write units parts (NoteClear ∷ list) each w there = each_write units parts list (λ k m is. each (suc k) m is) w there
each_write units parts (Write drive at unit ∷ list) each w (zero, low, is) = each 0 (Write drive at unit) refl w (0, omega arith, is)
each_write units parts (Write drive at unit ∷ list) each w (suc k, low, is) =
    each_write units parts list (λ i m there. each (suc i) m there) w (k, omega (arith, low), is)
