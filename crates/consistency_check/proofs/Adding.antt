-- A row added up, one member after another.
use Rattle.std.proofs.Common.{◌≡◌, ℕ, zero, suc, ◌+◌, ◌<◌, true, false, Some, None, List, refl, sym, ◌∙◌, ap, arith}
use Rattle.std.specs.Prelude.{slice_get}
use Rattle.extent_groups.specs.declared.place.Place.{Place}
use Rattle.extent_groups.specs.Cells.{Cells}
use Rattle.extent_groups.specs.Units.{plus, add, xor_total, held_in, row_of}
use Rattle.extent_groups.specs.Calls.{DidRead}
use Rattle.extent_groups.proofs.ExclusiveOr.{plus-comm}
use Rattle.extent_groups.proofs.Totals.{total_same, total_missing}
use Rattle.parity_store.proofs.Sums.{row_same}

-- one member more was read
pub row_more : (n m k : ℕ) (c new : Cells) (row : List Place) (x : Place) (sum part next : List ℕ) → k ≡ m + 1 → slice_get row m ≡ Some x → DidRead c new x part true
    → xor_total n m (row_of c row) ≡ Some sum → next ≡ plus sum part → xor_total n k (row_of new row) ≡ Some next
row_more n m zero c new row x sum part next e at read so_far is = absurd (omega (arith, e))
row_more n m (suc j) c new row x sum part next e at read so_far is =
    let here : j ≡ m = omega (arith, e) in
    ap (λ i. add (row_of new row i) (xor_total n i (row_of new row))) here
    ∙ ap (λ o. add o (xor_total n m (row_of new row))) (ap (held_in new) at ∙ read.here)
    ∙ ap (add (Some part)) (total_same n m (row_of new row) (row_of c row) (λ i _. row_same c new row (read.same refl) i) ∙ so_far)
    ∙ ap (λ u. Some u) (plus-comm part sum ∙ sym is)

-- a member that is lost: the row has no sum
pub row_missing : (n m k : ℕ) (c new : Cells) (row : List Place) (x : Place) (part : List ℕ) → k < m → slice_get row k ≡ Some x → DidRead c new x part false
    → xor_total n m (row_of new row) ≡ None
row_missing n m k c new row x part low at read = total_missing n m k (row_of new row) low (ap (held_in new) at ∙ read.here)
