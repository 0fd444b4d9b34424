-- What is true of a table's keys is true of its map's.
use Rattle.std.proofs.Common.{◌∙◌, ℕ, ◌<◌, ◌≤◌, Option, List, sym, subst}
use Rattle.map_join.specs.Record.{key_of}
use Rattle.map_join.specs.Maps.{IsSame}
use Rattle.flat_machine.specs.Scanned.{IsScanned}

pub scanned_as : (bytes : ℕ → Option (List ℕ)) (M N : ℕ → ℕ) → IsSame N M → IsScanned bytes M → IsScanned bytes N
scanned_as bytes M N same is = record {
  found = λ b some. (let f = is.found b (subst (λ k. 0 < k) (same b) some) in (f.0, f.1, f.2, f.3, f.4 ∙ sym (same b)));
  most = λ slot r h. subst (λ k. key_of r ≤ k) (sym (same r.block)) (is.most slot r h);
}
