-- Bytes that are written over others, index by index.
use Rattle.std.proofs.Common.{◌≡◌, ℕ, ◌+◌, ◌-◌, ◌<◌, ◌≤◌, List, length, slice_index, arith}
use Rattle.std.proofs.lemmas.List.{places}
use Rattle.byte_store.specs.Flat.{written_over}

pub over_long : (xs : List ℕ) (o : ℕ) (ys : List ℕ) → o + length ys ≤ length xs → length (written_over xs o ys) ≡ length xs
over_long xs o ys fits = grind (arith, places)

pub over_before : (xs : List ℕ) (o : ℕ) (ys : List ℕ) (i : ℕ) → o + length ys ≤ length xs → i < o → slice_index (written_over xs o ys) i ≡ slice_index xs i
over_before xs o ys i fits below = grind (arith, places)

pub over_here : (xs : List ℕ) (o : ℕ) (ys : List ℕ) (i : ℕ) → o + length ys ≤ length xs → o ≤ i → i < o + length ys
    → slice_index (written_over xs o ys) i ≡ slice_index ys (i - o)
over_here xs o ys i fits from below = grind (arith, places)

pub over_after : (xs : List ℕ) (o : ℕ) (ys : List ℕ) (i : ℕ) → o + length ys ≤ length xs → o + length ys ≤ i
    → slice_index (written_over xs o ys) i ≡ slice_index xs i
over_after xs o ys i fits from = grind (arith, places)

pub ruleset overs = (over_long, over_before, over_here, over_after)
