-- A state of the lock's value.
use Rattle.std.specs.Prelude.{ℕ}
use Rattle.array_book.specs.Kept.{KeptView, IsKept}
use Rattle.array_book.specs.Outcomes.{LockState}

-- with the flat state of its invariant
abbrev pub state_of : (blocks payload : ℕ) (k : KeptView) → IsKept blocks payload k → LockState blocks payload
state_of blocks payload k is = record { view = k; kept = is; flat = is.flat; shows = is.shows }
