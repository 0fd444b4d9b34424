-- What a commit leaves in the worker's hand.
use Rattle.std.specs.Prelude.{ℕ, List, Option, Some, None, slice_set}
use Rattle.slot_tables.specs.declared.hand.Hand.{Hand}
use Rattle.slot_tables.specs.declared.hand.Hand.TheVariants.{Holds}
use Rattle.slot_tables.specs.declared.hold.Plain.{Plain}

-- the worker holds the block's old place, if it had one
abbrev pub given_old : List Hand → ℕ → Option Plain → List Hand
given_old hands w None = hands
given_old hands w (Some claim) = slice_set hands claim.slot (Holds w)
