-- Losses of an array's drives, one after another, are losses.
use Rattle.std.specs.Prelude.{refl}
use Rattle.std.proofs.Common.{ap, ◌∙◌}
use Rattle.slot_tables.specs.Views.{ArrayView, WorldView, with_parts}
use Rattle.slot_tables.proofs.Fares.{loses_itself, loses_more}
use Rattle.disk_array.specs.Refused.{OnlyLoses, OnlyLosesOf}

-- where nothing happens nothing is lost
pub only_itself : (a : ArrayView) → OnlyLoses a a
only_itself a = (refl, loses_itself a.parts)

-- and losses add up
pub only_more : (a b c : ArrayView) → OnlyLoses a b → OnlyLoses b c → OnlyLoses a c
only_more a b c one two = (two.0 ∙ ap (λ (v : ArrayView). with_parts v c.parts) one.0, loses_more a.parts b.parts c.parts one.1 two.1)

-- the same of a world
pub world_itself : (w : WorldView) → OnlyLosesOf w w
world_itself w = (refl, only_itself w.array)

pub world_more : (u v w : WorldView) → OnlyLosesOf u v → OnlyLosesOf v w → OnlyLosesOf u w
world_more u v w one two = (two.0 ∙ one.0, only_more u.array v.array w.array one.1 two.1)
