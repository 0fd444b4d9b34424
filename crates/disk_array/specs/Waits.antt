-- What waits at a slot.
use Rattle.std.specs.Prelude.{Bool, true, false}
use Rattle.slot_tables.specs.Views.{Kept, Nothing, Pending, Moving, Newest, Unmade}

-- a fresh payload or trim waits there
abbrev pub is_fresh : Kept → Bool
is_fresh Nothing = false
is_fresh (Pending k) = true
is_fresh (Moving r k) = false
is_fresh (Newest block) = false
is_fresh Unmade = false
