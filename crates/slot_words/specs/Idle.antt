-- A seat that has no pair, and may make steps.
use Rattle.std.specs.Prelude.{◌≡◌, ◌<◌, [], length}
use Rattle.atomic_table.specs.Seated.{TableId}
use Rattle.atomic_table.specs.declared.shared.Seat.{Seat}
use Rattle.slot_words.specs.declared.view.View.{View}

-- the seat is of this table, has no pair and no place for values, and some share
abbrev pub IsIdleSeat : {S : Type 0} → TableId → Seat S View → Type 0
IsIdleSeat table seat = (seat.table_id ≡ table) × (seat.me.0.pairs ≡ []) × (seat.me.1 ≡ []) × (0 < length seat.me.0.shares)
