-- Groups past the end of the places have no newest place.
use Rattle.std.proofs.Common.{◌≡◌, ℕ, zero, suc, ◌+◌, ◌*◌, ◌≤◌, List, length, get_or, ap, arith}
use Rattle.slot_tables.specs.declared.slot_state.SlotState.{SlotState}
use Rattle.slot_tables.specs.Views.{Nothing}
use Rattle.slot_tables.specs.Kept.{kepts_of}
use Rattle.slot_tables.specs.Counted.{newest_in, newest_below}
use Rattle.slot_tables.proofs.Places.{kept_past}
use Rattle.slot_tables.proofs.Counts.{below_none, below_next}

-- no slot of such a group is counted
pub none_past : {C : Type 0} (places : List (SlotState C)) (group index : ℕ) → length places ≤ 128 * group → newest_below (kepts_of places) group index ≡ 0
none_past places group zero past = below_none (kepts_of places) group
none_past places group (suc index) past =
    let rest = none_past places group index past in
    let one : newest_in (get_or (kepts_of places) (128 * group + index) Nothing) ≡ 0 =
    ap newest_in (kept_past places (128 * group + index) (omega (arith, past))) in
    let next = below_next (kepts_of places) group index in
    omega (arith, rest, one, next)
