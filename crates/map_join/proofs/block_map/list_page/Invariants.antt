use Rattle.std.proofs.Common.{ℕ, ◌+◌, ◌*◌}
use Rattle.map_join.specs.Pages.{IsPageOf, IsListBelow}
use Rattle.map_join.proofs.block_map.list_page.Given as goal

abbrev pub invariant-loop-lane : goal.invariant-loop-lane
invariant-loop-lane l = (M : ℕ → ℕ) → IsPageOf M l.number l.keys → IsListBelow (64 * l.number) M l.initial.list.items → IsListBelow (64 * l.number + l.lane) M l.list.items
