use Rattle.std.proofs.Common.{◌≢◌, ℕ, ◌<◌, None}
use Rattle.extent_groups.specs.Groups.{group_at}
use Rattle.disk_array.proofs.make.lowest_free.Given as goal

abbrev pub invariant-loop-number : goal.invariant-loop-number
invariant-loop-number l = (h : ℕ) → h < l.number → group_at l.groups h ≢ None
