use Rattle.std.proofs.Common.{◌≡◌, ◌+◌, length, take}
use Rattle.std.specs.Prelude.{count_by}
use Rattle.slot_tables.specs.Views.{kept_at, is_kept}
use Rattle.array_book.proofs.plan.needs_demotion.Given as goal

-- what is left to spare: all mirrored slots, less `low` and less those before this one that are kept
abbrev pub invariant-loop-slot : goal.invariant-loop-slot
invariant-loop-slot g l =
    l.spare + count_by (λ slot. is_kept (kept_at l.kept.array slot)) (take l.slot-index l.mirrors) + l.fn.low ≡ length l.mirrors
