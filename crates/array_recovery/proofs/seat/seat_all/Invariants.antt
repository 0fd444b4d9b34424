use Rattle.std.proofs.Common.{◌≡◌, ◌≤◌, length}
use Rattle.std.specs.Prelude.{drop}
use Rattle.array_recovery.proofs.Seating.{AreSeatedTo}
use Rattle.array_recovery.proofs.seat.seat_all.Given as goal

-- the first drives are seated, and the others are left
abbrev pub invariant-loop-alloc : goal.invariant-loop-alloc
invariant-loop-alloc g l = record {
  some : length l.drives.items ≤ length l.fn.caches.items;
  rest : l.caches.items ≡ drop (length l.drives.items) l.fn.caches.items;
  seated : AreSeatedTo (λ x. x.cache.units) (λ x. x.lost) l.lost l.fn.caches.items l.drives.items l.keeper;
}

abbrev pub decreases-loop-alloc : goal.decreases-loop-alloc
decreases-loop-alloc g l = length l.caches.items
