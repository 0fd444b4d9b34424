use Rattle.std.proofs.Common.{◌≡◌, map, take, length}
use Rattle.journaled_store.specs.Steps.{loss_mark}
use Rattle.journaled_store.proofs.changes.marks_of.Given as goal

abbrev pub invariant-loop-drive : goal.invariant-loop-drive
invariant-loop-drive l = record {
  long : length l.marks ≡ 16;
  marked : take l.drive l.marks ≡ map loss_mark (take l.drive l.lost);
}
