use Rattle.std.proofs.Common.{take}
use Rattle.vault.specs.Images.{Image}
use Rattle.vault.specs.Moments.{IsUnitThere}
use Rattle.vault.specs.Replay.{seen_at}
use Rattle.vault.proofs.memory.find_unit.Given as goal

abbrev pub invariant-loop-call : goal.invariant-loop-call
invariant-loop-call l = IsUnitThere (Image.cells (seen_at (take l.call-index l.fn.calls))) l.fn.place l.out l.there
