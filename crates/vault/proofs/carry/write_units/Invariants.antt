use Rattle.std.proofs.Common.{◌≤◌, take}
use Rattle.extent_groups.specs.Planned.{after}
use Rattle.vault.specs.Images.{Image, SameOn}
use Rattle.vault.specs.Moments.{IsWithinJournal, IsPartApplied}
use Rattle.vault.proofs.carry.write_units.Given as goal

abbrev pub invariant-loop-index : goal.invariant-loop-index
invariant-loop-index g l = record {
  stays : g.V.Vault.known l.fn.vault → g.V.Vault.known l.vault;
  underway : g.V.Vault.known l.fn.vault → IsWithinJournal l.fn.batch (g.V.Vault.seen l.fn.vault) → IsPartApplied g.V.Vault.seen g.V.Vault.may_leave g.V.Vault.moment g.V.Vault.left_since l.fn.lost l.fn.vault l.vault;
  cells : g.V.Vault.known l.fn.vault → SameOn l.fn.lost (Image.cells (g.V.Vault.seen l.vault)) (after (Image.cells (g.V.Vault.seen l.fn.vault)) (take l.index l.fn.batch));
  faults : g.V.Vault.known l.fn.vault → g.V.Vault.faults l.fn.vault ≤ g.V.Vault.faults l.vault;
}
