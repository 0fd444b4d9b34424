use Rattle.std.proofs.Common.{◌≤◌, ◌-◌, ◌++◌, List, drop}
use Rattle.extent_groups.specs.Cells.{Cells}
use Rattle.extent_groups.specs.Planned.{Intended, after}
use Rattle.vault.specs.Images.{Image, SameOn}
use Rattle.vault.specs.Marks.{HasPlaces}
use Rattle.vault.specs.Moments.{IsWithinJournal, IsPartApplied}
use Rattle.vault.proofs.carry.write_fresh.Given as goal

abbrev pub invariant-loop-done : goal.invariant-loop-done
invariant-loop-done g l = record {
  stays : g.V.Vault.known l.fn.vault → g.V.Vault.known l.vault;
  underway : g.V.Vault.known l.fn.vault → IsWithinJournal l.fn.batch (g.V.Vault.seen l.fn.vault) → IsPartApplied g.V.Vault.seen g.V.Vault.may_leave g.V.Vault.moment g.V.Vault.left_since l.fn.lost l.fn.vault l.vault;
  written : g.V.Vault.known l.fn.vault → (base : Cells) (later : List Intended) → HasPlaces l.fn.made.marks.items later
      → SameOn l.fn.lost (Image.cells (g.V.Vault.seen l.fn.vault)) (after base later)
      → HasPlaces l.made.marks.items (drop (l.count - l.done) l.fn.batch ++ later)
      × SameOn l.fn.lost (Image.cells (g.V.Vault.seen l.vault)) (after base (drop (l.count - l.done) l.fn.batch ++ later));
  faults : g.V.Vault.known l.fn.vault → g.V.Vault.faults l.fn.vault ≤ g.V.Vault.faults l.vault;
}
