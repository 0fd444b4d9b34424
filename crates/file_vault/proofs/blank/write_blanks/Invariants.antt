use Rattle.std.proofs.Common.{◌<◌}
use Rattle.extent_groups.specs.declared.place.Place.{Place}
use Rattle.file_vault.specs.Layouts.{IsBlank}
use Rattle.file_vault.specs.Vaults.{plan_of}
use Rattle.file_vault.proofs.blank.write_blanks.Given as goal

-- the first drives' units are blank
abbrev pub invariant-loop-drive : goal.invariant-loop-drive
invariant-loop-drive g l = record {
  stays : g.F.Files.known l.fn.files → g.F.Files.known l.files;
  blank : g.F.Files.known l.fn.files → (x : Place) → x.drive < l.drive → IsBlank (plan_of l.layout) (g.F.Files.seen l.files) x;
}
