-- What a call leaves of a flat state by which no group and no drive comes or goes.
use Rattle.std.specs.Prelude.{◌≡◌, ℕ, true, List, ◌++◌}
use Rattle.map_join.specs.declared.records.Record.{Record}
use Rattle.flat_machine.specs.Flat.{Flat, Write}

-- the same groups and as many drives, and a drive that was lost is lost; the records and the writes of before, and more of them
pub record Grows (F G : Flat) : Type 0 where
  pub groups : G.groups ≡ F.groups
  pub drives : G.drives ≡ F.drives
  pub lost : (d : ℕ) → F.lost d ≡ true → G.lost d ≡ true
  pub records : List Record
  pub emitted : G.emitted ≡ F.emitted ++ records
  pub more : List Write
  pub writes : G.writes ≡ F.writes ++ more
