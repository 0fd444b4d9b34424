use Rattle.std.proofs.Common.{◌/◌, false}
use Rattle.extent_groups.specs.Groups.{members_of}
use Rattle.extent_groups.specs.Units.{places_of}
use Rattle.vault.specs.Marks.{Has}
use Rattle.rotten_units.specs.Rows.{FirstNotesOne}
use Rattle.rotten_units.proofs.rows.is_row_touched.Given as goal

-- none of the first members is rotten
abbrev pub invariant-loop-member : goal.invariant-loop-member
invariant-loop-member l = FirstNotesOne (Has l.rotten.marks.items) (places_of l.groups.segments (members_of l.groups (l.slot / 128)) l.at.offset) l.member false
