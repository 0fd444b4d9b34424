-- A content that goes into a slot under the record of its commit, in one write: the fill or the copy and the commit, with nothing
-- between them.
use Rattle.std.specs.Prelude.{ℕ}
use Rattle.map_join.specs.declared.records.Record.{Record}
use Rattle.flat_machine.specs.Flat.{Flat}
use Rattle.flat_machine.specs.Steps.{FlatStep, FlatAnswer, Committed}
use Rattle.flat_machine.specs.Cases.{Case, CommitCase}
use Rattle.slot_tables.specs.Views.{ArrayView}
use Rattle.slot_tables.specs.Represents.{ShowsArray}

-- the step has this answer, then worker w's commit of the slot to the block emits the record, and then the array shows the state
abbrev pub ArePutAtOnce : Flat → FlatStep → FlatAnswer → ℕ → ℕ → ℕ → Record → ArrayView → Type 0
ArePutAtOnce F step answer w s b r a =
    (M : Flat) × (Case F step answer M) × ((G : Flat) × (CommitCase M w s b (Committed r) G) × (ShowsArray a G))
