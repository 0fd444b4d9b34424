-- The steps of the flat machine, and their answers, as plain data.
use Rattle.std.specs.Prelude.{ℕ, List, Option}
use Rattle.map_join.specs.declared.records.Record.{Record}
use Rattle.extent_groups.specs.declared.class.Class.{Class}
use Rattle.extent_groups.specs.declared.class.Member.{Member}
use Rattle.flat_machine.specs.declared.refusal.Refusal.{Refusal}
use Rattle.flat_machine.specs.Flat.{Content}

-- a step: worker and slot, or worker and group, come first, then what goes in
pub data FlatStep : Type 0 where
  Claim : ℕ → ℕ → FlatStep
  Release : ℕ → ℕ → FlatStep
  Fill : ℕ → ℕ → Content → FlatStep
  Copy : ℕ → ℕ → ℕ → FlatStep
  Commit : ℕ → ℕ → ℕ → FlatStep
  Discard : ℕ → ℕ → FlatStep
  Read : ℕ → FlatStep
  ReadAt : Record → FlatStep
  Make : Class → List Member → FlatStep
  Unmake : ℕ → ℕ → FlatStep
  MoveExtent : ℕ → ℕ → Member → FlatStep
  AddDrive : FlatStep
  Lose : ℕ → FlatStep

-- what is read of a block: its version and payload
pub record Version : Type 0 where
  pub version : ℕ
  pub payload : List ℕ

-- what is seen at a record's place: the content that lies there under exactly that record, or the record found in its stead,
-- none where the header is blank or the place is in no group
pub data Seen : Type 0 where
  Data : Content → Seen
  Stale : Option Record → Seen

-- an answer
pub data FlatAnswer : Type 0 where
  Claimed : ℕ → FlatAnswer
  Taken : ℕ → FlatAnswer
  Released : ℕ → FlatAnswer
  NotHeld : ℕ → FlatAnswer
  Filled : ℕ → FlatAnswer
  Copied : ℕ → FlatAnswer
  Committed : Record → FlatAnswer
  Discarded : ℕ → FlatAnswer
  Found : Option Version → FlatAnswer
  FoundAt : Seen → FlatAnswer
  MadeGroup : ℕ → FlatAnswer
  UnmadeGroup : ℕ → FlatAnswer
  MovedExtent : FlatAnswer
  AddedDrive : ℕ → FlatAnswer
  LostDrive : ℕ → FlatAnswer
  Refused : Refusal → FlatAnswer
