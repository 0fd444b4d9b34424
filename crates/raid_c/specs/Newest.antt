-- The newest record of a block in a list of records, and what the call for it returns.
use Rattle.std.specs.Prelude.{◌≡◌, ℕ, ◌≤◌, List, Option, Some, None, Contains}
use Rattle.map_join.specs.declared.records.Record.{Record}
use Rattle.map_join.specs.Record.{key_of}
use Rattle.raid_c.specs.declared.record.StampedRecord.{StampedRecord}
use Rattle.raid_c.specs.declared.status.Status.{Status}
use Rattle.raid_c.specs.declared.status.Status.TheVariants as is
use Rattle.raid_c.specs.Lists.{AreRecords, IsNoList}
use Rattle.raid_c.specs.Records.{as_record}

-- a record of the list and the block, and none of both has a greater key
pub record IsGreatest (records : List Record) (block : ℕ) (r : Record) : Type 0 where
  pub listed : Contains records r
  pub of_block : r.block ≡ block
  pub most : (q : Record) → Contains records q → q.block ≡ block → key_of q ≤ key_of r

-- that record, or none where the list has none of the block
abbrev pub IsNewest : List Record → ℕ → Option Record → Type 0
IsNewest records block None = (r : Record) → Contains records r → r.block ≡ block → ⊥
IsNewest records block (Some r) = IsGreatest records block r

-- the newest record of the block in the list that the bytes spell; where there is none, the record stays
abbrev pub FindsNewest : Status → List ℕ → ℕ → StampedRecord → StampedRecord → Type 0
FindsNewest is.Done bytes block old new = (list : List Record) × AreRecords bytes list × IsNewest list block (Some (as_record new))
FindsNewest is.Absent bytes block old new = (list : List Record) × AreRecords bytes list × IsNewest list block None × (new ≡ old)
FindsNewest status bytes block old new = IsNoList status bytes × (new ≡ old)
