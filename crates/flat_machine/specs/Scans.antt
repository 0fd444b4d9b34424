-- What a scan of the headers and a restart answer in a state, and the state which they leave.
use Rattle.std.specs.Prelude.{◌≡◌, ℕ, ◌<◌, List, length}
use Rattle.map_join.specs.declared.records.Record.{Record}
use Rattle.map_join.specs.Maps.{IsMapOf, IsListOf}
use Rattle.flat_machine.specs.Flat.{Flat}
use Rattle.flat_machine.specs.Cases.{Leaves, IsGoneIn}
use Rattle.flat_machine.specs.Restarted.{restarted}

-- what a scan answers: the key of each block, or a slot that is gone
pub data ScanAnswer : Type 0 where
  Reported : (ℕ → ℕ) → ScanAnswer
  NotReported : ℕ → ScanAnswer

-- what a restart answers: how many blocks there are, or a slot that is gone
pub data RestartAnswer : Type 0 where
  Restarted : ℕ → RestartAnswer
  NotRestarted : ℕ → RestartAnswer

-- the slot is gone, and none below it was gone before: drives may fail while the headers are read
pub record FindsGone (F G : Flat) (s : ℕ) : Type 0 where
  pub gone : IsGoneIn G s
  pub lowest : (t : ℕ) → t < s → IsGoneIn F t → ⊥
  pub leaves : Leaves F G

-- the records are the newest of the emitted, in the blocks' order, with this map
pub record AreNewest (emitted : List Record) (keys : ℕ → ℕ) (records : List Record) : Type 0 where
  pub map : IsMapOf emitted keys
  pub list : IsListOf keys records

-- scan: where no slot is gone, the map of the emitted records
abbrev pub ScanCase : Flat → ScanAnswer → Flat → Type 0
ScanCase F (Reported keys) G = ((s : ℕ) → IsGoneIn F s → ⊥) × IsMapOf F.emitted keys × Leaves F G
ScanCase F (NotReported s) G = FindsGone F G s

-- restart: where no slot is gone, the state is restarted with the map of the newest records
abbrev pub RestartCase : Flat → RestartAnswer → Flat → Type 0
RestartCase F (Restarted count) G = ((s : ℕ) → IsGoneIn F s → ⊥)
    × ((keys : ℕ → ℕ) × (records : List Record) × AreNewest F.emitted keys records × (count ≡ length records) × Leaves (restarted F keys records) G)
RestartCase F (NotRestarted s) G = FindsGone F G s
