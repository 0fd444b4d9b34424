-- What a test of all slots finds.
use Rattle.std.specs.Prelude.{◌≡◌, ◌⊎◌, ◌<◌, ◌≤◌, ℕ, Bool, true, false, List, [], ◌∷◌, ◌++◌, Contains, length, take}
use Rattle.std.specs.List.{sum_by}
use Rattle.std.specs.List.Sorted.{IsStrictlyIncreasing}
use Rattle.extent_groups.specs.Groups.{Groups, slots_in}
use Rattle.extent_groups.specs.Cells.{Cells}
use Rattle.consistency_check.specs.Sound.{IsSoundSlot, IsUnsoundSlot}
use Rattle.drive_rebuild.specs.declared.scrub.Findings.{Findings}
use Rattle.drive_rebuild.specs.declared.scrub.TheConstants.{NAMED}

-- how many slots the groups have
abbrev pub slot_total : Groups → ℕ
slot_total groups = sum_by (slots_in groups.segments) groups.table

-- The slots that aren't sound, lowest first: each of them isn't before, and each other is afterwards. What the drives hold before and
-- afterwards differs only where a drive is lost meanwhile.
pub record AreUnsound (groups : Groups) (before after : Cells) (slots : List ℕ) : Type 0 where
  pub rising : IsStrictlyIncreasing slots
  pub unsound : (slot : ℕ) → Contains slots slot → IsUnsoundSlot groups before slot
  pub others : (slot : ℕ) → Contains slots slot ⊎ IsSoundSlot groups after slot

-- the findings count these slots, name the lowest of them, and say how many were tested
pub record ReportsSlots (total : ℕ) (slots : List ℕ) (findings : Findings) : Type 0 where
  pub tested : findings.slots ≡ total
  pub counted : findings.unsound ≡ length slots
  pub named : findings.named.items ≡ take NAMED slots

-- the findings report all slots that aren't sound, and of no others
pub record ReportsUnsound (groups : Groups) (before after : Cells) (findings : Findings) : Type 0 where
  pub slots : List ℕ
  pub are : AreUnsound groups before after slots
  pub reported : ReportsSlots (slot_total groups) slots findings

-- as `AreUnsound`, of the slots below a bound
pub record AreUnsoundBelow (groups : Groups) (before after : Cells) (bound : ℕ) (slots : List ℕ) : Type 0 where
  pub rising : IsStrictlyIncreasing slots
  pub few : length slots ≤ bound
  pub low : (slot : ℕ) → Contains slots slot → slot < bound
  pub unsound : (slot : ℕ) → Contains slots slot → IsUnsoundSlot groups before slot
  pub others : (slot : ℕ) → slot < bound → Contains slots slot ⊎ IsSoundSlot groups after slot

-- the findings report the slots below a bound that aren't sound, and of no others
pub record ReportsBelow (groups : Groups) (before after : Cells) (total bound : ℕ) (findings : Findings) : Type 0 where
  pub slots : List ℕ
  pub are : AreUnsoundBelow groups before after bound slots
  pub reported : ReportsSlots total slots findings

-- the slots with one more, which isn't among them if it is sound
abbrev pub with_tested : List ℕ → ℕ → Bool → List ℕ
with_tested slots slot true = slots
with_tested slots slot false = slots ++ slot ∷ []
