-- What a read of the drives says of an array.
use Rattle.std.specs.Prelude.{◌≡◌, ◌⊎◌, ℕ, None}
use Rattle.map_join.specs.declared.records.Record.{Record}
use Rattle.unit_store.specs.Views.{FoundGone, SawUnit}
use Rattle.flat_machine.specs.Groups.{class_at}
use Rattle.flat_machine.specs.Steps.{Seen, Stale}
use Rattle.flat_machine.specs.declared.refusal.Refusal.{Refusal}
use Rattle.flat_machine.specs.declared.refusal.Refusal.TheVariants.{Memory}
use Rattle.slot_tables.specs.Views.{ArrayView}

-- a slot wasn't read: out of memory, with nothing done, or as it is gone
abbrev pub WasNotRead : ArrayView → ArrayView → ℕ → Refusal → Type 0
WasNotRead a b slot refusal = ((refusal ≡ Memory) × (b ≡ a)) ⊎ FoundGone a.parts b.parts slot refusal

-- what lies at a record's place was seen: the place is in no group, or the unit that is there says so
abbrev pub WasSeen : ArrayView → ArrayView → Record → Seen → Type 0
WasSeen a b r seen = ((class_at a.parts.groups r.place ≡ None) × (seen ≡ Stale None) × (b ≡ a)) ⊎ SawUnit a.parts b.parts r seen
