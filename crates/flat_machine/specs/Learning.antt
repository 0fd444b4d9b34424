-- What is learned of a record that may be stale: its place is read, and where another record lies there the newest place of
-- its block.
use Rattle.std.specs.Prelude.{◌≡◌, ◌⊎◌, Some}
use Rattle.map_join.specs.declared.records.Record.{Record}
use Rattle.flat_machine.specs.declared.refusal.Refusal.{Refusal}
use Rattle.flat_machine.specs.declared.refusal.Refusal.TheVariants.{Gone, Ahead}
use Rattle.flat_machine.specs.Flat.{Flat, Content, IsNewest}
use Rattle.flat_machine.specs.Steps.{Seen, Data, Stale}
use Rattle.flat_machine.specs.Cases.{Leaves, IsGoneIn, IsSeen, IsAhead, IsNotAhead, IsLearned}

-- the place of the record was read, and where it is stale the newest place after it; the place of the returned record is not
-- gone after the call
abbrev pub LearnedCase : Flat → Record → Record → Content → Flat → Type 0
LearnedCase F r reported content G =
    (IsNotAhead F r) × (IsGoneIn F r.place → ⊥) × ((seen : Seen) × (IsSeen (F.units r.place) r seen) × (IsLearned F r seen reported content))
    × (IsGoneIn G reported.place → ⊥) × (Leaves F G)

-- what was seen isn't the record's content
abbrev pub IsStale : Seen → Type 0
IsStale (Data x) = ⊥
IsStale (Stale found) = (Unit {0})

-- nothing was learned: the record is ahead, its place is gone, or it is stale and the newest place is gone
abbrev pub UnlearnedCase : Flat → Record → Refusal → Flat → Type 0
UnlearnedCase F r (Ahead found) G = (IsNewest F.emitted r.block found) × (IsAhead r found) × (Leaves F G)
UnlearnedCase F r (Gone t) G =
    (IsNotAhead F r) × (IsGoneIn G t)
    × ((t ≡ r.place) ⊎ ((n : Record) × (IsNewest F.emitted r.block (Some n)) × (t ≡ n.place) × (IsGoneIn F r.place → ⊥)
    × ((seen : Seen) × (IsSeen (F.units r.place) r seen) × (IsStale seen))))
    × (Leaves F G)
UnlearnedCase F r _ G = ⊥
