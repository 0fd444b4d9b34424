-- What calls of a vault in memory leave: what later ones find, and what a stop may leave.
use Rattle.std.specs.Prelude.{◌≡◌, ◌⊎◌, ◌<◌, ◌≤◌, ℕ, Some, List, [], ◌∷◌, ◌++◌, length, take, slice_get}
use mathlib.Core.Logic.{inl, inr}
use Rattle.std.proofs.Common.{arith, subst, sym}
use Rattle.std.proofs.lemmas.List.{take_all}
use Rattle.std.proofs.lemmas.Option.{none-some}
use Rattle.extent_groups.specs.Planned.{Intended}
use Rattle.vault.specs.declared.store.Stop.{Stop}
use Rattle.vault.specs.declared.store.Stop.TheVariants.{Killed, PowerLost}
use Rattle.vault.specs.declared.memory.Call.{Call}
use Rattle.vault.specs.declared.memory.Call.TheVariants.{Unit as UnitCall, SyncUnits, Append, SyncJournal, Clear}
use Rattle.vault.specs.Images.{Image, Alike, SameUnits, SameOn, with_write, with_journal}
use Rattle.vault.specs.Moments.{torn_at, written_at, has_batch, with_or_without, more_batches, emptied}

-- at first
abbrev pub start : Image
start = record { cells = λ drive at. Some []; journal = [] }

abbrev pub left_first : Image → Type 0
left_first i = Alike i start

-- what calls find after one call more
abbrev pub seen_after : Call → Image → Image
seen_after (UnitCall place unit) s = with_write s place unit.items
seen_after (SyncUnits lost) s = s
seen_after (Append batch) s = with_journal s (s.journal ++ batch ∷ [])
seen_after SyncJournal s = s
seen_after Clear s = with_journal s []

-- what a stop leaves during a call, of what calls found and what a stop left before it
abbrev pub leaves_during : Call → Image → (Image → Type 0) → Image → Type 0
leaves_during (UnitCall place unit) s leaves i = torn_at place leaves i
leaves_during (SyncUnits lost) s leaves i = leaves i
leaves_during (Append batch) s leaves i = with_or_without s batch leaves i
leaves_during SyncJournal s leaves i = more_batches s leaves i
leaves_during Clear s leaves i = emptied leaves i

-- what a stop leaves after a call
abbrev pub leaves_after : Stop → Call → Image → (Image → Type 0) → Image → Type 0
leaves_after Killed (UnitCall place unit) s leaves i = written_at place unit.items leaves i
leaves_after PowerLost (UnitCall place unit) s leaves i = torn_at place leaves i
leaves_after stop (SyncUnits lost) s leaves i = leaves i × SameOn lost i.cells s.cells
leaves_after Killed (Append batch) s leaves i = has_batch s batch leaves i
leaves_after PowerLost (Append batch) s leaves i = with_or_without s batch leaves i
leaves_after stop SyncJournal s leaves i = more_batches s leaves i × (i.journal ≡ s.journal)
leaves_after stop Clear s leaves i = (j : Image) × leaves j × SameUnits i.cells j.cells × (i.journal ≡ [])

-- all calls, the first of them first
abbrev pub seen_from : Image → List Call → Image
seen_from s [] = s
seen_from s (call ∷ calls) = seen_from (seen_after call s) calls

abbrev pub leaves_from : Stop → Image → (Image → Type 0) → List Call → Image → Type 0
leaves_from stop s leaves [] i = leaves i
leaves_from stop s leaves (call ∷ calls) i = leaves_from stop (seen_after call s) (leaves_after stop call s leaves) calls i

abbrev pub seen_at : List Call → Image
seen_at calls = seen_from start calls

abbrev pub leaves_at : Stop → List Call → Image → Type 0
leaves_at stop calls i = leaves_from stop start left_first calls i

-- the batch of this index in the journal, if there is one
abbrev pub HasBatchAt : ℕ → Image → List Intended → Type 0
HasBatchAt index s batch = index < length s.journal → slice_get s.journal index ≡ Some batch

-- what a stop leaves during a call that comes after others
abbrev pub leaves_in : Stop → List Call → Call → Image → Type 0
leaves_in stop calls call i = leaves_during call (seen_at calls) (λ j. leaves_at stop calls j) i

-- what a stop at some moment since t may have left: between two calls, or during one
abbrev pub LeftSince : Stop → List Call → ℕ → Image → Type 0
LeftSince stop calls t i =
    (k : ℕ) × (t ≤ k) × (k ≤ length calls) × (leaves_at stop (take k calls) i ⊎ ((call : Call) × (slice_get calls k ≡ Some call) × leaves_in stop (take k calls) call i))

pub left_now : (stop : Stop) (calls : List Call) (t : ℕ) (i : Image) → t ≤ length calls → leaves_at stop calls i → LeftSince stop calls t i
left_now stop calls t i le now = (length calls, le, omega arith, inl (subst (λ (l : List Call). leaves_at stop l i) (sym (take_all (length calls) calls (omega arith))) now))

none_there : (calls : List Call) (call : Call) → slice_get calls (length calls) ≡ Some call → ⊥
none_there [] call e = none-some call e
none_there (first ∷ calls) call e = none_there calls call e

pub only_left : (stop : Stop) (calls : List Call) (i : Image) → LeftSince stop calls (length calls) i → leaves_at stop calls i
only_left stop calls i (k, le, most, inl left) = subst (λ (l : List Call). leaves_at stop l i) (take_all k calls (omega (arith, le))) left
only_left stop calls i (k, le, most, inr (call, at, left)) =
    let last : k ≡ length calls = omega (arith, le, most) in absurd (none_there calls call (subst (λ n. slice_get calls n ≡ Some call) last at))
