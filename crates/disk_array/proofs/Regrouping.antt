-- What an array keeps of its own tables, with one more drive or a member on another extent; and the result of a move.
use Rattle.std.proofs.Common.{◌≡◌, ℕ, Bool, false, ap, sym, subst, None, Result, Ok, Err, IfOk, OnErr, OnOk, IfErr, MatchResult}
use Rattle.extents.specs.Failures.{Failures}
use Rattle.extent_groups.specs.declared.class.Member.{Member}
use Rattle.std.specs.Prelude.{length}
use Rattle.extent_groups.specs.Stores.{AreDrives}
use Rattle.unit_store.specs.Views.{PartsView, WasAdded, Shifted, NotShifted, drive_units, lost_of}
use Rattle.flat_machine.specs.declared.refusal.Refusal.{Refusal}
use Rattle.flat_machine.specs.Flat.{Flat}
use Rattle.flat_machine.specs.Moves.{IsMoveReason}
use Rattle.flat_machine.specs.Steps.{MoveExtent, MovedExtent, Refused}
use Rattle.flat_machine.specs.Cases.{IsAllocating, MoveCase}
use Rattle.slot_tables.specs.Changes.{MayRefuse}
use Rattle.slot_tables.specs.Represents.{ShowsArray}
use Rattle.slot_tables.specs.Views.{ArrayView, with_parts, IsWhole}
use Rattle.slot_tables.proofs.Fills.{as_shown}
use Rattle.slot_tables.proofs.Regroups.{added_whole, move_case, move_passes, move_stopped}
use Rattle.disk_array.proofs.Ready.{as_refused}

-- whether a drive was added or not, the array is whole, and its groups are as they were
pub grown_whole : {T E : Type 0} (a : ArrayView) (v : PartsView) (lost : Bool) (failures : Failures) (r : Result T E) → IsWhole a → IfOk r (λ x. WasAdded a.parts lost failures v)
    → OnErr r (v ≡ a.parts) → AreDrives drive_units v.groups v.drives → IsWhole (with_parts a v)
grown_whole a v lost failures (Ok x) whole added same drives = added_whole a v lost failures whole added drives
grown_whole a v lost failures (Err e) whole added same drives = subst (λ p. IsWhole (with_parts a p)) (sym same) whole

pub grown_groups : {T E : Type 0} (a v : PartsView) (lost : Bool) (failures : Failures) (r : Result T E) → IfOk r (λ x. WasAdded a lost failures v) → OnErr r (v ≡ a) → v.groups ≡ a.groups
grown_groups a v lost failures (Ok x) added same = added.groups
grown_groups a v lost failures (Err e) added same = ap (λ (p : PartsView). p.groups) same

-- what follows from either answer of a call follows from its contract
pub either_on : {T E P A : Type 0} {B : E → Type 0} (r : Result T E) → (A → P) → ((e : E) → B e → P) → OnOk r A → IfErr r B → P
either_on (Ok x) ok err a b = ok a
either_on (Err e) ok err a b = err e b

-- what a move returns is the flat machine's case
pub move_reported : {T : Type 0} (a b : ArrayView) (F : Flat) (g k : ℕ) (to : Member) (r : Result T Refusal) → IsMoveReason a.parts.groups (length a.parts.drives) g k to None
    → lost_of a.parts to.drive ≡ false → OnOk r (Shifted a.parts g k to b.parts) → IfErr r (NotShifted a.parts g k to b.parts) → b ≡ with_parts a b.parts → ShowsArray a F
    → MatchResult r (λ done. (G : Flat) × MoveCase F g k to MovedExtent G × ShowsArray b G)
    (λ refusal. MayRefuse refusal (IsAllocating F (MoveExtent g k to)) ((G : Flat) × MoveCase F g k to (Refused refusal) G × ShowsArray b G))
move_reported a b F g k to (Ok x) reason present ok err rest shows =
    as_shown (λ G. MoveCase F g k to MovedExtent G) b (with_parts a b.parts) rest (move_case a b.parts g k to reason ok F (move_passes a F g k to reason present shows) shows)
move_reported a b F g k to (Err q) reason present ok err rest shows =
    as_refused q (IsAllocating F (MoveExtent g k to)) (λ G. MoveCase F g k to (Refused q) G) b (with_parts a b.parts) rest
    (move_stopped a b.parts F g k to q (move_passes a F g k to reason present shows) err shows)
