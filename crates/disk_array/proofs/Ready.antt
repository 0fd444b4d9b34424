-- What an array keeps of its own tables, with other drives.
use Rattle.std.proofs.Common.{◌≡◌, ℕ, ◌*◌, ◌+◌, ◌<◌, ◌≤◌, Bool, false, vec_len, None, ap, inl, inr, List, length, get_or, sym, subst, ◌∙◌, arith, Vec, Result, Ok, Err, IfOk, IfErr}
use Rattle.std.proofs.Math.ListN.{set}
use Rattle.std.specs.Global.{Global}
use Rattle.std.specs.List.{length_refill}
use Rattle.std.specs.Vec.{with_items}
use Rattle.extents.specs.Failures.{Failures}
use Rattle.extent_groups.specs.Groups.{Groups}
use Rattle.extent_groups.specs.Stores.{unit_bytes}
use Rattle.unit_store.specs.declared.parts.Parts.{Parts}
use Rattle.unit_store.specs.Fit.{IsFit}
use Rattle.flat_machine.specs.Flat.{Flat}
use Rattle.slot_tables.specs.Changes.{MayRefuse}
use Rattle.slot_tables.specs.Represents.{ShowsArray}
use Rattle.slot_tables.specs.Views.{ArrayView, IsWhole, Kept, Nothing}
use Rattle.slot_tables.proofs.Wholes.{whole_parts}
use Rattle.disk_array.specs.declared.array.Array.TheInside.{Inside}
use Rattle.slot_tables.specs.declared.slot_state.SlotState.{SlotState}
use Rattle.disk_array.specs.Inside.{seen, IsReady}
use Rattle.slot_tables.specs.Kept.{HavePlaces}
use Rattle.slot_tables.specs.Kept.{kepts_of}
use Rattle.slot_tables.specs.Counted.{is_newest, AreCounts}
use Rattle.slot_tables.proofs.Counts.{counts_same}
use Rattle.slot_tables.proofs.Placing.{placed_with}
use Rattle.unit_store.proofs.Views.{view_drives}
use Rattle.unit_store.specs.Views.{view_of, PartsView, SameTables, DrivesFare, Loses, FoundGone, WasNotCarried, WasTaken}
use Rattle.flat_machine.specs.declared.refusal.Refusal.{Refusal}

-- a vector has the same number of elements after they were overwritten
pub length_again : (v : Vec ℕ Global) (ws : List ℕ) → length (with_items v ws).items ≡ length v.items
length_again v ws = sym (length_refill v.len v.items ws v.ok.0) ∙ v.ok.0

-- what follows from either answer of a call follows from its contract
pub either_way : {T E P : Type 0} {A : T → Type 0} {B : E → Type 0} (r : Result T E) → ((x : T) → A x → P) → ((e : E) → B e → P) → IfOk r A → IfErr r B → P
either_way (Ok x) ok err a b = ok x a
either_way (Err e) ok err a b = err e b

-- calls of the drives left the tables and the number of drives as they were
pub record Keeps (a b : PartsView) : Type 0 where
  pub tables : SameTables a b
  pub many : length b.drives ≡ length a.drives

pub keeps : (a b : PartsView) → DrivesFare a b → SameTables a b → Keeps a b
keeps a b fares tables = record { tables = tables; many = fares.many }

pub loses_keeps : (a b : PartsView) → Loses a b → Keeps a b
loses_keeps a b loses = keeps a b loses.fares loses.rest

pub gone_keeps : (a b : PartsView) (slot : ℕ) (q : Refusal) → FoundGone a b slot q → Keeps a b
gone_keeps a b slot q gone = loses_keeps a b gone.loses

pub uncarried_keeps : (a b : PartsView) (from to : ℕ) (q : Refusal) → WasNotCarried a b from to q → Keeps a b
uncarried_keeps a b from to q (inl gone) = loses_keeps a b gone.loses
uncarried_keeps a b from to q (inr gone) = loses_keeps a b gone.1.loses

-- an array is whole with other drives of the same tables
pub still_whole : {D C : Type 0} (units : D → List (List ℕ)) (lost : D → Bool) (failures : D → Failures) (a : Inside D C) (p : Parts D)
    → Keeps (view_of units lost failures a.parts) (view_of units lost failures p) → IsFit units p → IsWhole (seen units lost failures a)
    → IsWhole (seen units lost failures (record a { parts = p }))
still_whole units lost failures a p same fit whole =
    whole_parts (seen units lost failures a) (view_of units lost failures p) same.tables same.many (view_drives units lost failures p fit.drives) whole

-- and ready, with its buffers overwritten
pub still_ready : {D C : Type 0} (units : D → List (List ℕ)) (lost : D → Bool) (failures : D → Failures) (a : Inside D C) (p : Parts D) (unit scratch : List ℕ)
    → Keeps (view_of units lost failures a.parts) (view_of units lost failures p) → IsFit units p → IsReady units a
    → IsReady units (record a { parts = p; unit = with_items a.unit unit; scratch = with_items a.scratch scratch })
still_ready units lost failures a p unit scratch same fit ready =
    let groups = ap (λ (z : Groups). unit_bytes z) (sym same.tables.groups) in record {
      fit = fit;
      unit = length_again a.unit unit ∙ ready.unit ∙ groups;
      scratch = length_again a.scratch scratch ∙ ready.scratch ∙ ap (λ n. 2 * n) groups;
      places = subst (λ (z : Groups). HavePlaces z (vec_len a.places)) (sym same.tables.groups) ready.places;
      live = ready.live;
    }

-- the same where one buffer alone was overwritten
pub scratch_ready : {D C : Type 0} (units : D → List (List ℕ)) (lost : D → Bool) (failures : D → Failures) (a : Inside D C) (p : Parts D) (scratch : List ℕ)
    → Keeps (view_of units lost failures a.parts) (view_of units lost failures p) → IsFit units p → IsReady units a
    → IsReady units (record a { parts = p; scratch = with_items a.scratch scratch })
scratch_ready units lost failures a p scratch same fit ready =
    let groups = ap (λ (z : Groups). unit_bytes z) (sym same.tables.groups) in record {
      fit = fit;
      unit = ready.unit ∙ groups;
      scratch = length_again a.scratch scratch ∙ ready.scratch ∙ ap (λ n. 2 * n) groups;
      places = subst (λ (z : Groups). HavePlaces z (vec_len a.places)) (sym same.tables.groups) ready.places;
      live = ready.live;
    }

-- so all that is always true of an array holds
pub still_matches : {D C Claims : Type 0} (units : D → List (List ℕ)) (lost : D → Bool) (failures : D → Failures) (a : Inside D C) (p : Parts D) (unit scratch : List ℕ)
    → Keeps (view_of units lost failures a.parts) (view_of units lost failures p) → IsFit units p → IsWhole (seen units lost failures a) × Claims × IsReady units a
    → IsWhole (seen units lost failures (record a { parts = p })) × Claims
    × IsReady units (record a { parts = p; unit = with_items a.unit unit; scratch = with_items a.scratch scratch })
still_matches units lost failures a p unit scratch same fit matches = (
  still_whole units lost failures a p same fit matches.0,
  matches.1,
  still_ready units lost failures a p unit scratch same fit matches.2,
)

-- an equal number of places is enough
pub as_many : (groups : Groups) (m n : ℕ) → n ≡ m → HavePlaces groups m → HavePlaces groups n
as_many groups m n is have = subst (HavePlaces groups) (sym is) have

-- with an equal number of other places, for which the counts of newest places are correct, it is ready still
pub places_ready : {D C : Type 0} (units : D → List (List ℕ)) (a : Inside D C) (places : Vec (SlotState C) Global) → vec_len places ≡ vec_len a.places → AreCounts (kepts_of places.items) a.live → IsReady units a → IsReady units (record a { places = places })
places_ready units a places same counts ready =
    record { fit = ready.fit; unit = ready.unit; scratch = ready.scratch; places = as_many a.parts.groups _ _ same ready.places; live = counts }

-- it is ready with one slot changed, which wasn't a newest place and isn't one
pub slot_ready : {D C : Type 0} (units : D → List (List ℕ)) (a : Inside D C) (places : Vec (SlotState C) Global) (slot : ℕ) (k : Kept)
    → vec_len places ≡ vec_len a.places → kepts_of places.items ≡ set (kepts_of a.places.items) slot k → length (kepts_of a.places.items) ≡ 65536 → slot < 65536
    → is_newest (get_or (kepts_of a.places.items) slot Nothing) ≡ false → is_newest k ≡ false → IsReady units a → IsReady units (record a { places = places })
slot_ready units a places slot k same is many low was isnt ready =
    places_ready units a places same (rw (is) (counts_same (kepts_of a.places.items) a.live slot k (omega (arith, many, low)) was isnt ready.live)) ready

-- what a refusal leaves of one array it leaves of an equal one
pub as_refused : (q : Refusal) (W : Type 0) (P : Flat → Type 0) (b a : ArrayView) → b ≡ a → MayRefuse q W ((G : Flat) × P G × ShowsArray a G)
    → MayRefuse q W ((G : Flat) × P G × ShowsArray b G)
as_refused q W P b a is may = subst (λ (z : ArrayView). MayRefuse q W ((G : Flat) × P G × ShowsArray z G)) (sym is) may

-- a slot that wasn't carried onto itself is gone
pub carried_gone : (a b : PartsView) (slot : ℕ) (q : Refusal) → WasNotCarried a b slot slot q → FoundGone a b slot q
carried_gone a b slot q (inl gone) = gone
carried_gone a b slot q (inr gone) = gone.1

-- it is ready with other drives of the same groups
pub parts_ready : {D C : Type 0} (units : D → List (List ℕ)) (a : Inside D C) (p : Parts D) → p.groups ≡ a.parts.groups → IsFit units p → IsReady units a
    → IsReady units (record a { parts = p })
parts_ready units a p same fit ready = let groups = ap (λ (z : Groups). unit_bytes z) (sym same) in
    record { fit = fit; unit = ready.unit ∙ groups; scratch = ready.scratch ∙ ap (λ n. 2 * n) groups; places = subst (λ (z : Groups). HavePlaces z (vec_len a.places)) (sym same) ready.places; live = ready.live }

-- it is ready without the group that was taken, with other places
pub taken_ready : {D C : Type 0} (units : D → List (List ℕ)) (lost : D → Bool) (failures : D → Failures) (a : Inside D C) (p : Parts D) (places : Vec (SlotState C) Global) (g : ℕ)
    → WasTaken (view_of units lost failures a.parts) g (view_of units lost failures p) → 128 * g + 128 ≤ vec_len a.places → vec_len places ≡ vec_len a.places → IsFit units p → AreCounts (kepts_of places.items) a.live → IsReady units a
    → IsReady units (record a { parts = p; places = places })
taken_ready units lost failures a p places g taken enough same fit counts ready = let groups = ap (λ (z : Groups). unit_bytes z) (sym taken.groups) in
    record { fit = fit; unit = ready.unit ∙ groups; scratch = ready.scratch ∙ ap (λ n. 2 * n) groups; places = as_many p.groups _ _ same (subst (λ (z : Groups). HavePlaces z (vec_len a.places)) (sym taken.groups) (placed_with a.parts.groups g (vec_len a.places) None enough ready.places)); live = counts }

-- it is ready with groups of the same unit size, other places, and the buffer of a unit overwritten
pub grown_ready : {D C : Type 0} (units : D → List (List ℕ)) (a : Inside D C) (p : Parts D) (places : Vec (SlotState C) Global) (unit : List ℕ)
    → unit_bytes a.parts.groups ≡ unit_bytes p.groups → HavePlaces p.groups (vec_len places) → IsFit units p → AreCounts (kepts_of places.items) a.live → IsReady units a
    → IsReady units (record a { parts = p; places = places; unit = with_items a.unit unit })
grown_ready units a p places unit same have fit counts ready =
    record { fit = fit; unit = length_again a.unit unit ∙ ready.unit ∙ same; scratch = ready.scratch ∙ ap (λ n. 2 * n) same; places = have; live = counts }
