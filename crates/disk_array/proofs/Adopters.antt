-- An array that is put together from parts, a map and claims is what the map says.
use Rattle.std.proofs.Common.{◌≡◌, vec_len, ℕ, ◌+◌, ◌<◌, ◌≤◌, Bool, List, length, map, get_or, refl, sym, ◌∙◌, subst, arith, ◌⊎◌, inl, inr, Vec}
use Rattle.std.proofs.lemmas.List.{get_or_past, length-map}
use Rattle.std.specs.Global.{Global}
use Rattle.std.specs.Prelude.{slice_index}
use Rattle.extents.specs.Failures.{Failures}
use Rattle.extents.specs.declared.shape.TheConstants.{HEADER_BYTES}
use Rattle.extent_groups.specs.Stores.{unit_bytes}
use Rattle.unit_store.specs.declared.parts.Parts.{Parts}
use Rattle.unit_store.specs.Fit.{IsFit}
use Rattle.unit_store.specs.Views.{drive_view, view_of}
use Rattle.unit_store.proofs.Views.{view_drives}
use Rattle.flat_machine.specs.Restarted.{HasDistinctSlots}
use Rattle.slot_tables.specs.Views.{Nothing, ArrayView, IsWhole}
use Rattle.slot_tables.specs.Adopted.{IsAdopted}
use Rattle.slot_tables.proofs.News.{shape_sizes}
use Rattle.slot_tables.proofs.Adopting.{ArePartsOf, adopted_whole}
use Rattle.disk_array.specs.declared.array.Array.TheInside.{Inside}
use Rattle.slot_tables.specs.declared.ready.Ready.{Ready}
use Rattle.slot_tables.specs.declared.slot_state.SlotState.{SlotState}
use Rattle.slot_tables.specs.declared.slot_state.SlotState.TheVariants as state
use Rattle.disk_array.specs.declared.buffers.Buffers.{Buffers}
use Rattle.disk_array.specs.Inside.{seen, AreBuffers, IsReady}
use Rattle.slot_tables.specs.Kept.{kepts_of, IsClaimOf, AreOf}
use Rattle.slot_tables.specs.Counted.{AreCounts}
use Rattle.slot_tables.specs.declared.ready.NotAdopted.{NotAdopted}
use Rattle.slot_tables.specs.declared.ready.NotAdopted.TheVariants.{Memory, NoClaim}
use Rattle.slot_tables.specs.Claims.{AreClaimsOf, AreReady, AreKeys, IsNotAdopted, IsNotRestarted, kept_for, expected_at}
use Rattle.disk_array.proofs.Ready.{as_many}
use Rattle.slot_tables.proofs.Adoptions.{all_keys, needs_placed}
use Rattle.slot_tables.proofs.Places.{kepts_many}

-- parts that fit are an array's parts
pub fit_parts : {D : Type 0} (units : D → List (List ℕ)) (lost : D → Bool) (failures : D → Failures) (p : Parts D) → IsFit units p → ArePartsOf (view_of units lost failures p)
fit_parts {D} units lost failures p fit = record {
  sizes = shape_sizes p.shape p.groups fit.shape;
  groups = record { table = fit.groups; there = λ g k m at. let t = fit.drives.there g k m at in (subst (λ n. m.drive < n) many t.0, t.1) };
  agree = fit.agree;
  rows = fit.rows ∙ many;
  wide = fit.wide;
  drives = view_drives units lost failures p fit.drives;
}
  where
    many : length p.drives.items ≡ length (map (drive_view units lost failures) p.drives.items)
    many = sym (length-map p.drives.items (drive_view units lost failures))

-- free places have claims of their slots
pub free_of : {C : Type 0} (names : C → ℕ) (places : List (SlotState C)) → ((s : ℕ) → get_or places s state.Free ≡ state.Free) → AreOf names places
free_of names places free s inside = subst (IsClaimOf names s) (sym (free s)) tt

-- the array of these parts, of what is ready, of places and their counts, and of buffers
abbrev pub adopted : {D C : Type 0} → Parts D → Ready C → Vec (SlotState C) Global → List ℕ → Buffers → Inside D C
adopted parts ready places live buffers = record {
  parts = parts;
  log = ready.log;
  keys = ready.keys;
  places = places;
  live = live;
  unit = buffers.unit;
  scratch = buffers.scratch;
}

-- the map's keys
pub keys_reported : (blocks : ℕ) (M : ℕ → ℕ) (keys : List ℕ) → ((b : ℕ) → 0 < M b → b < blocks) → AreKeys blocks M keys → (b : ℕ) → slice_index keys b ≡ M b
keys_reported blocks M keys inside are b = go (either b)
  where
    either : (n : ℕ) → (n < blocks) ⊎ (blocks ≤ n)
    either n = grind (arith)

    none : (n : ℕ) → (0 < n → b < blocks) → blocks ≤ b → 0 ≡ n
    none n some past = grind (arith)

    go : (b < blocks) ⊎ (blocks ≤ b) → slice_index keys b ≡ M b
    go (inl h) = are.same b h
    go (inr h) = get_or_past keys b 0 (let m = are.many in omega (arith, m, h)) ∙ none (M b) (inside b) h

pub is_adopted : {D C : Type 0} (units : D → List (List ℕ)) (lost : D → Bool) (failures : D → Failures) (names : C → ℕ) (parts : Parts D) (M : ℕ → ℕ) (claims : List C) (ready : Ready C) (places : Vec (SlotState C) Global) (live : List ℕ) (buffers : Buffers)
    → HasDistinctSlots parts.groups M → AreReady names parts.groups M claims ready
    → ((s : ℕ) → get_or (kepts_of places.items) s Nothing ≡ kept_for (expected_at ready.expected.items s))
    → IsAdopted (view_of units lost failures parts) M (seen units lost failures (adopted parts ready places live buffers))
is_adopted units lost failures names parts M claims ready places live buffers has is kept = record {
  parts_are = refl;
  log = is.log;
  keys_are = keys_reported parts.groups.blocks M ready.keys.items has.blocks is.keys;
  kept = λ s. rw (kept s) (needs_placed M ready.log.items (vec_len ready.room.places) ready.expected.items is.log (all_keys parts.groups M ready.keys.items has is.keys) is.expected s);
}

-- it keeps what every array keeps
pub is_whole : {D C : Type 0} (units : D → List (List ℕ)) (lost : D → Bool) (failures : D → Failures) (names : C → ℕ) (parts : Parts D) (M : ℕ → ℕ) (claims : List C) (ready : Ready C) (places : Vec (SlotState C) Global) (live : List ℕ) (buffers : Buffers)
    → HasDistinctSlots parts.groups M → AreReady names parts.groups M claims ready → IsFit units parts → length places.items ≤ 65536
    → IsAdopted (view_of units lost failures parts) M (seen units lost failures (adopted parts ready places live buffers))
    → IsWhole (seen units lost failures (adopted parts ready places live buffers))
is_whole units lost failures names parts M claims ready places live buffers has is fit most adopts =
    adopted_whole (view_of units lost failures parts) M (seen units lost failures (adopted parts ready places live buffers)) adopts
    (let keys = all_keys parts.groups M ready.keys.items has is.keys in record { least = λ b. (keys b).least; most = λ b. (keys b).most })
    has (fit_parts units lost failures parts fit) (record { kept = kepts_many places.items most; keys = is.keys.many })

-- and is ready for the calls of its drives
pub is_ready_too : {D C : Type 0} (units : D → List (List ℕ)) (names : C → ℕ) (parts : Parts D) (M : ℕ → ℕ) (claims : List C) (ready : Ready C) (places : Vec (SlotState C) Global) (live : List ℕ) (buffers : Buffers)
    → AreReady names parts.groups M claims ready → IsFit units parts → AreBuffers (HEADER_BYTES + parts.shape.payload) buffers → vec_len places ≡ vec_len ready.room.places → AreCounts (kepts_of places.items) live → IsReady units (adopted parts ready places live buffers)
is_ready_too units names parts M claims ready places live buffers is fit sizes same counts =
    let all : AreBuffers (unit_bytes parts.groups) buffers = subst (λ n. AreBuffers (HEADER_BYTES + n) buffers) fit.shape.of_payload sizes in
    record { fit = fit; unit = all.unit; scratch = all.scratch; places = as_many parts.groups _ _ same is.places; live = counts }

-- why an array of its own claims wasn't put together is why it wasn't restarted
pub not_restarted : {C : Type 0} (names : C → ℕ) (a : ArrayView) (claims : List C) (M : ℕ → ℕ) (why : NotAdopted) → AreClaimsOf names a claims → IsNotAdopted names claims M why → IsNotRestarted names a M why
not_restarted names a claims M Memory are is = tt
not_restarted names a claims M (NoClaim slot) are is = (claims, are, is)
