-- The list of a copy.
use Rattle.std.proofs.Common.{◌≡◌, ℕ, ◌⊎◌, inl, inr, ◌-◌, ◌+◌, Bool, true, Some, None, List, length, refl, sym, ◌∙◌, ap, subst, arith}
use Rattle.std.specs.Global.{Global}
use Rattle.std.specs.Prelude.{Vec, Result, Ok, Err, IfOk, IfErr, OnOk, MatchResult}
use Rattle.map_join.specs.declared.records.Record.{Record}
use Rattle.map_join.specs.Record.{record_at}
use Rattle.extents.specs.Failures.{Failures}
use Rattle.extent_groups.specs.Groups.{Groups}
use Rattle.extent_groups.specs.Stores.{unit_bytes, unit_of}
use Rattle.flat_machine.specs.Cases.{CopyCase, CopyPasses, ticketed}
use Rattle.flat_machine.specs.declared.refusal.Refusal.{Refusal}
use Rattle.flat_machine.specs.declared.refusal.Refusal.TheVariants.{Memory}
use Rattle.flat_machine.specs.Flat.{Flat, Content, Moved, Stored, Worker, Write, content_in, last_write, waiting_unit}
use Rattle.flat_machine.specs.Steps.{Copy, Copied, Refused}
use Rattle.unit_store.specs.declared.micro.Micro.{Micro}
use Rattle.unit_store.specs.Shows.{IsUnit}
use Rattle.unit_store.specs.Slots.{IsSlot}
use Rattle.unit_store.specs.Views.{drive_cells, IsLost, FoundGone}
use Rattle.slot_tables.specs.Changes.{copy_reason, MayRefuse}
use Rattle.slot_tables.specs.Represents.{ShowsArray}
use Rattle.slot_tables.specs.Views.{ArrayView, IsWhole, key_at, with_parts}
use Rattle.slot_tables.proofs.Copies.{copy_passes, copy_slot, copy_gone}
use Rattle.slot_tables.proofs.Fares.{fared, leaves, gone_back, lost_leaves}
use Rattle.slot_tables.proofs.Finds.{newest_write}
use Rattle.disk_array.specs.Laws.{only_more}
use Rattle.disk_array.specs.Refused.{OnlyLoses}
use Rattle.disk_array.proofs.Ready.{as_refused}
use Rattle.unit_store.proofs.Calls.{lost_more}
use Rattle.crash_points.specs.Lists.{IsUnitList, IsStepList}
use Rattle.crash_points.proofs.Gone.{not_gone, not_before, gone_following}
use Rattle.crash_points.proofs.Steps.{still_shown, micro_of}

-- the slot can be had, of which the block's newest unit was read, and its plan goes on from there
module _ {D : Type 0} (units : D → List (List ℕ)) (lost : D → Bool) (failures : D → Failures) (a m b : ArrayView) (slot block : ℕ) (r : Record) (read bytes : List ℕ)
    (found : record_at block (key_at a block) ≡ Some r) (none : copy_reason a slot (Some r) ≡ None) (whole : IsWhole m) (first : OnlyLoses a m)
    (was : unit_of m.parts.groups (drive_cells m.parts) r.place ≡ Some read) (long : length read ≡ unit_bytes m.parts.groups)
    (waits : (u : Stored) → IsUnit read u → IsUnit bytes (waiting_unit (length read - 32) (content_in u))) (same : length bytes ≡ length read) (loses : OnlyLoses m b) where
  both : OnlyLoses a b
  both = only_more a m b first loses

  listed : (F : Flat) (w : ℕ) (list : List Micro) → IsUnitList b.parts slot bytes list → (IsLost b.parts slot → ⊥) → ShowsArray a F → F.held slot (Worker w) ≡ true
      → IsStepList units lost failures b F slot (Copy w slot block) (λ answer. answer ≡ Copied slot) list
  listed F w list l there shows held = record {
    before = fared F b.parts;
    after = fared (ticketed F w slot (Moved block r.version r.hop y.0.content)) b.parts;
    answer = Copied slot;
    bytes = bytes;
    unit = waiting_unit F.groups.payload y.0.content;
    expected = (r, copy_passes a F w slot block r found none shows held);
    lost_are = refl;
    failures_are = refl;
    listed = l;
    front = holds.0;
    given = refl;
    leaves = lost_leaves a F b.parts shows both.1;
    shows = still_shown a b F shows both;
    took = refl;
    case = (
      refl,
      (
        r,
        y.0,
        copy_passes a F w slot block r found none shows held,
        y.1,
        not_before a m F r.place read whole first was shows,
        λ gone. there (gone_back F a.parts b.parts slot shows.tables.groups both.1.rest gone),
        leaves (ticketed F w slot (Moved block r.version r.hop y.0.content)) a.parts b.parts shows.tables.lost shows.tables.failures both.1.fares,
      ),
    );
    micro = λ p seen note. micro_of units lost failures p (fared F b.parts) (fared (ticketed F w slot (Moved block r.version r.hop y.0.content)) b.parts) slot bytes (waiting_unit F.groups.payload y.0.content) list b.parts l seen note
        (subst (λ (z : Groups). IsSlot z slot) (sym both.1.rest.groups) (copy_slot a slot r none))
        (same ∙ long ∙ ap (λ (z : Groups). unit_bytes z) (sym loses.1.rest.groups)) holds refl refl;
  }
    where
      y : (x : Write) × (last_write F.writes block ≡ Some x) × ((u : Stored) → F.units r.place ≡ Some u → content_in u ≡ x.content) × (x.version ≡ r.version)
      y = newest_write a F block r shows found

      u : (u : Stored) × (F.units r.place ≡ Some u) × IsUnit read u
      u = (first.1.shows F.units shows.units).shown r.place read was

      size : length read - 32 ≡ F.groups.payload
      size = let is : length read ≡ 32 + F.groups.payload = long ∙ ap (λ (z : Groups). unit_bytes z) (first.1.rest.groups ∙ sym shows.tables.groups) in omega (arith, is)

      holds : IsUnit bytes (waiting_unit F.groups.payload y.0.content)
      holds = subst (λ n. IsUnit bytes (waiting_unit n y.0.content)) size (subst (λ (x : Content). IsUnit bytes (waiting_unit (length read - 32) x)) (y.2 u.0 u.1) (waits u.0 u.2))

  pub copy_flat : (result : Result (Vec Micro Global) Refusal) → IfOk result (λ list. IsUnitList b.parts slot bytes list.items) → OnOk result (IsLost b.parts slot → ⊥)
      → IfErr result (λ e. ((e ≡ Memory) × (b ≡ m)) ⊎ FoundGone m.parts b.parts slot e) → (F : Flat) (w : ℕ) → ShowsArray a F → F.held slot (Worker w) ≡ true
      → MatchResult result (λ list. IsStepList units lost failures b F slot (Copy w slot block) (λ answer. answer ≡ Copied slot) list.items)
      (λ e. MayRefuse e ((o : Record) × CopyPasses F w slot block o) ((G : Flat) × CopyCase F w slot block (Refused e) G × ShowsArray b G))
  copy_flat (Ok list) l there err F w shows held = listed F w list.items l there shows held
  copy_flat (Err e) l there (inl needs) F w shows held =
      subst (λ q. MayRefuse q ((o : Record) × CopyPasses F w slot block o) ((G : Flat) × CopyCase F w slot block (Refused q) G × ShowsArray b G)) (sym needs.0) (r, copy_passes a F w slot block r found none shows held)
  copy_flat (Err e) l there (inr gone) F w shows held =
      as_refused e ((o : Record) × CopyPasses F w slot block o) (λ G. CopyCase F w slot block (Refused e) G) b (with_parts a b.parts) both.0
      (copy_gone a b.parts F w slot block r e found none
      (inr (λ source. not_gone m r.place read whole was (lost_still source), gone_following a.parts m.parts b.parts slot e first.1 gone)) shows held)
    where
      lost_still : IsLost a.parts r.place → IsLost m.parts r.place
      lost_still source = lost_more a.parts m.parts r.place first.1.fares first.1.rest source

-- the unit couldn't be read
pub copy_unread : (a m : ArrayView) (slot block : ℕ) (r : Record) (e : Refusal) → record_at block (key_at a block) ≡ Some r → copy_reason a slot (Some r) ≡ None → OnlyLoses a m
    → ((e ≡ Memory) × (m ≡ a)) ⊎ FoundGone a.parts m.parts r.place e → (F : Flat) (w : ℕ) → ShowsArray a F → F.held slot (Worker w) ≡ true
    → MayRefuse e ((o : Record) × CopyPasses F w slot block o) ((G : Flat) × CopyCase F w slot block (Refused e) G × ShowsArray m G)
copy_unread a m slot block r e found none loses (inl needs) F w shows held =
    subst (λ q. MayRefuse q ((o : Record) × CopyPasses F w slot block o) ((G : Flat) × CopyCase F w slot block (Refused q) G × ShowsArray m G)) (sym needs.0) (r, copy_passes a F w slot block r found none shows held)
copy_unread a m slot block r e found none loses (inr gone) F w shows held =
    as_refused e ((o : Record) × CopyPasses F w slot block o) (λ G. CopyCase F w slot block (Refused e) G) m (with_parts a m.parts) loses.0 (copy_gone a m.parts F w slot block r e found none (inl gone) shows held)
