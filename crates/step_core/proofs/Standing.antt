-- What is true of every world that represents a flat state.
use Rattle.std.proofs.Common.{◌≡◌, ◌≢◌, ◌<◌, ◌≤◌, ◌^◌, ◌/◌, ◌%◌, ℕ, Bool, true, false, cond, nat_lt, length, refl, sym, ap, ◌∙◌, arith, ◌⊎◌, inl, inr, List, Option, Some, None}
use Rattle.std.proofs.lemmas.Option.{same_Some}
use Rattle.map_join.specs.declared.records.Record.{Record}
use Rattle.map_join.specs.Record.{key_of, record_of, stamp_of, stamp_in}
use Rattle.map_join.specs.Maps.{IsSame}
use Rattle.extents.specs.Header.{record_in}
use Rattle.extent_groups.specs.Geometry.{slot_count}
use Rattle.extent_groups.specs.Groups.{Group, group_at}
use Rattle.extent_groups.specs.Units.{Site, site_in, site_of_index, site_of}
use Rattle.extent_groups.proofs.LayoutLaw.{layout_law}
use Rattle.extent_groups.proofs.Missing.{gone_law, never_gone}
use Rattle.unit_store.specs.Views.{drive_units, drive_lost, IsLost, lost_of}
use Rattle.unit_store.proofs.Shows.{shown_header}
use Rattle.flat_machine.specs.Flat.{Flat, Write, Stored, content_in, last_write}
use Rattle.flat_machine.specs.Groups.{class_below, class_at}
use Rattle.flat_machine.specs.Scanned.{HasHeader, IsScanned}
use Rattle.flat_machine.proofs.Newest.{map_unique}
use Rattle.slot_tables.specs.Represents.{ShowsArray, Represents}
use Rattle.slot_tables.specs.Views.{ArrayView, WorldView, IsWhole, Nothing, Newest, Unmade, key_at}
use Rattle.step_core.specs.Headline.{slot_bytes, StoresUnit, IsOneMissed, Guarantees, HasHeaders}

-- a slot of a group lies somewhere
site_below : (segments : ℕ) (o : Option Group) (i : ℕ) → class_below segments o i ≢ None → (site : Site) × (site_of_index segments o i ≡ Some site)
site_below segments None i some = absurd (some refl)
site_below segments (Some group) i some = go (nat_lt i (slot_count group.class (length group.members) segments)) some
  where
    go : (b : Bool) → cond b (Some group.class) None ≢ None → (site : Site) × (cond b (Some (site_in segments group.class group.members i)) None ≡ Some site)
    go true e = (site_in segments group.class group.members i, refl)
    go false e = absurd (e refl)

-- and unless it is lost the drives have its unit
unit_here : (a : ArrayView) (s : ℕ) → IsWhole a → class_at a.parts.groups s ≢ None → (IsLost a.parts s → ⊥) → (bytes : List ℕ) × (slot_bytes a.parts s ≡ Some bytes)
unit_here a s whole some here = go (slot_bytes a.parts s) refl
  where
    site : (site : Site) × (site_of a.parts.groups s ≡ Some site)
    site = site_below a.parts.groups.segments (group_at a.parts.groups (s / 128)) (s % 128) some

    go : (o : Option (List ℕ)) → slot_bytes a.parts s ≡ o → (bytes : List ℕ) × (slot_bytes a.parts s ≡ Some bytes)
    go None e = absurd (here ((gone_law drive_units drive_lost a.parts.groups a.parts.drives s site.0 whole.groups.table whole.drives site.1).0 e))
    go (Some bytes) e = (bytes, e)

-- the drives have the content of a block's last write at its newest place
lies_at : (a : ArrayView) (F : Flat) (b : ℕ) → IsWhole a → ShowsArray a F → 0 < key_at a b
    → (w : Write) × (last_write F.writes b ≡ Some w) × ((IsLost a.parts (record_of b (key_at a b)).place → ⊥) → StoresUnit a.parts (record_of b (key_at a b)) w.content)
lies_at a F b whole shows some =
    let y = (shows.history.written b).1 some in
    let place = (record_of b (key_at a b)).place in (
      y.0,
      y.1,
      λ here.
          let bytes = unit_here a place whole (whole.there place (λ e. let bad : Newest b ≡ Nothing = sym (whole.newest b some) ∙ e in cc) (λ e. let bad : Newest b ≡ Unmade = sym (whole.newest b some) ∙ e in cc)) here in
          let u = shows.units.shown place bytes.0 bytes.1 in
          let same = same_Some u.0 y.2.unit.stored (sym u.1 ∙ y.2.unit.there) in record {
            bytes = bytes.0;
            there = bytes.1;
            unit = u.0;
            is = u.2;
            header = ap (λ (z : Stored). record_in z.header) same ∙ y.2.unit.header;
            content = ap content_in same ∙ y.2.unit.content;
          },
    )

-- where each group misses at most one member no slot is lost
all_here : (a : ArrayView) → IsWhole a → IsOneMissed a.parts → (slot : ℕ) → IsLost a.parts slot → ⊥
all_here a whole most slot gone =
    never_gone a.parts.groups (lost_of a.parts) slot gone.0 whole.groups.table most gone.1 ((layout_law a.parts.groups whole.groups.table).whole slot gone.0 gone.1) gone.2

key_again : (b key : ℕ) → key_of (record_of b key) ≡ key
key_again b key = omega arith

key_below : (r : Record) (key : ℕ) → r.place < 2 ^ 16 → stamp_of r < stamp_in key → key_of r ≤ key
key_below r key place less = omega arith

-- the key of a record in a header is at most the newest
at_most : (a : ArrayView) (F : Flat) (slot : ℕ) (r : Record) → ShowsArray a F → HasHeader (slot_bytes a.parts) slot r → key_of r ≤ key_at a r.block
at_most a F slot r shows reported =
    let u = shows.units.shown slot reported.0 reported.1 in
    let header = shown_header reported.0 u.0 reported.2.0 u.2 reported.2.1 in
    let is = (shows.history.units slot).header u.0 r u.1 (ap record_in header ∙ reported.2.2) in
    go is.ranges.place is.newest
  where
    go : r.place < 2 ^ 16 → (key_of r ≡ key_at a r.block) ⊎ (stamp_of r < stamp_in (key_at a r.block)) → key_of r ≤ key_at a r.block
    go place (inl e) = omega arith
    go place (inr less) = key_below r (key_at a r.block) place less

-- where no newest place is lost the headers have the keys
pub headers_report : (a : ArrayView) (F : Flat) → IsWhole a → ShowsArray a F → ((b : ℕ) → 0 < key_at a b → IsLost a.parts (record_of b (key_at a b)).place → ⊥)
    → IsScanned (slot_bytes a.parts) (key_at a)
headers_report a F whole shows here = record {
  found = λ b some.
      let r = record_of b (key_at a b) in
      let lies = (lies_at a F b whole shows some).2 (here b some) in
      (r.place, r, (lies.bytes, lies.there, (lies.unit.header, lies.is.0, lies.header)), refl, key_again b (key_at a b));
  most = λ slot r reported. at_most a F slot r shows reported;
}

headers : (a : ArrayView) (F : Flat) → IsWhole a → ShowsArray a F → IsOneMissed a.parts → IsScanned (slot_bytes a.parts) (key_at a)
headers a F whole shows most = headers_report a F whole shows (λ b some. all_here a whole most (record_of b (key_at a b)).place)

-- headers have only one map
scan_below : (bytes : ℕ → Option (List ℕ)) (M N : ℕ → ℕ) → IsScanned bytes M → IsScanned bytes N → (b : ℕ) → M b ≤ N b
scan_below bytes M N is also b = go (sizes (M b))
  where
    sizes : (k : ℕ) → (k ≡ 0) ⊎ (0 < k)
    sizes k = grind arith

    go : (M b ≡ 0) ⊎ (0 < M b) → M b ≤ N b
    go (inl none) = omega arith
    go (inr some) =
        let x = is.found b some in
        let below : key_of x.1 ≤ N x.1.block = also.most x.0 x.1 x.2 in
        let same : N x.1.block ≡ N b = ap N x.3 in
        let key = x.4 in
        omega arith

pub one_scan : (bytes : ℕ → Option (List ℕ)) (M N : ℕ → ℕ) → IsScanned bytes M → IsScanned bytes N → IsSame M N
one_scan bytes M N is also b = let one = scan_below bytes M N is also b in let other = scan_below bytes N M also is b in omega arith

-- every state that a world represents
pub matches : (w : WorldView) (F : Flat) → IsWhole w.array → Represents w F → Guarantees w F
matches w F whole rep = record {
  once = rep.held.once;
  map = rep.array.history.map;
  every = λ records M same is. map_unique records F.emitted M (key_at w.array) same is rep.array.history.map;
  read = λ b. ((rep.array.history.written b).0, λ some. lies_at w.array F b whole rep.array some);
  here = λ most. all_here w.array whole most;
  scanned = λ most M is. one_scan (slot_bytes w.array.parts) M (key_at w.array) is (headers w.array F whole rep.array most);
  headers = λ most. headers w.array F whole rep.array most;
}

-- and of its headers
pub has_headers : (w : WorldView) (F : Flat) → IsWhole w.array → Represents w F → IsOneMissed w.array.parts → HasHeaders w
has_headers w F whole rep most = let is = matches w F whole rep in record { here = is.here most; headers = is.headers most; scanned = is.scanned most }
