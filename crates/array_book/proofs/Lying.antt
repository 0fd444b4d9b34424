-- What the drives of an array have at the newest place of each block.
use Rattle.std.proofs.Common.{◌≡◌, ◌≢◌, ◌<◌, ◌/◌, ◌%◌, ℕ, Bool, true, false, cond, nat_lt, List, length, refl, sym, ap, ◌∙◌, Option, Some, None}
use Rattle.std.proofs.lemmas.Option.{same_Some}
use Rattle.map_join.specs.Record.{record_of}
use Rattle.extents.specs.Header.{record_in}
use Rattle.extent_groups.specs.Geometry.{slot_count}
use Rattle.extent_groups.specs.Groups.{Group, group_at}
use Rattle.extent_groups.specs.Units.{Site, site_in, site_of_index, site_of}
use Rattle.extent_groups.proofs.Missing.{gone_law}
use Rattle.unit_store.specs.Views.{drive_units, drive_lost, IsLost}
use Rattle.flat_machine.specs.Flat.{Flat, Write, Stored, content_in, last_write}
use Rattle.flat_machine.specs.Groups.{class_below, class_at}
use Rattle.slot_tables.specs.Represents.{ShowsArray}
use Rattle.slot_tables.specs.Views.{ArrayView, IsWhole, Nothing, Newest, Unmade, key_at}
use Rattle.step_core.specs.Headline.{slot_bytes, StoresUnit, ReadsThrough}

-- a slot of a group lies somewhere
site_below : (segments : ℕ) (o : Option Group) (i : ℕ) → class_below segments o i ≢ None → (site : Site) × (site_of_index segments o i ≡ Some site)
site_below segments None i some = absurd (some refl)
site_below segments (Some group) i some = go (nat_lt i (slot_count group.class (length group.members) segments)) some
  where
    go : (b : Bool) → cond b (Some group.class) None ≢ None → (site : Site) × (cond b (Some (site_in segments group.class group.members i)) None ≡ Some site)
    go true e = (site_in segments group.class group.members i, refl)
    go false e = absurd (e refl)

-- and unless it is lost the drives have its unit
unit_here : (a : ArrayView) (s : ℕ) → IsWhole a → class_at a.parts.groups s ≢ None → (IsLost a.parts s → ⊥) → (bytes : List ℕ) × (slot_bytes a.parts s ≡ Some bytes)
unit_here a s whole some here = go (slot_bytes a.parts s) refl
  where
    site : (site : Site) × (site_of a.parts.groups s ≡ Some site)
    site = site_below a.parts.groups.segments (group_at a.parts.groups (s / 128)) (s % 128) some

    go : (o : Option (List ℕ)) → slot_bytes a.parts s ≡ o → (bytes : List ℕ) × (slot_bytes a.parts s ≡ Some bytes)
    go None e = absurd (here ((gone_law drive_units drive_lost a.parts.groups a.parts.drives s site.0 whole.groups.table whole.drives site.1).0 e))
    go (Some bytes) e = (bytes, e)

-- the drives have the content of a block's last write at its newest place
lies_at : (a : ArrayView) (F : Flat) (b : ℕ) → IsWhole a → ShowsArray a F → 0 < key_at a b
    → (w : Write) × (last_write F.writes b ≡ Some w) × ((IsLost a.parts (record_of b (key_at a b)).place → ⊥) → StoresUnit a.parts (record_of b (key_at a b)) w.content)
lies_at a F b whole shows some =
    let y = (shows.history.written b).1 some in
    let place = (record_of b (key_at a b)).place in (
      y.0,
      y.1,
      λ here.
          let bytes = unit_here a place whole (whole.there place (λ e. let bad : Newest b ≡ Nothing = sym (whole.newest b some) ∙ e in cc) (λ e. let bad : Newest b ≡ Unmade = sym (whole.newest b some) ∙ e in cc)) here in
          let u = shows.units.shown place bytes.0 bytes.1 in
          let same = same_Some u.0 y.2.unit.stored (sym u.1 ∙ y.2.unit.there) in record {
            bytes = bytes.0;
            there = bytes.1;
            unit = u.0;
            is = u.2;
            header = ap (λ (z : Stored). record_in z.header) same ∙ y.2.unit.header;
            content = ap content_in same ∙ y.2.unit.content;
          },
    )

-- so a read through the array's keys finds each block's last write
pub reads_through : (a : ArrayView) (F : Flat) (b : ℕ) → IsWhole a → ShowsArray a F → ReadsThrough a.parts F b (key_at a b)
reads_through a F b whole shows = ((shows.history.written b).0, λ some. lies_at a F b whole shows some)
