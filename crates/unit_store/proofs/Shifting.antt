-- The units of a member put on another extent one after another.
use Rattle.std.proofs.Common.{◌≡◌, ◌≢◌, ℕ, ◌+◌, ◌*◌, ◌%◌, ◌<◌, inl, inr, Bool, true, Some, None, List, length, sym, ◌∙◌, ap, subst, arith}
use Rattle.std.specs.Prelude.{slice_get}
use Rattle.std.proofs.lemmas.List.{length-map}
use Rattle.std.proofs.lemmas.Option.{none-some, slice_get_within}
use Rattle.extents.specs.Failures.{Failures}
use Rattle.extents.specs.Sizes.{extent_units}
use Rattle.extent_groups.specs.declared.class.Class.{Class}
use Rattle.extent_groups.specs.declared.class.Class.TheVariants.{Mirrored, Parity}
use Rattle.extent_groups.specs.declared.class.Member.{Member}
use Rattle.extent_groups.specs.declared.place.Place.{Place}
use Rattle.extent_groups.specs.Geometry.{stripe_of}
use Rattle.extent_groups.specs.Groups.{Groups}
use Rattle.extent_groups.specs.Cells.{Cells, cells, held}
use Rattle.extent_groups.specs.Calls.{FadesAt, NoPlace, Only, DidWrite, SameBut, KeepsDrives}
use Rattle.extent_groups.specs.Layout.{IsOf, IsDriveDisjoint}
use Rattle.extent_groups.specs.Missing.{missing_of}
use Rattle.extent_groups.specs.Moving.{member_unit}
use Rattle.extent_groups.specs.Stores.{unit_bytes, HasMemberOn}
use Rattle.extent_groups.specs.Units.{Site, row_of, place_of, places_of, site_in, site_of, IsSoundAt}
use Rattle.extent_groups.specs.Wiping.{IsInExtent}
use Rattle.extent_groups.proofs.DriveCalls.{keeps_trans, keeps_more, keeps_place}
use Rattle.extent_groups.proofs.Elsewhere.{same_trans, same_more}
use Rattle.extent_groups.proofs.Fading.{faded, fade_effective, row_fades, row_sized, site_fades}
use Rattle.extent_groups.proofs.LayoutLaw.{layout_law}
use Rattle.extent_groups.proofs.Losses.{kept_fades, untouched_fades}
use Rattle.extent_groups.proofs.Missing.{cell_missing, missing_if}
use Rattle.extent_groups.proofs.Places.{same_or_not}
use Rattle.extent_groups.proofs.SlotWrites.{AreSizedCells, slots_kept}
use Rattle.extent_groups.proofs.StoreCalls.{drives_kept, sized_cells}
use Rattle.unit_store.specs.Shifting.{IsRoute, IsUnitFor, IsOnTarget, IsUsed, AreOnTarget}
use Rattle.unit_store.proofs.Calls.{gone_more}
use Rattle.unit_store.proofs.Offsets.{index_of}
use Rattle.unit_store.proofs.Outcomes.{group_there}
use Rattle.unit_store.proofs.Reading.{keeps_fare}

-- losses leave what a member was to hold for a sound site
member_fades : (n : ℕ) (c new : Cells) (s : ℕ) (class : Class) (members : List Member) (k i : ℕ) (was : Member) (u : List ℕ) → slice_get members k ≡ Some was → AreSizedCells n c
    → IsDriveDisjoint (site_in s class members i) → ((x : Place) → IsOf (site_in s class members i) x → FadesAt c new x) → IsSoundAt n c (site_in s class members i)
    → member_unit n new (site_in s class members i) k ≡ Some u → member_unit n c (site_in s class members i) k ≡ Some u
member_fades n c new s Mirrored members k i was u at sized whole fades sound e = (site_fades n c new (site_in s Mirrored members i) sized whole fades sound).unit u e
member_fades n c new s Parity members k i was u at sized whole fades sound e =
    let row : List Place = places_of s members (stripe_of (length members) i).offset in
    let inside : k < length row = omega (arith, slice_get_within members k was at, length-map members (place_of s (stripe_of (length members) i).offset)) in
    fade_effective n (length row) k (row_of c row) (row_of new row) inside (row_sized n c row sized k) sound (row_fades c new row (λ j x of. fades x (j, of))) u e

-- the unit for an offset is the one that it was before drives were lost and places written that no slot lies on
pub earlier : {D : Type 0} (units : D → List (List ℕ)) (t : Groups) (ds : List D) (g k o : ℕ) (was to : Member) (c new : Cells) (before mid now after : ℕ → Bool) (u : List ℕ)
    → IsRoute units t g k was to ds → AreSizedCells (unit_bytes t) c → ((slot : ℕ) (site : Site) (x : Place) → site_of t slot ≡ Some site → IsOf site x → FadesAt c new x)
    → FadesAt c new (place_of t.segments o was) → ((d : ℕ) → before d ≡ true → mid d ≡ true) → ((d : ℕ) → now d ≡ true → after d ≡ true)
    → IsUnitFor t g k was o new mid now u → IsUnitFor t g k was o c before after u
earlier units t ds g k o was to c new before mid now after u route sized fades here stays later is =
    let group = group_there _ k was route.member in
    let layout = layout_law t route.groups_are in
    record {
      copied = λ sound slot site q there of.
          (let x = index_of t g slot group.0 site group.1 q there in
          let there_is : site_of t slot ≡ Some (site_in t.segments group.0.class group.0.members (slot % 128)) = there ∙ ap (λ z. Some z) (sym x.is) in
          let reported = is.copied (slots_kept t c new layout sized sound fades).1 slot site q there of in
          subst (λ z. member_unit (unit_bytes t) c z k ≡ Some u) x.is
          (member_fades (unit_bytes t) c new t.segments group.0.class group.0.members k (slot % 128) was u group.2 sized (layout.whole slot _ there_is) (λ y. fades slot _ y there_is) (sound slot _ there_is)
          (subst (λ z. member_unit (unit_bytes t) new z k ≡ Some u) (sym x.is) reported)));
      had = λ slot site q there of lost_is gone. is.had slot site q there of (stays was.drive lost_is) (gone_more before mid stays site gone);
      unused = λ role. elim (is.unused role) [
        | inl e ↦ inl (faded (held c (place_of t.segments o was)) (held new (place_of t.segments o was)) u here e)
        | inr e ↦ inr (later was.drive e.0, e.1)
      ];
    }

-- lost drives stay lost
stay_lost : {D : Type 0} {units : D → List (List ℕ)} {lost : D → Bool} {failures : D → Failures} {touched : Place → Type 0} (old new : List D) → KeepsDrives units lost failures touched old new
    → (d : ℕ) → missing_of lost old d ≡ true → missing_of lost new d ≡ true
stay_lost old new keeps d gone = ((keeps_fare old new keeps).each d).stays gone

-- the member may go onto the extent still
pub route_kept : {D : Type 0} {units : D → List (List ℕ)} {lost : D → Bool} {failures : D → Failures} {touched : Place → Type 0} (t : Groups) (g k : ℕ) (was to : Member) (old new : List D)
    → KeepsDrives units lost failures touched old new → IsRoute units t g k was to old → IsRoute units t g k was to new
route_kept t g k was to old new keeps route = record {
  groups_are = route.groups_are;
  drives_are = drives_kept t keeps route.drives_are;
  member = route.member;
  there = λ o low. keeps_place keeps (route.there o low);
  apart = route.apart;
  clear = route.clear;
}

-- a unit that was had is on the other extent
pub on_target : {D : Type 0} (units : D → List (List ℕ)) (lost : D → Bool) (failures : D → Failures) (t : Groups) (g k o : ℕ) (was to : Member) (old mid new : List D) (u : List ℕ)
    → IsRoute units t g k was to old → KeepsDrives units lost failures NoPlace old mid → IsUnitFor t g k was o (cells units lost mid) (missing_of lost mid) (missing_of lost mid) u
    → DidWrite (cells units lost mid) (cells units lost new) (place_of t.segments o to) u true → KeepsDrives units lost failures (Only (place_of t.segments o to)) mid new
    → IsOnTarget units lost t g k was to o old new
on_target units lost failures t g k o was to old mid new u route read is did wrote = record {
  unit = u;
  there = did.here;
  is = earlier units t old g k o was to (cells units lost old) (cells units lost mid) (missing_of lost old) (missing_of lost mid) (missing_of lost mid) (missing_of lost new) u route
      (sized_cells units lost t old route.drives_are) (λ slot site x there of. kept_fades read x) (kept_fades read (place_of t.segments o was)) (stay_lost old mid read) (stay_lost mid new wrote) is;
}

-- a write that failed: the extent's drive is lost
pub target_lost : {D : Type 0} (units : D → List (List ℕ)) (lost : D → Bool) (failures : D → Failures) (t : Groups) (g k o : ℕ) (was to : Member) (old mid new : List D)
    → IsRoute units t g k was to old → o < 2 * t.segments → KeepsDrives units lost failures NoPlace old mid → KeepsDrives units lost failures (Only (place_of t.segments o to)) mid new
    → held (cells units lost new) (place_of t.segments o to) ≡ None → missing_of lost new to.drive ≡ true
target_lost units lost failures t g k o was to old mid new route low read wrote gone =
    missing_if units lost new (place_of t.segments o to) (keeps_place wrote (keeps_place read (route.there o low))) gone

-- reads and the write touched one place
pub one_touched : {D : Type 0} (units : D → List (List ℕ)) (lost : D → Bool) (failures : D → Failures) (p : Place) (old mid new : List D) → KeepsDrives units lost failures NoPlace old mid
    → KeepsDrives units lost failures (Only p) mid new → KeepsDrives units lost failures (Only p) old new
one_touched units lost failures p old mid new read wrote = keeps_trans (keeps_more (λ x never. absurd never) read) wrote

-- what one more offset touches
pub more_in : {D : Type 0} (units : D → List (List ℕ)) (lost : D → Bool) (failures : D → Failures) (s o : ℕ) (to : Member) (old mid new : List D) → o < extent_units s
    → KeepsDrives units lost failures (IsInExtent s to) old mid → KeepsDrives units lost failures (Only (place_of s o to)) mid new → KeepsDrives units lost failures (IsInExtent s to) old new
more_in units lost failures s o to old mid new low before one = keeps_trans before (keeps_more (λ x e. (o, low, e)) one)

-- a unit that is on the other extent stays there, while another is put there
still_there : {D : Type 0} (units : D → List (List ℕ)) (lost : D → Bool) (failures : D → Failures) (t : Groups) (g k o p : ℕ) (was to : Member) (old mid new : List D) (u v : List ℕ)
    → IsRoute units t g k was to mid → o < extent_units t.segments → p < o → KeepsDrives units lost failures (Only (place_of t.segments o to)) mid new
    → held (cells units lost new) (place_of t.segments o to) ≡ Some v → held (cells units lost mid) (place_of t.segments p to) ≡ Some u → held (cells units lost new) (place_of t.segments p to) ≡ Some u
still_there units lost failures t g k o p was to old mid new u v route low less one there e =
    let within : p < extent_units t.segments = omega (arith, less, low) in
    let apart : place_of t.segments p to ≢ place_of t.segments o to = λ q. (let same = ap (λ (x : Place). x.address) q in (let never : p < p = omega (arith, same, less) in omega arith)) in
    elim (untouched_fades one (place_of t.segments p to) apart) [
      | inl same ↦ same ∙ e
      | inr gone ↦
          (let lost_now = missing_if units lost new (place_of t.segments p to) (keeps_place one (route.there p within)) gone in
          absurd (none-some v (sym (cell_missing units lost (slice_get new to.drive) (place_of t.segments o to).address lost_now) ∙ there)))
    ]

-- one more unit is there
pub more_on_target : {D : Type 0} (units : D → List (List ℕ)) (lost : D → Bool) (failures : D → Failures) (t : Groups) (g k o : ℕ) (was to : Member) (old mid new : List D)
    → IsRoute units t g k was to old → o < extent_units t.segments → AreOnTarget units lost failures t g k was to o old mid → IsOnTarget units lost t g k was to o mid new
    → KeepsDrives units lost failures (Only (place_of t.segments o to)) mid new → SameBut (IsUsed t g to) mid new → AreOnTarget units lost failures t g k was to (o + 1) old new
more_on_target units lost failures t g k o was to old mid new route low before next one same =
    let site_fade : (slot : ℕ) (site : Site) (x : Place) → site_of t slot ≡ Some site → IsOf site x → FadesAt (cells units lost old) (cells units lost mid) x =
    λ slot site x there of. untouched_fades before.touched x (λ hit. route.clear hit.0 slot site hit.1 there (subst (IsOf site) hit.2 of)) in
    let own_fade : FadesAt (cells units lost old) (cells units lost mid) (place_of t.segments o was) =
    untouched_fades before.touched (place_of t.segments o was) (λ hit. route.apart (sym (ap (λ (x : Place). x.drive) hit.2))) in
    record {
      each = λ p below. elim (same_or_not p o) [
        | inl q ↦ subst (λ z. IsOnTarget units lost t g k was to z old new) (sym q)
            (record {
              unit = next.unit;
              there = next.there;
              is = earlier units t old g k o was to (cells units lost old) (cells units lost mid) (missing_of lost old) (missing_of lost mid) (missing_of lost new) (missing_of lost new) next.unit route
                  (sized_cells units lost t old route.drives_are) site_fade own_fade (stay_lost old mid before.touched) (λ d e. e) next.is;
            })
        | inr ne ↦
            (let less : p < o = omega (arith, below, ne) in
            let had = before.each p less in
            record {
              unit = had.unit;
              there = still_there units lost failures t g k o p was to old mid new had.unit next.unit (route_kept t g k was to old mid before.touched route) low less one next.there had.there;
              is = record {
                copied = had.is.copied;
                had = had.is.had;
                unused = λ role. elim (had.is.unused role) [ inl e ↦ inl e | inr e ↦ inr (stay_lost mid new one was.drive e.0, e.1) ];
              };
            })
      ];
      touched = more_in units lost failures t.segments o to old mid new low before.touched one;
      elsewhere = same_trans old mid new before.elsewhere same;
    }

-- reads used the group's drives, and the write the other extent's
pub one_used : {D : Type 0} (t : Groups) (g : ℕ) (to : Member) (p : Place) (old mid new : List D) → p.drive ≡ to.drive → SameBut (HasMemberOn t g) old mid → SameBut (λ d. d ≡ p.drive) mid new
    → SameBut (IsUsed t g to) old new
one_used t g to p old mid new drive read wrote = same_trans old mid new (same_more old mid (λ d is. inl is) read) (same_more mid new (λ d e. inr (e ∙ drive)) wrote)

pub none_written : {D : Type 0} (t : Groups) (g : ℕ) (to : Member) (old mid : List D) → SameBut (HasMemberOn t g) old mid → SameBut (IsUsed t g to) old mid
none_written t g to old mid read = same_more old mid (λ d is. inl is) read
