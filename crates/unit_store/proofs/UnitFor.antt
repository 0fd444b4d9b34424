-- The unit for an offset of a group's member: had by the role that the offset has, or why it can't be.
use Rattle.std.proofs.Common.{◌≡◌, ◌≢◌, ℕ, ◌+◌, ◌*◌, ◌/◌, ◌%◌, ◌<◌, ◌≤◌, ◌⊎◌, inl, inr, Bool, true, Option, Some, None, List, length, refl, sym, ◌∙◌, ap, subst, arith, get_or}
use Rattle.std.specs.Prelude.{slice_get, replicate}
use Rattle.std.proofs.lemmas.List.{length-map}
use Rattle.std.proofs.lemmas.Option.{same_Some, none-some, slice_get_within, slice_get-get_or}
use Rattle.flat_machine.specs.Moves.{IsUnrecoverable}
use Rattle.extent_groups.specs.declared.class.Class.TheVariants.{Mirrored, Parity}
use Rattle.extent_groups.specs.declared.class.Member.{Member}
use Rattle.extent_groups.specs.declared.place.Place.{Place}
use Rattle.extent_groups.specs.declared.role.Role.TheVariants.{Unused}
use Rattle.extent_groups.specs.Geometry.{slot_count, stripe_of, parity_of}
use Rattle.extent_groups.specs.Groups.{Group, Groups, IsFormed, AreGroups, group_at, members_in}
use Rattle.extent_groups.specs.Cells.{Cells, cells, held}
use Rattle.extent_groups.specs.Calls.{IsPlace}
use Rattle.extent_groups.specs.Layout.{IsOf}
use Rattle.extent_groups.specs.Missing.{missing_of, IsGoneAt}
use Rattle.extent_groups.specs.Moving.{member_unit}
use Rattle.extent_groups.specs.Roles.{LiesAt, IsRole, IsRoleIn}
use Rattle.extent_groups.specs.Stores.{unit_bytes, unit_of, AreDrives}
use Rattle.extent_groups.specs.Units.{Site, InStripe, put, others, held_in, row_of, unit_at, place_of, places_of, site_in, site_of}
use Rattle.extent_groups.proofs.Bounds.{slot_count_small}
use Rattle.extent_groups.proofs.Fading.{effective}
use Rattle.extent_groups.proofs.LayoutLaw.{layout_law}
use Rattle.extent_groups.proofs.Missing.{cell_missing, missing_if, gone_holds, gone_law, neither, total_none}
use Rattle.extent_groups.proofs.Places.{same_or_not}
use Rattle.extent_groups.proofs.RowWrites.{both_missing}
use Rattle.extent_groups.proofs.Sites.{row_places}
use Rattle.extent_groups.proofs.SlotWrites.{unit_at_site}
use Rattle.extent_groups.proofs.Totals.{put_same, put_other}
use Rattle.unit_store.specs.Shifting.{IsUnitFor}
use Rattle.unit_store.proofs.Offsets.{index_of, slot_at, pair_lies, pair_there, row_lies, member_there, row_index, row_at_index}

-- a group's member, and an offset of its extent
pub record IsMemberAt {D : Type 0} (units : D → List (List ℕ)) (t : Groups) (ds : List D) (g k o : ℕ) (group : Group) (was : Member) : Type 0 where
  pub groups : AreGroups t
  pub drives : AreDrives units t ds
  pub made : group_at t g ≡ Some group
  pub at : slice_get group.members k ≡ Some was
  pub low : o < 2 * t.segments

-- the place of a member that is missing holds nothing
held_missing : {D : Type 0} (units : D → List (List ℕ)) (lost : D → Bool) (ds : List D) (row : List Place) (i : ℕ) (x : Place) → slice_get row i ≡ Some x → missing_of lost ds x.drive ≡ true
    → row_of (cells units lost ds) row i ≡ None
held_missing units lost ds row i x at gone = ap (held_in (cells units lost ds)) at ∙ cell_missing units lost (slice_get ds x.drive) x.address gone

-- a unit of a pair that has the place is the one for the offset
pub pair_unit_for : {D : Type 0} (units : D → List (List ℕ)) (lost : D → Bool) (t : Groups) (ds : List D) (g k o i : ℕ) (members : List Member) (was : Member) (u : List ℕ)
    → IsMemberAt units t ds g k o (record { class = Mirrored; members = members }) was → i < 128 → i < slot_count Mirrored (length members) t.segments → LiesAt Mirrored (length members) i k o
    → unit_of t (cells units lost ds) (128 * g + i) ≡ Some u → IsUnitFor t g k was o (cells units lost ds) (missing_of lost ds) (missing_of lost ds) u
pair_unit_for units lost t ds g k o i members was u is small low lies had =
    let group : Group = record { class = Mirrored; members = members } in
    let c : Cells = cells units lost ds in
    let here = slot_at t g i group is.made small low in
    let unit : unit_at (unit_bytes t) c (site_in t.segments Mirrored members i) ≡ Some u = sym (unit_at_site t c (128 * g + i) (site_in t.segments Mirrored members i) here) ∙ had in
    let same : (slot : ℕ) (site : Site) → slot / 128 ≡ g → site_of t slot ≡ Some site → IsOf site (place_of t.segments o was) → site ≡ site_in t.segments Mirrored members i =
    λ slot site q there of. elim (same_or_not slot (128 * g + i)) [
      | inl e ↦ same_Some _ _ (sym there ∙ ap (site_of t) e ∙ here)
      | inr ne ↦
          (let x = index_of t g slot group site is.made q there in
          elim ((layout_law t is.groups).apart slot (128 * g + i) (site_in t.segments Mirrored members (slot % 128)) (site_in t.segments Mirrored members i) ne (there ∙ ap (λ z. Some z) (sym x.is)) here) [
            | inl apart ↦ absurd (apart (place_of t.segments o was) (subst (λ z. IsOf z (place_of t.segments o was)) (sym x.is) of) (pair_there t.segments members k o i was is.at lies))
            | inr never ↦ absurd never
          ])
    ] in
    record {
      copied = λ sound slot site q there of. subst (λ z. member_unit (unit_bytes t) c z k ≡ Some u) (sym (same slot site q there of)) unit;
      had = λ slot site q there of lost_is gone. none-some u
          (sym (gone_holds units lost ds (unit_bytes t) (site_in t.segments Mirrored members i) (subst (IsGoneAt (missing_of lost ds)) (same slot site q there of) gone)) ∙ unit);
      unused = λ never. absurd (subst (λ (x : Option Group). IsRoleIn x t.segments k o Unused) is.made never i low lies);
    }

-- a member's unit of a row, its own or the exclusive or of all others, is the one for the offset
pub row_unit_for : {D : Type 0} (units : D → List (List ℕ)) (lost : D → Bool) (t : Groups) (ds : List D) (g k o : ℕ) (members : List Member) (was : Member) (u : List ℕ)
    → IsMemberAt units t ds g k o (record { class = Parity; members = members }) was
    → effective (unit_bytes t) (length (places_of t.segments members o)) (row_of (cells units lost ds) (places_of t.segments members o)) k ≡ Some u
    → IsUnitFor t g k was o (cells units lost ds) (missing_of lost ds) (missing_of lost ds) u
row_unit_for units lost t ds g k o members was u is had =
    let group : Group = record { class = Parity; members = members } in
    let n : ℕ = unit_bytes t in
    let c : Cells = cells units lost ds in
    let row : List Place = places_of t.segments members o in
    let formed : IsFormed members = is.groups.formed g group is.made in
    let in_row : (slot : ℕ) (site : Site) → slot / 128 ≡ g → site_of t slot ≡ Some site → IsOf site (place_of t.segments o was)
    → site ≡ InStripe row (stripe_of (length members) (slot % 128)).parity (stripe_of (length members) (slot % 128)).member =
    λ slot site q there of.
    (let x = index_of t g slot group site is.made q there in
    sym x.is ∙ row_lies t.segments members k o (slot % 128) was formed is.at is.low x.below (subst (λ z. IsOf z (place_of t.segments o was)) (sym x.is) of)) in
    record {
      copied = λ sound slot site q there of. subst (λ z. member_unit n c z k ≡ Some u) (sym (in_row slot site q there of)) had;
      had = λ slot site q there of lost_is gone.
          (let i : ℕ = (stripe_of (length members) (slot % 128)).member in
          let both = subst (IsGoneAt (missing_of lost ds)) (in_row slot site q there of) gone in
          let own : row_of c row k ≡ None = held_missing units lost ds row k (place_of t.segments o was) (member_there t.segments members k o was is.at) lost_is in
          elim (same_or_not i k) [
            | inl e ↦ none-some u
                (sym (both_missing n (length row) k both.1.0 (row_of c row) (slice_get_within row both.1.0 both.1.1 both.1.3) (λ f. both.1.2 (f ∙ sym e)) own (held_missing units lost ds row both.1.0 both.1.1 both.1.3 both.1.4)) ∙ had)
            | inr ne ↦ none-some u
                (sym (both_missing n (length row) k i (row_of c row) (slice_get_within row i both.0.0 both.0.1) ne own (held_missing units lost ds row i both.0.0 both.0.1 both.0.2)) ∙ had)
          ]);
      unused = λ never. absurd (subst (λ (x : Option Group). IsRoleIn x t.segments k o Unused) is.made never);
    }

-- where no slot lies, what the place holds is the unit for the offset, or zeros where its drive is lost
pub unused_unit_for : {D : Type 0} (units : D → List (List ℕ)) (lost : D → Bool) (t : Groups) (ds : List D) (g k o : ℕ) (members : List Member) (was : Member) (u : List ℕ)
    → IsMemberAt units t ds g k o (record { class = Mirrored; members = members }) was → IsRole Mirrored (length members) t.segments k o Unused
    → (held (cells units lost ds) (place_of t.segments o was) ≡ Some u) ⊎ ((missing_of lost ds was.drive ≡ true) × (u ≡ replicate (unit_bytes t) 0))
    → IsUnitFor t g k was o (cells units lost ds) (missing_of lost ds) (missing_of lost ds) u
unused_unit_for units lost t ds g k o members was u is role reported =
    let group : Group = record { class = Mirrored; members = members } in
    let formed : IsFormed members = is.groups.formed g group is.made in
    let never : (slot : ℕ) (site : Site) → slot / 128 ≡ g → site_of t slot ≡ Some site → IsOf site (place_of t.segments o was) → ⊥ =
    λ slot site q there of.
    (let x = index_of t g slot group site is.made q there in
    role (slot % 128) x.below (pair_lies t.segments members k o (slot % 128) was formed is.at is.low x.below (subst (λ z. IsOf z (place_of t.segments o was)) (sym x.is) of))) in
    record {
      copied = λ sound slot site q there of. absurd (never slot site q there of);
      had = λ slot site q there of lost_is gone. never slot site q there of;
      unused = λ is_role. reported;
    }

-- both copies of a pair that has the place are lost: the member's drive is, and the slot is gone
pub pair_beyond : {D : Type 0} (units : D → List (List ℕ)) (lost : D → Bool) (t : Groups) (ds : List D) (g k o i : ℕ) (members : List Member) (was : Member)
    → IsMemberAt units t ds g k o (record { class = Mirrored; members = members }) was → i < 128 → i < slot_count Mirrored (length members) t.segments → LiesAt Mirrored (length members) i k o
    → unit_of t (cells units lost ds) (128 * g + i) ≡ None → IsUnrecoverable t (missing_of lost ds) g was.drive
pair_beyond units lost t ds g k o i members was is small low lies none =
    let here = slot_at t g i (record { class = Mirrored; members = members }) is.made small low in
    let site : Site = site_in t.segments Mirrored members i in
    let reported = (gone_law units lost t ds (128 * g + i) site is.groups is.drives here).0 none in
    let gone : IsGoneAt (missing_of lost ds) site = subst (IsGoneAt (missing_of lost ds)) (same_Some _ _ (sym reported.1 ∙ here)) reported.2 in
    let of : IsOf site (place_of t.segments o was) = pair_there t.segments members k o i was is.at lies in
    record {
      lost = elim of [
        | inl e ↦ ap (λ (x : Place). missing_of lost ds x.drive) e ∙ gone.0
        | inr e ↦ ap (λ (x : Place). missing_of lost ds x.drive) e ∙ gone.1
      ];
      slot = 128 * g + i;
      group = omega (arith, small);
      site = site;
      there = here;
      on = (place_of t.segments o was, of, refl);
      gone = gone;
    }

-- two members of a row are lost, of which one isn't the parity's: its slot is gone
two_lost : {D : Type 0} (units : D → List (List ℕ)) (lost : D → Bool) (t : Groups) (ds : List D) (g k o d e : ℕ) (members : List Member) (was : Member) (x y : Place)
    → IsMemberAt units t ds g k o (record { class = Parity; members = members }) was → missing_of lost ds was.drive ≡ true → d ≢ parity_of (length members) (o / 2) → e ≢ d
    → slice_get (places_of t.segments members o) d ≡ Some x → missing_of lost ds x.drive ≡ true → slice_get (places_of t.segments members o) e ≡ Some y → missing_of lost ds y.drive ≡ true
    → IsUnrecoverable t (missing_of lost ds) g was.drive
two_lost units lost t ds g k o d e members was x y is own free apart at_d lost_d at_e lost_e =
    let group : Group = record { class = Parity; members = members } in
    let formed : IsFormed members = is.groups.formed g group is.made in
    let two : 2 ≤ length members = omega (arith, formed.enough) in
    let row : List Place = places_of t.segments members o in
    let inside : d < length members = omega (arith, slice_get_within row d x at_d, length-map members (place_of t.segments o)) in
    let index = row_index (length members) t.segments d o two inside is.low free in
    let small : index.0 < 128 = omega (arith, slot_count_small Parity (length members) t.segments formed.few is.groups.segments.1, index.1) in
    let here = slot_at t g index.0 group is.made small index.1 in
    let p : ℕ = (stripe_of (length members) index.0).parity in
    let site : Site = InStripe row p d in
    record {
      lost = own;
      slot = 128 * g + index.0;
      group = omega (arith, small);
      site = site;
      there = here ∙ ap (λ z. Some z) (row_at_index t.segments members d o index.0 index.2);
      on = (place_of t.segments o was, (k, member_there t.segments members k o was is.at), refl);
      gone = ((x, at_d, lost_d), (e, y, apart, at_e, lost_e));
    }

-- a member's unit that can't be had: its drive is lost and another's of the row, and one of the two isn't the parity's
pub row_beyond : {D : Type 0} (units : D → List (List ℕ)) (lost : D → Bool) (t : Groups) (ds : List D) (g k o : ℕ) (members : List Member) (was : Member)
    → IsMemberAt units t ds g k o (record { class = Parity; members = members }) was
    → effective (unit_bytes t) (length (places_of t.segments members o)) (row_of (cells units lost ds) (places_of t.segments members o)) k ≡ None
    → IsUnrecoverable t (missing_of lost ds) g was.drive
row_beyond units lost t ds g k o members was is none =
    let n : ℕ = unit_bytes t in
    let c : Cells = cells units lost ds in
    let row : List Place = places_of t.segments members o in
    let blank : Option (List ℕ) = Some (replicate n 0) in
    let both = neither (row_of c row k) (others n (length row) (row_of c row) k) none in
    let j = total_none n (length row) (put (row_of c row) k blank) both.1 in
    let apart : j.0 ≢ k = λ q. none-some (replicate n 0) (sym j.2 ∙ ap (put (row_of c row) k blank) q ∙ put_same (row_of c row) k blank) in
    let mine : slice_get row k ≡ Some (place_of t.segments o was) = member_there t.segments members k o was is.at in
    let other : ℕ = j.0 in
    let place : Place = get_or row other (record { drive = 0; address = 0 }) in
    let theirs : slice_get row other ≡ Some place = slice_get-get_or row other (record { drive = 0; address = 0 }) j.1 in
    let places : (i : ℕ) (x : Place) → slice_get row i ≡ Some x → IsPlace units ds x =
    λ i x at. row_places units t ds g o is.drives is.low i x (subst (λ ms. slice_get (places_of t.segments ms o) i ≡ Some x) (sym (ap members_in is.made)) at) in
    let own : missing_of lost ds was.drive ≡ true = missing_if units lost ds (place_of t.segments o was) (places k (place_of t.segments o was) mine) (sym (ap (held_in c) mine) ∙ both.0) in
    let gone : missing_of lost ds place.drive ≡ true = missing_if units lost ds place (places other place theirs) (sym (ap (held_in c) theirs) ∙ sym (put_other (row_of c row) k other blank apart) ∙ j.2) in
    elim (same_or_not k (parity_of (length members) (o / 2))) [
      | inl e ↦ two_lost units lost t ds g k o other k members was place (place_of t.segments o was) is own (λ f. apart (f ∙ sym e)) (λ f. apart (sym f)) theirs gone mine own
      | inr ne ↦ two_lost units lost t ds g k o k other members was (place_of t.segments o was) place is own ne apart mine own theirs gone
    ]
