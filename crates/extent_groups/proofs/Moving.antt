-- A member is swapped for an extent that its units were copied to: every slot keeps its unit, and all stays sound.
use Rattle.std.proofs.Common.{◌≡◌, ◌≢◌, ℕ, ◌*◌, ◌/◌, ◌%◌, ◌<◌, ◌≤◌, inl, inr, Option, Some, None, List, length, refl, sym, ◌∙◌, ap, subst, arith, true, nat_lt, if◌then◌else◌}
use Rattle.std.specs.Prelude.{slice_get, slice_set, map, option_map, unwrap_or}
use Rattle.std.proofs.lemmas.Bool.Decides.{nat_tests}
use Rattle.std.proofs.lemmas.List.{length-map, length-set, map-set}
use Rattle.std.proofs.lemmas.Option.{same_Some, none-some, slice_get_within, slice_get-map, get_or_from_slice_get, unwrap_or-slice_get}
use Rattle.extents.specs.Owners.{Owners, owner_of}
use Rattle.extent_groups.specs.declared.class.Class.{Class}
use Rattle.extent_groups.specs.declared.class.Class.TheVariants.{Mirrored, Parity}
use Rattle.extent_groups.specs.declared.class.Member.{Member}
use Rattle.extent_groups.specs.declared.place.Place.{Place}
use Rattle.extent_groups.specs.Geometry.{slot_count, copies_of, stripe_of}
use Rattle.extent_groups.specs.Groups.{Group, Groups, group_at, with_group, with_member, AreGroups, Agree}
use Rattle.extent_groups.specs.Cells.{Cells, held}
use Rattle.extent_groups.specs.Calls.{Fades, FadesAt}
use Rattle.extent_groups.specs.Units.{Site, Pair, InStripe, xor_total, others, or_else, held_in, row_of, unit_at, unit_in, site_in, site_of, site_of_index, place_of, places_of, place_at, IsSoundAt}
use Rattle.extent_groups.specs.Layout.{IsOf, IsDriveDisjoint}
use Rattle.extent_groups.specs.Stores.{unit_bytes, unit_of, AreSound}
use Rattle.extent_groups.specs.Moving.{member_unit, IsCopied}
use Rattle.extent_groups.proofs.Places.{get-set_same, get-set_other, same_or_not}
use Rattle.extent_groups.proofs.GeometryLaws.{copies_law, stripe_law}
use Rattle.extent_groups.proofs.GroupsLemmas.{group_same}
use Rattle.extent_groups.proofs.LayoutLaw.{layout_law, slot_of}
use Rattle.extent_groups.proofs.Fading.{row_fades, row_sized, site_fades}
use Rattle.extent_groups.proofs.SlotWrites.{AreSizedCells}
use Rattle.extent_groups.proofs.Making.{site_other, free_apart}
use Rattle.extent_groups.proofs.Swapped.{swapped_row, swapped_pair}

-- what a site holds after a swap, given by what it held before
record Follows (n : ℕ) (c new : Cells) (before after : Site) : Type 0 where
  sound : IsSoundAt n new after
  unit : (v : List ℕ) → unit_at n new after ≡ Some v → unit_at n c before ≡ Some v

swapped_in_row : (n s : ℕ) (c new : Cells) (ms : List Member) (k o p i : ℕ) (was to : Member) → slice_get ms k ≡ Some was → AreSizedCells n c → IsSoundAt n c (InStripe (places_of s ms o) p i)
    → i < length (places_of s ms o) → ((x : Place) → IsOf (InStripe (places_of s ms o) p i) x → FadesAt c new x)
    → ((w : List ℕ) → held new (place_of s o to) ≡ Some w → unit_at n c (InStripe (places_of s ms o) p k) ≡ Some w)
    → Follows n c new (InStripe (places_of s ms o) p i) (InStripe (places_of s (slice_set ms k to) o) p i)
swapped_in_row n s c new ms k o p i was to at sized sound low fades is =
    let row : List Place = places_of s ms o in
    let put_in : List Place = slice_set row k (place_of s o to) in
    let same : places_of s (slice_set ms k to) o ≡ put_in = map-set (place_of s o) ms k to in
    let wide : length put_in ≡ length row = length-set row k (place_of s o to) in
    let inside : k < length row = omega (arith, slice_get_within ms k was at, length-map ms (place_of s o)) in
    let others_fade : (j : ℕ) → j ≢ k → Fades (row_of c row j) (row_of new put_in j) =
    λ j ne. subst (λ x. Fades (row_of c row j) (held_in new x)) (sym (get-set_other row k j (place_of s o to) ne)) (row_fades c new row (λ m x e. fades x (m, e)) j) in
    let both = swapped_row n (length row) k (row_of c row) (row_of new put_in) inside (row_sized n c row sized) sound others_fade
    (λ w e. is w (sym (ap (held_in new) (get-set_same row k (place_of s o to) inside)) ∙ e)) in
    subst (λ r. Follows n c new (InStripe row p i) (InStripe r p i)) (sym same)
    (record {
      sound = λ v e. both.0 v (ap (λ z. xor_total n z (row_of new put_in)) (sym wide) ∙ e);
      unit = λ v e. both.1 i v low (ap (λ z. or_else (row_of new put_in i) (others n z (row_of new put_in) i)) (sym wide) ∙ e);
    })

turn : (a b : Option (List ℕ)) → ((u v : List ℕ) → a ≡ Some u → b ≡ Some v → u ≡ v) → (w : List ℕ) → or_else a b ≡ Some w → or_else b a ≡ Some w
turn None b same w e = ap (λ x. or_else x None) e
turn (Some u) None same w e = e
turn (Some u) (Some v) same w e = ap (λ x. Some x) (sym (same u v refl refl)) ∙ e

swapped_first : (n : ℕ) (c new : Cells) (p q to : Place) → IsSoundAt n c (Pair p q) → FadesAt c new q → ((w : List ℕ) → held new to ≡ Some w → unit_at n c (Pair p q) ≡ Some w)
    → Follows n c new (Pair p q) (Pair to q)
swapped_first n c new p q to sound fades is =
    let both = swapped_pair (held c p) (held c q) (held new to) (held new q) sound fades is in
    record { sound = both.0; unit = both.1 }

swapped_second : (n : ℕ) (c new : Cells) (p q to : Place) → IsSoundAt n c (Pair p q) → FadesAt c new p → ((w : List ℕ) → held new to ≡ Some w → unit_at n c (Pair p q) ≡ Some w)
    → Follows n c new (Pair p q) (Pair p to)
swapped_second n c new p q to sound fades is =
    let back : (u v : List ℕ) → held c q ≡ Some u → held c p ≡ Some v → u ≡ v = λ u v eu ev. sym (sound v u ev eu) in
    let both = swapped_pair (held c q) (held c p) (held new to) (held new p) back fades (λ w e. turn (held c p) (held c q) sound w (is w e)) in
    let still : (u v : List ℕ) → held new p ≡ Some u → held new to ≡ Some v → u ≡ v = λ u v eu ev. sym (both.0 v u ev eu) in
    record { sound = still; unit = λ v e. turn (held c q) (held c p) back v (both.1 v (turn (held new p) (held new to) still v e)) }

-- the place at an offset of the member that is swapped, before and after, and of another
pub at_was : (s : ℕ) (ms : List Member) (k o : ℕ) (m : Member) → slice_get ms k ≡ Some m → place_at s ms k o ≡ place_of s o m
at_was s ms k o m at = get_or_from_slice_get (map (place_of s o) ms) k (place_of s o m) _ (slice_get-map (place_of s o) ms k ∙ ap (option_map (place_of s o)) at)

at_other : (s : ℕ) (ms : List Member) (k j o : ℕ) (to : Member) → j ≢ k → place_at s (slice_set ms k to) j o ≡ place_at s ms j o
at_other s ms k j o to ne =
    sym (unwrap_or-slice_get (map (place_of s o) (slice_set ms k to)) j _)
    ∙ ap (λ x. unwrap_or x (record { drive = 0; address = 0 }))
    (slice_get-map (place_of s o) (slice_set ms k to) j ∙ ap (option_map (place_of s o)) (get-set_other ms k j to ne) ∙ sym (slice_get-map (place_of s o) ms j))
    ∙ unwrap_or-slice_get (map (place_of s o) ms) j _

-- two copies, of which one may be the member's
swapped_copies : (n s : ℕ) (c new : Cells) (ms : List Member) (k a oa b ob : ℕ) (was to : Member) → slice_get ms k ≡ Some was → a ≢ b → oa < 2 * s → ob < 2 * s
    → AreSizedCells n c → IsDriveDisjoint (Pair (place_at s ms a oa) (place_at s ms b ob)) → IsSoundAt n c (Pair (place_at s ms a oa) (place_at s ms b ob))
    → ((x : Place) → IsOf (Pair (place_at s ms a oa) (place_at s ms b ob)) x → FadesAt c new x)
    → ((o : ℕ) (w : List ℕ) → o < 2 * s → IsOf (Pair (place_at s ms a oa) (place_at s ms b ob)) (place_of s o was) → held new (place_of s o to) ≡ Some w → unit_at n c (Pair (place_at s ms a oa) (place_at s ms b ob)) ≡ Some w)
    → Follows n c new (Pair (place_at s ms a oa) (place_at s ms b ob)) (Pair (place_at s (slice_set ms k to) a oa) (place_at s (slice_set ms k to) b ob))
swapped_copies n s c new ms k a oa b ob was to at apart la lb sized whole sound fades is =
    let p : Place = place_at s ms a oa in
    let q : Place = place_at s ms b ob in
    let inside : k < length ms = slice_get_within ms k was at in
    let here : slice_get (slice_set ms k to) k ≡ Some to = get-set_same ms k to inside in
    elim (same_or_not a k) [
      | inl ak ↦
          (let first : place_at s (slice_set ms k to) a oa ≡ place_of s oa to = ap (λ j. place_at s (slice_set ms k to) j oa) ak ∙ at_was s (slice_set ms k to) k oa to here in
          let second : place_at s (slice_set ms k to) b ob ≡ q = at_other s ms k b ob to (λ e. apart (ak ∙ sym e)) in
          let mine : p ≡ place_of s oa was = ap (λ j. place_at s ms j oa) ak ∙ at_was s ms k oa was at in
          subst (λ x. Follows n c new (Pair p q) (Pair x (place_at s (slice_set ms k to) b ob))) (sym first)
          (subst (λ y. Follows n c new (Pair p q) (Pair (place_of s oa to) y)) (sym second)
          (swapped_first n c new p q (place_of s oa to) sound (fades q (inr refl)) (λ w e. is oa w la (inl (sym mine)) e))))
      | inr na ↦
          (let first : place_at s (slice_set ms k to) a oa ≡ p = at_other s ms k a oa to na in
          elim (same_or_not b k) [
            | inl bk ↦
                (let second : place_at s (slice_set ms k to) b ob ≡ place_of s ob to = ap (λ j. place_at s (slice_set ms k to) j ob) bk ∙ at_was s (slice_set ms k to) k ob to here in
                let mine : q ≡ place_of s ob was = ap (λ j. place_at s ms j ob) bk ∙ at_was s ms k ob was at in
                subst (λ x. Follows n c new (Pair p q) (Pair x (place_at s (slice_set ms k to) b ob))) (sym first)
                (subst (λ y. Follows n c new (Pair p q) (Pair p y)) (sym second)
                (swapped_second n c new p q (place_of s ob to) sound (fades p (inl refl)) (λ w e. is ob w lb (inr (sym mine)) e))))
            | inr nb ↦
                (let second : place_at s (slice_set ms k to) b ob ≡ q = at_other s ms k b ob to nb in
                let kept = site_fades n c new (Pair p q) sized whole fades sound in
                subst (λ x. Follows n c new (Pair p q) (Pair x (place_at s (slice_set ms k to) b ob))) (sym first)
                (subst (λ y. Follows n c new (Pair p q) (Pair p y)) (sym second) (record { sound = kept.sound; unit = kept.unit })))
          ])
    ]

swapped_site : (n s : ℕ) (class : Class) (ms : List Member) (i k : ℕ) (was to : Member) (c new : Cells) → slice_get ms k ≡ Some was → 2 ≤ length ms → i < slot_count class (length ms) s
    → AreSizedCells n c → IsDriveDisjoint (site_in s class ms i) → IsSoundAt n c (site_in s class ms i) → ((x : Place) → IsOf (site_in s class ms i) x → FadesAt c new x)
    → ((o : ℕ) (w : List ℕ) → o < 2 * s → IsOf (site_in s class ms i) (place_of s o was) → held new (place_of s o to) ≡ Some w → member_unit n c (site_in s class ms i) k ≡ Some w)
    → Follows n c new (site_in s class ms i) (site_in s class (slice_set ms k to) i)
swapped_site n s Mirrored ms i k was to c new at two low sized whole sound fades is =
    let law = copies_law (length ms) s i two low in
    subst (λ z. Follows n c new (site_in s Mirrored ms i) (Pair (place_at s (slice_set ms k to) (copies_of z i).first.member (copies_of z i).first.offset) (place_at s (slice_set ms k to) (copies_of z i).second.member (copies_of z i).second.offset)))
    (sym (length-set ms k to))
    (swapped_copies n s c new ms k (copies_of (length ms) i).first.member (copies_of (length ms) i).first.offset (copies_of (length ms) i).second.member (copies_of (length ms) i).second.offset was to at
    law.apart law.first_inside.1 law.second_inside.1 sized whole sound fades is)
swapped_site n s Parity ms i k was to c new at two low sized whole sound fades is =
    let law = stripe_law (length ms) s i two low in
    let o : ℕ = (stripe_of (length ms) i).offset in
    let there : slice_get (places_of s ms o) k ≡ Some (place_of s o was) = slice_get-map (place_of s o) ms k ∙ ap (option_map (place_of s o)) at in
    subst (λ z. Follows n c new (site_in s Parity ms i) (InStripe (places_of s (slice_set ms k to) (stripe_of z i).offset) (stripe_of z i).parity (stripe_of z i).member))
    (sym (length-set ms k to))
    (swapped_in_row n s c new ms k o (stripe_of (length ms) i).parity (stripe_of (length ms) i).member was to at sized sound whole.0 fades (λ w e. is o w law.inside.1 (k, there) e))

below_is : (a b : ℕ) → a < b → nat_lt a b ≡ true
below_is a b h = grind (arith, nat_tests)

-- where an index below the slots of a group lies
index_site : (s : ℕ) (group : Group) (i : ℕ) → i < slot_count group.class (length group.members) s → site_of_index s (Some group) i ≡ Some (site_in s group.class group.members i)
index_site s group i low = ap (λ b. if b then Some (site_in s group.class group.members i) else None) (below_is i (slot_count group.class (length group.members) s) low)

follow_in : (n : ℕ) (c new : Cells) (a b : Option Site) → ((after : Site) → b ≡ Some after → (before : Site) × (a ≡ Some before) × Follows n c new before after)
    → (v : List ℕ) → unit_in n new b ≡ Some v → unit_in n c a ≡ Some v
follow_in n c new a None h v e = absurd (none-some v e)
follow_in n c new a (Some after) h v e = let r = h after refl in ap (unit_in n c) r.1 ∙ r.2.unit v e

-- the group's member of this number is another extent now, to which its units were copied: all is sound, and each slot's unit that exists is what it was
pub swap_keeps : (t : Groups) (o : Owners) (g k : ℕ) (group : Group) (was to : Member) (c new : Cells) → AreGroups t → Agree t o → g < length t.table → group_at t g ≡ Some group
    → slice_get group.members k ≡ Some was → owner_of o to.drive to.extent ≡ None → AreSizedCells (unit_bytes t) c → AreSound t c → IsCopied t g k was to c new
    → AreSound (with_group t g (Some (with_member group k to))) new
    × ((slot : ℕ) (v : List ℕ) → unit_of (with_group t g (Some (with_member group k to))) new slot ≡ Some v → unit_of t c slot ≡ Some v)
swap_keeps t o g k group was to c new are agree within made at free sized sound is =
    let n : ℕ = unit_bytes t in
    let t' : Groups = with_group t g (Some (with_member group k to)) in
    let layout = layout_law t are in
    let fades : (slot : ℕ) (site : Site) → site_of t slot ≡ Some site → (x : Place) → IsOf site x → FadesAt c new x =
    λ slot site there x of. is.nearby x (λ hit. free_apart t o to hit.0 slot site are agree free hit.1 there (subst (IsOf site) hit.2 of)) in
    let each : (slot : ℕ) (after : Site) → site_of t' slot ≡ Some after → (before : Site) × (site_of t slot ≡ Some before) × Follows n c new before after =
    λ slot after there. elim (same_or_not (slot / 128) g) [
      | inr ne ↦
          (let old : site_of t slot ≡ Some after = sym (site_other t g (Some (with_member group k to)) slot ne) ∙ there in
          let kept = site_fades n c new after sized (layout.whole slot after old) (fades slot after old) (sound slot after old) in
          (after, old, record { sound = kept.sound; unit = kept.unit }))
      | inl q ↦
          (let s : ℕ = t.segments in
          let now : group_at t' (slot / 128) ≡ Some (with_member group k to) = ap (group_at t') q ∙ group_same t g (Some (with_member group k to)) within in
          let was_made : group_at t (slot / 128) ≡ Some group = ap (group_at t) q ∙ made in
          let x = slot_of s (Some (with_member group k to)) (slot % 128) after (sym (ap (λ y. site_of_index s y (slot % 128)) now) ∙ there) in
          let gx : x.group ≡ with_member group k to = sym (same_Some _ _ x.made) in
          let wide : length (slice_set group.members k to) ≡ length group.members = length-set group.members k to in
          let below : slot % 128 < slot_count group.class (length group.members) s =
          subst (λ z. slot % 128 < slot_count group.class z s) wide (subst (λ (z : Group). slot % 128 < slot_count z.class (length z.members) s) gx x.below) in
          let is_after : site_in s group.class (slice_set group.members k to) (slot % 128) ≡ after = ap (λ (z : Group). site_in s z.class z.members (slot % 128)) (sym gx) ∙ x.site in
          let two : 2 ≤ length group.members = omega (arith, (are.formed g group made).enough) in
          let before : Site = site_in s group.class group.members (slot % 128) in
          let old : site_of t slot ≡ Some before = ap (λ y. site_of_index s y (slot % 128)) was_made ∙ index_site s group (slot % 128) below in (
            before,
            old,
            subst (Follows n c new before) is_after
                (swapped_site n s group.class group.members (slot % 128) k was to c new at two below sized (layout.whole slot before old) (sound slot before old) (fades slot before old)
                (λ p w low of e. is.copied slot p before w q old low of e)),
          ))
    ] in (
      λ slot after there. (each slot after there).2.sound,
      λ slot v e. follow_in n c new (site_of t slot) (site_of t' slot) (each slot) v e,
    )
