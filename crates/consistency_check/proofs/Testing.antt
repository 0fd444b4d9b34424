-- What a test of a site says of its slot, and that the slots of a row are as sound as the lowest of them.
use Rattle.std.proofs.Common.{◌≡◌, ◌≢◌, ℕ, ◌+◌, ◌-◌, ◌*◌, ◌/◌, ◌%◌, ◌<◌, ◌≤◌, Bool, true, false, Some, None, List, length, refl, sym, ◌∙◌, ap, subst, arith, nat_lt, if◌then◌else◌}
use Rattle.std.specs.Prelude.{IsTrue, ◌↔◌, replicate}
use Rattle.std.proofs.Math.Nat.{mod-eq-sub-mul-div, mod-le, mul-div-le, mul-div_cancel_left}
use Rattle.std.proofs.lemmas.Bool.Decides.{nat_tests}
use Rattle.std.proofs.lemmas.Option.{same_Some}
use Rattle.extent_groups.specs.declared.class.Class.{Class}
use Rattle.extent_groups.specs.declared.class.Class.TheVariants.{Mirrored, Parity}
use Rattle.extent_groups.specs.declared.class.Member.{Member}
use Rattle.extent_groups.specs.Geometry.{slot_count, stripe_of}
use Rattle.extent_groups.specs.Groups.{Group, Groups, AreGroups, group_at, class_in, members_in, members_of}
use Rattle.extent_groups.specs.Cells.{Cells, held}
use Rattle.extent_groups.specs.declared.place.Place.{Place}
use Rattle.extent_groups.specs.Calls.{DidRead}
use Rattle.extent_groups.specs.Units.{Site, Pair, site_in, site_of, site_of_index, places_of, xor_total, row_of, IsSoundAt}
use Rattle.extent_groups.specs.Stores.{unit_bytes}
use Rattle.extent_groups.proofs.LayoutLaw.{slot_of}
use Rattle.consistency_check.specs.Sound.{IsAnswer, IsSoundSlot, AreSoundBelow}

-- two places were read: a pair is sound exactly where their units are equal
pub pair_sound : (n : ℕ) (c one two : Cells) (p q : Place) (u v : List ℕ) (b : Bool) → DidRead c one p u true → DidRead one two q v true → (IsTrue b → u ≡ v) → (u ≡ v → IsTrue b)
    → (IsTrue b ↔ IsSoundAt n two (Pair p q))
pair_sound n c one two p q u v b first second same is =
    let here : held two p ≡ Some u = second.same refl p ∙ first.here in (
      λ yes x y ex ey. sym (same_Some u x (sym here ∙ ex)) ∙ same yes ∙ same_Some v y (sym second.here ∙ ey),
      λ sound. is (sound u v here second.here),
    )

-- a test of a slot's site is one of the slot
pub tested : (t : Groups) (c : Cells) (slot n : ℕ) (site : Site) (b : Bool) → site_of t slot ≡ Some site → n ≡ unit_bytes t → (IsTrue b ↔ IsSoundAt n c site) → IsAnswer t c slot b
tested t c slot n site true at size iff = λ other there.
    subst (IsSoundAt (unit_bytes t) c) (same_Some _ _ (sym at ∙ there)) (subst (λ m. IsSoundAt m c site) size (iff.0 refl))
tested t c slot n site false at size iff = (site, at, λ sound. let both : false ≡ true = iff.1 (subst (λ m. IsSoundAt m c site) (sym size) sound) in cc)

-- a part of a number taken away
rest_is : (h p q : ℕ) → p ≤ h → q ≡ h - p → h - q ≡ p
rest_is h p q low e = omega (arith, low, e)

-- a parity index has the offset of the lowest one of its row
row_offset : (n i q : ℕ) → 2 ≤ n → q ≡ i / 2 % (n - 1) → (stripe_of n (i - 2 * q)).offset ≡ (stripe_of n i).offset
row_offset n i q two e =
    let whole : i / 2 - q ≡ (n - 1) * (i / 2 / (n - 1)) = rest_is (i / 2) ((n - 1) * (i / 2 / (n - 1))) q (mul-div-le (i / 2) (n - 1)) (e ∙ mod-eq-sub-mul-div (i / 2) (n - 1)) in
    let half : (i - 2 * q) / 2 ≡ i / 2 - q = omega arith in
    let few : q ≤ i / 2 = subst (λ x. x ≤ i / 2) (sym e) (mod-le (i / 2) (n - 1)) in
    let some : 0 < n - 1 = omega (arith, two) in
    let unit : (i - 2 * q) % 2 ≡ i % 2 = omega (arith, few) in
    ap (λ r. 2 * r + (i - 2 * q) % 2) (ap (λ h. h / (n - 1)) (half ∙ whole) ∙ mul-div_cancel_left (i / 2 / (n - 1)) some) ∙ ap (λ u. 2 * (i / 2 / (n - 1)) + u) unit

-- two indexes of one offset are as sound as each other
row_sound : (s n : ℕ) (c : Cells) (class : Class) (ms : List Member) (i j : ℕ) → class ≡ Parity → (stripe_of (length ms) j).offset ≡ (stripe_of (length ms) i).offset
    → IsSoundAt n c (site_in s class ms j) → IsSoundAt n c (site_in s class ms i)
row_sound s n c Mirrored ms i j e same sound = absurd (let both : Mirrored ≡ Parity = e in cc)
row_sound s n c Parity ms i j e same sound =
    subst (λ o. (v : List ℕ) → xor_total n (length (places_of s ms o)) (row_of c (places_of s ms o)) ≡ Some v → v ≡ replicate n 0) same sound

below_is : (a b : ℕ) → a < b → nat_lt a b ≡ true
below_is a b h = grind (arith, nat_tests)

-- a slot that isn't the lowest of its row is sound where all lower slots are
pub higher : (t : Groups) (c : Cells) (slot : ℕ) (members : List Member) → AreGroups t → class_in (group_at t (slot / 128)) ≡ Some Parity → members ≡ members_of t (slot / 128)
    → slot % 128 / 2 % (length members - 1) ≢ 0 → AreSoundBelow t c slot → IsSoundSlot t c slot
higher t c slot members are parity same ne below site e =
    let is = slot_of t.segments (group_at t (slot / 128)) (slot % 128) site e in
    let ms : List Member = is.group.members in
    let class : is.group.class ≡ Parity = same_Some _ _ (sym (ap class_in is.made) ∙ parity) in
    let two : 2 ≤ length ms = omega (arith, (are.formed (slot / 128) is.group is.made).enough) in
    let q : ℕ = slot % 128 / 2 % (length ms - 1) in
    let some : q ≢ 0 = subst (λ (l : List Member). slot % 128 / 2 % (length l - 1) ≢ 0) (same ∙ ap members_in is.made) ne in
    at_lowest is.group (slot % 128) q is.made class is.below (row_offset (length ms) (slot % 128) q two refl) some (mod-le (slot % 128 / 2) (length ms - 1)) is.site
  where
    at_lowest : (group : Group) (i q : ℕ) → group_at t (slot / 128) ≡ Some group → group.class ≡ Parity → slot % 128 < slot_count group.class (length group.members) t.segments
        → (stripe_of (length group.members) (slot % 128 - 2 * q)).offset ≡ (stripe_of (length group.members) (slot % 128)).offset → q ≢ 0 → q ≤ slot % 128 / 2
        → site_in t.segments group.class group.members (slot % 128) ≡ site → IsSoundAt (unit_bytes t) c site
    at_lowest group i q made class low offset some few is =
        let other : ℕ = slot - 2 * q in
        let home : other / 128 ≡ slot / 128 = omega (arith, few) in
        let index : other % 128 ≡ slot % 128 - 2 * q = omega (arith, few) in
        let inside : slot % 128 - 2 * q < slot_count group.class (length group.members) t.segments = omega (arith, low) in
        let there : site_of t other ≡ Some (site_in t.segments group.class group.members (slot % 128 - 2 * q)) =
        ap (λ g. site_of_index t.segments (group_at t g) (other % 128)) home
        ∙ ap (λ o. site_of_index t.segments o (other % 128)) made
        ∙ ap (λ j. site_of_index t.segments (Some group) j) index
        ∙ ap (λ b. if b then Some (site_in t.segments group.class group.members (slot % 128 - 2 * q)) else None) (below_is _ _ inside) in
        let less : other < slot = omega (arith, some, few) in
        subst (IsSoundAt (unit_bytes t) c) is
        (row_sound t.segments (unit_bytes t) c group.class group.members (slot % 128) (slot % 128 - 2 * q) class offset
        (below other less (site_in t.segments group.class group.members (slot % 128 - 2 * q)) there))
