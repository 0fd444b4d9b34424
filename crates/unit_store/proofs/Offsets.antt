-- The sites that have a place of a group's member: which slots they are of, and where they lie.
use Rattle.std.proofs.Common.{◌≡◌, ◌≢◌, ℕ, ◌+◌, ◌*◌, ◌/◌, ◌%◌, ◌<◌, ◌≤◌, inl, inr, Some, None, List, length, sym, ◌∙◌, ap, subst, arith, get_or, if◌then◌else◌, nat_lt, true}
use Rattle.std.specs.Prelude.{slice_get, option_map}
use Rattle.std.proofs.lemmas.Bool.{ne_eqb}
use Rattle.std.proofs.lemmas.Bool.Decides.{nat_tests}
use Rattle.std.proofs.lemmas.Option.{same_Some, slice_get-map, slice_get-get_or}
use Rattle.extent_groups.specs.declared.class.Class.TheVariants.{Mirrored, Parity}
use Rattle.extent_groups.specs.declared.class.Member.{Member}
use Rattle.extent_groups.specs.declared.geometry.Spot.{Spot}
use Rattle.extent_groups.specs.declared.place.Place.{Place}
use Rattle.extent_groups.specs.declared.role.Role.TheVariants.{Slot, ParityUnit}
use Rattle.extent_groups.specs.Geometry.{slot_count, copies_of, stripe_of, parity_of, stripe_index}
use Rattle.extent_groups.specs.Groups.{Group, Groups, IsFormed, group_at}
use Rattle.extent_groups.specs.Layout.{IsOf}
use Rattle.extent_groups.specs.Roles.{LiesAt, IsRole, parity_role}
use Rattle.extent_groups.specs.Units.{Site, InStripe, place_of, places_of, place_at, site_in, site_of, site_of_index}
use Rattle.extent_groups.proofs.GeometryLaws.{copies_law, stripe_law}
use Rattle.extent_groups.proofs.LayoutLaw.{one_address, place_is, row_member, slot_of, any_member}
use Rattle.extent_groups.proofs.Moving.{at_was}
use Rattle.extent_groups.proofs.Roles.{parity_is}

-- two places of a group's members that are one: one member, one offset
same_spot : (s : ℕ) (ms : List Member) (k j o p : ℕ) (m a : Member) → IsFormed ms → slice_get ms k ≡ Some m → slice_get ms j ≡ Some a → place_of s o m ≡ place_of s p a → o < 2 * s → p < 2 * s → (j ≡ k) × (p ≡ o)
same_spot s ms k j o p m a formed at_k at_j e ho hp =
    let one = one_address (2 * s) m.extent a.extent o p (ap (λ (x : Place). x.address) e) ho hp in
    (formed.spread j k a m at_j at_k (sym (ap (λ (x : Place). x.drive) e)), sym one.1)

-- a slot of a group that has a site is one of its indexes, and lies where that does
pub record IsIndex (s : ℕ) (group : Group) (i : ℕ) (site : Site) : Type 0 where
  pub below : i < slot_count group.class (length group.members) s
  pub is : site_in s group.class group.members i ≡ site

pub index_of : (t : Groups) (g slot : ℕ) (group : Group) (site : Site) → group_at t g ≡ Some group → slot / 128 ≡ g → site_of t slot ≡ Some site → IsIndex t.segments group (slot % 128) site
index_of t g slot group site made q there =
    let x = slot_of t.segments (group_at t (slot / 128)) (slot % 128) site there in
    let same : x.group ≡ group = same_Some _ _ (sym x.made ∙ ap (group_at t) q ∙ made) in
    record {
      below = subst (λ (y : Group). slot % 128 < slot_count y.class (length y.members) t.segments) same x.below;
      is = subst (λ (y : Group). site_in t.segments y.class y.members (slot % 128) ≡ site) same x.site;
    }

below_is : (a b : ℕ) → a < b → nat_lt a b ≡ true
below_is a b h = grind (arith, nat_tests)

-- the slot of an index of a group
pub slot_at : (t : Groups) (g i : ℕ) (group : Group) → group_at t g ≡ Some group → i < 128 → i < slot_count group.class (length group.members) t.segments
    → site_of t (128 * g + i) ≡ Some (site_in t.segments group.class group.members i)
slot_at t g i group made small low =
    let whole : (128 * g + i) / 128 ≡ g = omega (arith, small) in
    let rest : (128 * g + i) % 128 ≡ i = omega (arith, small) in
    ap (λ h. site_of_index t.segments (group_at t h) ((128 * g + i) % 128)) whole
    ∙ ap (λ o. site_of_index t.segments o ((128 * g + i) % 128)) made
    ∙ ap (site_of_index t.segments (Some group)) rest
    ∙ ap (λ b. if b then Some (site_in t.segments group.class group.members i) else None) (below_is i (slot_count group.class (length group.members) t.segments) low)

spot_is : (x : Spot) (k o : ℕ) → x.member ≡ k → x.offset ≡ o → x ≡ record { member = k; offset = o }
spot_is x k o e f = ap (λ m. let y : Spot = record { member = m; offset = x.offset } in y) e ∙ ap (λ p. let y : Spot = record { member = k; offset = p } in y) f

-- a pair that has the place lies at the member's offset
copy_there : (s : ℕ) (ms : List Member) (k o : ℕ) (was : Member) (x : Spot) → IsFormed ms → slice_get ms k ≡ Some was → o < 2 * s → x.member < length ms → x.offset < 2 * s
    → place_of s o was ≡ place_at s ms x.member x.offset → x ≡ record { member = k; offset = o }
copy_there s ms k o was x formed at low inside within e =
    let both = same_spot s ms k x.member o x.offset was (get_or ms x.member any_member) formed at (slice_get-get_or ms x.member any_member inside) (e ∙ place_is s ms x.member x.offset inside) low within in
    spot_is x k o both.0 both.1

pub pair_lies : (s : ℕ) (ms : List Member) (k o i : ℕ) (was : Member) → IsFormed ms → slice_get ms k ≡ Some was → o < 2 * s → i < slot_count Mirrored (length ms) s
    → IsOf (site_in s Mirrored ms i) (place_of s o was) → LiesAt Mirrored (length ms) i k o
pair_lies s ms k o i was formed at low below (inl e) =
    let two : 2 ≤ length ms = omega (arith, formed.enough) in
    let law = copies_law (length ms) s i two below in
    inl (copy_there s ms k o was (copies_of (length ms) i).first formed at low law.first_inside.0 law.first_inside.1 e)
pair_lies s ms k o i was formed at low below (inr e) =
    let two : 2 ≤ length ms = omega (arith, formed.enough) in
    let law = copies_law (length ms) s i two below in
    inr (copy_there s ms k o was (copies_of (length ms) i).second formed at low law.second_inside.0 law.second_inside.1 e)

-- and the other way round: one of the pair's two places is that of the member's offset
pub pair_there : (s : ℕ) (ms : List Member) (k o i : ℕ) (was : Member) → slice_get ms k ≡ Some was → LiesAt Mirrored (length ms) i k o → IsOf (site_in s Mirrored ms i) (place_of s o was)
pair_there s ms k o i was at (inl e) = inl (sym (ap (λ (x : Spot). place_at s ms x.member x.offset) e ∙ at_was s ms k o was at))
pair_there s ms k o i was at (inr e) = inr (sym (ap (λ (x : Spot). place_at s ms x.member x.offset) e ∙ at_was s ms k o was at))

-- a row that has the place is the one at the member's offset
pub row_lies : (s : ℕ) (ms : List Member) (k o i : ℕ) (was : Member) → IsFormed ms → slice_get ms k ≡ Some was → o < 2 * s → i < slot_count Parity (length ms) s
    → IsOf (site_in s Parity ms i) (place_of s o was) → site_in s Parity ms i ≡ InStripe (places_of s ms o) (stripe_of (length ms) i).parity (stripe_of (length ms) i).member
row_lies s ms k o i was formed at low below of =
    let two : 2 ≤ length ms = omega (arith, formed.enough) in
    let law = stripe_law (length ms) s i two below in
    let r = row_member s ms (stripe_of (length ms) i).offset of.0 (place_of s o was) of.1 in
    let both = same_spot s ms k of.0 o (stripe_of (length ms) i).offset was (get_or ms of.0 any_member) formed at r.0 r.1 low law.inside.1 in
    ap (λ p. InStripe (places_of s ms p) (stripe_of (length ms) i).parity (stripe_of (length ms) i).member) both.1

-- a member's place in the row at an offset
pub member_there : (s : ℕ) (ms : List Member) (k o : ℕ) (was : Member) → slice_get ms k ≡ Some was → slice_get (places_of s ms o) k ≡ Some (place_of s o was)
member_there s ms k o was at = slice_get-map (place_of s o) ms k ∙ ap (option_map (place_of s o)) at

-- the index that lies on a member at an offset, where that isn't the parity's
pub row_index : (n s k o : ℕ) → 2 ≤ n → k < n → o < 2 * s → k ≢ parity_of n (o / 2) → (i : ℕ) × (i < slot_count Parity n s) × LiesAt Parity n i k o
row_index n s k o two inside low ne =
    let is : parity_role n k o ≡ Slot (stripe_index n k o) = ap (λ b. if b then ParityUnit else Slot (stripe_index n k o)) (ne_eqb k (parity_of n (o / 2)) ne) in
    let role = subst (IsRole Parity n s k o) is (parity_is n s k o two inside low) in
    (stripe_index n k o, role.0, role.1)

-- where an index lies that is on a member at an offset of a parity group
pub row_at_index : (s : ℕ) (ms : List Member) (k o i : ℕ) → LiesAt Parity (length ms) i k o → site_in s Parity ms i ≡ InStripe (places_of s ms o) (stripe_of (length ms) i).parity k
row_at_index s ms k o i is =
    ap (λ p. InStripe (places_of s ms p) (stripe_of (length ms) i).parity (stripe_of (length ms) i).member) is.1
    ∙ ap (InStripe (places_of s ms o) (stripe_of (length ms) i).parity) is.0
