-- A slot's group is formed, its number is small, and the laws of its geometry hold.
use Rattle.std.proofs.Common.{◌≡◌, ◌∙◌, ◌⊎◌, inl, inr, ℕ, ◌-◌, ◌<◌, ◌≤◌, Option, Some, None, List, length, slice_get, unwrap_or, refl, sym, ap, subst, arith}
use Rattle.std.proofs.Math.Nat.{mul-le-mul}
use Rattle.std.proofs.lemmas.Bool.{cases_lt}
use Rattle.std.proofs.lemmas.Option.{same_Some, none-some, slice_get_past}
use Rattle.extent_groups.specs.declared.class.Class.{Class}
use Rattle.extent_groups.specs.declared.class.Class.TheVariants.{Mirrored, Parity}
use Rattle.extent_groups.specs.declared.class.Member.{Member}
use Rattle.extent_groups.specs.Geometry.{slot_count, copies_of, stripe_of, AreCopies, IsStripe}
use Rattle.extent_groups.specs.Groups.{Group, Groups, IsFormed, AreGroups, group_at, class_in, slots_in, members_in, members_of}
use Rattle.extent_groups.proofs.GeometryLaws.{copies_law, stripe_law}

-- a made group has a number below 512
pub made_low : (groups : Groups) (g : ℕ) (class : Class) → length groups.table ≡ 512 → class_in (group_at groups g) ≡ Some class → g < 512
made_low groups g class long made = by (cases_lt g 512)
  where
    by : (g < 512) ⊎ (512 ≤ g) → g < 512
    by (inl l) = l
    by (inr m) =
        let out : slice_get groups.table g ≡ None = slice_get_past groups.table g (omega (arith, long, m)) in
        let none : class_in (unwrap_or (slice_get groups.table g) None) ≡ None = ap (λ o. class_in (unwrap_or o None)) out in
        let both : None ≡ Some class = sym none ∙ made in
        cc

-- a group has fewer than 128 slots
pub slot_count_small : (class : Class) (n s : ℕ) → n ≤ 8 → s ≤ 8 → slot_count class n s < 128
slot_count_small Mirrored n s h k = omega (arith, mul-le-mul h k)
slot_count_small Parity n s h k = let less : n - 1 ≤ 7 = omega arith in omega (arith, mul-le-mul k less)

-- what is known of a slot of a group with these members: they are few, its index is small, and the geometry has this law there
pub record IsSlotWith (Law : ℕ → Type 0) (i : ℕ) (members : List Member) : Type 0 where
  pub some : 3 ≤ length members
  pub few : length members ≤ 8
  pub low : i < 128
  pub law : Law (length members)

slot_in : (Law : ℕ → Type 0) (class : Class) (s i : ℕ) (o : Option Group) → ((x : Group) → o ≡ Some x → IsFormed x.members) → s ≤ 8 → class_in o ≡ Some class → i < slots_in s o
    → ((n : ℕ) → 2 ≤ n → i < slot_count class n s → Law n) → IsSlotWith Law i (members_in o)
slot_in Law class s i None formed short is h laws = absurd (none-some class is)
slot_in Law class s i (Some x) formed short is h laws =
    let form = formed x refl in
    record {
      some = form.enough;
      few = form.few;
      low = omega (arith, slot_count_small x.class (length x.members) s form.few short);
      law = laws (length x.members) (omega (arith, form.enough)) (subst (λ c. i < slot_count c (length x.members) s) (same_Some _ _ is) h);
    }

-- and of one of a mirrored group
abbrev pub IsMirroredSlot : ℕ → ℕ → List Member → Type 0
IsMirroredSlot s i members = IsSlotWith (λ n. AreCopies n s i (copies_of n i)) i members

pub mirrored_slot : (t : Groups) (g i : ℕ) (members : List Member) → AreGroups t → members ≡ members_of t g → class_in (group_at t g) ≡ Some Mirrored
    → i < slots_in t.segments (group_at t g) → IsMirroredSlot t.segments i members
mirrored_slot t g i members are same is h =
    subst (IsMirroredSlot t.segments i) (sym same) (slot_in _ Mirrored t.segments i (group_at t g) (are.formed g) are.segments.1 is h (λ n. copies_law n t.segments i))

-- and of one of a parity group
abbrev pub IsParitySlot : ℕ → ℕ → List Member → Type 0
IsParitySlot s i members = IsSlotWith (λ n. IsStripe n s i (stripe_of n i)) i members

pub parity_slot : (t : Groups) (g i : ℕ) (members : List Member) → AreGroups t → members ≡ members_of t g → class_in (group_at t g) ≡ Some Parity
    → i < slots_in t.segments (group_at t g) → IsParitySlot t.segments i members
parity_slot t g i members are same is h =
    subst (IsParitySlot t.segments i) (sym same) (slot_in _ Parity t.segments i (group_at t g) (are.formed g) are.segments.1 is h (λ n. stripe_law n t.segments i))

-- an optional group that has a class has 3 to 8 members
pub group_size : (class : Class) (o : Option Group) → ((x : Group) → o ≡ Some x → IsFormed x.members) → class_in o ≡ Some class → (3 ≤ length (members_in o)) × (length (members_in o) ≤ 8)
group_size class None formed is = absurd (none-some class is)
group_size class (Some x) formed is = ((formed x refl).enough, (formed x refl).few)
