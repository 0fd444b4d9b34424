-- Why a member can't go onto an extent, by the tests of the tables.
use Rattle.std.proofs.Common.{◌≡◌, ◌≢◌, ℕ, zero, suc, ◌<◌, ◌==◌, ◌||◌, Bool, true, false, cond, is_some, List, [], ◌∷◌, length, refl, sym, ◌∙◌, arith, Option, Some, None}
use Rattle.std.specs.Prelude.{slice_get}
use Rattle.std.proofs.lemmas.Option.{none-some}
use Rattle.extents.specs.Owners.{owner_of, IsExtent}
use Rattle.extent_groups.specs.declared.class.Member.{Member}
use Rattle.extent_groups.specs.declared.refusal.GroupRefusal.TheVariants as fault
use Rattle.extent_groups.specs.Faults.{is_on, is_owned, swap_check_of}
use Rattle.extent_groups.specs.Groups.{members_of, HasMemberAt}
use Rattle.extent_groups.specs.Stores.{HasMemberOn}
use Rattle.extent_groups.proofs.GroupsLemmas.{not_on, not_owned}
use Rattle.flat_machine.specs.Moves.{IsMoveReason}
use Rattle.flat_machine.proofs.Pairs.{equal_back}
use Rattle.slot_tables.specs.Making.{reported_of}
use Rattle.slot_tables.specs.Views.{ArrayView, IsWhole}

-- one of the members is on the drive
on_one : (drive : ℕ) (ms : List Member) → is_on drive ms ≡ true → (k : ℕ) × (m : Member) × (slice_get ms k ≡ Some m) × (m.drive ≡ drive)
on_one drive [] on = let bad : false ≡ true = on in absurd (cc)
on_one drive (m ∷ ms) on = go (m.drive == drive) refl on (on_one drive ms)
  where
    go : (q : Bool) → (m.drive == drive) ≡ q → (q || is_on drive ms) ≡ true
        → (is_on drive ms ≡ true → (k : ℕ) × (n : Member) × (slice_get ms k ≡ Some n) × (n.drive ≡ drive))
        → (k : ℕ) × (n : Member) × (slice_get (m ∷ ms) k ≡ Some n) × (n.drive ≡ drive)
    go true same e rest = (0, m, refl, equal_back m.drive drive same)
    go false other e rest = let r = rest e in (suc r.0, r.1, r.2, r.3)

owner_there : (o : Option ℕ) → is_some o ≡ true → (h : ℕ) × (o ≡ Some h)
owner_there None e = let bad : false ≡ true = e in absurd (cc)
owner_there (Some h) e = (h, refl)

-- the reason against a move onto an extent that is there is the one that the tests find
pub swap_reason : (a : ArrayView) (g k : ℕ) (to : Member) → IsWhole a → slice_get (members_of a.parts.groups g) k ≢ None → IsExtent a.parts.owners to.drive to.extent
    → IsMoveReason a.parts.groups (length a.parts.drives) g k to (reported_of (swap_check_of a.parts.owners (members_of a.parts.groups g) to))
swap_reason a g k to whole some inside = go (is_on to.drive (members_of a.parts.groups g)) (is_owned a.parts.owners to) refl refl
  where
    drive : to.drive < length a.parts.drives
    drive = let low = inside.within in let rows = whole.rows in omega arith

    extent : to.extent < a.parts.groups.extents
    extent = let low = inside.inside in let wide = whole.wide in omega arith

    away : is_on to.drive (members_of a.parts.groups g) ≡ false → HasMemberOn a.parts.groups g to.drive → ⊥
    away off has = not_on to.drive (members_of a.parts.groups g) has.0 has.1 off has.2 has.3

    unowned : is_owned a.parts.owners to ≡ false → (h : ℕ) → HasMemberAt (members_of a.parts.groups h) to.drive to.extent → ⊥
    unowned free h matches = none-some h (sym (not_owned a.parts.owners to free) ∙ (whole.agree.owned h matches.0 (record { drive = to.drive; extent = to.extent }) matches.1).1)

    go : (p q : Bool) → is_on to.drive (members_of a.parts.groups g) ≡ p → is_owned a.parts.owners to ≡ q
        → IsMoveReason a.parts.groups (length a.parts.drives) g k to (reported_of (cond p (Some fault.SameDrive) (cond q (Some fault.ExtentTaken) None)))
    go true q on owned = (some, drive, extent, on_one to.drive (members_of a.parts.groups g) on)
    go false true off owned =
        let h = owner_there (owner_of a.parts.owners to.drive to.extent) owned in
        (some, drive, extent, away off, (h.0, whole.agree.matches h.0 to.drive to.extent h.1))
    go false false off free = (some, record { drive = drive; extent = extent; apart = away off; unowned = unowned free })

-- an extent that the table doesn't have isn't there
pub not_there : (a : ArrayView) (g k : ℕ) (to : Member) → IsWhole a → slice_get (members_of a.parts.groups g) k ≢ None → (IsExtent a.parts.owners to.drive to.extent → ⊥)
    → (slice_get (members_of a.parts.groups g) k ≢ None) × (((to.drive < length a.parts.drives) × (to.extent < a.parts.groups.extents)) → ⊥)
not_there a g k to whole some out = (some, λ inside. out (let rows = whole.rows in let wide = whole.wide in let low = inside.0 in let small = inside.1 in record { within = omega arith; inside = omega arith }))

-- there is a member of a number below their count
pub some_member : (ms : List Member) (k : ℕ) → k < length ms → slice_get ms k ≢ None
some_member [] k low = absurd (omega arith)
some_member (m ∷ ms) zero low = λ none. let bad : Some m ≡ None = none in cc
some_member (m ∷ ms) (suc k) low = some_member ms k (omega arith)
