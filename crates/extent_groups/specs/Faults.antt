-- Why a change of the groups is refused: the first of its checks that fails.
use Rattle.std.specs.Prelude.{◌≡◌, ℕ, Bool, false, nat_lt, ◌==◌, ◌||◌, if◌then◌else◌, Option, Some, None, List, [], ◌∷◌, length, is_some}
use Rattle.std.specs.List.{list_any}
use Rattle.extents.specs.Owners.{Owners, owner_of}
use Rattle.extent_groups.specs.declared.class.Member.{Member}
use Rattle.extent_groups.specs.declared.refusal.GroupRefusal.{GroupRefusal}
use Rattle.extent_groups.specs.declared.refusal.GroupRefusal.TheVariants.{NoGroup, TooFew, SameDrive, ExtentTaken, TooMany}
use Rattle.extent_groups.specs.Groups.{Group}

-- one of the members is on the drive
abbrev pub is_on : ℕ → List Member → Bool
is_on drive members = list_any (λ m. m.drive == drive) members

-- two of the members are on one drive
abbrev pub shares_drive : List Member → Bool
shares_drive [] = false
shares_drive (m ∷ ms) = is_on m.drive ms || shares_drive ms

-- a group owns the extent
abbrev pub is_owned : Owners → Member → Bool
is_owned owners m = is_some (owner_of owners m.drive m.extent)

-- why these members make no group: too few, too many, two on one drive, or an extent that is owned
abbrev pub put_fault : Owners → List Member → Option GroupRefusal
put_fault owners members =
    if nat_lt (length members) 3 then Some TooFew
    else if nat_lt 8 (length members) then Some TooMany
    else if shares_drive members then Some SameDrive
    else if list_any (is_owned owners) members then Some ExtentTaken
    else None

-- why a member isn't swapped for an extent: one of the group's members is on its drive, or the extent is owned
abbrev pub swap_check_of : Owners → List Member → Member → Option GroupRefusal
swap_check_of owners members to =
    if is_on to.drive members then Some SameDrive
    else if is_owned owners to then Some ExtentTaken
    else None

-- why a member of an optional group isn't swapped for an extent: there is no group, or the check above fails
abbrev pub swap_fault : Owners → Option Group → Member → Option GroupRefusal
swap_fault owners None to = Some NoGroup
swap_fault owners (Some group) to = swap_check_of owners group.members to

-- a refusal is the one of the check that failed first, and the last one only where none failed
abbrev pub FailsFor : GroupRefusal → Option GroupRefusal → GroupRefusal → Type 0
FailsFor last None refusal = refusal ≡ last
FailsFor last (Some fault) refusal = refusal ≡ fault
