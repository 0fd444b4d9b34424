-- The state of a script: before its array is made, or a state of the array and of four block maps.
use Rattle.std.specs.Prelude.{◌≡◌, ℕ, ◌<◌, ◌≤◌, List, [], Option, Some, None}
use Rattle.std.specs.List.{All, AllByRecursion}
use Rattle.map_join.specs.declared.records.Record.{Record}
use Rattle.tiered_array.specs.Tiered.{Tiered}
use Rattle.extents.specs.Sizes.{AreInRange}
use Rattle.script_syntax.specs.Order.{Order, Number, Following, Reported, Members, following_of, numbers_of, verb_of}
use Rattle.script_syntax.specs.Order as o
use Rattle.script_syntax.specs.Spelling.{HasSizedPayload}
use Rattle.script_syntax.specs.declared.verb.Kind.{Kind}
use Rattle.script_syntax.specs.declared.verb.Kind.TheVariants as kind
use Rattle.script_syntax.specs.declared.verb.Verb.TheVariants as verb
use Rattle.script_syntax.specs.declared.command.Named.{Named}

-- the state of the array and of what its plans keep, and for each of the four maps the records that it took or merged
pub record Position : Type 0 where
  pub tiers : Tiered
  pub taken : ℕ → List Record

-- before the array, or the script's position after it
abbrev pub State : Type 0
State = Option Position

-- no map took a record yet
abbrev pub nothing_taken : ℕ → List Record
nothing_taken map = []

-- how many blocks there are
abbrev pub block_count : State → ℕ
block_count None = 0
block_count (Some P) = P.tiers.flat.groups.blocks

-- whether a command may come: the array once and first, every other one after it, and a payload of the array's length
abbrev pub IsAdmissible : State → Order → Type 0
IsAdmissible None order = verb_of order ≡ verb.Array
IsAdmissible (Some P) order = (verb_of order ≡ verb.Array → ⊥) × HasSizedPayload P.tiers.flat.groups.payload order

-- the limit of each kind of number, with `count` blocks; sizes have theirs in `IsArrayInRange`
abbrev pub IsKindInRange : ℕ → Kind → ℕ → Type 0
IsKindInRange count kind.Worker n = n ≤ 7
IsKindInRange count kind.Slot n = n ≤ 65535
IsKindInRange count kind.Block n = n < count
IsKindInRange count kind.Drive n = n ≤ 15
IsKindInRange count kind.Extent n = n ≤ 511
IsKindInRange count kind.Group n = n ≤ 511
IsKindInRange count kind.Map n = n ≤ 3
IsKindInRange count kind.Size n = Unit {0}

abbrev pub IsNumberInRange : ℕ → Number → Type 0
IsNumberInRange count n = IsKindInRange count n.kind n.value

-- a member's drive and extent within the limits
pub record IsMemberInRange (member : Named) : Type 0 where
  pub drive : IsKindInRange 0 kind.Drive member.drive
  pub extent : IsKindInRange 0 kind.Extent member.extent

-- what follows the numbers is within the limits: a record's block is one of the array's
abbrev pub IsFollowingInRange : ℕ → Following → Type 0
IsFollowingInRange count (Reported r) = IsKindInRange count kind.Block r.block
IsFollowingInRange count (Members level members) = All IsMemberInRange members
IsFollowingInRange count _ = Unit {0}

-- the number of drives and the sizes of an array within the limits
pub record IsArrayInRange (drives extents segments payload blocks : ℕ) : Type 0 where
  pub least : 3 ≤ drives
  pub most : drives ≤ 16
  pub limits : AreInRange extents segments payload blocks

-- the numbers of `array` are within the limits of an array; other commands have no such rule
abbrev pub IsInLimits : Order → Type 0
IsInLimits (o.Array drives extents segments payload blocks) = IsArrayInRange drives extents segments payload blocks
IsInLimits _ = Unit {0}

-- each number of the command, and what follows them, is within the limits, with `count` blocks
pub record IsWithin (count : ℕ) (order : Order) : Type 0 where
  pub numbers : AllByRecursion (IsNumberInRange count) (numbers_of order)
  pub following : IsFollowingInRange count (following_of order)

-- the command is within the limits
pub record IsInRange (count : ℕ) (order : Order) : Type 0 where
  pub within : IsWithin count order
  pub fit : IsInLimits order
