-- What a worker moves next: what the definitions of demotions, plugs and cleans choose of what lies under the lock.
use Rattle.std.specs.Prelude.{◌≡◌, ◌⊎◌, ℕ, ◌+◌, ◌/◌, ◌%◌, ◌<◌, ◌==◌, if◌then◌else◌, Option, Some, None, Bool, true, false, List, length, count_by}
use Rattle.slot_tables.specs.Views.{kept_at, is_kept}
use Rattle.cleaner.specs.declared.moves.Move.{Move}
use Rattle.tiered_array.specs.Planning.{IsOldestMirrored, IsNextAppend, IsPlugOf, IsCleanOf}
use Rattle.array_book.specs.declared.plan.Plan.{Plan}
use Rattle.array_book.specs.Kept.{KeptView}

-- a slot's turn where the log goes on: those of the write group come first, then all others by number
abbrev pub turn_of : Option ℕ → ℕ → ℕ
turn_of None slot = 128 + slot
turn_of (Some group) slot = if group == (slot / 128) then slot % 128 else 128 + slot

-- fewer than `low` of these slots are free: those that the array holds, plus `low`, are more than all of them
abbrev pub NeedsDemotion : KeptView → List ℕ → ℕ → Type 0
NeedsDemotion k mirrors low = length mirrors < count_by (λ slot. is_kept (kept_at k.array slot)) mirrors + low

-- the plan moves the block in a mirrored group that was written longest ago to where the log goes on
pub record IsDemotion (k : KeptView) (plan : Plan) : Type 0 where
  pub oldest : IsOldestMirrored k.array k.planner (Some plan.block)
  pub slot : IsNextAppend k.array k.planner (λ slot. Unit {0}) plan.slot
  pub demotes : plan.demotes ≡ true
  pub group : plan.group ≡ k.planner.end.group
  pub appends : plan.appends ≡ true

-- the plan moves the move's block to the move's slot, and `after` says whether the log goes on after that slot
pub record IsMoveBy (move : Move) (after : Bool) (plan : Plan) : Type 0 where
  pub block : plan.block ≡ move.block
  pub slot : plan.slot ≡ Some move.to
  pub demotes : plan.demotes ≡ false
  pub appends : plan.appends ≡ after

-- no demotion is due: there are enough free slots, or no block is in a mirrored group
abbrev pub NoDemotion : KeptView → List ℕ → ℕ → Type 0
NoDemotion k mirrors low = NeedsDemotion k mirrors low → IsOldestMirrored k.array k.planner None

-- a plug, which leaves the log's end where it is, or a clean, after whose slot the log goes on
abbrev pub IsRegrouped : KeptView → Plan → Type 0
IsRegrouped k plan =
    (move : Move) × ((IsPlugOf k.array k.planner (Some move) × IsMoveBy move false plan) ⊎ (IsCleanOf k.array k.planner (Some move) × IsMoveBy move true plan))

-- a demotion where one is due, also where there is no slot for it, and else a plug or a clean
abbrev pub IsPlanned : List ℕ → ℕ → KeptView → Plan → Type 0
IsPlanned mirrors low k plan = (NeedsDemotion k mirrors low × IsDemotion k plan) ⊎ (NoDemotion k mirrors low × IsRegrouped k plan)

-- no demotion is due, and there is no plug and no clean
pub record IsDone (mirrors : List ℕ) (low : ℕ) (k : KeptView) : Type 0 where
  pub demotion : NoDemotion k mirrors low
  pub plug : IsPlugOf k.array k.planner None
  pub clean : IsCleanOf k.array k.planner None

-- the next slot of a plan is that one where the log goes on, of those whose turn comes later; none of a plug or a clean
abbrev pub IsNext : KeptView → Plan → ℕ → Option ℕ → Type 0
IsNext k plan slot next = (plan.demotes ≡ true → IsNextAppend k.array k.planner (λ other. turn_of plan.group slot < turn_of plan.group other) next)
    × (plan.demotes ≡ false → next ≡ None)
