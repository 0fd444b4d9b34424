-- The numbers of the refusals of groups and stores.
use Rattle.std.specs.Prelude.{ℕ}
use Rattle.extent_groups.specs.declared.refusal.GroupRefusal.{GroupRefusal}
use Rattle.extent_groups.specs.declared.refusal.GroupRefusal.TheVariants.{NoGroup, TooFew, SameDrive, ExtentTaken, Memory, TooMany}
use Rattle.extent_groups.specs.declared.refusal.StoreRefusal.{StoreRefusal}
use Rattle.extent_groups.specs.declared.refusal.StoreRefusal.TheVariants as store
use Rattle.extent_groups.specs.declared.plan.PlanRefusal.{PlanRefusal}
use Rattle.extent_groups.specs.declared.plan.PlanRefusal.TheVariants as plan

-- why a group isn't made, dissolved or changed
abbrev pub group_number : GroupRefusal → ℕ
group_number NoGroup = 1
group_number TooFew = 2
group_number SameDrive = 3
group_number ExtentTaken = 4
group_number Memory = 5
group_number TooMany = 6

-- why a slot's unit isn't read or written
abbrev pub store_number : StoreRefusal → ℕ
store_number (store.Gone slot) = 1

-- why no writes are planned
abbrev pub plan_number : PlanRefusal → ℕ
plan_number (plan.Gone slot) = 1
plan_number plan.Memory = 2
