use Rattle.std.proofs.Common.{◌≡◌, ℕ, ◌/◌, ◌%◌, ◌<◌, sym, subst}
use Rattle.std.specs.Prelude.{◌↔◌}
use Rattle.map_join.specs.Maps.{at}
use Rattle.extent_groups.specs.declared.class.Class.TheVariants.{Parity}
use Rattle.extent_groups.specs.Stores.{IsSlotOf}
use Rattle.cleaner.proofs.Counting.{slot_at, index_of}
use Rattle.migrator.proofs.Picks.{none_counted, idle_counts}
use Rattle.tests_stores.proofs.counted.live_of.Goals as goal

pub returns : goal.returns
returns c = λ made.
    let groups = c.args.groups.now in
    let group = c.args.group in
    let count = c.slots_of.ensures.count in
    let just : (slot : ℕ) → slot / 128 ≡ group → IsSlotOf Parity groups slot ↔ (slot % 128 < c.slots_of.result) = λ slot own. (
      (λ is. subst (λ n. slot % 128 < n) (sym count) (index_of groups group slot is own)),
      (λ low. slot_at groups group slot made own (subst (λ n. slot % 128 < n) count low)),
    ) in (
      none_counted groups (at c.args.map.now) group c.slots_of.result c.count_live.result just c.count_live.ensures,
      idle_counts groups (at c.args.map.now) group c.slots_of.result c.count_live.result just c.count_live.ensures,
    )
