-- What comes of a step by a plan is one outcome and one state.
use Rattle.std.proofs.Common.{◌≡◌, inl, inr, ℕ, ◌<◌, ◌/◌, List, refl, sym, ap, ◌∙◌, subst, arith, Option, Some, None}
use Rattle.std.proofs.lemmas.Option.{none-some}
use Rattle.map_join.specs.declared.records.Record.{Record}
use Rattle.map_join.specs.Record.{record_at}
use Rattle.map_join.specs.Maps.{IsMapOf}
use Rattle.extent_groups.specs.declared.class.Class.{Class}
use Rattle.extent_groups.specs.declared.class.Class.TheVariants.{Mirrored, Parity}
use Rattle.extent_groups.specs.Groups.{Groups, class_in}
use Rattle.extent_groups.specs.Stores.{IsSlotOf}
use Rattle.flat_machine.specs.Flat.{Flat, Content, IsSized, IsUnheld}
use Rattle.flat_machine.specs.History.{IsHistory}
use Rattle.flat_machine.proofs.Newest.{same_map}
use Rattle.flat_machine.proofs.Unmakes.{number_within}
use Rattle.migrator.specs.Ages.{IsOldest}
use Rattle.migrator.specs.Slots.{IsMirrored, class_of_record}
use Rattle.migrator.specs.First.{IsFirst, IsFirstAppend}
use Rattle.cleaner.specs.declared.moves.Move.{Move}
use Rattle.cleaner.specs.Plans.{IsPlugPlan, IsCleanPlan}
use Rattle.tiered_array.specs.Tiered.{Tiered}
use Rattle.tiered_array.specs.Placing.{Fresh, Again, PlaceCase}
use Rattle.tiered_array.specs.Steps.{TierStep, Write, Demote, Plug, Clean, TierCase, WriteCase, DemoteCase, PlugCase, CleanCase, WritesAt, AppendsAt, MovesTo, GoesDown, Demotes, WritesIn, WritesFollowing, Writes, Plugs, Cleans, Stays, IsFreeMirror, order_after}
use Rattle.tiered_array.specs.declared.outcome.Outcome.{Outcome}
use Rattle.tiered_array.specs.declared.outcome.Outcome.TheVariants.{Placed, NoRoom, Nothing}
use Rattle.script_laws.specs.Once.{Settles}
use Rattle.script_laws.specs.Steady.{IsReached}
use Rattle.script_laws.specs.Bench.{AreDistinct, IsTiered}
use Rattle.script_laws.proofs.Trees.{Ends, Picks, Then, ends, picks, then, settles_by}
use Rattle.script_laws.proofs.Orders.{oldest_once, distinct_written}
use Rattle.script_laws.proofs.Choices.{first_once, append_once, plug_once, clean_once, block_there}
use Rattle.script_laws.proofs.Placings.{place_settles}

-- a relation of an outcome and a tiered state
abbrev pub Plans : Type 1
Plans = Outcome → Tiered → Type 0

-- the outcome of a flat relation, and the tiered state that it makes
abbrev Notes : (Outcome → Flat → Type 0) → (Outcome → Flat → Tiered) → Plans
Notes R next o U = (G : Flat) × R o G × (U ≡ next o G)

-- it settles where the flat relation does
notes_settle : (z : Groups) (R : Outcome → Flat → Type 0) (next : Outcome → Flat → Tiered) → Settles (IsReached z) R
    → ((o : Outcome) (G : Flat) → IsReached z G → IsTiered z (next o G)) → Settles (IsTiered z) (Notes R next)
notes_settle z R next is each = settles_by (Notes R next) (Then R (λ o G. Ends o (next o G))) (λ o U c. (o, c.0, c.1, (refl, c.2)))
    (then is (λ o G reached. ends (each o G reached)))

-- a slot of a made group is one of the 65,536
slot_low : (F : Flat) (keys : ℕ → ℕ) (class : Class) (s : ℕ) → IsHistory F keys → IsSlotOf class F.groups s → s < 65536
slot_low F keys class s is slot =
    let within = number_within F.groups (s / 128) (λ none. none-some class (sym (ap class_in none) ∙ slot.made)) in
    let many = is.groups.table.numbers in
    omega arith

-- the order after a write has each block once
distinct_after : (xs : List ℕ) (b : ℕ) (o : Outcome) → AreDistinct xs → AreDistinct (order_after xs b o)
distinct_after xs b (Placed r) apart = distinct_written xs b apart
distinct_after xs b _ apart = apart

-- a block that lies in a mirrored group has a record
mirrored_record : (groups : Groups) (o : Option Record) → class_of_record groups o ≡ Some Mirrored → (r : Record) × (o ≡ Some r)
mirrored_record groups None is = absurd (none-some Mirrored is)
mirrored_record groups (Some r) is = (r, refl)

module _ (z : Groups) (T : Tiered) (is : IsTiered z T) (w : ℕ) where
  -- a log has one map, so any map of it is the history's
  history_of : (keys : ℕ → ℕ) → IsMapOf T.flat.emitted keys → IsHistory T.flat keys
  history_of keys map = subst (IsHistory T.flat) (same_map T.flat.emitted is.reached.keys keys is.reached.history.map map) is.reached.history

  -- a block that the map has is one of the array's
  block_low : (keys : ℕ → ℕ) (b : ℕ) (r : Record) → IsMapOf T.flat.emitted keys → record_at b (keys b) ≡ Some r → b < z.blocks
  block_low keys b r map at = let low = block_there T.flat keys b r (history_of keys map) at in let same = is.reached.calm.blocks in omega arith

  -- slots that the state names are below 65,536
  slot_within : (class : Class) (s : ℕ) → IsSlotOf class T.flat.groups s → s < 65536
  slot_within class s slot = slot_low T.flat is.reached.keys class s is.reached.history slot

  append_within : (keys : ℕ → ℕ) (free : ℕ → Type 0) (s : ℕ) → IsFirstAppend T.end T.flat.groups keys free (Some s) → s < 65536
  append_within keys free s (inl own) = slot_within Parity s own.holds.0.slot_of
  append_within keys free s (inr fresh) = slot_within Parity s fresh.1.holds.0.slot_of

  -- nothing is done, a block is appended to the log, or a block goes into a slot
  stays_settle : (o : Outcome) → Settles (IsTiered z) (Stays T o)
  stays_settle o = settles_by (Stays T o) (Ends o T) (λ p U c. (c.reported, c.same)) (ends is)

  appends_settle : (b s : ℕ) → s < 65536 → b < z.blocks → Settles (IsTiered z) (AppendsAt T w b s)
  appends_settle b s low below = notes_settle z (PlaceCase T.flat w s b Again) _ (place_settles z T.flat w s b is.reached low below Again tt)
      (λ o G reached. record { reached = reached; distinct = is.distinct })

  moves_settle : (b s : ℕ) → s < 65536 → b < z.blocks → Settles (IsTiered z) (MovesTo T w b s)
  moves_settle b s low below = notes_settle z (PlaceCase T.flat w s b Again) _ (place_settles z T.flat w s b is.reached low below Again tt)
      (λ o G reached. record { reached = reached; distinct = is.distinct })

  -- demote: the oldest block goes to the first free slot of the log
  down_settles : (keys : ℕ → ℕ) (b : ℕ) (slot : Option ℕ) → b < z.blocks → IsFirstAppend T.end T.flat.groups keys (IsUnheld T.flat) slot
      → Settles (IsTiered z) (GoesDown T w b slot)
  down_settles keys b None below first = stays_settle NoRoom
  down_settles keys b (Some s) below first = appends_settle b s (append_within keys (IsUnheld T.flat) s first) below

  demotes_settle : (keys : ℕ → ℕ) (chosen : Option ℕ) → IsMapOf T.flat.emitted keys → IsOldest T.order (IsMirrored T.flat.groups keys) chosen
      → Settles (IsTiered z) (Demotes T keys w chosen)
  demotes_settle keys None map oldest = stays_settle Nothing
  demotes_settle keys (Some b) map oldest =
      let r = mirrored_record T.flat.groups (record_at b (keys b)) oldest.passes in
      picks (append_once T.end T.flat.groups keys (IsUnheld T.flat))
      (λ slot first. down_settles keys b slot (block_low keys b r.0 map r.1) first)

  pub demote_settles : Settles (IsTiered z) (DemoteCase T w)
  demote_settles = settles_by (DemoteCase T w)
      (Picks (IsMapOf T.flat.emitted) (λ keys. Picks (IsOldest T.order (IsMirrored T.flat.groups keys)) (Demotes T keys w)))
      (λ o U c. (c.keys, c.map_of, (c.chosen, c.oldest, c.done)))
      (picks (same_map T.flat.emitted) (λ keys map.
      picks (oldest_once T.order (IsMirrored T.flat.groups keys) is.distinct) (λ chosen oldest. demotes_settle keys chosen map oldest)))

  -- plug: the plan, then the move
  plugs_settle : (keys : ℕ → ℕ) (plan : Option Move) → IsMapOf T.flat.emitted keys → IsPlugPlan T.flat.groups keys T.end.group plan → Settles (IsTiered z) (Plugs T w plan)
  plugs_settle keys None map planned = stays_settle Nothing
  plugs_settle keys (Some m) map planned =
      let lies = planned.4.block in
      moves_settle m.block m.to (slot_within Parity m.to planned.4.hole.holds.slot_of) (block_low keys m.block lies.0 map lies.1)

  plug_settles : Settles (IsTiered z) (PlugCase T w)
  plug_settles = settles_by (PlugCase T w)
      (Picks (IsMapOf T.flat.emitted) (λ keys. Picks (IsPlugPlan T.flat.groups keys T.end.group) (Plugs T w)))
      (λ o U c. (c.keys, c.map_of, (c.plan, c.planned, c.done)))
      (picks (same_map T.flat.emitted) (λ keys map.
      picks (plug_once T.flat keys (history_of keys map) T.end.group) (λ plan planned. plugs_settle keys plan map planned)))

  -- clean: where the log goes on, the plan, then the move
  cleans_settle : (keys : ℕ → ℕ) (append : Option ℕ) (plan : Option Move) → IsMapOf T.flat.emitted keys → IsFirstAppend T.end T.flat.groups keys (λ _. Unit {0}) append
      → IsCleanPlan T.flat.groups keys T.end.group append plan → Settles (IsTiered z) (Cleans T w plan)
  cleans_settle keys append None map first planned = stays_settle Nothing
  cleans_settle keys append (Some m) map first planned =
      let lies = planned.2.block in
      appends_settle m.block m.to (append_within keys (λ _. Unit {0}) m.to (subst (IsFirstAppend T.end T.flat.groups keys (λ _. Unit {0})) planned.2.to first))
      (block_low keys m.block lies.0 map lies.1)

  clean_settles : Settles (IsTiered z) (CleanCase T w)
  clean_settles = settles_by (CleanCase T w)
      (Picks (IsMapOf T.flat.emitted) (λ keys. Picks (IsFirstAppend T.end T.flat.groups keys (λ _. Unit {0})) (λ append.
      Picks (IsCleanPlan T.flat.groups keys T.end.group append) (Cleans T w))))
      (λ o U c. (c.keys, c.map_of, (c.append, c.first, (c.plan, c.planned, c.done))))
      (picks (same_map T.flat.emitted) (λ keys map.
      picks (append_once T.end T.flat.groups keys (λ _. Unit {0})) (λ append first.
      picks (clean_once T.flat keys (history_of keys map) T.end.group append) (λ plan planned. cleans_settle keys append plan map first planned))))

  -- write: into the lowest free slot
  writes_at : (b s : ℕ) (x : Content) → s < 65536 → b < z.blocks → IsSized z.payload x → Settles (IsTiered z) (WritesAt T w b x s)
  writes_at b s x low below sized = notes_settle z (PlaceCase T.flat w s b (Fresh x)) _ (place_settles z T.flat w s b is.reached low below (Fresh x) sized)
      (λ o G reached. record { reached = reached; distinct = distinct_after T.order b o is.distinct })

  pub writes_in : (b : ℕ) (x : Content) (slot : Option ℕ) → b < z.blocks → IsSized z.payload x → IsFirst (IsFreeMirror T.flat) slot → Settles (IsTiered z) (WritesIn T w b x slot)
  writes_in b x None below sized first = stays_settle NoRoom
  writes_in b x (Some s) below sized first = writes_at b s x (slot_within Mirrored s first.holds.0) below sized

module _ (z : Groups) (w b : ℕ) (x : Content) (below : b < z.blocks) (sized : IsSized z.payload x) where
  -- with no free slot, a block goes down first
  following_settles : (T : Tiered) → IsTiered z T → Settles (IsTiered z) (WritesFollowing T w b x)
  following_settles T is = settles_by (WritesFollowing T w b x)
      (Then (DemoteCase T w) (λ o M. Picks (IsFirst (IsFreeMirror M.flat)) (WritesIn M w b x)))
      (λ o U c. (c.demoted, c.between, c.down, (c.slot, c.first, c.done)))
      (then (demote_settles z T is w) (λ o M now.
      picks (first_once (IsFreeMirror M.flat)) (λ slot first. writes_in z M now w b x slot below sized first)))

  writes_settle : (T : Tiered) → IsTiered z T → (slot : Option ℕ) → IsFirst (IsFreeMirror T.flat) slot → Settles (IsTiered z) (Writes T w b x slot)
  writes_settle T is None first = following_settles T is
  writes_settle T is (Some s) first = writes_at z T is w b s x (slot_within z T is w Mirrored s first.holds.0) below sized

  write_settles : (T : Tiered) → IsTiered z T → Settles (IsTiered z) (WriteCase T w b x)
  write_settles T is = settles_by (WriteCase T w b x) (Picks (IsFirst (IsFreeMirror T.flat)) (Writes T w b x)) (λ o U c. (c.slot, c.first, c.done))
      (picks (first_once (IsFreeMirror T.flat)) (λ slot first. writes_settle T is slot first))

-- the numbers of a plan's step are in range
abbrev pub TierFits : Groups → TierStep → Type 0
TierFits z (Write w b x) = (b < z.blocks) × IsSized z.payload x
TierFits z _ = Unit {0}

-- a step by a plan has one outcome, and leaves one state
pub tier_settles : (z : Groups) (T : Tiered) (step : TierStep) → IsTiered z T → TierFits z step → Settles (IsTiered z) (TierCase T step)
tier_settles z T (Write w b x) is fits = write_settles z w b x fits.0 fits.1 T is
tier_settles z T (Demote w) is fits = demote_settles z T is w
tier_settles z T (Plug w) is fits = plug_settles z T is w
tier_settles z T (Clean w) is fits = clean_settles z T is w
