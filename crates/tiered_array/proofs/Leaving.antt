-- A block that leaves the mirrored level leaves a free slot there.
use Rattle.std.proofs.Common.{◌≡◌, ℕ, ◌/◌, ◌%◌, ◌^◌, ◌<◌, ◌≤◌, nat_lt, Bool, true, false, ◌||◌, ◌&&◌, not, if◌then◌else◌, is_some, ◌∷◌, length, refl, sym, ap, ◌∙◌, subst, arith, Option, Some, None}
use Rattle.std.proofs.lemmas.Bool.Decides.{nat_tests}
use Rattle.std.proofs.lemmas.Option.{same_Some}
use Rattle.map_join.specs.declared.records.Record.{Record}
use Rattle.map_join.specs.Record.{record_of, record_at}
use Rattle.map_join.specs.Maps.{IsMapOf}
use Rattle.extent_groups.specs.declared.class.Class.{Class}
use Rattle.extent_groups.specs.declared.class.Class.TheVariants.{Mirrored}
use Rattle.extent_groups.specs.Geometry.{slot_count}
use Rattle.extent_groups.specs.Groups.{Group, Groups, group_at, class_in, slots_in}
use Rattle.extent_groups.specs.Stores.{IsSlotOf}
use Rattle.flat_machine.specs.Flat.{Flat, Holder, Worker, Ticket, Block, Waiting, IsUnheld, IsNewest, HeldOnce, with_pair, without_pair, turned, same_holder, class_of}
use Rattle.flat_machine.specs.Flat as waiting
use Rattle.flat_machine.specs.Groups.{class_below}
use Rattle.flat_machine.specs.Steps.{FlatStep, FlatAnswer, Released}
use Rattle.flat_machine.specs.Steps as step
use Rattle.flat_machine.specs.Cases.{Case, Leaves, Runs, CommitWith, place_passed}
use Rattle.flat_machine.specs.History.{IsHistory}
use Rattle.flat_machine.proofs.Newest.{newest_reported, newest_unique, reported_key}
use Rattle.flat_machine.proofs.Pairs.{itself, one_holder, with_else, without_here, turned_here, turned_else}
use Rattle.migrator.specs.Slots.{class_of_record, IsMirrored}
use Rattle.tiered_array.specs.Placing.{Put, Fresh, Again, PlaceCase, put_step, put_answer, back_steps, back_answers}
use Rattle.tiered_array.specs.Steps.{IsFreeMirror}
use Rattle.tiered_array.specs.declared.outcome.Outcome.TheVariants as outcome
use Rattle.tiered_array.proofs.Emitting.{IsAlike, alike_more, alike_claimed, alike_put, place_emits}
use Rattle.tiered_array.proofs.Marks.{mirrored_record}

-- nobody but one holds a slot
abbrev But : (ℕ → Holder → Bool) → ℕ → Holder → Type 0
But held p j = (k : Holder) → (k ≡ j → ⊥) → held p k ≡ false

and_false : (a b : Bool) → a ≡ false → (a && b) ≡ false
and_false true b e = absurd (cc)
and_false false b e = refl

and_not : (a b : Bool) → b ≡ true → (a && not b) ≡ false
and_not true true e = refl
and_not false true e = refl
and_not a false e = absurd (cc)

or_false : (a b : Bool) → a ≡ false → b ≡ false → (a || b) ≡ false
or_false true b e f = absurd (cc)
or_false false b e f = f

other_holder : (k j : Holder) → (k ≡ j → ⊥) → same_holder k j ≡ false
other_holder k j ne = go (same_holder k j) refl
  where
    go : (b : Bool) → same_holder k j ≡ b → same_holder k j ≡ false
    go true e = absurd (ne (one_holder k j e))
    go false e = e

held_in : (x G : Flat) (p : ℕ) (k : Holder) → Leaves x G → G.held p k ≡ x.held p k
held_in x G p k leaves = ap (λ (y : Flat). y.held p k) leaves.same

-- one holder gives it up
gives_up : (H G : Flat) (w p t : ℕ) → Case H (step.Release w p) (Released t) G → But H.held p (Worker w) → IsUnheld G p
gives_up H G w p t case but k =
    held_in _ G p k case.2 ∙ without_here H.held p (Worker w) k ∙ go (same_holder k (Worker w)) refl
  where
    go : (b : Bool) → same_holder k (Worker w) ≡ b → (H.held p k && not (same_holder k (Worker w))) ≡ false
    go true e = and_not (H.held p k) (same_holder k (Worker w)) e
    go false e = and_false (H.held p k) (not (same_holder k (Worker w)))
        (but k (λ same. let bad : true ≡ false = sym (itself (Worker w)) ∙ ap (λ j. same_holder j (Worker w)) (sym same) ∙ e in absurd (cc)))

back_free : (H G : Flat) (w : ℕ) (old : Option Record) (q : Record) → old ≡ Some q → Runs H (back_steps w old) (back_answers old) G
    → But H.held q.place (Worker w) → IsUnheld G q.place
back_free H G w None q same run but = absurd (cc)
back_free H G w (Some o) q same run but =
    let place : o.place ≡ q.place = ap (λ (r : Record). r.place) (same_Some _ _ same) in
    let there = gives_up H run.0 w o.place o.place run.1 (subst (λ n. But H.held n (Worker w)) (sym place) but) in
    subst (IsUnheld G) place (subst (λ (x : Flat). IsUnheld x o.place) (sym run.2) there)

-- a block that holds a place passes it to the worker when it is committed elsewhere
passes : (held : ℕ → Holder → Bool) (w b s p : ℕ) (found : Option Record) (q : Record) → found ≡ Some q → q.place ≡ p → (p ≡ s → ⊥) → But held p (Block b)
    → But (place_passed (turned held s (Ticket w) (Block b)) w b found) p (Worker w)
passes held w b s p None q same at other but k ne = absurd (cc)
passes held w b s p (Some o) q same at other but k ne =
    let place : o.place ≡ p = ap (λ (r : Record). r.place) (same_Some _ _ same) ∙ at in
    ap (λ n. turned X n (Block b) (Worker w) p k) place ∙ turned_here X p (Block b) (Worker w) k
    ∙ or_false (X p k && not (same_holder k (Block b))) (same_holder k (Worker w)) (go (same_holder k (Block b)) refl) (other_holder k (Worker w) ne)
  where
    X : ℕ → Holder → Bool
    X = turned held s (Ticket w) (Block b)

    still : X p k ≡ held p k
    still = ap (λ (h : Holder → Bool). h k) (turned_else held s (Ticket w) (Block b) p other)

    go : (c : Bool) → same_holder k (Block b) ≡ c → (X p k && not (same_holder k (Block b))) ≡ false
    go true e = and_not (X p k) (same_holder k (Block b)) e
    go false e = and_false (X p k) (not (same_holder k (Block b)))
        (still ∙ but k (λ is. let bad : true ≡ false = sym (itself (Block b)) ∙ ap (λ j. same_holder j (Block b)) (sym is) ∙ e in absurd (cc)))

commits_pass : (F G : Flat) (w s b p : ℕ) (r q : Record) → (case : Case F (step.Commit w s b) (step.Committed r) G) → case.2.0 ≡ Some q → q.place ≡ p → (p ≡ s → ⊥)
    → But F.held p (Block b) → But G.held p (Worker w)
commits_pass F G w s b p r q case same at other but = go (F.tickets s) case.2.2
  where
    following : (x : Flat) → x.held ≡ place_passed (turned F.held s (Ticket w) (Block b)) w b case.2.0 → Leaves x G → But G.held p (Worker w)
    following x is leaves k ne = held_in x G p k leaves ∙ ap (λ (h : ℕ → Holder → Bool). h p k) is ∙ passes F.held w b s p case.2.0 q same at other but k ne

    go : (c : Option Waiting) → CommitWith F w s b case.2.0 c (step.Committed r) G → But G.held p (Worker w)
    go None with = absurd with
    go (Some (waiting.Fresh x)) with = following _ refl with.4
    go (Some (waiting.Moved c v h x)) with = following _ refl with.4

claims_keep : (F G : Flat) (w s t p : ℕ) (j : Holder) → Case F (step.Claim w s) (step.Claimed t) G → (p ≡ s → ⊥) → But F.held p j → But G.held p j
claims_keep F G w s t p j case other but k ne = held_in _ G p k case.2 ∙ ap (λ (h : Holder → Bool). h k) (with_else F.held s (Worker w) p other) ∙ but k ne

puts_keep : (F G : Flat) (what : Put) (w s b p : ℕ) (j : Holder) → Case F (put_step what w s b) (put_answer what s) G → (p ≡ s → ⊥) → But F.held p j → But G.held p j
puts_keep F G (Fresh x) w s b p j case other but k ne =
    held_in _ G p k case.3 ∙ ap (λ (h : Holder → Bool). h k) (turned_else F.held s (Worker w) (Ticket w) p other) ∙ but k ne
puts_keep F G Again w s b p j case other but k ne =
    held_in _ G p k case.1.6 ∙ ap (λ (h : Holder → Bool). h k) (turned_else F.held s (Worker w) (Ticket w) p other) ∙ but k ne

lt_back : (a b : ℕ) → nat_lt a b ≡ true → a < b
lt_back a b e = grind (arith, nat_tests)

-- a slot that a class has is one of a made group
class_slot : (groups : Groups) (s : ℕ) (class : Class) (g : Option Group) → class_in g ≡ Some class → is_some (class_below groups.segments g (s % 128)) ≡ true
    → s % 128 < slots_in groups.segments g
class_slot groups s class None made some = absurd (cc)
class_slot groups s class (Some group) made some = go (nat_lt (s % 128) (slot_count group.class (length group.members) groups.segments)) refl
  where
    go : (b : Bool) → nat_lt (s % 128) (slot_count group.class (length group.members) groups.segments) ≡ b → s % 128 < slots_in groups.segments (Some group)
    go true e = lt_back (s % 128) (slot_count group.class (length group.members) groups.segments) e
    go false e = let bad : false ≡ true = sym (ap (λ c. is_some (if c then Some group.class else None)) e) ∙ some in absurd (cc)

module _ (F G : Flat) (map keys : ℕ → ℕ) (w s b : ℕ) (what : Put) (r : Record) (history : IsHistory F map) (once : HeldOnce F) (is_map : IsMapOf F.emitted keys) (mirrored : IsMirrored F.groups keys b)
    (case : PlaceCase F w s b what (outcome.Placed r) G) where
  abbrev q : (n : Record) × (record_at b (keys b) ≡ Some n)
  q = mirrored_record F.groups (record_at b (keys b)) mirrored

  newest : IsNewest F.emitted b (Some q.0)
  newest = subst (IsNewest F.emitted b) q.1 (newest_reported F.emitted keys b history.records is_map)

  kept : record_at b (map b) ≡ Some q.0
  kept = newest_unique F.emitted b history.records (record_at b (map b)) (Some q.0) (newest_reported F.emitted map b history.records history.map) newest

  key : (2 ^ 32 ≤ map b) × (record_of b (map b) ≡ q.0)
  key = reported_key b (map b) q.0 kept

  place : (record_of b (map b)).place ≡ q.0.place
  place = ap (λ (n : Record). n.place) key.1

  class : class_in (group_at F.groups (q.0.place / 128)) ≡ Some Mirrored
  class = sym (ap (class_of_record F.groups) q.1) ∙ mirrored

  abbrev p : ℕ
  p = q.0.place

  written : F.held p (Block b) ≡ true
  written = let large = key.0 in
      subst (λ n. F.held n (Block b) ≡ true) place (((history.written b).1 (omega (arith, large))).2).place

  below : p % 128 < slots_in F.groups.segments (group_at F.groups (p / 128))
  below =
      let large = key.0 in
      let unit = (((history.written b).1 (omega (arith, large))).2).unit in
      let has : is_some (F.units (record_of b (map b)).place) ≡ true = ap is_some unit.there in
      let there : is_some (class_of F p) ≡ true = subst (λ n. is_some (class_of F n) ≡ true) place (sym (history.units (record_of b (map b)).place).there ∙ has) in
      class_slot F.groups p Mirrored (group_at F.groups (p / 128)) class there

  run : Runs F (step.Claim w s ∷ put_step what w s b ∷ step.Commit w s b ∷ back_steps w case.old)
      (step.Claimed s ∷ put_answer what s ∷ step.Committed r ∷ back_answers case.old) G
  run = case.run

  other : p ≡ s → ⊥
  other same = let bad : true ≡ false = sym written ∙ ap (λ n. F.held n (Block b)) same ∙ run.1.1 (Block b) in absurd (cc)

  alone : But F.held p (Block b)
  alone k ne = go (F.held p k) refl
    where
      go : (c : Bool) → F.held p k ≡ c → F.held p k ≡ false
      go true has = absurd (ne (once p k (Block b) has written))
      go false e = e

  before : IsAlike F run.2.0
  before = alike_more F run.0 run.2.0 (alike_claimed F run.0 w s s run.1) (alike_put run.0 run.2.0 what w s b run.2.1)

  found : run.2.2.1.2.0 ≡ Some q.0
  found = newest_unique F.emitted b history.records (run.2.2.1.2.0) (Some q.0) (subst (λ rs. IsNewest rs b (run.2.2.1.2.0)) before.emitted run.2.2.1.2.1) newest

  freed : IsUnheld G p
  freed = back_free run.2.2.0 G w case.old q.0 (newest_unique F.emitted b history.records case.old (Some q.0) case.newest newest) run.2.2.2
      (commits_pass run.2.0 run.2.2.0 w s b p r q.0 run.2.2.1 found refl other
      (puts_keep run.0 run.2.0 what w s b p (Block b) run.2.1 other (claims_keep F run.0 w s s p (Block b) run.1 other alone)))

  -- that slot was the block's newest place
  pub leaves_free : (n : ℕ) × IsFreeMirror G n × ((o : Record) × (record_at b (keys b) ≡ Some o) × (o.place ≡ n))
  leaves_free =
      let groups : G.groups ≡ F.groups = (place_emits F G w s b what r history.records case).groups in
      (p, (subst (λ z. IsSlotOf Mirrored z p) (sym groups) (record { made = class; below = below }), freed), (q.0, q.1, refl))
