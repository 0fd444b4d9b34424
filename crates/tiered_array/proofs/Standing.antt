-- What represents a flat state with what is kept next to it, after each part of a step.
use Rattle.std.proofs.Common.{◌≡◌, ◌≢◌, ◌⊎◌, ℕ, false, ◌+◌, ◌/◌, ◌%◌, ◌<◌, if◌then◌else◌, arith, ◌↔◌, inl, inr, List, length, slice_set, Contains, refl, sym, ap, ◌∙◌, subst, Option, Some, None, Result, Ok, Err}
use Rattle.std.specs.declared.alloc.AllocError.{AllocError}
use Rattle.std.specs.Prelude.{IfOk, IfSome, OnErr, MatchOption}
use Rattle.std.proofs.lemmas.List.{length-set}
use Rattle.std.proofs.lemmas.List.FromFn.{length-range_with_len}
use Rattle.map_join.specs.declared.records.Record.{Record}
use Rattle.map_join.specs.Maps.{IsMapOf}
use Rattle.extent_groups.specs.Groups.{Group, Groups, group_at, class_in, slots_in, with_group}
use Rattle.extent_groups.proofs.GroupsLemmas.{group_same, group_other}
use Rattle.extent_groups.proofs.Bounds.{made_low}
use Rattle.std.proofs.lemmas.Bool.{cases_eq}
use Rattle.extent_groups.specs.declared.class.Class.{Class}
use Rattle.extent_groups.specs.declared.class.Member.{Member}
use Rattle.extent_groups.specs.declared.class.Class.TheVariants.{Mirrored, Parity}
use Rattle.extent_groups.specs.Stores.{IsSlotOf}
use Rattle.flat_machine.specs.Flat.{Flat, Content, Waiting, IsUnheld}
use Rattle.flat_machine.specs.Flat as waiting
use Rattle.flat_machine.specs.Moves.{IsIn, HasClaim, unmade}
use Rattle.flat_machine.proofs.Unmakes.{number_within}
use Rattle.flat_machine.specs.Steps as step
use Rattle.flat_machine.specs.Cases.{Case, CommitWith, Leaves, made}
use Rattle.flat_machine.specs.Steps.{FlatStep, FlatAnswer}
use Rattle.slot_tables.specs.Views.{ArrayView, WorldView, hand_at, has_no_holder, kept_at, key_at}
use Rattle.slot_tables.specs.Represents.{Represents}
use Rattle.flat_machine.proofs.Pairs.{put_here, unequal}
use Rattle.slot_tables.proofs.Hands.{free_iff, taken_case}
use Rattle.migrator.specs.Ages.{Marked, by_number, written, IsOldest}
use Rattle.migrator.specs.Slots.{End, at_start, class_of_record, IsMirrored}
use Rattle.migrator.specs.First.{IsLowest, IsFirst, IsFirstAppend, IsFreeFollowing, IsFreeFresh}
use Rattle.cleaner.specs.declared.moves.Move.{Move}
use Rattle.cleaner.specs.Plans.{IsPlugPlan, IsCleanPlan}
use Rattle.step_core.specs.declared.step.Answer.{Answer}
use Rattle.step_core.specs.declared.step.Answer.TheVariants as answer
use Rattle.step_core.specs.Reported.{flat_answer}
use Rattle.tiered_array.specs.Tiered.{Tiered, begun}
use Rattle.step_core.specs.declared.place.Placed.{Placed}
use Rattle.step_core.specs.Placing.{Places, PlacesFree}
use Rattle.step_core.specs.declared.place.NotPlaced.TheVariants as denied
use Rattle.flat_machine.specs.declared.refusal.Refusal.{Refusal}
use Rattle.flat_machine.specs.declared.refusal.Refusal.TheVariants.{Memory}
use Rattle.tiered_array.specs.Placing.{Put, Fresh, Again, PlaceCase, record_slot, put_step, put_answer}
use Rattle.tiered_array.specs.Steps.{StepAlone, AppendsAt, MovesTo, WritesAt, WritesIn, PutStops, DemoteCase, PlugCase, Cleans, CleanCase, WriteCase, CommitNoted, IsFreeMirror, IsFreeHole, end_after, order_following}
use Rattle.tiered_array.specs.Matches.{RepresentsTiers}
use Rattle.tiered_array.specs.Inside.{IsFreeHere}
use Rattle.tiered_array.specs.Marking.{AreMarked, IsCommitNoted, PutsAt, is_mirrors, order_noted, order_put}
use Rattle.tiered_array.specs.Planning.{IsOldestMirrored, IsNextAppend, IsPlugOf, IsCleanOf}
use Rattle.tiered_array.specs.declared.planner.Planner.{Planner}
use Rattle.tiered_array.specs.declared.outcome.Outcome.{Outcome}
use Rattle.tiered_array.specs.declared.outcome.Outcome.TheVariants.{NoRoom, Nothing}
use Rattle.tiered_array.specs.declared.outcome.Outcome.TheVariants as outcome
use Rattle.tiered_array.proofs.Placings.{CommitIs, outcome_of, commit_is}
use Rattle.tiered_array.proofs.Emitting.{IsAlike, HasEmitted, IsCalm, alike_left, alike_released, calm_alike, commit_emits, place_emits, place_alike, stops_alike}
use Rattle.tiered_array.proofs.Freeing.{unmade_frees, Frees, FreesNone, IsPlaceIn, left_frees, release_frees, commit_frees, stops_free, place_frees, place_keeps, step_frees, made_frees}
use Rattle.tiered_array.specs.Hints.{IsHinted}
use Rattle.tiered_array.proofs.Ordered.{number_there, still_noted}
use Rattle.tiered_array.proofs.Marks.{marked_alike, marked_emitted, marked_made, marked_unmade}
use Rattle.step_core.proofs.Worlds.{refused_leaves}
use Rattle.tiered_array.specs.Views.{TiersView}

-- the groups of the state are the world's
pub groups_of : (t : TiersView) (T : Tiered) → RepresentsTiers t T → T.flat.groups ≡ t.world.array.parts.groups
groups_of t T matches = matches.world.array.tables.groups

-- the keys are the map of what the state emitted
pub map_of : (t : TiersView) (T : Tiered) → RepresentsTiers t T → IsMapOf T.flat.emitted (key_at t.world.array)
map_of t T matches = matches.world.array.history.map

-- what a placing does for each state that the world represents
abbrev pub PlacesTo : WorldView → WorldView → ℕ → ℕ → ℕ → Put → Result Placed Refusal → Type 0
PlacesTo u v w s b what result = (F : Flat) → Represents u F → (G : Flat) × PlacesFree F w s b what result G × Represents v G

-- the order has a place for the block
block_there : (t : TiersView) (T : Tiered) (b : ℕ) → RepresentsTiers t T → b < t.world.array.parts.groups.blocks → b < length t.planner.ages.order
block_there t T b matches inside =
    subst (λ n. b < n) (sym (ap length matches.order ∙ matches.long ∙ ap (λ (z : Groups). z.blocks) (groups_of t T matches))) inside

-- each free slot of the groups of a class is hinted
abbrev pub AreHinted : Class → Flat → List ℕ → Type 0
AreHinted class F hints = (s : ℕ) → IsSlotOf class F.groups s × IsUnheld F s → IsHinted hints s

-- hinted slots after a step that leaves the groups, where what becomes free is hinted
hints_keep : (class : Class) (F G : Flat) (was is : List ℕ) (P : ℕ → Type 0) → G.groups ≡ F.groups → Frees F G P → ((s : ℕ) → P s → IsHinted is s)
    → ((s : ℕ) → IsHinted was s → IsHinted is s) → AreHinted class F was → AreHinted class G is
hints_keep class F G was is P groups frees new others hinted s free = go (frees s free.1)
  where
    go : IsUnheld F s ⊎ P s → IsHinted is s
    go (inl there) = others s (hinted s (subst (λ z. IsSlotOf class z s) groups free.0, there))
    go (inr left) = new s left

-- the same where nothing becomes free
hints_still : (class : Class) (F G : Flat) (hints : List ℕ) → G.groups ≡ F.groups → FreesNone F G → AreHinted class F hints → AreHinted class G hints
hints_still class F G hints groups frees hinted =
    hints_keep class F G hints hints (λ s. ⊥) groups (λ s free. inl (frees s free)) (λ s no. absurd no) (λ s h. h) hinted

-- the place that a block had before it was placed
left_in : (hints : List ℕ) (old : Option Record) (left : Option ℕ) → left ≡ record_slot old → MatchOption left (Unit {0}) (λ n. IsHinted hints n)
    → (n : ℕ) → IsPlaceIn old n → IsHinted hints n
left_in hints None left same hinted n at = absurd at
left_in hints (Some q) left same hinted n at =
    subst (IsHinted hints) (sym at) (subst (λ o. MatchOption o (Unit {0}) (λ m. IsHinted hints m)) same hinted)

-- the commit of a record is noted in a planner, if its order has a place for the block
abbrev pub Notes : Groups → Planner → Planner → Record → Type 0
Notes groups before after r = r.block < length before.ages.order → IsCommitNoted groups before.ages after.ages r

-- what is kept next to the world after a commit that was noted
matches_noted : (t u : TiersView) (T : Tiered) (G : Flat) (b : ℕ) (r : Record) (order : List ℕ) → Notes u.world.array.parts.groups t.planner u.planner r
    → length u.planner.ages.order ≡ length t.planner.ages.order → u.planner.end ≡ t.planner.end → b < t.world.array.parts.groups.blocks
    → RepresentsTiers t T → Represents u.world G → HasEmitted T.flat G b r → order_noted T.order r ≡ order → AreHinted Mirrored G u.hints
    → AreHinted Parity G u.holes → RepresentsTiers u (record T { flat = G; order = order })
matches_noted t u T G b r order notes long end inside matches rep emits as_said hints holes = record {
  world = rep;
  order = reported;
  long = ap length (sym reported) ∙ long ∙ ap length matches.order ∙ matches.long ∙ sym blocks;
  each = λ c low. subst (λ l. Contains l c) as_said (still_noted T.order r c (matches.each c (subst (λ n. c < n) blocks low)));
  end = end ∙ matches.end;
  marked = ap length marks ∙ length-set t.planner.ages.marks b (is_mirrors (class_of_record G.groups (Some r))) ∙ matches.marked ∙ sym blocks;
  marks = subst (λ ms. AreMarked ms G.groups (key_at u.world.array)) (sym marks)
      (marked_emitted T.flat G (key_at t.world.array) (key_at u.world.array) t.planner.ages.marks b r rep.array.history.records within
      matches.world.array.history.map rep.array.history.map emits matches.marks);
  hints = hints;
  holes = holes;
}
  where
    noted : IsCommitNoted u.world.array.parts.groups t.planner.ages u.planner.ages r
    noted = notes (subst (λ n. n < length t.planner.ages.order) (sym emits.newest.1) (block_there t T b matches inside))

    reported : u.planner.ages.order ≡ order
    reported = noted.0 ∙ ap (λ l. order_noted l r) matches.order ∙ as_said

    blocks : G.groups.blocks ≡ T.flat.groups.blocks
    blocks = ap (λ (z : Groups). z.blocks) emits.groups

    within : b < length t.planner.ages.marks
    within = subst (λ n. b < n) (sym (matches.marked ∙ ap (λ (z : Groups). z.blocks) (groups_of t T matches))) inside

    marks : u.planner.ages.marks ≡ slice_set t.planner.ages.marks b (is_mirrors (class_of_record G.groups (Some r)))
    marks = noted.1 ∙ ap (λ z. slice_set t.planner.ages.marks r.block (is_mirrors (class_of_record z (Some r)))) (sym rep.array.tables.groups)
        ∙ ap (λ n. slice_set t.planner.ages.marks n (is_mirrors (class_of_record G.groups (Some r)))) emits.newest.1

-- another world next to what is kept, for a state with the same groups and records, and no more free slots
pub stands_alike : (t : TiersView) (v : WorldView) (T : Tiered) (G : Flat) → RepresentsTiers t T → Represents v G → IsAlike T.flat G → FreesNone T.flat G
    → RepresentsTiers (record t { world = v }) (record T { flat = G })
stands_alike t v T G matches rep alike frees =
    let blocks : G.groups.blocks ≡ T.flat.groups.blocks = ap (λ (z : Groups). z.blocks) alike.groups in record {
      world = rep;
      order = matches.order;
      long = matches.long ∙ sym blocks;
      each = λ b low. matches.each b (subst (λ n. b < n) blocks low);
      end = matches.end;
      marked = matches.marked ∙ sym blocks;
      marks = marked_alike T.flat G (key_at t.world.array) (key_at v.array) t.planner.ages.marks matches.world.array.history.map rep.array.history.map alike matches.marks;
      hints = hints_still Mirrored T.flat G t.hints alike.groups frees matches.hints;
      holes = hints_still Parity T.flat G t.holes alike.groups frees matches.holes;
    }

-- after a step that leaves the state but for drives that failed, and after one that emits no record, changes no group and frees
-- no slot
pub matches_left : (t : TiersView) (v : WorldView) (T : Tiered) (G : Flat) → RepresentsTiers t T → Represents v G → Leaves T.flat G → RepresentsTiers (record t { world = v }) (record T { flat = G })
matches_left t v T G matches rep leaves = stands_alike t v T G matches rep (alike_left T.flat G leaves) (left_frees T.flat G leaves)

-- what is noted of a commit by its record is what is noted by what waited
order_is : (F G : Flat) (w s b : ℕ) (order : List ℕ) (r : Record) → Case F (step.Commit w s b) (step.Committed r) G
    → order_noted order r ≡ order_following order b (step.Committed r) (F.tickets s)
order_is F G w s b order r case = go (F.tickets s) case.2.2
  where
    go : (c : Option Waiting) → CommitWith F w s b case.2.0 c (step.Committed r) G → order_noted order r ≡ order_following order b (step.Committed r) c
    go None with = absurd with
    go (Some (waiting.Fresh x)) with = ap (order_noted order) with.3
    go (Some (waiting.Moved c v h x)) with =
        ap (order_noted order) with.3 ∙ ap (λ t. if t then written order b else order) (unequal (h + 1) 0 (λ e. absurd (omega (arith, e))))

-- and what waits is what was put in
order_waits : (F G : Flat) (what : Put) (w s b : ℕ) (order : List ℕ) (r : Record) → Case F (put_step what w s b) (put_answer what s) G
    → order_following order b (step.Committed r) (G.tickets s) ≡ order_put order b what (outcome.Placed r)
order_waits F G (Fresh x) w s b order r case =
    ap (order_following order b (step.Committed r)) (ap (λ (y : Flat). y.tickets s) case.3.same ∙ put_here F.tickets s (Some (waiting.Fresh x)))
order_waits F G Again w s b order r case =
    ap (order_following order b (step.Committed r))
    (ap (λ (y : Flat). y.tickets s) case.1.6.same ∙ put_here F.tickets s (Some (waiting.Moved b case.1.0.version case.1.0.hop case.1.1.content)))

-- where nothing is placed no write is noted
order_stays : (order : List ℕ) (b : ℕ) (what : Put) (o : Outcome) → ((r : Record) → o ≢ outcome.Placed r) → order ≡ order_put order b what o
order_stays order b Again o other = refl
order_stays order b (Fresh x) (outcome.Placed r) other = absurd (other r refl)
order_stays order b (Fresh x) (outcome.Refused k) other = refl
order_stays order b (Fresh x) outcome.NoRoom other = refl
order_stays order b (Fresh x) outcome.Nothing other = refl

-- what a placing does for each state that is represented
abbrev pub PutsTo : TiersView → TiersView → ℕ → ℕ → ℕ → Put → Outcome → Type 0
PutsTo t u w s b what o = (T : Tiered) → RepresentsTiers t T → (U : Tiered) × PutsAt T w b what s o U × RepresentsTiers u U

-- what a placing says of a world is true with what is noted of it
pub puts : (t u : TiersView) (w s b : ℕ) (what : Put) (placed : Placed) → PlacesTo t.world u.world w s b what (Ok placed)
    → Notes u.world.array.parts.groups t.planner u.planner placed.newest
    → length u.planner.ages.order ≡ length t.planner.ages.order → u.planner.end ≡ t.planner.end → b < t.world.array.parts.groups.blocks
    → MatchOption placed.left (Unit {0}) (λ n. IsHinted u.hints n) → ((n : ℕ) → IsHinted t.hints n → IsHinted u.hints n)
    → MatchOption placed.left (Unit {0}) (λ n. IsHinted u.holes n) → ((n : ℕ) → IsHinted t.holes n → IsHinted u.holes n)
    → PutsTo t u w s b what (outcome.Placed placed.newest)
puts t u w s b what placed places notes long end inside hinted others hole_hinted other_holes T matches =
    let p = places T.flat matches.world in
    let r = placed.newest in
    let is = p.1.0 in
    let records = matches.world.array.history.records in
    let run = is.run in
    let emits = place_emits T.flat p.0 w s b what r records is in (
      record T { flat = p.0; order = order_put T.order b what (outcome.Placed r) },
      (p.0, is, refl),
      matches_noted t u T p.0 b r (order_put T.order b what (outcome.Placed r)) notes long end inside matches p.2 emits
          (order_is run.2.0 run.2.2.0 w s b T.order r run.2.2.1 ∙ order_waits run.0 run.2.0 what w s b T.order r run.2.1)
          (hints_keep Mirrored T.flat p.0 t.hints u.hints (IsPlaceIn is.old) emits.groups (place_frees T.flat p.0 w s b what r is)
          (left_in u.hints is.old placed.left p.1.1 hinted) others matches.hints)
          (hints_keep Parity T.flat p.0 t.holes u.holes (IsPlaceIn is.old) emits.groups (place_frees T.flat p.0 w s b what r is)
          (left_in u.holes is.old placed.left p.1.1 hole_hinted) other_holes matches.holes),
    )

-- nothing is placed
puts_none : (t : TiersView) (v : WorldView) (w s b : ℕ) (what : Put) (o : Outcome) → ((r : Record) → o ≢ outcome.Placed r)
    → ((F : Flat) → Represents t.world F → (G : Flat) × PlaceCase F w s b what o G × Represents v G) → PutsTo t (record t { world = v }) w s b what o
puts_none t v w s b what o other places T matches =
    let p = places T.flat matches.world in (
      record T { flat = p.0 },
      (p.0, p.1, ap (λ l. record T { flat = p.0; order = l }) (order_stays T.order b what o other)),
      stands_alike t v T p.0 matches p.2 (place_alike T.flat p.0 w s b what o other p.1) (place_keeps T.flat p.0 w s b what o other p.1),
    )

-- where somebody holds the slot
pub puts_nowhere : (t : TiersView) (w s b : ℕ) (what : Put) → has_no_holder (kept_at t.world.array s) (hand_at t.world.hands s) ≡ false → PutsTo t t w s b what NoRoom
puts_nowhere t w s b what held =
    puts_none t t.world w s b what NoRoom (λ r is. absurd (cc)) (λ F rep. (F, (F, taken_case t.world F w s held rep, refl), rep))

-- a placing that was refused, and one that ran out of memory
pub puts_refused : (t : TiersView) (v : WorldView) (w s b : ℕ) (what : Put) (k : Refusal) (o : Outcome) → o ≡ outcome.Refused k → k ≢ Memory
    → PlacesTo t.world v w s b what (Err k) → PutsTo t (record t { world = v }) w s b what o
puts_refused t v w s b what k o is some places =
    puts_none t v w s b what o (λ r placed. let both : outcome.Refused k ≡ outcome.Placed r = sym is ∙ placed in absurd (cc)) (λ F rep.
    let p = places F rep in
    (p.0, subst (λ x. PlaceCase F w s b what x p.0) (sym is) (reported F p.0 k some p.1), p.2))
  where
    reported : (F G : Flat) (j : Refusal) → j ≢ Memory → Places F w s b what (Err (denied.Refused j)) G → PlaceCase F w s b what (outcome.Refused j) G
    reported F G Memory ne case = absurd (ne refl)
    reported F G j ne case = case

pub puts_stop : (t : TiersView) (v : WorldView) (w s b : ℕ) (what : Put) (k : Refusal) → k ≡ Memory → PlacesTo t.world v w s b what (Err k)
    → (T : Tiered) → RepresentsTiers t T → (U : Tiered) × PutStops T w what b s U × RepresentsTiers (record t { world = v }) U
puts_stop t v w s b what k is places T matches =
    let p = places T.flat matches.world in
    let stops = subst (λ j. Places T.flat w s b what (Err (denied.Refused j)) p.0) is p.1 in (
      record T { flat = p.0 },
      record { left = p.0; stops = stops; same = refl },
      stands_alike t v T p.0 matches p.2 (stops_alike T.flat p.0 w s b what stops) (stops_free T.flat p.0 w s b what stops),
    )

-- after a placing the log goes on elsewhere
pub appends : (t m : TiersView) (p : Planner) (w s b : ℕ) (o : Outcome) → PutsTo t m w s b Again o
    → p.ages ≡ m.planner.ages → p.end ≡ end_after m.planner.end s o
    → (T : Tiered) → RepresentsTiers t T → (U : Tiered) × AppendsAt T w b s o U × RepresentsTiers (record m { planner = p }) U
appends t m p w s b o puts same noted T matches =
    let d = puts T matches in
    let st : RepresentsTiers m (record T { flat = d.1.0 }) = subst (RepresentsTiers m) d.1.2 d.2 in (
      record T { flat = d.1.0; end = end_after T.end s o },
      (d.1.0, d.1.1, refl),
      record {
        world = st.world;
        order = ap (λ (g : Marked). g.order) same ∙ st.order;
        long = st.long;
        each = st.each;
        end = noted ∙ ap (λ (e : End). end_after e s o) st.end;
        marked = ap (λ (g : Marked). length g.marks) same ∙ st.marked;
        marks = subst (λ (g : Marked). AreMarked g.marks d.1.0.groups (key_at m.world.array)) (sym same) st.marks;
        hints = st.hints;
        holes = st.holes;
      },
    )

-- where nothing is placed it goes on there
pub end_stays : (end : End) (s : ℕ) (o : Outcome) → ((r : Record) → o ≢ outcome.Placed r) → end ≡ end_after end s o
end_stays end s (outcome.Placed r) other = absurd (other r refl)
end_stays end s (outcome.Refused k) other = refl
end_stays end s outcome.NoRoom other = refl
end_stays end s outcome.Nothing other = refl

-- of two ways to say the same of slots the lowest are the same
lowest_as : (P Q : ℕ → Type 0) (n : ℕ) → ((m : ℕ) → P m ↔ Q m) → IsLowest P n → IsLowest Q n
lowest_as P Q n same h = record { holds = (same n).0 h.holds; least = λ m q. h.least m ((same m).1 q) }

pub first_as : (P Q : ℕ → Type 0) (found : Option ℕ) → ((m : ℕ) → P m ↔ Q m) → IsFirst P found → IsFirst Q found
first_as P Q None same h = λ n q. h n ((same n).1 q)
first_as P Q (Some n) same h = lowest_as P Q n same h

pub append_as : (end : End) (groups : Groups) (keys : ℕ → ℕ) (P Q : ℕ → Type 0) (found : Option ℕ) → ((m : ℕ) → P m ↔ Q m)
    → IsFirstAppend end groups keys P found → IsFirstAppend end groups keys Q found
append_as end groups keys P Q None same h = λ slot is q. h slot is ((same slot).1 q)
append_as end groups keys P Q (Some n) same (inl h) =
    inl (lowest_as (IsFreeFollowing end groups keys P) (IsFreeFollowing end groups keys Q) n (λ m. ((λ x. (x.0, (same m).0 x.1)), (λ x. (x.0, (same m).1 x.1)))) h)
append_as end groups keys P Q (Some n) same (inr h) =
    inr (
      (λ other x. h.0 other (x.0, (same other).1 x.1)),
      lowest_as (IsFreeFresh end groups keys P) (IsFreeFresh end groups keys Q) n (λ m. ((λ x. (x.0, (same m).0 x.1)), (λ x. (x.0, (same m).1 x.1)))) h.1,
    )

-- which block is the oldest, for each state that is represented
abbrev pub OldestIs : TiersView → Option ℕ → Type 0
OldestIs t chosen = (T : Tiered) → RepresentsTiers t T → IsOldest T.order (IsMirrored T.flat.groups (key_at t.world.array)) chosen

pub oldest_is : (t : TiersView) (a : ArrayView) (chosen : Option ℕ) → a ≡ t.world.array
    → (AreMarked t.planner.ages.marks a.parts.groups (key_at a) → IsOldestMirrored a t.planner chosen) → OldestIs t chosen
oldest_is t a chosen same oldest T matches =
    let groups = groups_of t T matches in
    let keys = key_at t.world.array in
    let marks = subst (λ z. AreMarked t.planner.ages.marks z keys) groups matches.marks in
    let here = subst (λ (x : ArrayView). AreMarked t.planner.ages.marks x.parts.groups (key_at x)) (sym same) marks in
    let is = subst (λ (x : ArrayView). IsOldestMirrored x t.planner chosen) same (oldest here) in
    subst (λ order. IsOldest order (IsMirrored T.flat.groups keys) chosen) matches.order (subst (λ z. IsOldest t.planner.ages.order (IsMirrored z keys) chosen) (sym groups) is)

-- what holds of the world's groups and the planner's end holds of the state's
pub as_state : (P : Groups → End → Type 0) (t : TiersView) (T : Tiered) → RepresentsTiers t T → P t.world.array.parts.groups t.planner.end → P T.flat.groups T.end
as_state P t T matches h = subst (P T.flat.groups) matches.end (subst (λ z. P z t.planner.end) (sym (groups_of t T matches)) h)

pub append_by : (P Q : ℕ → Type 0) (t : TiersView) (p : Planner) (a : ArrayView) (T : Tiered) (slot : Option ℕ) → ((s : ℕ) → P s ↔ Q s) → a ≡ t.world.array → p ≡ t.planner
    → RepresentsTiers t T → IsNextAppend a p P slot → IsFirstAppend T.end T.flat.groups (key_at t.world.array) Q slot
append_by P Q t p a T slot same array planner matches h =
    let here = subst (λ (x : ArrayView). IsNextAppend x t.planner P slot) array (subst (λ (q : Planner). IsNextAppend a q P slot) planner h) in
    append_as T.end T.flat.groups (key_at t.world.array) P Q slot same (as_state (λ groups end. IsFirstAppend end groups (key_at t.world.array) P slot) t T matches here)

pub append_is : (t : TiersView) (p : Planner) (a : ArrayView) (T : Tiered) (slot : Option ℕ) → a ≡ t.world.array → p ≡ t.planner → RepresentsTiers t T
    → IsNextAppend a p (IsFreeHere t.world) slot → IsFirstAppend T.end T.flat.groups (key_at t.world.array) (IsUnheld T.flat) slot
append_is t p a T slot array planner matches h =
    append_by (IsFreeHere t.world) (IsUnheld T.flat) t p a T slot (λ s. free_iff t.world T.flat s matches.world) array planner matches h

-- a placing by a plan is the case of its step
pub demotes : {E : Type 0} (t u : TiersView) (p : Planner) (a : ArrayView) (w b s : ℕ) (r : Result Outcome E) → a ≡ t.world.array → p ≡ t.planner → OldestIs t (Some b)
    → IsNextAppend a p (IsFreeHere t.world) (Some s)
    → IfOk r (λ o. (T : Tiered) → RepresentsTiers (record t { planner = p }) T → (U : Tiered) × AppendsAt T w b s o U × RepresentsTiers u U)
    → IfOk r (λ o. (T : Tiered) → RepresentsTiers t T → (U : Tiered) × DemoteCase T w o U × RepresentsTiers u U)
demotes t u p a w b s (Err e) array planner oldest next done = tt
demotes t u p a w b s (Ok o) array planner oldest next done = λ T matches.
    let d = done T (subst (λ (q : Planner). RepresentsTiers (record t { planner = q }) T) (sym planner) matches) in (
      d.0,
      record {
        keys = key_at t.world.array;
        map_of = map_of t T matches;
        chosen = Some b;
        oldest = oldest T matches;
        done = (Some s, append_is t p a T (Some s) array planner matches next, d.1);
      },
      d.2,
    )

pub demotes_nowhere : (t : TiersView) (p : Planner) (a : ArrayView) (w b : ℕ) → a ≡ t.world.array → p ≡ t.planner → OldestIs t (Some b)
    → IsNextAppend a p (IsFreeHere t.world) None
    → (T : Tiered) → RepresentsTiers t T → (U : Tiered) × DemoteCase T w NoRoom U × RepresentsTiers (record t { planner = p }) U
demotes_nowhere t p a w b array planner oldest next T matches = (
  T,
  record {
    keys = key_at t.world.array;
    map_of = map_of t T matches;
    chosen = Some b;
    oldest = oldest T matches;
    done = (None, append_is t p a T None array planner matches next, record { reported = refl; same = refl });
  },
  subst (λ (q : Planner). RepresentsTiers (record t { planner = q }) T) (sym planner) matches,
)

pub demotes_nothing : (t : TiersView) (p : Planner) (w : ℕ) → p ≡ t.planner → OldestIs t None
    → (T : Tiered) → RepresentsTiers t T → (U : Tiered) × DemoteCase T w Nothing U × RepresentsTiers (record t { planner = p }) U
demotes_nothing t p w planner oldest T matches = (
  T,
  record {
    keys = key_at t.world.array;
    map_of = map_of t T matches;
    chosen = None;
    oldest = oldest T matches;
    done = record { reported = refl; same = refl };
  },
  subst (λ (q : Planner). RepresentsTiers (record t { planner = q }) T) (sym planner) matches,
)

pub plug_is : (t : TiersView) (a : ArrayView) (T : Tiered) (plan : Option Move) → a ≡ t.world.array → RepresentsTiers t T → IsPlugOf a t.planner plan
    → IsPlugPlan T.flat.groups (key_at t.world.array) T.end.group plan
plug_is t a T plan array matches h =
    as_state (λ groups end. IsPlugPlan groups (key_at t.world.array) end.group plan) t T matches (subst (λ (x : ArrayView). IsPlugOf x t.planner plan) array h)

pub plugs : {E : Type 0} (t u : TiersView) (a : ArrayView) (w : ℕ) (plan : Move) (r : Result Outcome E) → a ≡ t.world.array → IsPlugOf a t.planner (Some plan)
    → IfOk r (λ o. (T : Tiered) → RepresentsTiers t T → (U : Tiered) × MovesTo T w plan.block plan.to o U × RepresentsTiers u U)
    → IfOk r (λ o. (T : Tiered) → RepresentsTiers t T → (U : Tiered) × PlugCase T w o U × RepresentsTiers u U)
plugs t u a w plan (Err e) array planned done = tt
plugs t u a w plan (Ok o) array planned done = λ T matches.
    let d = done T matches in (
      d.0,
      record {
        keys = key_at t.world.array;
        map_of = map_of t T matches;
        plan = Some plan;
        planned = plug_is t a T (Some plan) array matches planned;
        done = d.1;
      },
      d.2,
    )

pub plugs_nothing : (t : TiersView) (a : ArrayView) (w : ℕ) → a ≡ t.world.array → IsPlugOf a t.planner None
    → (T : Tiered) → RepresentsTiers t T → (U : Tiered) × PlugCase T w Nothing U × RepresentsTiers t U
plugs_nothing t a w array planned T matches = (
  T,
  record {
    keys = key_at t.world.array;
    map_of = map_of t T matches;
    plan = None;
    planned = plug_is t a T None array matches planned;
    done = record { reported = refl; same = refl };
  },
  matches,
)

-- what a clean is planned by
clean_case : (t : TiersView) (a : ArrayView) (w : ℕ) (T U : Tiered) (plan : Option Move) (o : Outcome) → a ≡ t.world.array → RepresentsTiers t T → IsCleanOf a t.planner plan
    → Cleans T w plan o U → CleanCase T w o U
clean_case t a w T U plan o array matches planned done =
    let here = subst (λ (x : ArrayView). IsCleanOf x t.planner plan) array planned in record {
      keys = key_at t.world.array;
      map_of = map_of t T matches;
      append = here.0;
      first = as_state (λ groups end. IsFirstAppend end groups (key_at t.world.array) (λ _. Unit {0}) here.0) t T matches here.1;
      plan = plan;
      planned = as_state (λ groups end. IsCleanPlan groups (key_at t.world.array) end.group here.0 plan) t T matches here.2;
      done = done;
    }

pub cleans : {E : Type 0} (t u : TiersView) (a : ArrayView) (w : ℕ) (plan : Move) (r : Result Outcome E) → a ≡ t.world.array → IsCleanOf a t.planner (Some plan)
    → IfOk r (λ o. (T : Tiered) → RepresentsTiers t T → (U : Tiered) × AppendsAt T w plan.block plan.to o U × RepresentsTiers u U)
    → IfOk r (λ o. (T : Tiered) → RepresentsTiers t T → (U : Tiered) × CleanCase T w o U × RepresentsTiers u U)
cleans t u a w plan (Err e) array planned done = tt
cleans t u a w plan (Ok o) array planned done = λ T matches.
    let d = done T matches in (d.0, clean_case t a w T d.0 (Some plan) o array matches planned d.1, d.2)

pub cleans_nothing : (t : TiersView) (a : ArrayView) (w : ℕ) → a ≡ t.world.array → IsCleanOf a t.planner None
    → (T : Tiered) → RepresentsTiers t T → (U : Tiered) × CleanCase T w Nothing U × RepresentsTiers t U
cleans_nothing t a w array planned T matches = (T, clean_case t a w T T None Nothing array matches planned (record { reported = refl; same = refl }), matches)

-- which slot is the first free one of mirrored groups, for each state that is represented; what is kept represents that state too
abbrev pub FirstFree : TiersView → TiersView → Option ℕ → Type 0
FirstFree t m slot = (T : Tiered) → RepresentsTiers t T → IsFirst (IsFreeMirror T.flat) slot × RepresentsTiers m T

-- and so are the ways of a write
pub writes_here : {E : Type 0} (t m u : TiersView) (w b s : ℕ) (x : Content) (r : Result Outcome E) → FirstFree t m (Some s)
    → IfOk r (λ o. (T : Tiered) → RepresentsTiers m T → (U : Tiered) × WritesAt T w b x s o U × RepresentsTiers u U)
    → IfOk r (λ o. (T : Tiered) → RepresentsTiers t T → (U : Tiered) × WriteCase T w b x o U × RepresentsTiers u U)
writes_here t m u w b s x (Err e) first done = tt
writes_here t m u w b s x (Ok o) first done = λ T matches.
    let f = first T matches in
    let d = done T f.1 in (d.0, record { slot = Some s; first = f.0; done = d.1 }, d.2)

-- a slot that is looked for once more
abbrev pub FindsAgain : TiersView → TiersView → ℕ → ℕ → Content → Outcome → Type 0
FindsAgain t u w b x o = (T : Tiered) → RepresentsTiers t T → (slot : Option ℕ) × IsFirst (IsFreeMirror T.flat) slot × ((U : Tiered) × WritesIn T w b x slot o U × RepresentsTiers u U)

pub finds_again : {E : Type 0} (t m u : TiersView) (w b s : ℕ) (x : Content) (r : Result Outcome E) → FirstFree t m (Some s)
    → IfOk r (λ o. (T : Tiered) → RepresentsTiers m T → (U : Tiered) × WritesAt T w b x s o U × RepresentsTiers u U)
    → IfOk r (FindsAgain t u w b x)
finds_again t m u w b s x (Err e) first done = tt
finds_again t m u w b s x (Ok o) first done = λ T matches. let f = first T matches in (Some s, f.0, done T f.1)

pub finds_none : (t m : TiersView) (w b : ℕ) (x : Content) → FirstFree t m None → FindsAgain t m w b x NoRoom
finds_none t m w b x first T matches = let f = first T matches in (None, f.0, (T, record { reported = refl; same = refl }, f.1))

pub writes_following : {E : Type 0} (t m v u : TiersView) (w b : ℕ) (x : Content) (demoted : Outcome) (r : Result Outcome E) → FirstFree t m None
    → ((T : Tiered) → RepresentsTiers m T → (V : Tiered) × DemoteCase T w demoted V × RepresentsTiers v V)
    → IfOk r (FindsAgain v u w b x)
    → IfOk r (λ o. (T : Tiered) → RepresentsTiers t T → (U : Tiered) × WriteCase T w b x o U × RepresentsTiers u U)
writes_following t m v u w b x demoted (Err e) none down again = tt
writes_following t m v u w b x demoted (Ok o) none down again = λ T matches.
    let f = none T matches in
    let d = down T f.1 in
    let a = again d.0 d.2 in (
      a.2.0,
      record {
        slot = None;
        first = f.0;
        done = record { demoted = demoted; between = d.0; down = d.1; slot = a.0; first = a.1; done = a.2.1 };
      },
      a.2.2,
    )

-- a new planner has a place for each block, and marks where there are any to be
pub begins : (v : WorldView) (F : Flat) (p : Planner) (hints holes : List ℕ) → p.ages.order ≡ by_number v.array.parts.groups.blocks → length p.ages.marks ≡ v.array.parts.groups.blocks
    → AreMarked p.ages.marks v.array.parts.groups (key_at v.array) → p.end ≡ at_start
    → ((s : ℕ) → s < 65536 → IsHinted hints s) → ((s : ℕ) → s < 65536 → IsHinted holes s) → Represents v F
    → RepresentsTiers (record { world = v; planner = p; hints = hints; holes = holes }) (begun F)
begins v F p hints holes is long marked start all_hinted all_holes rep =
    let groups : v.array.parts.groups ≡ F.groups = sym rep.array.tables.groups in
    let all : v.array.parts.groups.blocks ≡ F.groups.blocks = ap (λ (z : Groups). z.blocks) groups in record {
      world = rep;
      order = is ∙ ap by_number all;
      long = length-range_with_len 0 F.groups.blocks;
      each = number_there F.groups.blocks;
      end = start;
      marked = long ∙ all;
      marks = subst (λ z. AreMarked p.ages.marks z (key_at v.array)) groups marked;
      hints = λ s free.
          let low = made_low F.groups (s / 128) Mirrored rep.array.history.groups.table.numbers free.0.made in
          all_hinted s (omega arith);
      holes = λ s free.
          let low = made_low F.groups (s / 128) Parity rep.array.history.groups.table.numbers free.0.made in
          all_holes s (omega arith);
    }

-- what a commit says of a world is true with what is noted of its record
pub commits : (t : TiersView) (v : WorldView) (p : Planner) (w s b : ℕ) (r : Record) → b < t.world.array.parts.groups.blocks
    → ((F : Flat) → Represents t.world F → (G : Flat) × Case F (step.Commit w s b) (step.Committed r) G × Represents v G)
    → Notes v.array.parts.groups t.planner p r → length p.ages.order ≡ length t.planner.ages.order → p.end ≡ t.planner.end
    → (T : Tiered) → RepresentsTiers t T → (U : Tiered) × CommitNoted T w s b (step.Committed r) U × RepresentsTiers (record t { world = v; planner = p }) U
commits t v p w s b r inside cases notes long end T matches =
    let c = cases T.flat matches.world in
    let emits = commit_emits T.flat c.0 w s b r matches.world.array.history.records c.1 in (
      record T { flat = c.0; order = order_following T.order b (step.Committed r) (T.flat.tickets s) },
      record { case = c.1; noted = refl; same = refl },
      matches_noted t (record t { world = v; planner = p }) T c.0 b r (order_following T.order b (step.Committed r) (T.flat.tickets s)) notes long end inside matches c.2 emits
          (order_is T.flat c.0 w s b T.order r c.1) (hints_still Mirrored T.flat c.0 t.hints emits.groups (commit_frees T.flat c.0 w s b r c.1) matches.hints)
          (hints_still Parity T.flat c.0 t.holes emits.groups (commit_frees T.flat c.0 w s b r c.1) matches.holes),
    )

-- and where it is refused nothing is noted
pub commits_none : (t : TiersView) (v : WorldView) (w s b : ℕ) (a : Answer) → ((r : Record) → a ≢ answer.Committed r)
    → ((F : Flat) → Represents t.world F → (G : Flat) × Case F (step.Commit w s b) (flat_answer a) G × Represents v G)
    → (T : Tiered) → RepresentsTiers t T → (U : Tiered) × CommitNoted T w s b (flat_answer a) U × RepresentsTiers (record t { world = v }) U
commits_none t v w s b a other cases T matches =
    let c = cases T.flat matches.world in
    let done = go a c.0 other c.1 (commit_is T.flat c.0 w s b a c.1) c.2 in
    (record T { flat = c.0 }, done.0, done.1)
  where
    go : (x : Answer) (G : Flat) → ((r : Record) → x ≢ answer.Committed r) → Case T.flat (step.Commit w s b) (flat_answer x) G → CommitIs T.flat w s b (outcome_of x) G
        → Represents v G → CommitNoted T w s b (flat_answer x) (record T { flat = G }) × RepresentsTiers (record t { world = v }) (record T { flat = G })
    go (answer.Committed r) G other case is rep = absurd (other r refl)
    go (answer.Refused k) G other case is rep =
        (record { case = case; noted = refl; same = refl }, matches_left t v T G matches rep (refused_leaves T.flat G (step.Commit w s b) k case))
    go _ G other case is rep = absurd is

-- after a group that is made
matches_made : (t : TiersView) (v : WorldView) (hints holes : List ℕ) (T : Tiered) (G : Flat) (class : Class) (members : List Member) (g : ℕ) → RepresentsTiers t T → Represents v G
    → group_at T.flat.groups g ≡ None → ((s : ℕ) → s / 128 ≡ g → IsHinted hints s) → ((s : ℕ) → IsHinted t.hints s → IsHinted hints s)
    → ((s : ℕ) → s / 128 ≡ g → IsHinted holes s) → ((s : ℕ) → IsHinted t.holes s → IsHinted holes s)
    → Leaves (made T.flat class members g) G → RepresentsTiers (record t { world = v; hints = hints; holes = holes }) (record T { flat = G })
matches_made t v hints holes T G class members g matches rep free new others new_holes other_holes leaves = record {
  world = rep;
  order = matches.order;
  long = matches.long ∙ sym blocks;
  each = λ b low. matches.each b (subst (λ n. b < n) blocks low);
  end = matches.end;
  marked = matches.marked ∙ sym blocks;
  marks = marked_made T.flat G (key_at t.world.array) (key_at v.array) t.planner.ages.marks g group
      matches.world.array.history rep.array.history.map (ap (λ (x : Flat). x.emitted) leaves.same) groups free matches.marks;
  hints = λ s is. hinted Mirrored t.hints hints new others matches.hints s is (cases_eq (s / 128) g);
  holes = λ s is. hinted Parity t.holes holes new_holes other_holes matches.holes s is (cases_eq (s / 128) g);
}
  where
    group : Option Group
    group = Some (record { class = class; members = members })

    groups : G.groups ≡ with_group T.flat.groups g group
    groups = ap (λ (x : Flat). x.groups) leaves.same

    blocks : G.groups.blocks ≡ T.flat.groups.blocks
    blocks = ap (λ (z : Groups). z.blocks) groups

    same_slot : (kind : Class) (s : ℕ) → (s / 128 ≡ g → ⊥) → IsSlotOf kind G.groups s → IsSlotOf kind T.flat.groups s
    same_slot kind s other is =
        let there : IsSlotOf kind (with_group T.flat.groups g group) s = subst (λ z. IsSlotOf kind z s) groups is in
        let at = group_other T.flat.groups g (s / 128) group other in record {
          made = ap class_in (sym at) ∙ there.made;
          below = subst (λ o. s % 128 < slots_in T.flat.groups.segments o) at there.below;
        }

    hinted : (kind : Class) (was is : List ℕ) → ((s : ℕ) → s / 128 ≡ g → IsHinted is s) → ((s : ℕ) → IsHinted was s → IsHinted is s) → AreHinted kind T.flat was
        → (s : ℕ) → IsSlotOf kind G.groups s × IsUnheld G s → (s / 128 ≡ g) ⊎ (s / 128 ≡ g → ⊥) → IsHinted is s
    hinted kind was is own_slots before all s found (inl own) = own_slots s own
    hinted kind was is own_slots before all s found (inr other) =
        before s (all s (same_slot kind s other found.0, made_frees T.flat G (key_at t.world.array) class members g matches.world.array.history leaves s other found.1))

-- with more hints
more_hints : (t : TiersView) (v : WorldView) (hints holes : List ℕ) (T : Tiered) (G : Flat) → ((s : ℕ) → IsHinted t.hints s → IsHinted hints s)
    → ((s : ℕ) → IsHinted t.holes s → IsHinted holes s)
    → RepresentsTiers (record t { world = v }) (record T { flat = G }) → RepresentsTiers (record t { world = v; hints = hints; holes = holes }) (record T { flat = G })
more_hints t v hints holes T G others other_holes st = record {
  world = st.world;
  order = st.order;
  long = st.long;
  each = st.each;
  end = st.end;
  marked = st.marked;
  marks = st.marks;
  hints = λ s free. others s (st.hints s free);
  holes = λ s free. other_holes s (st.holes s free);
}

pub makes : (t : TiersView) (v : WorldView) (hints holes : List ℕ) (class : Class) (members : List Member) (a : Answer)
    → ((F : Flat) → Represents t.world F → (G : Flat) × Case F (step.Make class members) (flat_answer a) G × Represents v G)
    → ((g s : ℕ) → a ≡ answer.Made g → g < 512 → s / 128 ≡ g → IsHinted hints s) → ((s : ℕ) → IsHinted t.hints s → IsHinted hints s)
    → ((g s : ℕ) → a ≡ answer.Made g → g < 512 → s / 128 ≡ g → IsHinted holes s) → ((s : ℕ) → IsHinted t.holes s → IsHinted holes s)
    → (T : Tiered) → RepresentsTiers t T
    → (U : Tiered) × StepAlone T (step.Make class members) (flat_answer a) U × RepresentsTiers (record t { world = v; hints = hints; holes = holes }) U
makes t v hints holes class members a takes new others new_holes other_holes T matches =
    let done = takes T.flat matches.world in
    (record T { flat = done.0 }, (done.0, done.1, refl), go a done.0 done.2 done.1 new new_holes)
  where
    go : (b : Answer) (G : Flat) → Represents v G → Case T.flat (step.Make class members) (flat_answer b) G
        → ((g s : ℕ) → b ≡ answer.Made g → g < 512 → s / 128 ≡ g → IsHinted hints s) → ((g s : ℕ) → b ≡ answer.Made g → g < 512 → s / 128 ≡ g → IsHinted holes s)
        → RepresentsTiers (record t { world = v; hints = hints; holes = holes }) (record T { flat = G })
    go (answer.Made g) G rep case new new_holes =
        matches_made t v hints holes T G class members g matches rep case.0.2.free (λ s own. new g s refl case.0.2.limit own) others
        (λ s own. new_holes g s refl case.0.2.limit own) other_holes case.2
    go (answer.Refused k) G rep case new new_holes =
        more_hints t v hints holes T G others other_holes (matches_left t v T G matches rep (refused_leaves T.flat G (step.Make class members) k case))
    go _ G rep case new new_holes = absurd case

-- with a group fewer, whose slots the worker had
matches_unmade : (t : TiersView) (v : WorldView) (T : Tiered) (G : Flat) (w g : ℕ) → RepresentsTiers t T → Represents v G → group_at T.flat.groups g ≢ None
    → ((s : ℕ) → IsIn T.flat g s → HasClaim T.flat w s) → Leaves (unmade T.flat w g) G → RepresentsTiers (record t { world = v }) (record T { flat = G })
matches_unmade t v T G w g matches rep made claimed leaves = record {
  world = rep;
  order = matches.order;
  long = matches.long ∙ sym blocks;
  each = λ b low. matches.each b (subst (λ n. b < n) blocks low);
  end = matches.end;
  marked = matches.marked ∙ sym blocks;
  marks = marked_unmade T.flat G (key_at t.world.array) (key_at v.array) t.planner.ages.marks g matches.world.array.history.map rep.array.history
      (ap (λ (x : Flat). x.emitted) leaves.same) groups inside matches.marks;
  hints = λ s is. hinted Mirrored t.hints matches.hints s is (cases_eq (s / 128) g);
  holes = λ s is. hinted Parity t.holes matches.holes s is (cases_eq (s / 128) g);
}
  where
    groups : G.groups ≡ with_group T.flat.groups g None
    groups = ap (λ (x : Flat). x.groups) leaves.same

    blocks : G.groups.blocks ≡ T.flat.groups.blocks
    blocks = ap (λ (z : Groups). z.blocks) groups

    inside : g < length T.flat.groups.table
    inside = number_within T.flat.groups g made

    hinted : (kind : Class) (hints : List ℕ) → AreHinted kind T.flat hints → (s : ℕ) → IsSlotOf kind G.groups s × IsUnheld G s → (s / 128 ≡ g) ⊎ (s / 128 ≡ g → ⊥) → IsHinted hints s
    hinted kind hints all s is (inl own) =
        let there : IsSlotOf kind (with_group T.flat.groups g None) s = subst (λ z. IsSlotOf kind z s) groups is.0 in
        let none : class_in (group_at (with_group T.flat.groups g None) (s / 128)) ≡ None = ap class_in (ap (group_at (with_group T.flat.groups g None)) own ∙ group_same T.flat.groups g None inside) in
        let bad : None ≡ Some kind = sym none ∙ there.made in absurd (cc)
    hinted kind hints all s is (inr other) =
        let there : IsSlotOf kind (with_group T.flat.groups g None) s = subst (λ z. IsSlotOf kind z s) groups is.0 in
        let at = group_other T.flat.groups g (s / 128) None other in
        let was : IsSlotOf kind T.flat.groups s = record {
          made = ap class_in (sym at) ∙ there.made;
          below = subst (λ o. s % 128 < slots_in T.flat.groups.segments o) at there.below;
        } in
        all s (was, unmade_frees T.flat G (key_at t.world.array) w g matches.world.array.history made claimed leaves s other is.1)

unmakes : (t : TiersView) (v : WorldView) (w g : ℕ) (a : Answer)
    → ((F : Flat) → Represents t.world F → (G : Flat) × Case F (step.Unmake w g) (flat_answer a) G × Represents v G)
    → (T : Tiered) → RepresentsTiers t T → (U : Tiered) × StepAlone T (step.Unmake w g) (flat_answer a) U × RepresentsTiers (record t { world = v }) U
unmakes t v w g a takes T matches =
    let done = takes T.flat matches.world in
    (record T { flat = done.0 }, (done.0, done.1, refl), go a done.0 done.2 done.1)
  where
    go : (b : Answer) (G : Flat) → Represents v G → Case T.flat (step.Unmake w g) (flat_answer b) G → RepresentsTiers (record t { world = v }) (record T { flat = G })
    go (answer.Unmade h) G rep case = matches_unmade t v T G w g matches rep case.1 case.2 case.3
    go (answer.Refused k) G rep case = matches_left t v T G matches rep (refused_leaves T.flat G (step.Unmake w g) k case)
    go _ G rep case = absurd case

pub unmade_if : {E : Type 0} (t : TiersView) (v : WorldView) (w g : ℕ) (r : Result Answer E)
    → IfOk r (λ a. (F : Flat) → Represents t.world F → (G : Flat) × Case F (step.Unmake w g) (flat_answer a) G × Represents v G)
    → IfOk r (λ a. (T : Tiered) → RepresentsTiers t T → (U : Tiered) × StepAlone T (step.Unmake w g) (flat_answer a) U × RepresentsTiers (record t { world = v }) U)
unmade_if t v w g (Ok a) takes = unmakes t v w g a takes
unmade_if t v w g (Err e) takes = tt

pub matches_with : (t : TiersView) (v : WorldView) (T : Tiered) (G : Flat) (taken : FlatStep) (answer : FlatAnswer) → IsCalm taken → RepresentsTiers t T → Represents v G
    → Case T.flat taken answer G → RepresentsTiers (record t { world = v }) (record T { flat = G })
matches_with t v T G taken answer calm matches rep case =
    stands_alike t v T G matches rep (calm_alike T.flat G taken answer calm case) (step_frees T.flat G taken answer calm case)

-- after a release
pub releases : (t : TiersView) (v : WorldView) (hints holes : List ℕ) (w slot : ℕ) (a : Answer)
    → ((F : Flat) → Represents t.world F → (G : Flat) × Case F (step.Release w slot) (flat_answer a) G × Represents v G)
    → IsHinted hints slot → ((s : ℕ) → IsHinted t.hints s → IsHinted hints s) → IsHinted holes slot → ((s : ℕ) → IsHinted t.holes s → IsHinted holes s)
    → (T : Tiered) → RepresentsTiers t T → (U : Tiered) × StepAlone T (step.Release w slot) (flat_answer a) U × RepresentsTiers (record t { world = v; hints = hints; holes = holes }) U
releases t v hints holes w slot a takes new others new_hole other_holes T matches =
    let done = takes T.flat matches.world in
    (record T { flat = done.0 }, (done.0, done.1, refl), go a done.0 done.2 done.1)
  where
    go : (b : Answer) (G : Flat) → Represents v G → Case T.flat (step.Release w slot) (flat_answer b) G
        → RepresentsTiers (record t { world = v; hints = hints; holes = holes }) (record T { flat = G })
    go (answer.Released s) G rep case =
        let alike = alike_released T.flat G w slot s case in
        let blocks : G.groups.blocks ≡ T.flat.groups.blocks = ap (λ (z : Groups). z.blocks) alike.groups in record {
          world = rep;
          order = matches.order;
          long = matches.long ∙ sym blocks;
          each = λ b low. matches.each b (subst (λ n. b < n) blocks low);
          end = matches.end;
          marked = matches.marked ∙ sym blocks;
          marks = marked_alike T.flat G (key_at t.world.array) (key_at v.array) t.planner.ages.marks matches.world.array.history.map rep.array.history.map alike matches.marks;
          hints = hints_keep Mirrored T.flat G t.hints hints (λ n. n ≡ slot) alike.groups (release_frees T.flat G w slot s case)
              (λ n same. subst (IsHinted hints) (sym same) new) others matches.hints;
          holes = hints_keep Parity T.flat G t.holes holes (λ n. n ≡ slot) alike.groups (release_frees T.flat G w slot s case)
              (λ n same. subst (IsHinted holes) (sym same) new_hole) other_holes matches.holes;
        }
    go (answer.NotHeld s) G rep case = more_hints t v hints holes T G others other_holes (matches_left t v T G matches rep case.2)
    go _ G rep case = absurd case

-- the lowest free slot of the groups of a class is the lowest of those that are hinted
module _ (class : Class) (t : TiersView) (hints : List ℕ) (T : Tiered) (matches : RepresentsTiers t T) (all : AreHinted class T.flat hints) where
  -- as the tables show it
  abbrev pub Found : ℕ → Type 0
  Found s = IsSlotOf class t.world.array.parts.groups s × IsFreeHere t.world s

  hinted_free : (s : ℕ) → (IsHinted hints s × Found s) ↔ (IsSlotOf class T.flat.groups s × IsUnheld T.flat s)
  hinted_free s = (to, from)
    where
      groups : T.flat.groups ≡ t.world.array.parts.groups
      groups = groups_of t T matches

      to : IsHinted hints s × Found s → IsSlotOf class T.flat.groups s × IsUnheld T.flat s
      to h = (subst (λ z. IsSlotOf class z s) (sym groups) h.1.0, (free_iff t.world T.flat s matches.world).0 h.1.1)

      from : IsSlotOf class T.flat.groups s × IsUnheld T.flat s → IsHinted hints s × Found s
      from h = (all s h, (subst (λ z. IsSlotOf class z s) groups h.0, (free_iff t.world T.flat s matches.world).1 h.1))

  pub first_hinted : (slot : Option ℕ) → IsFirst (λ s. IsHinted hints s × Found s) slot → IsFirst (λ s. IsSlotOf class T.flat.groups s × IsUnheld T.flat s) slot
  first_hinted slot first = first_as (λ s. IsHinted hints s × Found s) (λ s. IsSlotOf class T.flat.groups s × IsUnheld T.flat s) slot hinted_free first

  pub still_hinted : (is : List ℕ) → ((s : ℕ) → IsHinted hints s → Found s → IsHinted is s) → AreHinted class T.flat is
  still_hinted is keeps s free = let h = (hinted_free s).1 free in keeps s h.0 h.1

-- what was found is free
pub found_free : (P A B : ℕ → Type 0) (slot : Option ℕ) → IsFirst (λ s. P s × (A s × B s)) slot → IfSome slot (λ s. A s × B s)
found_free P A B None first = tt
found_free P A B (Some s) first = first.holds.1

-- so is a slot where the log goes on
pub append_free : (end : End) (groups : Groups) (keys : ℕ → ℕ) (P : ℕ → Type 0) (s : ℕ) → IsFirstAppend end groups keys P (Some s) → P s
append_free end groups keys P s (inl following) = following.holds.1
append_free end groups keys P s (inr fresh) = fresh.1.holds.1

pub finds_free : (t : TiersView) (hints : List ℕ) (slot : Option ℕ)
    → IsFirst (λ s. IsHinted t.hints s × (IsSlotOf Mirrored t.world.array.parts.groups s × IsFreeHere t.world s)) slot
    → ((s : ℕ) → IsHinted t.hints s → IsSlotOf Mirrored t.world.array.parts.groups s × IsFreeHere t.world s → IsHinted hints s)
    → (T : Tiered) → RepresentsTiers t T → IsFirst (IsFreeMirror T.flat) slot × RepresentsTiers (record t { hints = hints }) T
finds_free t hints slot first keeps T matches = (
  first_hinted Mirrored t t.hints T matches matches.hints slot first,
  record {
    world = matches.world;
    order = matches.order;
    long = matches.long;
    each = matches.each;
    end = matches.end;
    marked = matches.marked;
    marks = matches.marks;
    hints = still_hinted Mirrored t t.hints T matches matches.hints hints keeps;
    holes = matches.holes;
  },
)

pub finds_hole : (t : TiersView) (holes : List ℕ) (slot : Option ℕ)
    → IsFirst (λ s. IsHinted t.holes s × (IsSlotOf Parity t.world.array.parts.groups s × IsFreeHere t.world s)) slot
    → ((s : ℕ) → IsHinted t.holes s → IsSlotOf Parity t.world.array.parts.groups s × IsFreeHere t.world s → IsHinted holes s)
    → (T : Tiered) → RepresentsTiers t T → IsFirst (IsFreeHole T.flat) slot × RepresentsTiers (record t { holes = holes }) T
finds_hole t holes slot first keeps T matches = (
  first_hinted Parity t t.holes T matches matches.holes slot first,
  record {
    world = matches.world;
    order = matches.order;
    long = matches.long;
    each = matches.each;
    end = matches.end;
    marked = matches.marked;
    marks = matches.marks;
    hints = matches.hints;
    holes = still_hinted Parity t t.holes T matches matches.holes holes keeps;
  },
)
