-- What a call under the lock leaves shows a flat state again.
use Rattle.std.proofs.Common.{◌≡◌, ◌≢◌, ◌<◌, ◌≤◌, ℕ, Bool, true, List, ◌∷◌, [], ◌++◌, length, slice_index, slice_set, refl, sym, ap, ◌∙◌, subst, arith, Option, Some, None, Result, Ok, Err, IfOk, IfErr, Contains}
use Rattle.std.specs.Prelude.{MatchResult}
use Rattle.std.proofs.lemmas.List.{length-set}
use Rattle.std.proofs.lemmas.List.Elements.{Contains-push}
use Rattle.map_join.specs.declared.records.Record.{Record}
use Rattle.map_join.specs.Record.{key_of}
use Rattle.extent_groups.specs.Groups.{Groups}
use Rattle.flat_machine.specs.declared.refusal.Refusal.{Refusal}
use Rattle.flat_machine.specs.declared.refusal.Refusal.TheVariants.{InUse}
use Rattle.flat_machine.specs.Flat.{Flat, Content, Ticket, Waiting, IsArrayHeld}
use Rattle.flat_machine.specs.Steps.{Seen, Data, Stale}
use Rattle.flat_machine.specs.Steps as say
use Rattle.flat_machine.specs.Learning.{LearnedCase, UnlearnedCase}
use Rattle.flat_machine.specs.Cases.{IsNotAhead, IsLearned, CommitCase, DiscardCase}
use Rattle.slot_tables.specs.Changes.{MayRefuse, discard_view}
use Rattle.slot_tables.specs.Represents.{ShowsArray}
use Rattle.slot_tables.specs.Views.{ArrayView, IsWhole, key_at, with_parts}
use Rattle.migrator.specs.Ages.{Marked}
use Rattle.migrator.specs.Slots.{class_of_record}
use Rattle.tiered_array.specs.Marking.{AreMarked, IsCommitNoted, is_mirrors}
use Rattle.tiered_array.specs.declared.planner.Planner.{Planner}
use Rattle.tiered_array.proofs.Emitting.{HasEmitted, alike_left, commit_emits}
use Rattle.tiered_array.proofs.Marks.{marked_emitted}
use Rattle.map_join.specs.Maps.{IsMapOf}
use Rattle.step_core.specs.Headline.{slot_bytes}
use Rattle.step_core.proofs.Standing.{headers_report, one_scan}
use Rattle.step_core.specs.Refused.{IsRefused}
use Rattle.step_core.specs.Reported.{Lesson}
use Rattle.step_core.specs.Placing.{IsStill, Put, Fresh, Again, PutReports, put_step}
use Rattle.step_core.proofs.Placing.{refused_still}
use Rattle.flat_machine.specs.Cases.{Case}
use Rattle.flat_machine.specs.History.{IsHistory}
use Rattle.array_book.specs.Kept as book
use Rattle.array_book.specs.Kept.{KeptView}

-- an array that is another's equal is as still
pub still_of : (a b c : ArrayView) → b ≡ a → IsStill b c → IsStill a c
still_of a b c same is = subst (λ (x : ArrayView). IsStill x c) same is

-- with another array that shows a state, of the same groups and keys, what is kept holds
pub kept_with : (blocks payload : ℕ) (k l : KeptView) → book.IsKept blocks payload k → IsStill k.array l.array → l.planner ≡ k.planner
    → (G : Flat) × ShowsArray l.array G → book.IsKept blocks payload l
kept_with blocks payload k l is still planner shown = record {
  flat = shown.0;
  shows = shown.1;
  blocks = ap (λ (z : Groups). z.blocks) still.groups ∙ is.blocks;
  payload = ap (λ (z : Groups). z.payload) still.groups ∙ is.payload;
  order = ap (λ (p : Planner). length p.ages.order) planner ∙ is.order;
  long = ap (λ (p : Planner). length p.ages.marks) planner ∙ is.long;
  marked = subst (λ (p : Planner). AreMarked p.ages.marks l.array.parts.groups (key_at l.array)) (sym planner)
      (subst (λ (z : Groups). AreMarked k.planner.ages.marks z (key_at l.array)) (sym still.groups)
      (subst (λ (ks : List ℕ). AreMarked k.planner.ages.marks k.array.parts.groups (λ b. slice_index ks b)) (sym still.keys) is.marked));
}

-- a commit is noted: the order has a place for its block
pub noted_then : (blocks payload : ℕ) (k : KeptView) (groups : Groups) (after : Marked) (w s b : ℕ) (r : Record) → book.IsKept blocks payload k → (M G : Flat) (keys : ℕ → ℕ) → IsHistory M keys → b < blocks
    → CommitCase M w s b (say.Committed r) G → (r.block < length k.planner.ages.order → IsCommitNoted groups k.planner.ages after r) → IsCommitNoted groups k.planner.ages after r
noted_then blocks payload k groups after w s b r is M G keys history low case noted =
    let emits = commit_emits M G w s b r history.records case in
    let block : r.block ≡ b = emits.newest.1 in
    let order : length k.planner.ages.order ≡ blocks = is.order in
    noted (omega (arith, block, order, low))

pub noted_of : (blocks payload : ℕ) (k : KeptView) (groups : Groups) (after : Marked) (w s b : ℕ) (r : Record) (is : book.IsKept blocks payload k) (G : Flat) → b < blocks
    → CommitCase is.flat w s b (say.Committed r) G → (r.block < length k.planner.ages.order → IsCommitNoted groups k.planner.ages after r) → IsCommitNoted groups k.planner.ages after r
noted_of blocks payload k groups after w s b r is G low case noted = noted_then blocks payload k groups after w s b r is is.flat G (key_at k.array) is.shows.history low case noted

-- with an array that committed a record, which is noted, it holds too; from a state with the array's keys, whether it shows that or not
pub kept_then : (blocks payload : ℕ) (k l : KeptView) (w s b : ℕ) (r : Record) → book.IsKept blocks payload k → (M : Flat) → IsHistory M (key_at k.array) → M.groups ≡ k.array.parts.groups → b < blocks
    → l.array.parts.groups ≡ k.array.parts.groups → length l.planner.ages.order ≡ length k.planner.ages.order
    → (r.block < length k.planner.ages.order → IsCommitNoted l.array.parts.groups k.planner.ages l.planner.ages r)
    → (G : Flat) × CommitCase M w s b (say.Committed r) G × ShowsArray l.array G → book.IsKept blocks payload l
kept_then blocks payload k l w s b r is M history groups low same order noted shown = record {
  flat = shown.0;
  shows = shown.2;
  blocks = ap (λ (z : Groups). z.blocks) same ∙ is.blocks;
  payload = ap (λ (z : Groups). z.payload) same ∙ is.payload;
  order = order ∙ is.order;
  long = ap length marks ∙ length-set k.planner.ages.marks r.block (is_mirrors (class_of_record l.array.parts.groups (Some r))) ∙ is.long;
  marked = subst (λ (ms : List Bool). AreMarked ms l.array.parts.groups (key_at l.array)) (sym marks)
      (subst (λ (n : ℕ). AreMarked (slice_set k.planner.ages.marks n (is_mirrors (class_of_record l.array.parts.groups (Some r)))) l.array.parts.groups (key_at l.array)) (sym emits.newest.1)
      (subst (λ (z : Groups). AreMarked (slice_set k.planner.ages.marks b (is_mirrors (class_of_record z (Some r)))) z (key_at l.array)) shown.2.tables.groups
      (marked_emitted M shown.0 (key_at k.array) (key_at l.array) k.planner.ages.marks b r shown.2.history.records (let long = is.long in omega (arith, long, low))
      history.map shown.2.history.map emits (subst (λ (z : Groups). AreMarked k.planner.ages.marks z (key_at k.array)) (sym groups) is.marked))));
}
  where
    emits : HasEmitted M shown.0 b r
    emits = commit_emits M shown.0 w s b r history.records shown.1

    marks : l.planner.ages.marks ≡ slice_set k.planner.ages.marks r.block (is_mirrors (class_of_record l.array.parts.groups (Some r)))
    marks = (noted_then blocks payload k l.array.parts.groups l.planner.ages w s b r is M shown.0 (key_at k.array) history low shown.1 noted).1

pub kept_committed : (blocks payload : ℕ) (k l : KeptView) (w s b : ℕ) (r : Record) (is : book.IsKept blocks payload k) → b < blocks
    → l.array.parts.groups ≡ k.array.parts.groups → length l.planner.ages.order ≡ length k.planner.ages.order
    → (r.block < length k.planner.ages.order → IsCommitNoted l.array.parts.groups k.planner.ages l.planner.ages r)
    → (G : Flat) × CommitCase is.flat w s b (say.Committed r) G × ShowsArray l.array G → book.IsKept blocks payload l
kept_committed blocks payload k l w s b r is low same order noted shown =
    kept_then blocks payload k l w s b r is is.flat is.shows.history is.shows.tables.groups low same order noted shown

-- a worker whose ticket it is, where there is one
pub ticket_of_some : (F : Flat) (a : ArrayView) (s : ℕ) → ShowsArray a F → (w : ℕ) × (F.tickets s ≢ None → F.held s (Ticket w) ≡ true)
ticket_of_some F a s shows = go (F.tickets s) refl
  where
    go : (t : Option Waiting) → F.tickets s ≡ t → (w : ℕ) × (F.tickets s ≢ None → F.held s (Ticket w) ≡ true)
    go None e = (0, λ some. absurd (some e))
    go (Some c) e = let t = (shows.history.holders s).waits c e in (t.0, λ some. t.1)

-- the record of a commit has a version
pub emitted_written : (b : ArrayView) (G : Flat) (log : List Record) (r : Record) → ShowsArray b G → b.log ≡ log ++ r ∷ [] → 0 < r.version
emitted_written b G log r shows is = (shows.history.records r (subst (λ (l : List Record). Contains l r) (sym (shows.tables.log ∙ is)) (Contains-push log r))).written

-- what is learned is of the block that was asked for, and isn't below what was asked
pub learned_above : (F G : Flat) (asked reported : Record) (content : Content) → LearnedCase F asked reported content G
    → (reported.block ≡ asked.block) × (key_of asked ≤ key_of reported)
learned_above F G asked reported content case = go case.2.0 case.2.2
  where
    go : (seen : Seen) → IsLearned F asked seen reported content → (reported.block ≡ asked.block) × (key_of asked ≤ key_of reported)
    go (Data x) learned = (ap (λ (r : Record). r.block) learned.0, let same = ap key_of learned.0 in omega arith)
    go (Stale found) learned =
        let following = case.0 in
        let most = learned.0.2 following.0 following.1.0 following.1.1 in
        let below = following.2 in (learned.0.1, omega arith)

-- and has a version, if that has one
pub learned_written : (a : ArrayView) (F G : Flat) (asked reported : Record) (content : Content) → ShowsArray a F → LearnedCase F asked reported content G
    → 0 < asked.version → 0 < reported.version
learned_written a F G asked reported content shows case written = go case.2.0 case.2.2
  where
    go : (seen : Seen) → IsLearned F asked seen reported content → 0 < reported.version
    go (Data x) learned = subst (λ (r : Record). 0 < r.version) (sym learned.0) written
    go (Stale found) learned = (shows.history.records reported learned.0.0).written

-- a slot of which the array keeps nothing isn't in use
in_use : (F : Flat) (w s : ℕ) (what : Put) (block : ℕ) (b : ArrayView) → (G : Flat) × Case F (put_step what w s block) (say.Refused InUse) G × ShowsArray b G → IsArrayHeld F s
in_use F w s (Fresh x) block b y = y.1.2
in_use F w s Again block b y = y.1.2

pub put_not_used : {C : Type 0} (r : Result ℕ (Refusal × C)) (claim : C) (a b : ArrayView) (F : Flat) (w s : ℕ) (what : Put) (block : ℕ) → (IsArrayHeld F s → ⊥)
    → IfErr r (λ e. (e.1 ≡ claim) × IsRefused a b e.0) → PutReports r F w what s block b → IfErr r (λ e. (e.1 ≡ claim) × (e.0 ≢ InUse) × IsRefused a b e.0)
put_not_used (Ok t) claim a b F w s what block none err reports = tt
put_not_used (Err e) claim a b F w s what block none err reports = (
  err.0,
  λ is. none (in_use F w s what block b (subst (λ (q : Refusal). MayRefuse q (Unit {0}) ((G : Flat) × Case F (put_step what w s block) (say.Refused q) G × ShowsArray b G)) is reports)),
  err.1,
)

abbrev pub DiscardReports : {C : Type 0} → Result C (Refusal × ℕ) → Flat → ℕ → ArrayView → ℕ → Type 0
DiscardReports r F w b s = MatchResult r
    (λ t. (G : Flat) × DiscardCase F w s (say.Discarded s) G × ShowsArray b G)
    (λ e. DiscardCase F w s (say.Refused e.0) F)

pub discard_still : {C : Type 0} (A : C → Type 0) (E D : Refusal × ℕ → Type 0) (r : Result C (Refusal × ℕ)) (a b : ArrayView) (s : ℕ)
    → IfOk r (λ t. A t × (b ≡ discard_view a s)) → IfErr r (λ e. E e × D e × (b ≡ a)) → IsStill a b
discard_still A E D (Ok t) a b s ok err = record { groups = ap (λ (x : ArrayView). x.parts.groups) ok.1; keys = ap (λ (x : ArrayView). x.keys) ok.1 }
discard_still A E D (Err e) a b s ok err = record { groups = ap (λ (x : ArrayView). x.parts.groups) err.2; keys = ap (λ (x : ArrayView). x.keys) err.2 }

abbrev pub LearnReports : Result Lesson Refusal → Flat → Record → ArrayView → Type 0
LearnReports r F asked b = MatchResult r
    (λ l. (G : Flat) × LearnedCase F asked l.reported l.content G × ShowsArray b G)
    (λ q. MayRefuse q (IsNotAhead F asked) ((G : Flat) × UnlearnedCase F asked q G × ShowsArray b G))

pub learn_still : (r : Result Lesson Refusal) (a b : ArrayView) (F : Flat) (asked : Record) → b ≡ with_parts a b.parts → ShowsArray a F
    → IfErr r (IsRefused a b) → LearnReports r F asked b → IsStill a b
learn_still (Ok l) a b F asked rest shows err reports = record {
  groups = sym reports.2.tables.groups ∙ (alike_left F reports.0 reports.1.4).groups ∙ shows.tables.groups;
  keys = ap (λ (x : ArrayView). x.keys) rest;
}
learn_still (Err q) a b F asked rest shows err reports = refused_still a b q err

-- what was learned of a record
pub learned_reported : (r : Result Lesson Refusal) (a b : ArrayView) (F : Flat) (asked : Record) (E : Refusal → Type 0) → ShowsArray a F
    → MatchResult r (λ l. (G : Flat) × LearnedCase F asked l.reported l.content G × ShowsArray b G) E
    → IfOk r (λ l. (l.reported.block ≡ asked.block) × (key_of asked ≤ key_of l.reported))
learned_reported (Ok l) a b F asked E shows reports = learned_above F reports.0 asked l.reported l.content reports.1
learned_reported (Err e) a b F asked E shows reports = tt

pub learned_version : (r : Result Lesson Refusal) (a b : ArrayView) (F : Flat) (asked : Record) (E : Refusal → Type 0) → ShowsArray a F
    → MatchResult r (λ l. (G : Flat) × LearnedCase F asked l.reported l.content G × ShowsArray b G) E
    → IfOk r (λ l. 0 < asked.version → 0 < l.reported.version)
learned_version (Ok l) a b F asked E shows reports = learned_written a F reports.0 asked l.reported l.content shows reports.1
learned_version (Err e) a b F asked E shows reports = tt

-- the map of an array that shows a state
pub agrees_with : (a : ArrayView) (F : Flat) → IsWhole a → ShowsArray a F → book.Agrees a
agrees_with a F whole shows = record {
  map = subst (λ (l : List Record). IsMapOf l (key_at a)) shows.tables.log shows.history.map;
  headers = λ here. headers_report a F whole shows here;
  scanned = λ here M is. one_scan (slot_bytes a.parts) M (key_at a) is (headers_report a F whole shows here);
}

-- what holds of the claim and the array that a call was given holds of equal ones
pub err_as : {T C : Type 0} (r : Result T (Refusal × C)) (one other : C) (a o b : ArrayView) → one ≡ other → a ≡ o
    → IfErr r (λ e. (e.1 ≡ one) × (e.0 ≢ InUse) × IsRefused a b e.0) → IfErr r (λ e. (e.1 ≡ other) × (e.0 ≢ InUse) × IsRefused o b e.0)
err_as (Ok t) one other a o b same is reported = tt
err_as (Err e) one other a o b same is reported = (reported.0 ∙ same, reported.1, subst (λ (v : ArrayView). IsRefused v b e.0) is reported.2)
