-- A history is one run of the flat machine, and what that run emits and writes.
use Rattle.std.proofs.Common.{◌≡◌, ◌⊎◌, ℕ, ◌==◌, if◌then◌else◌, Bool, true, false, true≢false, List, [], ◌∷◌, ◌++◌, append_assoc, refl, sym, ap, ◌∙◌, subst, inl, inr, arith, Option, Some, None}
use Rattle.std.proofs.lemmas.List.{append-nil}
use Rattle.std.proofs.lemmas.Option.{same_Some}
use Rattle.map_join.specs.declared.records.Record.{Record}
use Rattle.map_join.specs.Maps.{IsMapOf}
use Rattle.flat_machine.specs.declared.refusal.Refusal.{Refusal}
use Rattle.flat_machine.specs.declared.refusal.Refusal.TheVariants.{Gone, Ahead}
use Rattle.flat_machine.specs.Flat.{Flat, Content, Write, Waiting, Fresh, Moved, put, or_else, last_write, IsNewest}
use Rattle.flat_machine.specs.Steps.{FlatStep, Claim, Release, Fill, Copy, Commit, Discard, Read, ReadAt, Make, Unmake, MoveExtent, AddDrive, Lose, Seen, Data, Stale, FlatAnswer, Claimed, Taken, Released, NotHeld, Filled, Copied, Committed, Discarded, Found, FoundAt, MadeGroup, UnmadeGroup, MovedExtent, AddedDrive, LostDrive, Refused}
use Rattle.flat_machine.specs.Cases.{Case, Leaves, Runs, CommitWith, IsGoneIn, IsSeen, IsLearned, found_in, found_of}
use Rattle.flat_machine.specs.History.{IsHistory}
use Rattle.flat_machine.specs.Learning.{LearnedCase, UnlearnedCase, IsStale}
use Rattle.flat_machine.proofs.Keeps.{same_leaves, itself, last_version_is}
use Rattle.flat_machine.proofs.Newest.{newest_unique}
use Rattle.flat_machine.proofs.Pairs.{equal, equal_back}
use Rattle.flat_machine.proofs.Writes.{last_here, last_else}
use Rattle.step_core.proofs.Worlds.{refused_leaves}
use Rattle.slot_tables.specs.Views.{ArrayView, key_at}
use Rattle.history.specs.declared.view.Entry.{Entry}
use Rattle.array_book.specs.Acts.{Act, Opens, Steps, Learns, Fails, Leads, HasHistory, Replays, IsEndOf}
use Rattle.array_book.specs.OneRun.{AreStepsOf, AreStepsIn, committed_record, committed_in, fresh_of, written_content, waiting_in, contents_of, waits_after, holds_after, holds_in, HasSameContents, IsOneRun}

-- what a step with its answer does to the records, to what waits, and to what blocks hold
record Reports (F : Flat) (step : FlatStep) (answer : FlatAnswer) (G : Flat) : Type 0 where
  records : G.emitted ≡ F.emitted ++ committed_record answer
  waits : waiting_in G ≡ waits_after step answer (waiting_in F)
  holds : contents_of G ≡ holds_after step answer (waiting_in F) (contents_of F)

-- a table with one place changed, seen through a function
branch : {X Y : Type 0} (g : X → Y) (b : Bool) (x y : X) → g (if b then x else y) ≡ (if b then g x else g y)
branch g true x y = refl
branch g false x y = refl

put_through : {X Y : Type 0} (g : X → Y) (f : ℕ → X) (s : ℕ) (x : X) → (λ t. g (put f s x t)) ≡ put (λ t. g (f t)) s (g x)
put_through g f s x = λ i t. branch g (t == s) x (f t) i

-- a table whose place gets what it has
put_again : {X : Type 0} (f : ℕ → X) (s : ℕ) → put f s (f s) ≡ f
put_again {X} f s = λ i t. at t (t == s) refl i
  where
    at : (t : ℕ) (b : Bool) → (t == s) ≡ b → (if b then f s else f t) ≡ f t
    at t true e = ap f (sym (equal_back t s e))
    at t false e = refl

-- a write more is what its block holds
write_holds : (ws : List Write) (b v : ℕ) (x : Content)
    → (λ d. written_content (last_write (ws ++ record { block = b; version = v; content = x } ∷ []) d)) ≡ put (λ d. written_content (last_write ws d)) b (Some x)
write_holds ws b v x = λ i d. at d (d == b) refl i
  where
    new : Write
    new = record { block = b; version = v; content = x }

    at : (d : ℕ) (c : Bool) → (d == b) ≡ c → written_content (last_write (ws ++ new ∷ []) d) ≡ (if c then Some x else written_content (last_write ws d))
    at d true e = ap (λ n. written_content (last_write (ws ++ new ∷ []) n)) (equal_back d b e) ∙ ap written_content (last_here ws new)
    at d false e = ap written_content (last_else ws new d (λ same. true≢false (sym (equal d b same) ∙ e)))

abbrev waits_at : (ℕ → Option Waiting) → ℕ → Option Content
waits_at tickets s = fresh_of (tickets s)

abbrev written_at : List Write → ℕ → Option Content
written_at ws b = written_content (last_write ws b)

-- a step that leaves the log, what waits, and what was written
reports : (F X G : Flat) (step : FlatStep) (answer : FlatAnswer) → Leaves X G → X.emitted ≡ F.emitted → X.tickets ≡ F.tickets → X.writes ≡ F.writes
    → committed_record answer ≡ [] → waits_after step answer (waiting_in F) ≡ waiting_in F → holds_after step answer (waiting_in F) (contents_of F) ≡ contents_of F
    → Reports F step answer G
reports F X G step answer l emitted tickets writes none waits holds = record {
  records = ap (λ (z : Flat). z.emitted) l.same ∙ emitted ∙ sym (append-nil F.emitted) ∙ ap (λ rs. F.emitted ++ rs) (sym none);
  waits = ap waiting_in l.same ∙ ap waits_at tickets ∙ sym waits;
  holds = ap contents_of l.same ∙ ap written_at writes ∙ sym holds;
}

refused_waits : (step : FlatStep) (r : Refusal) (f : ℕ → Option Content) → waits_after step (Refused r) f ≡ f
refused_waits (Fill w s x) r f = refl
refused_waits (Copy w s b) r f = refl
refused_waits (Commit w s b) r f = refl
refused_waits (Discard w s) r f = refl
refused_waits _ r f = refl

refused_holds : (step : FlatStep) (r : Refusal) (f h : ℕ → Option Content) → holds_after step (Refused r) f h ≡ h
refused_holds (Commit w s b) r f h = refl
refused_holds _ r f h = refl

-- an answer that is no refusal
abbrev IsNoRefusal : FlatAnswer → Type 0
IsNoRefusal (Refused r) = ⊥
IsNoRefusal _ = Unit {0}

commit_reports : (F G : Flat) (w s b : ℕ) (found : Option Record) (t : Option Waiting) (answer : FlatAnswer) → IsNoRefusal answer → F.tickets s ≡ t → CommitWith F w s b found t answer G
    → Reports F (Commit w s b) answer G
commit_reports F G w s b found t (Refused r) none at c = absurd none
commit_reports F G w s b found (Some (Fresh x)) (Committed r) none at c =
    let is : waiting_in F s ≡ Some x = ap fresh_of at in
    record {
      records = ap (λ (z : Flat). z.emitted) c.4.same;
      waits = ap waiting_in c.4.same ∙ put_through fresh_of F.tickets s None;
      holds = ap contents_of c.4.same ∙ write_holds F.writes b _ x
          ∙ ap (λ o. put (contents_of F) b (or_else o (contents_of F b))) (sym is);
    }
commit_reports F G w s b found (Some (Moved d v h x)) (Committed r) none at c =
    let is : waiting_in F s ≡ None = ap fresh_of at in
    record {
      records = ap (λ (z : Flat). z.emitted) c.4.same;
      waits = ap waiting_in c.4.same ∙ put_through fresh_of F.tickets s None;
      holds = ap contents_of c.4.same ∙ sym (put_again (contents_of F) b)
          ∙ ap (λ o. put (contents_of F) b (or_else o (contents_of F b))) (sym is);
    }
commit_reports F G w s b found None _ none at c = absurd c
commit_reports F G w s b found (Some (Fresh x)) _ none at c = absurd c
commit_reports F G w s b found (Some (Moved d v h x)) _ none at c = absurd c

step_reports : (F G : Flat) (step : FlatStep) (answer : FlatAnswer) → Case F step answer G → Reports F step answer G
step_reports F G (Claim w s) (Claimed t) case = reports F _ G (Claim w s) (Claimed t) case.2 refl refl refl refl refl refl
step_reports F G (Claim w s) (Taken t) case = reports F F G (Claim w s) (Taken t) case.2 refl refl refl refl refl refl
step_reports F G (Release w s) (Released t) case = reports F _ G (Release w s) (Released t) case.2 refl refl refl refl refl refl
step_reports F G (Release w s) (NotHeld t) case = reports F F G (Release w s) (NotHeld t) case.2 refl refl refl refl refl refl
step_reports F G (Fill w s x) (NotHeld t) case = reports F F G (Fill w s x) (NotHeld t) case.2 refl refl refl refl refl refl
step_reports F G (Fill w s x) (Filled t) case = record {
  records = ap (λ (z : Flat). z.emitted) case.3.same ∙ sym (append-nil F.emitted);
  waits = ap waiting_in case.3.same ∙ put_through fresh_of F.tickets s (Some (Fresh x));
  holds = ap contents_of case.3.same;
}
step_reports F G (Copy w s b) (NotHeld t) case = reports F F G (Copy w s b) (NotHeld t) case.2 refl refl refl refl refl refl
step_reports F G (Copy w s b) (Copied t) case = record {
  records = ap (λ (z : Flat). z.emitted) case.1.6.same ∙ sym (append-nil F.emitted);
  waits = ap waiting_in case.1.6.same ∙ put_through fresh_of F.tickets s _;
  holds = ap contents_of case.1.6.same;
}
step_reports F G (Discard w s) (Discarded t) case = record {
  records = ap (λ (z : Flat). z.emitted) case.2.same ∙ sym (append-nil F.emitted);
  waits = ap waiting_in case.2.same ∙ put_through fresh_of F.tickets s None;
  holds = ap contents_of case.2.same;
}
step_reports F G (Read b) (Found found) case = reports F F G (Read b) (Found found) case.2 refl refl refl refl refl refl
step_reports F G (ReadAt r) (FoundAt seen) case = reports F F G (ReadAt r) (FoundAt seen) case.3 refl refl refl refl refl refl
step_reports F G (Make class members) (MadeGroup g) case = reports F _ G (Make class members) (MadeGroup g) case.2 refl refl refl refl refl refl
step_reports F G (Unmake w g) (UnmadeGroup h) case = reports F _ G (Unmake w g) (UnmadeGroup h) case.3 refl refl refl refl refl refl
step_reports F G (MoveExtent g k to) MovedExtent case = reports F _ G (MoveExtent g k to) MovedExtent case.3 refl refl refl refl refl refl
step_reports F G AddDrive (AddedDrive d) case = reports F _ G AddDrive (AddedDrive d) (same_leaves _ G case.2) refl refl refl refl refl refl
step_reports F G (Lose d) (LostDrive e) case = reports F _ G (Lose d) (LostDrive e) case.2 refl refl refl refl refl refl
step_reports F G step (Refused r) case =
    reports F F G step (Refused r) (refused_leaves F G step r case) refl refl refl refl (refused_waits step r (waiting_in F)) (refused_holds step r (waiting_in F) (contents_of F))
step_reports F G (Commit w s b) answer case = commit_reports F G w s b case.2.0 (F.tickets s) answer tt refl case.2.2
step_reports F G _ _ case = absurd case

-- the log of a run's last state is that of its first, and then the records that it committed
run_records : (F G : Flat) (steps : List FlatStep) (answers : List FlatAnswer) → Runs F steps answers G → G.emitted ≡ F.emitted ++ committed_in answers
run_records F G [] [] run = ap (λ (z : Flat). z.emitted) run ∙ sym (append-nil F.emitted)
run_records F G (step ∷ steps) (answer ∷ answers) run =
    let one = step_reports F run.0 step answer run.1 in
    run_records run.0 G steps answers run.2 ∙ ap (λ rs. rs ++ committed_in answers) one.records ∙ append_assoc F.emitted (committed_record answer) (committed_in answers)
run_records F G [] (answer ∷ answers) run = absurd run
run_records F G (step ∷ steps) [] run = absurd run

-- each block then holds what the commits gave it
run_holds : (F G : Flat) (steps : List FlatStep) (answers : List FlatAnswer) → Runs F steps answers G → contents_of G ≡ holds_in steps answers (waiting_in F) (contents_of F)
run_holds F G [] [] run = ap contents_of run
run_holds F G (step ∷ steps) (answer ∷ answers) run =
    let one = step_reports F run.0 step answer run.1 in
    run_holds run.0 G steps answers run.2 ∙ ap (λ f. holds_in steps answers f (contents_of run.0)) one.waits
    ∙ ap (λ h. holds_in steps answers (waits_after step answer (waiting_in F)) h) one.holds
run_holds F G [] (answer ∷ answers) run = absurd run
run_holds F G (step ∷ steps) [] run = absurd run

-- one run after another
runs_on : (F M G : Flat) (steps later : List FlatStep) (answers returned : List FlatAnswer) → Runs F steps answers M → Runs M later returned G
    → Runs F (steps ++ later) (answers ++ returned) G
runs_on F M G [] later [] returned one two = subst (λ (z : Flat). Runs z later returned G) one two
runs_on F M G (step ∷ steps) later (answer ∷ answers) returned one two = (one.0, one.1, runs_on one.0 M G steps later answers returned one.2 two)
runs_on F M G [] later (answer ∷ answers) returned one two = absurd one
runs_on F M G (step ∷ steps) later [] returned one two = absurd one

-- the steps of an act or of a history, which lead from one state to another
record HasRun (Are : List FlatStep → List FlatAnswer → Type 0) (F G : Flat) : Type 0 where
  steps : List FlatStep
  answers : List FlatAnswer
  are : Are steps answers
  run : Runs F steps answers G

-- the newest record's block has a last write of its version
newest_version : (F : Flat) (keys : ℕ → ℕ) (n : Record) (w : Write) → IsHistory F keys → IsNewest F.emitted n.block (Some n) → last_write F.writes n.block ≡ Some w
    → n.version ≡ w.version
newest_version F keys n w is newest last = let e = last_version_is F keys n.block (Some n) w is newest last in omega arith

-- what was learned is one step at the record's place, or that and one of its block
learned_run : (F G : Flat) (asked reported : Record) (x : Content) (seen : Seen) → HasHistory F → LearnedCase F asked reported x G → IsSeen (F.units asked.place) asked seen → IsLearned F asked seen reported x
    → HasRun (AreStepsOf (Learns asked reported x)) F G
learned_run F G asked reported x (Data y) sound case at is = record {
  steps = ReadAt asked ∷ [];
  answers = FoundAt (Data x) ∷ [];
  are = inl (refl, refl);
  run = (G, (case.0, subst (λ (r : Record). IsGoneIn G r.place → ⊥) is.0 case.3, subst (λ (z : Content). IsSeen (F.units asked.place) asked (Data z)) (sym is.1) at, case.4), refl);
}
learned_run F G asked reported x (Stale found) sound case at is = record {
  steps = ReadAt asked ∷ Read asked.block ∷ [];
  answers = FoundAt (Stale found) ∷ Found (found_in reported.version x) ∷ [];
  are = inr (found, refl, refl);
  run = (F, (case.0, case.1, at, itself F), (G, (answer, there, case.4), refl));
}
  where
    keys : ℕ → ℕ
    keys = sound.0

    w : Write
    w = is.1.0

    version : reported.version ≡ w.version
    version =
        let e : reported.block ≡ asked.block = is.0.1 in
        newest_version F keys reported w sound.1 (subst (λ n. IsNewest F.emitted n (Some reported)) (sym e) is.0) (ap (λ n. last_write F.writes n) e ∙ is.1.1)

    answer : found_in reported.version x ≡ found_of (last_write F.writes asked.block)
    answer = ap (λ n. found_in n x) version ∙ ap (λ (z : Content). found_in w.version z) is.1.2 ∙ ap found_of (sym is.1.1)

    there : (r : Record) → IsNewest F.emitted asked.block (Some r) → IsGoneIn G r.place → ⊥
    there r newest gone =
        let same : Some r ≡ Some reported = newest_unique F.emitted asked.block sound.1.records (Some r) (Some reported) newest is.0 in
        case.3 (subst (λ (z : Record). IsGoneIn G z.place) (same_Some r reported same) gone)

-- and so is a read that learned nothing
unlearned_run : (F G : Flat) (asked : Record) (q : Refusal) → UnlearnedCase F asked q G → HasRun (AreStepsOf (Fails asked q)) F G
unlearned_run F G asked (Ahead found) case = record { steps = ReadAt asked ∷ []; answers = Refused (Ahead found) ∷ []; are = inl (refl, refl); run = (G, case, refl) }
unlearned_run F G asked (Gone t) case = gone case.2
  where
    gone : (t ≡ asked.place) ⊎ ((n : Record) × (IsNewest F.emitted asked.block (Some n)) × (t ≡ n.place) × (IsGoneIn F asked.place → ⊥)
        × ((seen : Seen) × (IsSeen (F.units asked.place) asked seen) × (IsStale seen)))
        → HasRun (AreStepsOf (Fails asked (Gone t))) F G
    gone (inl here) = record { steps = ReadAt asked ∷ []; answers = Refused (Gone t) ∷ []; are = inl (refl, refl); run = (G, (case.0, here, case.1, case.3), refl) }
    gone (inr at) = stale at.4.0 at.4.1 at.4.2
      where
        stale : (seen : Seen) → IsSeen (F.units asked.place) asked seen → IsStale seen → HasRun (AreStepsOf (Fails asked (Gone t))) F G
        stale (Data y) is never = absurd never
        stale (Stale found) is so = record {
          steps = ReadAt asked ∷ Read asked.block ∷ [];
          answers = FoundAt (Stale found) ∷ Refused (Gone t) ∷ [];
          are = inr (found, refl, refl);
          run = (F, (case.0, at.3, is, itself F), (G, ((at.0, at.1, at.2, case.1), case.3), refl));
        }
unlearned_run F G asked _ case = absurd case

leads_run : (F G : Flat) (act : Act) → HasHistory F → Leads F act G → HasRun (AreStepsOf act) F G
leads_run F G (Opens array) sound leads = absurd leads
leads_run F G (Steps steps answers) sound leads = record { steps = steps; answers = answers; are = (refl, refl); run = leads }
leads_run F G (Learns asked reported x) sound leads = learned_run F G asked reported x leads.2.0 sound leads leads.2.1 leads.2.2
leads_run F G (Fails asked q) sound leads = unlearned_run F G asked q leads

follows_run : (F G : Flat) (log : List (Entry Act)) → HasHistory F → Replays F log G → HasRun (AreStepsIn log) F G
follows_run F G [] sound follows = record { steps = []; answers = []; are = (refl, refl); run = follows }
follows_run F G (e ∷ es) sound follows =
    let one = leads_run F follows.0 e.what sound follows.1 in
    let later = follows_run follows.0 G es follows.2 follows.3 in
    record {
      steps = one.steps ++ later.steps;
      answers = one.answers ++ later.answers;
      are = (one.steps, later.steps, one.answers, later.answers, one.are, later.are, refl, refl);
      run = runs_on F follows.0 G one.steps later.steps one.answers later.answers one.run later.run;
    }

-- a history that leads to what an array shows is one run, with all that follows
pub one_run : (log : List (Entry Act)) (array : ArrayView) → IsEndOf log array → IsOneRun log array
one_run log array ends =
    let is = ends.traced.run in
    let sound : HasHistory is.opening = (key_at is.array, is.shows.history) in
    let whole = follows_run is.opening ends.flat is.rest sound is.follows in
    let records = run_records is.opening ends.flat whole.steps whole.answers whole.run in
    let first : is.opening.emitted ++ committed_in whole.answers ≡ is.array.log ++ committed_in whole.answers = ap (λ rs. rs ++ committed_in whole.answers) is.shows.tables.log in
    let holds = run_holds is.opening ends.flat whole.steps whole.answers whole.run in
    record {
      by = is.by;
      first = is.array;
      rest = is.rest;
      begins = is.begins;
      opening = is.opening;
      opens = is.shows;
      last = ends.flat;
      shows = ends.shows;
      steps = whole.steps;
      answers = whole.answers;
      are = whole.are;
      run = whole.run;
      records = sym ends.shows.tables.log ∙ records ∙ first;
      map = subst (λ rs. IsMapOf rs (key_at array)) (records ∙ first) ends.shows.history.map;
      contents = λ b. ap (λ (f : ℕ → Option Content). f b) holds;
    }

unchanged : (F G : Flat) → Leaves F G → HasSameContents F G
unchanged F G l = record {
  records = ap (λ (z : Flat). z.emitted) l.same;
  contents = λ b. ap (λ (z : Flat). written_content (last_write z.writes b)) l.same;
}

-- a read changes nothing, whether it learns or not
pub learned_unchanged : (F G : Flat) (asked reported : Record) (x : Content) → LearnedCase F asked reported x G → HasSameContents F G
learned_unchanged F G asked reported x case = unchanged F G case.4

pub unlearned_unchanged : (F G : Flat) (asked : Record) (q : Refusal) → UnlearnedCase F asked q G → HasSameContents F G
unlearned_unchanged F G asked (Ahead found) case = unchanged F G case.2
unlearned_unchanged F G asked (Gone t) case = unchanged F G case.3
unlearned_unchanged F G asked _ case = absurd case
