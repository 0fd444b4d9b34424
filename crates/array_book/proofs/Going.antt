-- The history goes on where a call under the lock leaves the array.
use Rattle.std.proofs.Common.{◌≡◌, ◌≢◌, ℕ, Bool, true, List, [], ◌∷◌, ◌++◌, refl, sym, ap, ◌∙◌, subst, Option, Some, None, Result, Ok, Err, IfErr}
use Rattle.map_join.specs.declared.records.Record.{Record}
use Rattle.map_join.specs.Record.{record_at}
use Rattle.extents.proofs.Failures.{counts_same, steady_same}
use Rattle.flat_machine.specs.declared.refusal.Refusal.{Refusal}
use Rattle.flat_machine.specs.declared.refusal.Refusal.TheVariants.{Memory, NoGroup, WrongClass, InUse, NoTicket, Outrun, VersionSpent, HopsSpent, Unwritten, Gone, Ahead, LogFull}
use Rattle.flat_machine.specs.Flat.{Flat, Content, Holder, Worker, Ticket, Block, Waiting, Fresh, Moved, IsArrayHeld, IsNewest, with_pair, without_pair, turned}
use Rattle.flat_machine.specs.Steps as say
use Rattle.flat_machine.specs.Cases.{Case, Leaves, ClaimCase, ReleaseCase, FillCase, CopyCase, CommitCase, CommitWith, place_passed, IsNotAhead, IsAllocating}
use Rattle.flat_machine.specs.History.{IsHistory, IsValidStep}
use Rattle.flat_machine.specs.Learning.{UnlearnedCase}
use Rattle.flat_machine.proofs.Keeps.{step_keeps}
use Rattle.map_join.specs.Maps.{IsMapOf}
use Rattle.tiered_array.proofs.Emitting.{alike_put}
use Rattle.flat_machine.proofs.Claims.{release_keeps, without_worker}
use Rattle.flat_machine.proofs.Newest.{newest_reported, newest_unique}
use Rattle.slot_tables.specs.Changes.{MayRefuse, IsPlaceOf}
use Rattle.slot_tables.specs.Represents.{ShowsArray}
use Rattle.slot_tables.specs.Views.{ArrayView, key_at}
use Rattle.slot_tables.proofs.Hands.{hands_move}
use Rattle.slot_tables.proofs.OneMore.{holds_one_more}
use Rattle.step_core.specs.Claimed.{with_claim}
use Rattle.step_core.specs.Placing.{Put, Fresh as Afresh, Again, PutReports, put_step, put_answer}
use Rattle.step_core.specs.Refused.{IsRefused}
use Rattle.step_core.specs.Reported.{Lesson}
use Rattle.history.specs.declared.view.Entry.{Entry}
use Rattle.history.specs.Entries.{entry, Carried, Course, Extends}
use Rattle.array_book.specs.Acts.{Act, Steps, Leads, HasHistory, Replays, IsIdle, AreIdle, IsRun, IsTraced, IsLed, put_act, placed_act, unplaced_act, committed_act, claim_slot, refused_commit, discard_act, read_act, refused_read}
use Rattle.array_book.specs.Outcomes.{Noted}
use Rattle.array_book.specs.Kept as book
use Rattle.array_book.specs.Kept.{KeptView}
use Rattle.array_book.proofs.Shown.{DiscardReports, LearnReports}
use Rattle.array_book.proofs.Idling.{turned_now, IsBut, claimed_but, released_idle, ticketed_idle, passed_but, committed_idle, is_free}

pub leaves_self : (F : Flat) → Leaves F F
leaves_self F = record {
  same = refl;
  drives = λ d. record { stays = λ e. e; count = counts_same (F.lost d) (F.failures d); steady = steady_same (F.lost d) (F.failures d) };
}

-- a state that an act leads to, and which is idle, whether an array shows it or not
pub record Goes (F : Flat) (act : Act) : Type 0 where
  pub flat : Flat
  pub leads : Leads F act flat
  pub idle : IsIdle flat
  pub sound : HasHistory flat

-- a state that the array shows, which an act leads to, and which is idle
pub record GoesOn (F : Flat) (act : Act) (b : ArrayView) : Type 0 where
  pub flat : Flat
  pub leads : Leads F act flat
  pub idle : IsIdle flat
  pub shows : ShowsArray b flat

abbrev goes_of : (F : Flat) (act : Act) (b : ArrayView) → GoesOn F act b → Goes F act
goes_of F act b on = record { flat = on.flat; leads = on.leads; idle = on.idle; sound = (key_at b, on.shows.history) }

follows_more : (F G H : Flat) (log : List (Entry Act)) (n : ℕ) (act : Act) → Replays F log G → Leads G act H → HasHistory H → Replays F (log ++ entry n act ∷ []) H
follows_more F G H [] n act r leads sound = (H, subst (λ (x : Flat). Leads x act H) r leads, sound, refl)
follows_more F G H (e ∷ es) n act r leads sound = (r.0, r.1, r.2, follows_more r.0 G H es n act r.3 leads sound)

-- a history that is one act longer
traced_more : (F : Flat) (log : List (Entry Act)) (n : ℕ) (act : Act) → IsTraced log F → (on : Goes F act) → IsTraced (log ++ entry n act ∷ []) on.flat
traced_more F log n act is on =
    let r = is.run in
    record {
      run = record {
        by = r.by;
        array = r.array;
        rest = r.rest ++ entry n act ∷ [];
        begins = ap (λ (l : List (Entry Act)). l ++ entry n act ∷ []) r.begins;
        opening = r.opening;
        shows = r.shows;
        idle = r.idle;
        follows = follows_more r.opening F on.flat r.rest n act r.follows on.leads on.sound;
      };
      idle = on.idle;
    }

-- what was noted is the act that led on, and no hand more was hired
pub led_more : (F : Flat) (before after : Course Act) (hands n : ℕ) (act noted : Act) → IsLed before hands F → (on : Goes F act)
    → after ≡ record { hired = before.hired; log = before.log ++ entry n noted ∷ [] } → noted ≡ act → IsLed after hands on.flat
led_more F before after hands n act noted is on same acts = record {
  traced = subst (λ (l : List (Entry Act)). IsTraced l on.flat) (sym (ap (λ (k : Course Act). k.log) same ∙ ap (λ (x : Act). before.log ++ entry n x ∷ []) acts))
      (traced_more F before.log n act is.traced on);
  hired = ap (λ (k : Course Act). k.hired) same ∙ is.hired;
}

pub led_note : (F : Flat) (b : ArrayView) (before after : Course Act) (hands n : ℕ) (act noted : Act) → IsLed before hands F → (on : GoesOn F act b)
    → after ≡ record { hired = before.hired; log = before.log ++ entry n noted ∷ [] } → noted ≡ act → IsLed after hands on.flat
led_note F b before after hands n act noted is on same acts = led_more F before after hands n act noted is (goes_of F act b on) same acts

-- so it was noted by the hand, which has seen the history up to it
pub noted_as : (v w : Carried Act) (what act : Act) (log : List (Entry Act)) (F : Flat) → Extends v what w → what ≡ act → w.seen ≡ log → IsTraced log F → Noted v act w
noted_as v w what act log F extends acts same is = record {
  extends = subst (λ (x : Act). Extends v x w) acts extends;
  course = (F, subst (λ (l : List (Entry Act)). IsRun l F) (sym same) is.run);
}

-- what is kept is kept with another state that the array shows
pub kept_as : (P : Flat → Type 0) (blocks payload : ℕ) (k : KeptView) → book.IsKept blocks payload k → (F : Flat) → ShowsArray k.array F → P F
    → (is : book.IsKept blocks payload k) × P is.flat
kept_as P blocks payload k is F shows p = (
  record { flat = F; shows = shows; blocks = is.blocks; payload = is.payload; order = is.order; long = is.long; marked = is.marked },
  p,
)

-- worker 0 releases a slot
abbrev pub released : Flat → ℕ → Flat
released F s = record F { held = without_pair F.held s (Worker 0) }

pub shows_released : (a : ArrayView) (F : Flat) (s : ℕ) → ShowsArray a F → ShowsArray a (released F s)
shows_released a F s is = record {
  history = release_keeps F (key_at a) 0 s is.history;
  units = is.units;
  tables = hands_move a F (without_pair F.held s (Worker 0)) (without_worker F 0 s) is.tables;
}

pub claims : (F : Flat) (s : ℕ) → IsIdle F → (IsArrayHeld F s → ⊥) → ClaimCase F 0 s (say.Claimed s) (with_claim F s 0)
claims F s idle none = (refl, is_free F s idle none, leaves_self (with_claim F s 0))

releases : (F : Flat) (s : ℕ) → F.held s (Worker 0) ≡ true → ReleaseCase F 0 s (say.Released s) (released F s)
releases F s held = (refl, held, leaves_self (released F s))

held_of : (x G : Flat) → Leaves x G → G.held ≡ x.held
held_of x G l = ap (λ (z : Flat). z.held) l.same

-- out of memory: nothing happened
stays : (a b : ArrayView) (F : Flat) → ShowsArray a F → IsIdle F → b ≡ a → GoesOn F (Steps [] []) b
stays a b F shows idle same = record { flat = F; leads = refl; idle = idle; shows = subst (λ (v : ArrayView). ShowsArray v F) (sym same) shows }

fill_leaves : (F G : Flat) (w s : ℕ) (x : Content) (q : Refusal) → FillCase F w s x (say.Refused q) G → Leaves F G
fill_leaves F G w s x NoGroup c = c.2
fill_leaves F G w s x WrongClass c = c.2
fill_leaves F G w s x InUse c = c.3
fill_leaves F G w s x (Gone t) c = c.3
fill_leaves F G w s x _ c = absurd c

copy_leaves : (F G : Flat) (w s b : ℕ) (q : Refusal) → CopyCase F w s b (say.Refused q) G → Leaves F G
copy_leaves F G w s b NoGroup c = c.2
copy_leaves F G w s b InUse c = c.3
copy_leaves F G w s b Unwritten c = c.4
copy_leaves F G w s b HopsSpent c = c.4
copy_leaves F G w s b (Gone t) c = c.1
copy_leaves F G w s b _ c = absurd c

put_leaves : (F G : Flat) (what : Put) (w s b : ℕ) (q : Refusal) → Case F (put_step what w s b) (say.Refused q) G → Leaves F G
put_leaves F G (Afresh x) w s b q c = fill_leaves F G w s x q c
put_leaves F G Again w s b q c = copy_leaves F G w s b q c

put_held : (F G : Flat) (what : Put) (w s b : ℕ) → Case F (put_step what w s b) (put_answer what s) G → G.held ≡ turned F.held s (Worker w) (Ticket w)
put_held F G (Afresh x) w s b c = ap (λ (z : Flat). z.held) c.3.same
put_held F G Again w s b c = ap (λ (z : Flat). z.held) c.1.6.same

-- a claimed slot whose step was refused is released
back_idle : (F G : Flat) (s : ℕ) → IsIdle F → Leaves (with_claim F s 0) G → AreIdle (without_pair G.held s (Worker 0))
back_idle F G s idle l = released_idle G.held s (subst (λ (h : ℕ → Holder → Bool). IsBut h s) (sym (held_of (with_claim F s 0) G l)) (claimed_but F.held s idle))

back_held : (F G : Flat) (s : ℕ) → Leaves (with_claim F s 0) G → G.held s (Worker 0) ≡ true
back_held F G s l = ap (λ (h : ℕ → Holder → Bool). h s (Worker 0)) (held_of (with_claim F s 0) G l) ∙ holds_one_more F s 0

pub refused_put_goes : (q : Refusal) (b : ArrayView) (F : Flat) (s : ℕ) (what : Put) (block : ℕ) → IsIdle F → (IsArrayHeld F s → ⊥) → q ≢ Memory
    → MayRefuse q (Unit {0}) ((G : Flat) × Case (with_claim F s 0) (put_step what 0 s block) (say.Refused q) G × ShowsArray b G) → GoesOn F (unplaced_act what s block q) b
refused_put_goes Memory b F s what block idle none other may = absurd (other refl)
refused_put_goes q b F s what block idle none other may =
    let l = put_leaves (with_claim F s 0) may.0 what 0 s block q may.1 in
    record {
      flat = released may.0 s;
      leads = (with_claim F s 0, claims F s idle none, (may.0, may.1, (released may.0 s, releases may.0 s (back_held F may.0 s l), refl)));
      idle = back_idle F may.0 s idle l;
      shows = shows_released b may.0 s may.2;
    }

-- a slot that something was put into is a ticket's
pub put_idle : (F G : Flat) (what : Put) (s block : ℕ) → IsIdle F → Case (with_claim F s 0) (put_step what 0 s block) (put_answer what s) G → IsIdle G
put_idle F G what s block idle case =
    subst AreIdle (sym (put_held (with_claim F s 0) G what 0 s block case)) (ticketed_idle (with_pair F.held s (Worker 0)) s (claimed_but F.held s idle))

pub put_goes : {C : Type 0} (r : Result ℕ (Refusal × C)) (b : ArrayView) (F : Flat) (s : ℕ) (what : Put) (block : ℕ) → IsIdle F → (IsArrayHeld F s → ⊥)
    → IfErr r (λ e. e.0 ≢ Memory) → PutReports r (with_claim F s 0) 0 what s block b → GoesOn F (put_act what s block r) b
put_goes (Ok t) b F s what block idle none other reports = record {
  flat = reports.0;
  leads = (with_claim F s 0, claims F s idle none, (reports.0, reports.1, refl));
  idle = put_idle F reports.0 what s block idle reports.1;
  shows = reports.2;
}
put_goes (Err e) b F s what block idle none other reports = refused_put_goes e.0 b F s what block idle none other reports

-- the ticket's worker is worker 0
pub ticket_zero : (F : Flat) (s w : ℕ) → IsIdle F → (F.tickets s ≢ None → F.held s (Ticket w) ≡ true) → F.tickets s ≢ None → F.held s (Ticket 0) ≡ true
ticket_zero F s w idle held some = subst (λ (n : ℕ). F.held s (Ticket n) ≡ true) (idle.tickets s w (held some)) (held some)

pub discard_goes : {C : Type 0} (E D : Refusal × ℕ → Type 0) (r : Result C (Refusal × ℕ)) (a b : ArrayView) (F : Flat) (s : ℕ) → ShowsArray a F → IsIdle F
    → IfErr r (λ e. E e × D e × (b ≡ a)) → DiscardReports r F 0 b s → GoesOn F (discard_act s r) b
discard_goes E D (Ok t) a b F s shows idle err reports =
    let held : reports.0.held ≡ turned F.held s (Ticket 0) (Worker 0) = ap (λ (z : Flat). z.held) reports.1.2.same in
    record {
      flat = released reports.0 s;
      leads = (
        reports.0,
        reports.1,
        (
          released reports.0 s,
          releases reports.0 s (ap (λ (h : ℕ → Holder → Bool). h s (Worker 0)) held ∙ turned_now F.held s (Ticket 0) (Worker 0)),
          refl,
        ),
      );
      idle = released_idle reports.0.held s (subst (λ (h : ℕ → Holder → Bool). IsBut h s) (sym held) (passed_but F.held s (Ticket 0) idle));
      shows = shows_released b reports.0 s reports.2;
    }
discard_goes E D (Err e) a b F s shows idle err reports = record {
  flat = F;
  leads = (F, reports, refl);
  idle = idle;
  shows = subst (λ (v : ArrayView). ShowsArray v F) (sym err.2) shows;
}

unlearned_leaves : (F G : Flat) (asked : Record) (q : Refusal) → UnlearnedCase F asked q G → Leaves F G
unlearned_leaves F G asked (Ahead found) c = c.2
unlearned_leaves F G asked (Gone t) c = c.3
unlearned_leaves F G asked _ c = absurd c

refused_read_goes : (q : Refusal) (a b : ArrayView) (F : Flat) (asked : Record) → ShowsArray a F → IsIdle F → IsRefused a b q
    → MayRefuse q (IsNotAhead F asked) ((G : Flat) × UnlearnedCase F asked q G × ShowsArray b G) → GoesOn F (refused_read asked q) b
refused_read_goes Memory a b F asked shows idle is may = stays a b F shows idle is
refused_read_goes q a b F asked shows idle is may = record {
  flat = may.0;
  leads = may.1;
  idle = subst AreIdle (sym (held_of F may.0 (unlearned_leaves F may.0 asked q may.1))) idle;
  shows = may.2;
}

pub read_goes : (r : Result Lesson Refusal) (a b : ArrayView) (F : Flat) (asked : Record) → ShowsArray a F → IsIdle F → IfErr r (IsRefused a b) → LearnReports r F asked b
    → GoesOn F (read_act asked r) b
read_goes (Ok l) a b F asked shows idle err reports = record {
  flat = reports.0;
  leads = reports.1;
  idle = subst AreIdle (sym (held_of F reports.0 reports.1.4)) idle;
  shows = reports.2;
}
read_goes (Err q) a b F asked shows idle err reports = refused_read_goes q a b F asked shows idle err reports

refused_with : (F G : Flat) (w s b : ℕ) (found : Option Record) (t : Option Waiting) (q : Refusal) → CommitWith F w s b found t (say.Refused q) G → Leaves F G
refused_with F G w s b found (Some (Fresh x)) VersionSpent c = c.1
refused_with F G w s b found (Some (Fresh x)) LogFull c = c.2
refused_with F G w s b found (Some (Fresh x)) (Gone t) c = c.4
refused_with F G w s b found (Some (Moved d v h x)) (Outrun n) c = c.2
refused_with F G w s b found (Some (Moved d v h x)) LogFull c = c.2
refused_with F G w s b found (Some (Moved d v h x)) (Gone t) c = c.4
refused_with F G w s b found _ _ c = absurd c

commit_leaves : (F G : Flat) (w s b : ℕ) (q : Refusal) → CommitCase F w s b (say.Refused q) G → Leaves F G
commit_leaves F G w s b NoTicket c = c.1
commit_leaves F G w s b q c = refused_with F G w s b c.2.0 (F.tickets s) q c.2.2

pub refused_commit_goes : (q : Refusal) (a b : ArrayView) (F : Flat) (s block : ℕ) → ShowsArray a F → IsIdle F → IsRefused a b q
    → MayRefuse q (IsAllocating F (say.Commit 0 s block)) ((G : Flat) × CommitCase F 0 s block (say.Refused q) G × ShowsArray b G) → GoesOn F (refused_commit s block q) b
refused_commit_goes Memory a b F s block shows idle is may = stays a b F shows idle is
refused_commit_goes q a b F s block shows idle is may = record {
  flat = may.0;
  leads = (may.0, may.1, refl);
  idle = subst AreIdle (sym (held_of F may.0 (commit_leaves F may.0 0 s block q may.1))) idle;
  shows = may.2;
}

commit_held : (F G : Flat) (s b : ℕ) (found : Option Record) (t : Option Waiting) (r : Record) → CommitWith F 0 s b found t (say.Committed r) G
    → G.held ≡ place_passed (turned F.held s (Ticket 0) (Block b)) 0 b found
commit_held F G s b found (Some (Fresh x)) r c = ap (λ (z : Flat). z.held) c.4.same
commit_held F G s b found (Some (Moved d v h x)) r c = ap (λ (z : Flat). z.held) c.4.same
commit_held F G s b found None r c = absurd c

commit_back : {C : Type 0} (names : C → ℕ) (F G : Flat) (b : ArrayView) (s block : ℕ) (r : Record) (old : Option C) (found : Option Record) → IsIdle F → CommitCase F 0 s block (say.Committed r) G
    → ShowsArray b G → IsPlaceOf names old found → G.held ≡ place_passed (turned F.held s (Ticket 0) (Block block)) 0 block found
    → GoesOn F (committed_act s block r (claim_slot names old)) b
commit_back names F G b s block r None None idle case shows of held = record {
  flat = G;
  leads = (G, case, refl);
  idle = subst AreIdle (sym held) (committed_idle F.held s block idle);
  shows = shows;
}
commit_back names F G b s block r (Some claim) (Some q) idle case shows of held =
    let H = turned F.held s (Ticket 0) (Block block) in
    let p = names claim in
    let is : G.held ≡ turned H p (Block block) (Worker 0) = subst (λ (n : ℕ). G.held ≡ turned H n (Block block) (Worker 0)) (sym of) held in
    record {
      flat = released G p;
      leads = (G, case, (released G p, releases G p (ap (λ (h : ℕ → Holder → Bool). h p (Worker 0)) is ∙ turned_now H p (Block block) (Worker 0)), refl));
      idle = released_idle G.held p (subst (λ (h : ℕ → Holder → Bool). IsBut h p) (sym is) (passed_but H p (Block block) (committed_idle F.held s block idle)));
      shows = shows_released b G p shows;
    }
commit_back names F G b s block r None (Some q) idle case shows of held = absurd of
commit_back names F G b s block r (Some claim) None idle case shows of held = absurd of

pub commits_go : {C : Type 0} (names : C → ℕ) (keys : ℕ → ℕ) (b : ArrayView) (F : Flat) (s block : ℕ) (r : Record) (old : Option C) → IsHistory F keys → IsIdle F
    → IsPlaceOf names old (record_at block (keys block)) → (G : Flat) × CommitCase F 0 s block (say.Committed r) G × ShowsArray b G
    → GoesOn F (committed_act s block r (claim_slot names old)) b
commits_go names keys b F s block r old history idle of reported =
    let found = reported.1.2.0 in
    let newest : IsNewest F.emitted block (record_at block (keys block)) = newest_reported F.emitted keys block history.records history.map in
    let same : found ≡ record_at block (keys block) = newest_unique F.emitted block history.records found (record_at block (keys block)) reported.1.2.1 newest in
    commit_back names F reported.0 b s block r old found idle reported.1 reported.2 (subst (λ (o : Option Record). IsPlaceOf names old o) (sym same) of)
    (commit_held F reported.0 s block found (F.tickets s) r reported.1.2.2)

pub commit_goes : {C : Type 0} (names : C → ℕ) (a b : ArrayView) (F : Flat) (s block : ℕ) (r : Record) (old : Option C) → ShowsArray a F → IsIdle F
    → IsPlaceOf names old (record_at block (key_at a block)) → (G : Flat) × CommitCase F 0 s block (say.Committed r) G × ShowsArray b G
    → GoesOn F (committed_act s block r (claim_slot names old)) b
commit_goes names a b F s block r old shows idle of reported = commits_go names (key_at a) b F s block r old shows.history idle of reported

-- a put and its commit in one write: first the state between, which no array shows
pub put_sound : (F G : Flat) (keys : ℕ → ℕ) (what : Put) (w s block : ℕ) → IsHistory F keys → IsValidStep F.groups (put_step what w s block)
    → Case F (put_step what w s block) (put_answer what s) G → IsHistory G keys
put_sound F G keys what w s block history fits case =
    step_keeps F G keys keys (put_step what w s block) (put_answer what s) history fits case
    (subst (λ (rs : List Record). IsMapOf rs keys) (sym (alike_put F G what w s block case).emitted) history.map)

abbrev pub puts_go : (F M : Flat) (keys : ℕ → ℕ) (s block : ℕ) (what : Put) → IsIdle F → (IsArrayHeld F s → ⊥) → IsHistory M keys
    → Case (with_claim F s 0) (put_step what 0 s block) (put_answer what s) M → Goes F (placed_act what s block)
puts_go F M keys s block what idle none history case = record {
  flat = M;
  leads = (with_claim F s 0, claims F s idle none, (M, case, refl));
  idle = put_idle F M what s block idle case;
  sound = (keys, history);
}
