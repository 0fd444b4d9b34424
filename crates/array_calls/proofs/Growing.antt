-- By a call no group and no drive comes or goes, and records and writes are added.
use Rattle.std.proofs.Common.{◌≡◌, inl, inr, ℕ, List, [], ◌∷◌, ◌++◌, append-nil, append_assoc, refl, sym, ap, ◌∙◌, subst, Option, Some, None}
use Rattle.map_join.specs.declared.records.Record.{Record}
use Rattle.flat_machine.specs.declared.refusal.Refusal.TheVariants.{NoGroup, WrongClass, InUse, Gone, Unwritten, HopsSpent, VersionSpent, LogFull, NoTicket, Outrun, Ahead}
use Rattle.flat_machine.specs.Flat.{Flat, Write, Content, Waiting, Fresh, Moved}
use Rattle.flat_machine.specs.Steps.{FlatStep, FlatAnswer, Claim, Release, Fill, Copy, Commit, Discard, Read, ReadAt, Make, Unmake, MoveExtent, AddDrive, Lose, Claimed, Taken, Released, NotHeld, Filled, Copied, Committed, Discarded, Found, FoundAt, Refused}
use Rattle.flat_machine.specs.Cases.{Case, ClaimCase, ReleaseCase, FillCase, CopyCase, CommitCase, CommitWith, DiscardCase, ReadCase, ReadAtCase, Leaves, Runs}
use Rattle.step_core.specs.Reported.{flat_answer}
use Rattle.tiered_array.specs.Placing.{Put, PlaceCase, PlaceStops, put_step, put_answer, back_steps, back_answers}
use Rattle.tiered_array.specs.Placing as put
use Rattle.tiered_array.specs.Steps.{AppendsAt, CommitNoted, DemoteCase, DemoteStops, Demotes, GoesDown, MovesTo, Plugs, Cleans, PutStops, StepAlone, TierCase, TierStep, TierStops, Writes, WritesAt, WritesFollowing, WritesIn, WritesStop}
use Rattle.tiered_array.specs.Steps as t
use Rattle.tiered_array.specs.Tiered.{Tiered}
use Rattle.tiered_array.specs.Matches.{RepresentsTiers}
use Rattle.tiered_array.specs.Views.{TiersView}
use Rattle.std.specs.Prelude.{IfOk, OnErr, Result, Ok, Err}
use Rattle.tiered_array.specs.declared.outcome.Outcome.{Outcome}
use Rattle.tiered_array.specs.declared.outcome.Outcome.TheVariants as outcome
use Rattle.cleaner.specs.declared.moves.Move.{Move}
use Rattle.array_calls.specs.declared.call.CallAnswer.{CallAnswer}
use Rattle.array_calls.specs.declared.call.CallAnswer.TheVariants as answered
use Rattle.array_calls.specs.declared.call.Call.{Call}
use Rattle.array_calls.specs.declared.call.Call.TheVariants as call
use Rattle.array_calls.specs.Calls.{CallCase, CallStops, IsMade}
use Rattle.array_calls.specs.Growth.{Grows}

pub grows_more : (F M G : Flat) → Grows F M → Grows M G → Grows F G
grows_more F M G a b = record {
  groups = b.groups ∙ a.groups;
  drives = b.drives ∙ a.drives;
  lost = λ d was. b.lost d (a.lost d was);
  records = a.records ++ b.records;
  emitted = b.emitted ∙ ap (λ log. log ++ b.records) a.emitted ∙ append_assoc F.emitted a.records b.records;
  more = a.more ++ b.more;
  writes = b.writes ∙ ap (λ ws. ws ++ b.more) a.writes ∙ append_assoc F.writes a.more b.more;
}

-- G is M but for drives that failed, and M has the groups and drives of F, with these records and writes more
grows_from : (F M G : Flat) → Leaves M G → M.groups ≡ F.groups → M.drives ≡ F.drives → M.lost ≡ F.lost
    → (records : List Record) → M.emitted ≡ F.emitted ++ records → (more : List Write) → M.writes ≡ F.writes ++ more → Grows F G
grows_from F M G leaves groups drives lost records emitted more writes = record {
  groups = ap (λ (x : Flat). x.groups) leaves.same ∙ groups;
  drives = ap (λ (x : Flat). x.drives) leaves.same ∙ drives;
  lost = λ d was. (leaves.drives d).stays (ap (λ f. f d) lost ∙ was);
  records = records;
  emitted = ap (λ (x : Flat). x.emitted) leaves.same ∙ emitted;
  more = more;
  writes = ap (λ (x : Flat). x.writes) leaves.same ∙ writes;
}

-- no record and no write more
as_before : (F M G : Flat) → Leaves M G → M.groups ≡ F.groups → M.drives ≡ F.drives → M.lost ≡ F.lost → M.emitted ≡ F.emitted → M.writes ≡ F.writes → Grows F G
as_before F M G leaves groups drives lost emitted writes =
    grows_from F M G leaves groups drives lost [] (emitted ∙ sym (append-nil F.emitted)) [] (writes ∙ sym (append-nil F.writes))

pub grows_left : (F G : Flat) → Leaves F G → Grows F G
grows_left F G leaves = as_before F F G leaves refl refl refl refl refl

pub grows_same : (F G : Flat) → G ≡ F → Grows F G
grows_same F G same = record {
  groups = ap (λ (x : Flat). x.groups) same;
  drives = ap (λ (x : Flat). x.drives) same;
  lost = λ d was. ap (λ (x : Flat). x.lost d) same ∙ was;
  records = [];
  emitted = ap (λ (x : Flat). x.emitted) same ∙ sym (append-nil F.emitted);
  more = [];
  writes = ap (λ (x : Flat). x.writes) same ∙ sym (append-nil F.writes);
}

claims : (F G : Flat) (w s : ℕ) (answer : FlatAnswer) → ClaimCase F w s answer G → Grows F G
claims F G w s (Claimed t) case = as_before F _ G case.2 refl refl refl refl refl
claims F G w s (Taken t) case = grows_left F G case.2
claims F G w s _ case = absurd case

releases : (F G : Flat) (w s : ℕ) (answer : FlatAnswer) → ReleaseCase F w s answer G → Grows F G
releases F G w s (Released t) case = as_before F _ G case.2 refl refl refl refl refl
releases F G w s (NotHeld t) case = grows_left F G case.2
releases F G w s _ case = absurd case

fills : (F G : Flat) (w s : ℕ) (x : Content) (answer : FlatAnswer) → FillCase F w s x answer G → Grows F G
fills F G w s x (NotHeld t) case = grows_left F G case.2
fills F G w s x (Refused NoGroup) case = grows_left F G case.2
fills F G w s x (Refused WrongClass) case = grows_left F G case.2
fills F G w s x (Refused InUse) case = grows_left F G case.3
fills F G w s x (Refused (Gone t)) case = grows_left F G case.3
fills F G w s x (Filled t) case = as_before F _ G case.3 refl refl refl refl refl
fills F G w s x _ case = absurd case

copies : (F G : Flat) (w s b : ℕ) (answer : FlatAnswer) → CopyCase F w s b answer G → Grows F G
copies F G w s b (NotHeld t) case = grows_left F G case.2
copies F G w s b (Refused NoGroup) case = grows_left F G case.2
copies F G w s b (Refused InUse) case = grows_left F G case.3
copies F G w s b (Refused Unwritten) case = grows_left F G case.4
copies F G w s b (Refused HopsSpent) case = grows_left F G case.4
copies F G w s b (Refused (Gone t)) case = grows_left F G case.1
copies F G w s b (Copied t) case = as_before F _ G case.1.6 refl refl refl refl refl
copies F G w s b _ case = absurd case

commits : (F G : Flat) (w s b : ℕ) (found : Option Record) (ticket : Option Waiting) (answer : FlatAnswer) → CommitWith F w s b found ticket answer G → Grows F G
commits F G w s b found (Some (Fresh x)) (Refused VersionSpent) case = grows_left F G case.1
commits F G w s b found (Some (Fresh x)) (Refused LogFull) case = grows_left F G case.2
commits F G w s b found (Some (Fresh x)) (Refused (Gone t)) case = grows_left F G case.4
commits F G w s b found (Some (Fresh x)) (Committed r) case = grows_from F _ G case.4 refl refl refl (r ∷ []) refl _ refl
commits F G w s b found (Some (Moved c v h x)) (Refused (Outrun n)) case = grows_left F G case.2
commits F G w s b found (Some (Moved c v h x)) (Refused LogFull) case = grows_left F G case.2
commits F G w s b found (Some (Moved c v h x)) (Refused (Gone t)) case = grows_left F G case.4
commits F G w s b found (Some (Moved c v h x)) (Committed r) case = grows_from F _ G case.4 refl refl refl (r ∷ []) refl [] (sym (append-nil F.writes))
commits F G w s b found _ _ case = absurd case

commit_cases : (F G : Flat) (w s b : ℕ) (answer : FlatAnswer) → CommitCase F w s b answer G → Grows F G
commit_cases F G w s b (Refused NoTicket) case = grows_left F G case.1
commit_cases F G w s b answer case = commits F G w s b case.2.0 (F.tickets s) answer case.2.2

discards : (F G : Flat) (w s : ℕ) (answer : FlatAnswer) → DiscardCase F w s answer G → Grows F G
discards F G w s (Refused NoTicket) case = grows_left F G case.1
discards F G w s (Discarded t) case = as_before F _ G case.2 refl refl refl refl refl
discards F G w s _ case = absurd case

reads : (F G : Flat) (b : ℕ) (answer : FlatAnswer) → ReadCase F b answer G → Grows F G
reads F G b (Found found) case = grows_left F G case.2
reads F G b (Refused (Gone t)) case = grows_left F G case.1
reads F G b _ case = absurd case

looks : (F G : Flat) (r : Record) (answer : FlatAnswer) → ReadAtCase F r answer G → Grows F G
looks F G r (Refused (Ahead found)) case = grows_left F G case.2
looks F G r (Refused (Gone t)) case = grows_left F G case.3
looks F G r (FoundAt seen) case = grows_left F G case.3
looks F G r _ case = absurd case

-- a step by which no group and no drive comes or goes
abbrev pub IsPlain : FlatStep → Type 0
IsPlain (Make class members) = ⊥
IsPlain (Unmake w g) = ⊥
IsPlain (MoveExtent g k to) = ⊥
IsPlain AddDrive = ⊥
IsPlain (Lose d) = ⊥
IsPlain _ = Unit {0}

step_grows : (F G : Flat) (step : FlatStep) (answer : FlatAnswer) → IsPlain step → Case F step answer G → Grows F G
step_grows F G (Claim w s) answer plain case = claims F G w s answer case
step_grows F G (Release w s) answer plain case = releases F G w s answer case
step_grows F G (Fill w s x) answer plain case = fills F G w s x answer case
step_grows F G (Copy w s b) answer plain case = copies F G w s b answer case
step_grows F G (Commit w s b) answer plain case = commit_cases F G w s b answer case
step_grows F G (Discard w s) answer plain case = discards F G w s answer case
step_grows F G (Read b) answer plain case = reads F G b answer case
step_grows F G (ReadAt r) answer plain case = looks F G r answer case
step_grows F G (Make class members) answer plain case = absurd plain
step_grows F G (Unmake w g) answer plain case = absurd plain
step_grows F G (MoveExtent g k to) answer plain case = absurd plain
step_grows F G AddDrive answer plain case = absurd plain
step_grows F G (Lose d) answer plain case = absurd plain

abbrev pub ArePlain : List FlatStep → Type 0
ArePlain [] = Unit {0}
ArePlain (step ∷ steps) = IsPlain step × ArePlain steps

runs_grow : (F G : Flat) (steps : List FlatStep) (answers : List FlatAnswer) → ArePlain steps → Runs F steps answers G → Grows F G
runs_grow F G [] [] plain run = grows_same F G run
runs_grow F G (step ∷ steps) (answer ∷ answers) plain run =
    grows_more F run.0 G (step_grows F run.0 step answer plain.0 run.1) (runs_grow run.0 G steps answers plain.1 run.2)
runs_grow F G [] (answer ∷ answers) plain run = absurd run
runs_grow F G (step ∷ steps) [] plain run = absurd run

put_plain : (what : Put) (w s b : ℕ) → IsPlain (put_step what w s b)
put_plain (put.Fresh x) w s b = tt
put_plain put.Again w s b = tt

back_plain : (w : ℕ) (old : Option Record) → ArePlain (back_steps w old)
back_plain w None = tt
back_plain w (Some old) = (tt, tt)

place_grows : (F G : Flat) (w s b : ℕ) (what : Put) (o : Outcome) → PlaceCase F w s b what o G → Grows F G
place_grows F G w s b what (outcome.Placed r) case =
    runs_grow F G (Claim w s ∷ put_step what w s b ∷ Commit w s b ∷ back_steps w case.old) (Claimed s ∷ put_answer what s ∷ Committed r ∷ back_answers case.old)
    (tt, (put_plain what w s b, (tt, back_plain w case.old))) case.run
place_grows F G w s b what (outcome.Refused k) (inl run) =
    runs_grow F G (Claim w s ∷ put_step what w s b ∷ Release w s ∷ []) (Claimed s ∷ Refused k ∷ Released s ∷ []) (tt, (put_plain what w s b, (tt, tt))) run
place_grows F G w s b what (outcome.Refused k) (inr run) =
    runs_grow F G (Claim w s ∷ put_step what w s b ∷ Commit w s b ∷ Discard w s ∷ Release w s ∷ [])
    (Claimed s ∷ put_answer what s ∷ Refused k ∷ Discarded s ∷ Released s ∷ []) (tt, (put_plain what w s b, (tt, (tt, (tt, tt))))) run
place_grows F G w s b what outcome.NoRoom run = runs_grow F G (Claim w s ∷ []) (Taken s ∷ []) (tt, tt) run
place_grows F G w s b what outcome.Nothing case = absurd case

stops_grow : (F G : Flat) (w s b : ℕ) (what : Put) → PlaceStops F w s b what G → Grows F G
stops_grow F G w s b what stops =
    runs_grow F G (Claim w s ∷ put_step what w s b ∷ Discard w s ∷ Release w s ∷ []) (Claimed s ∷ put_answer what s ∷ Discarded s ∷ Released s ∷ [])
    (tt, (put_plain what w s b, (tt, (tt, tt)))) stops.run

-- the flat state of what is kept next to it
abbrev pub GrowsTo : Tiered → Tiered → Type 0
GrowsTo T U = Grows T.flat U.flat

pub to_state : (T U V : Tiered) (F : Flat) → Grows T.flat F → U ≡ V → V.flat ≡ F → GrowsTo T U
to_state T U V F grows same is = subst (λ (G : Flat). Grows T.flat G) (sym (ap (λ (z : Tiered). z.flat) same ∙ is)) grows

stays_grow : (T U : Tiered) → U ≡ T → GrowsTo T U
stays_grow T U same = grows_same T.flat U.flat (ap (λ (z : Tiered). z.flat) same)

writes_at : (T U : Tiered) (w b s : ℕ) (x : Content) (o : Outcome) → WritesAt T w b x s o U → GrowsTo T U
writes_at T U w b s x o case = to_state T U _ case.0 (place_grows T.flat case.0 w s b (put.Fresh x) o case.1) case.2 refl

appends_at : (T U : Tiered) (w b s : ℕ) (o : Outcome) → AppendsAt T w b s o U → GrowsTo T U
appends_at T U w b s o case = to_state T U _ case.0 (place_grows T.flat case.0 w s b put.Again o case.1) case.2 refl

moves_to : (T U : Tiered) (w b s : ℕ) (o : Outcome) → MovesTo T w b s o U → GrowsTo T U
moves_to T U w b s o case = to_state T U _ case.0 (place_grows T.flat case.0 w s b put.Again o case.1) case.2 refl

goes_down : (T U : Tiered) (w b : ℕ) (slot : Option ℕ) (o : Outcome) → GoesDown T w b slot o U → GrowsTo T U
goes_down T U w b None o case = stays_grow T U case.same
goes_down T U w b (Some s) o case = appends_at T U w b s o case

demotes : (T U : Tiered) (keys : ℕ → ℕ) (w : ℕ) (chosen : Option ℕ) (o : Outcome) → Demotes T keys w chosen o U → GrowsTo T U
demotes T U keys w None o case = stays_grow T U case.same
demotes T U keys w (Some b) o case = goes_down T U w b case.0 o case.2

demote_grows : (T U : Tiered) (w : ℕ) (o : Outcome) → DemoteCase T w o U → GrowsTo T U
demote_grows T U w o case = demotes T U case.keys w case.chosen o case.done

writes_in : (T U : Tiered) (w b : ℕ) (x : Content) (slot : Option ℕ) (o : Outcome) → WritesIn T w b x slot o U → GrowsTo T U
writes_in T U w b x None o case = stays_grow T U case.same
writes_in T U w b x (Some s) o case = writes_at T U w b s x o case

writes_grow : (T U : Tiered) (w b : ℕ) (x : Content) (slot : Option ℕ) (o : Outcome) → Writes T w b x slot o U → GrowsTo T U
writes_grow T U w b x None o case =
    grows_more T.flat case.between.flat U.flat (demote_grows T case.between w case.demoted case.down) (writes_in case.between U w b x case.slot o case.done)
writes_grow T U w b x (Some s) o case = writes_at T U w b s x o case

plugs_grow : (T U : Tiered) (w : ℕ) (plan : Option Move) (o : Outcome) → Plugs T w plan o U → GrowsTo T U
plugs_grow T U w None o case = stays_grow T U case.same
plugs_grow T U w (Some move) o case = moves_to T U w move.block move.to o case

cleans_grow : (T U : Tiered) (w : ℕ) (plan : Option Move) (o : Outcome) → Cleans T w plan o U → GrowsTo T U
cleans_grow T U w None o case = stays_grow T U case.same
cleans_grow T U w (Some move) o case = appends_at T U w move.block move.to o case

pub tier_grows : (T U : Tiered) (step : TierStep) (o : Outcome) → TierCase T step o U → GrowsTo T U
tier_grows T U (t.Write w b x) o case = writes_grow T U w b x case.slot o case.done
tier_grows T U (t.Demote w) o case = demote_grows T U w o case
tier_grows T U (t.Plug w) o case = plugs_grow T U w case.plan o case.done
tier_grows T U (t.Clean w) o case = cleans_grow T U w case.plan o case.done

put_stops : (T U : Tiered) (w : ℕ) (what : Put) (b s : ℕ) → PutStops T w what b s U → GrowsTo T U
put_stops T U w what b s stops = to_state T U _ stops.left (stops_grow T.flat stops.left w s b what stops.stops) stops.same refl

writes_stop : (T U : Tiered) (w b : ℕ) (x : Content) (slot : Option ℕ) → WritesStop T w b x slot U → GrowsTo T U
writes_stop T U w b x None (inl down) = put_stops T U w put.Again down.block down.slot down.stops
writes_stop T U w b x None (inr after) =
    grows_more T.flat after.between.flat U.flat (demote_grows T after.between w after.demoted after.down) (put_stops after.between U w (put.Fresh x) b after.slot after.stops)
writes_stop T U w b x (Some s) stops = put_stops T U w (put.Fresh x) b s stops

pub tier_stops_grow : (T U : Tiered) (step : TierStep) → TierStops T step U → GrowsTo T U
tier_stops_grow T U (t.Write w b x) stops = writes_stop T U w b x stops.slot stops.stops
tier_stops_grow T U (t.Demote w) stops = put_stops T U w put.Again stops.block stops.slot stops.stops
tier_stops_grow T U (t.Plug w) stops = put_stops T U w put.Again stops.move.block stops.move.to stops.stops
tier_stops_grow T U (t.Clean w) stops = put_stops T U w put.Again stops.move.block stops.move.to stops.stops

pub alone_grows : (T U : Tiered) (step : FlatStep) (answer : FlatAnswer) → IsPlain step → StepAlone T step answer U → GrowsTo T U
alone_grows T U step answer plain case = to_state T U _ case.0 (step_grows T.flat case.0 step answer plain case.1) case.2 refl

pub noted_grows : (T U : Tiered) (w s b : ℕ) (answer : FlatAnswer) → CommitNoted T w s b answer U → GrowsTo T U
noted_grows T U w s b answer case = commit_cases T.flat U.flat w s b answer case.case

pub call_grows : (T : Tiered) (asked : Call) (reply : CallAnswer) (U : Tiered) → CallCase T asked reply U → GrowsTo T U
call_grows T (call.Claim w s) (answered.Step a) U case = alone_grows T U (Claim w s) (flat_answer a) tt case
call_grows T (call.Release w s) (answered.Step a) U case = alone_grows T U (Release w s) (flat_answer a) tt case
call_grows T (call.Fill w s payload) (answered.Step a) U case = alone_grows T U (Fill w s _) (flat_answer a) tt case
call_grows T (call.Copy w s b) (answered.Step a) U case = alone_grows T U (Copy w s b) (flat_answer a) tt case
call_grows T (call.Commit w s b) (answered.Step a) U case = noted_grows T U w s b (flat_answer a) case
call_grows T (call.Discard w s) (answered.Step a) U case = alone_grows T U (Discard w s) (flat_answer a) tt case
call_grows T (call.ReadAt r) (answered.Step a) U case = alone_grows T U (ReadAt r) (flat_answer a) tt case
call_grows T (call.Write b payload) (answered.Plan o) U case = tier_grows T U (t.Write 0 b _) o case
call_grows T (call.Trim b) (answered.Plan o) U case = tier_grows T U (t.Write 0 b _) o case
call_grows T call.Demote (answered.Plan o) U case = tier_grows T U (t.Demote 0) o case
call_grows T call.Plug (answered.Plan o) U case = tier_grows T U (t.Plug 0) o case
call_grows T call.Clean (answered.Plan o) U case = tier_grows T U (t.Clean 0) o case
call_grows T call.Flush answered.Flushed U case = to_state T U _ case.0 (grows_left T.flat case.0 case.1) case.2 refl
call_grows T _ _ U case = absurd case

stops_grow_call : (T : Tiered) (asked : Call) (U : Tiered) → CallStops T asked U → GrowsTo T U
stops_grow_call T (call.Claim w s) U stops = stays_grow T U stops
stops_grow_call T (call.Release w s) U stops = stays_grow T U stops
stops_grow_call T (call.Fill w s payload) U stops = stays_grow T U stops
stops_grow_call T (call.Copy w s b) U stops = stays_grow T U stops
stops_grow_call T (call.Commit w s b) U stops = stays_grow T U stops
stops_grow_call T (call.Discard w s) U stops = stays_grow T U stops
stops_grow_call T (call.ReadAt r) U stops = stays_grow T U stops
stops_grow_call T (call.Write b payload) U stops = tier_stops_grow T U (t.Write 0 b _) stops
stops_grow_call T (call.Trim b) U stops = tier_stops_grow T U (t.Write 0 b _) stops
stops_grow_call T call.Demote U stops = tier_stops_grow T U (t.Demote 0) stops
stops_grow_call T call.Plug U stops = tier_stops_grow T U (t.Plug 0) stops
stops_grow_call T call.Clean U stops = tier_stops_grow T U (t.Clean 0) stops
stops_grow_call T call.Flush U stops = stays_grow T U stops

pub made_grows : (T : Tiered) (asked : Call) (U : Tiered) → IsMade T asked U → GrowsTo T U
made_grows T asked U (inl case) = call_grows T asked case.0 U case.1
made_grows T asked U (inr stops) = stops_grow_call T asked U stops

-- what a call made, by its result
pub made_of : {E : Type 0} (r : Result CallAnswer E) (t u : TiersView) (asked : Call)
    → IfOk r (λ answer. (T : Tiered) → RepresentsTiers t T → (U : Tiered) × CallCase T asked answer U × RepresentsTiers u U)
    → OnErr r ((T : Tiered) → RepresentsTiers t T → (U : Tiered) × CallStops T asked U × RepresentsTiers u U)
    → (T : Tiered) → RepresentsTiers t T → (U : Tiered) × IsMade T asked U × RepresentsTiers u U
made_of (Ok answer) t u asked ok err T matches = let done = ok T matches in (done.0, inl (answer, done.1), done.2)
made_of (Err e) t u asked ok err T matches = let done = err T matches in (done.0, inr done.1, done.2)
