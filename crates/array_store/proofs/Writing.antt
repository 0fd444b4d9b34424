-- What a placing makes of the last writes: a fresh content is one write more, and a copy is none.
use Rattle.std.proofs.Common.{◌≡◌, ◌≢◌, ◌<◌, inl, inr, ℕ, true, List, [], ◌∷◌, ◌++◌, append-nil, refl, sym, ap, ◌∙◌, subst, arith, Option, Some, None}
use Rattle.flat_machine.specs.declared.refusal.Refusal.{Refusal}
use Rattle.map_join.specs.declared.records.Record.{Record}
use Rattle.flat_machine.specs.Flat.{Flat, Write, Content, Waiting}
use Rattle.flat_machine.specs.Flat as waiting
use Rattle.flat_machine.specs.Steps.{FlatStep, Refused, Released}
use Rattle.flat_machine.specs.Steps as step
use Rattle.flat_machine.specs.Cases.{Case, Leaves, Runs, CommitWith}
use Rattle.flat_machine.specs.Shortened.{IsShortened}
use Rattle.flat_machine.specs.History.{IsHistory}
use Rattle.map_join.specs.Maps.{IsMapOf}
use Rattle.flat_machine.proofs.Newest.{same_map}
use Rattle.flat_machine.proofs.Shortening.{shortened_history}
use Rattle.array_store.specs.Stores.{IsAfter, IsOnward}
use Rattle.std.proofs.lemmas.List.Elements.{Contains-append_left}
use Rattle.flat_machine.proofs.Pairs.{put_here}
use Rattle.step_core.proofs.Worlds.{refused_leaves}
use Rattle.tiered_array.specs.Placing.{Put, Fresh, Again, PlaceCase, PlaceStops, put_step, put_answer, back_steps, back_answers}
use Rattle.tiered_array.specs.Room.{RoomCase, AlwaysCase, AlwaysStops, AlwaysStop, GoesOut, GoesAside, AfterRoom, WritesAgain, WritesAlways, Spares, SpareCase, SpareStops}
use Rattle.tiered_array.specs.Steps.{MovesTo, AppendsAt, WritesAt, WritesIn, PutStops}
use Rattle.tiered_array.specs.Tiered.{Tiered}
use Rattle.tiered_array.specs.declared.outcome.Outcome.{Outcome}
use Rattle.tiered_array.specs.declared.outcome.Outcome.TheVariants as outcome

-- the same groups and as many drives, and a drive that was lost is lost
pub record KeepsDrives (F G : Flat) : Type 0 where
  pub groups : G.groups ≡ F.groups
  pub many : G.drives ≡ F.drives
  pub lost : (d : ℕ) → F.lost d ≡ true → G.lost d ≡ true

-- two states with the same groups, drives and writes
pub record Keeps (F G : Flat) : Type 0 where
  pub drives : KeepsDrives F G
  pub writes : G.writes ≡ F.writes
  pub records : IsOnward F.emitted G.emitted

-- the second state has one write more
pub record Adds (F G : Flat) (b : ℕ) (x : Content) : Type 0 where
  pub drives : KeepsDrives F G
  pub version : ℕ
  pub writes : G.writes ≡ F.writes ++ record { block = b; version = version; content = x } ∷ []
  pub records : IsOnward F.emitted G.emitted

-- logs one after another, and with one record more
pub onward_same : (log : List Record) → IsOnward log log
onward_same log r has = (r, has, refl, omega arith)

pub onward_more : (one two three : List Record) → IsOnward one two → IsOnward two three → IsOnward one three
onward_more one two three a b r has =
    let q = a r has in
    let p = b q.0 q.1 in
    let first = q.3 in
    let second = p.3 in (p.0, p.1, p.2 ∙ q.2, omega (arith, first, second))

onward_push : (log : List Record) (r : Record) → IsOnward log (log ++ r ∷ [])
onward_push log r q has = (q, Contains-append_left log (r ∷ []) q has, refl, omega arith)

onward_to : (log one two : List Record) → two ≡ one → IsOnward log one → IsOnward log two
onward_to log one two same a = subst (IsOnward log) (sym same) a

drives_more : (F M G : Flat) → KeepsDrives F M → KeepsDrives M G → KeepsDrives F G
drives_more F M G a b = record { groups = b.groups ∙ a.groups; many = b.many ∙ a.many; lost = λ d was. b.lost d (a.lost d was) }

keeps_more : (F M G : Flat) → Keeps F M → Keeps M G → Keeps F G
keeps_more F M G a b = record {
  drives = drives_more F M G a.drives b.drives;
  writes = b.writes ∙ a.writes;
  records = onward_more F.emitted M.emitted G.emitted a.records b.records;
}

-- M has the groups and drives of F, and G is M but for drives that failed
drives_left : (F M G : Flat) → Leaves M G → M.groups ≡ F.groups → M.drives ≡ F.drives → M.lost ≡ F.lost → KeepsDrives F G
drives_left F M G leaves groups many lost = record {
  groups = ap (λ (x : Flat). x.groups) leaves.same ∙ groups;
  many = ap (λ (x : Flat). x.drives) leaves.same ∙ many;
  lost = λ d was. (leaves.drives d).stays (ap (λ f. f d) lost ∙ was);
}

keeps_from : (F M G : Flat) → Leaves M G → M.groups ≡ F.groups → M.drives ≡ F.drives → M.lost ≡ F.lost → M.writes ≡ F.writes → IsOnward F.emitted M.emitted → Keeps F G
keeps_from F M G leaves groups many lost writes records = record {
  drives = drives_left F M G leaves groups many lost;
  writes = ap (λ (x : Flat). x.writes) leaves.same ∙ writes;
  records = onward_to F.emitted M.emitted G.emitted (ap (λ (x : Flat). x.emitted) leaves.same) records;
}

pub keeps_left : (F G : Flat) → Leaves F G → Keeps F G
keeps_left F G leaves = keeps_from F F G leaves refl refl refl refl (onward_same F.emitted)

-- a state with another log
keeps_logged : (F : Flat) (log : List Record) → IsOnward F.emitted log → Keeps F (record F { emitted = log })
keeps_logged F log records = record { drives = record { groups = refl; many = refl; lost = λ d was. was }; writes = refl; records = records }

-- one that has of each block the newest record alone
shortened_map : (F G : Flat) (keys : ℕ → ℕ) → IsHistory F keys → (short : IsShortened F G) → IsMapOf G.emitted short.keys
shortened_map F G keys is short =
    (shortened_history F short.keys G.emitted (subst (IsHistory F) (same_map F.emitted keys short.keys is.map short.map_of) is) short.log).map

shortened_onward : (F G : Flat) (keys : ℕ → ℕ) → IsHistory F keys → IsShortened F G → IsOnward F.emitted G.emitted
shortened_onward F G keys is short r has =
    let most = short.map_of.most r has in
    let written = (is.records r has).written in
    let some : 0 < short.keys r.block = omega (arith, most, written) in
    let q = (shortened_map F G keys is short).reported r.block some in
    let same = q.3 in (q.0, q.1, q.2, omega (arith, most, same))

pub keeps_shortened : (F G : Flat) (keys : ℕ → ℕ) → IsHistory F keys → IsShortened F G → Keeps F G
keeps_shortened F G keys is short = subst (Keeps F) (sym short.is) (keeps_logged F G.emitted (shortened_onward F G keys is short))

pub keeps_same : (F G : Flat) → G ≡ F → Keeps F G
keeps_same F G same = subst (Keeps F) (sym same) (keeps_logged F F.emitted (onward_same F.emitted))

keeps_claimed : (F G : Flat) (w s t : ℕ) → Case F (step.Claim w s) (step.Claimed t) G → Keeps F G
keeps_claimed F G w s t case = keeps_from F _ G case.2 refl refl refl refl (onward_same F.emitted)

keeps_released : (F G : Flat) (w s t : ℕ) → Case F (step.Release w s) (Released t) G → Keeps F G
keeps_released F G w s t case = keeps_from F _ G case.2 refl refl refl refl (onward_same F.emitted)

keeps_discarded : (F G : Flat) (w s t : ℕ) → Case F (step.Discard w s) (step.Discarded t) G → Keeps F G
keeps_discarded F G w s t case = keeps_from F _ G case.2 refl refl refl refl (onward_same F.emitted)

keeps_put : (F G : Flat) (what : Put) (w s b : ℕ) → Case F (put_step what w s b) (put_answer what s) G → Keeps F G
keeps_put F G (Fresh x) w s b case = keeps_from F _ G case.3 refl refl refl refl (onward_same F.emitted)
keeps_put F G Again w s b case = keeps_from F _ G case.1.6 refl refl refl refl (onward_same F.emitted)

keeps_refused : (F G : Flat) (taken : FlatStep) (k : Refusal) → Case F taken (Refused k) G → Keeps F G
keeps_refused F G taken k case = keeps_left F G (refused_leaves F G taken k case)

keeps_given : (F G : Flat) (w s : ℕ) → Runs F (step.Release w s ∷ []) (Released s ∷ []) G → Keeps F G
keeps_given F G w s run = keeps_more F run.0 G (keeps_released F run.0 w s s run.1) (keeps_same run.0 G run.2)

keeps_back : (F G : Flat) (w : ℕ) (old : Option Record) → Runs F (back_steps w old) (back_answers old) G → Keeps F G
keeps_back F G w None run = keeps_same F G run
keeps_back F G w (Some old) run = keeps_given F G w old.place run

-- a commit of a fresh content is a write
commit_adds : (F G : Flat) (w s b : ℕ) (r : Record) (x : Content) → F.tickets s ≡ Some (waiting.Fresh x) → Case F (step.Commit w s b) (step.Committed r) G → Adds F G b x
commit_adds F G w s b r x at case =
    let with = subst (λ c. CommitWith F w s b case.2.0 c (step.Committed r) G) at case.2.2 in
    record {
      drives = drives_left F _ G with.4 refl refl refl;
      version = _;
      writes = ap (λ (x : Flat). x.writes) with.4.same;
      records = onward_to F.emitted (F.emitted ++ r ∷ []) G.emitted (ap (λ (x : Flat). x.emitted) with.4.same) (onward_push F.emitted r);
    }

-- a commit of a copy is none
commit_keeps : (F G : Flat) (w s b : ℕ) (r : Record) (c v h : ℕ) (x : Content) → F.tickets s ≡ Some (waiting.Moved c v h x) → Case F (step.Commit w s b) (step.Committed r) G
    → Keeps F G
commit_keeps F G w s b r c v h x at case =
    let with = subst (λ o. CommitWith F w s b case.2.0 o (step.Committed r) G) at case.2.2 in
    keeps_from F _ G with.4 refl refl refl refl (onward_push F.emitted r)

-- what waits at a slot after a fill, and after a copy
fill_waits : (F G : Flat) (w s : ℕ) (x : Content) → Case F (step.Fill w s x) (step.Filled s) G → G.tickets s ≡ Some (waiting.Fresh x)
fill_waits F G w s x case = ap (λ (z : Flat). z.tickets s) case.3.same ∙ put_here F.tickets s (Some (waiting.Fresh x))

copy_waits : (F G : Flat) (w s b : ℕ) → (case : Case F (step.Copy w s b) (step.Copied s) G)
    → G.tickets s ≡ Some (waiting.Moved b case.1.0.version case.1.0.hop case.1.1.content)
copy_waits F G w s b case = ap (λ (z : Flat). z.tickets s) case.1.6.same ∙ put_here F.tickets s (Some (waiting.Moved b case.1.0.version case.1.0.hop case.1.1.content))

-- a placing that was refused, or ran out of memory, half-way
pub stops_keep : (F G : Flat) (w s b : ℕ) (what : Put) → PlaceStops F w s b what G → Keeps F G
stops_keep F G w s b what stops =
    let run = stops.run in
    let claimed = keeps_claimed F run.0 w s s run.1 in
    let put = keeps_put run.0 run.2.0 what w s b run.2.1 in
    let discarded = keeps_discarded run.2.0 run.2.2.0 w s s run.2.2.1 in
    let back = keeps_given run.2.2.0 G w s run.2.2.2 in
    keeps_more F run.0 G claimed (keeps_more run.0 run.2.0 G put (keeps_more run.2.0 run.2.2.0 G discarded back))

refused_keeps : (F G : Flat) (w s b : ℕ) (what : Put) (k : Refusal) → PlaceCase F w s b what (outcome.Refused k) G → Keeps F G
refused_keeps F G w s b what k (inl run) =
    let claimed = keeps_claimed F run.0 w s s run.1 in
    let refused = keeps_refused run.0 run.2.0 (put_step what w s b) k run.2.1 in
    let back = keeps_given run.2.0 G w s run.2.2 in
    keeps_more F run.0 G claimed (keeps_more run.0 run.2.0 G refused back)
refused_keeps F G w s b what k (inr run) =
    let claimed = keeps_claimed F run.0 w s s run.1 in
    let put = keeps_put run.0 run.2.0 what w s b run.2.1 in
    let refused = keeps_refused run.2.0 run.2.2.0 (step.Commit w s b) k run.2.2.1 in
    let discarded = keeps_discarded run.2.2.0 run.2.2.2.0 w s s run.2.2.2.1 in
    let back = keeps_given run.2.2.2.0 G w s run.2.2.2.2 in
    keeps_more F run.0 G claimed (keeps_more run.0 run.2.0 G put (keeps_more run.2.0 run.2.2.0 G refused (keeps_more run.2.2.0 run.2.2.2.0 G discarded back)))

-- a write that lies between states that keep the writes
adds_between : (F H I G : Flat) (b : ℕ) (x : Content) → Keeps F H → Adds H I b x → Keeps I G → Adds F G b x
adds_between F H I G b x before is after = record {
  drives = drives_more F I G (drives_more F H I before.drives is.drives) after.drives;
  version = is.version;
  writes = after.writes ∙ is.writes ∙ ap (λ ws. ws ++ record { block = b; version = is.version; content = x } ∷ []) before.writes;
  records = onward_more F.emitted I.emitted G.emitted (onward_more F.emitted H.emitted I.emitted before.records is.records) after.records;
}

-- a fresh content that is placed is a write
pub fresh_adds : (F G : Flat) (w s b : ℕ) (x : Content) (r : Record) → PlaceCase F w s b (Fresh x) (outcome.Placed r) G → Adds F G b x
fresh_adds F G w s b x r case =
    let run = case.run in
    let before = keeps_more F run.0 run.2.0 (keeps_claimed F run.0 w s s run.1) (keeps_put run.0 run.2.0 (Fresh x) w s b run.2.1) in
    let is = commit_adds run.2.0 run.2.2.0 w s b r x (fill_waits run.0 run.2.0 w s x run.2.1) run.2.2.1 in
    adds_between F run.2.0 run.2.2.0 G b x before is (keeps_back run.2.2.0 G w case.old run.2.2.2)

-- a placing that isn't carried out is none
unplaced_keeps : (F G : Flat) (w s b : ℕ) (what : Put) (o : Outcome) → ((r : Record) → o ≢ outcome.Placed r) → PlaceCase F w s b what o G → Keeps F G
unplaced_keeps F G w s b what (outcome.Placed r) other case = absurd (other r refl)
unplaced_keeps F G w s b what (outcome.Refused k) other case = refused_keeps F G w s b what k case
unplaced_keeps F G w s b what outcome.NoRoom other case = keeps_more F case.0 G (keeps_left F case.0 case.1.2) (keeps_same case.0 G case.2)
unplaced_keeps F G w s b what outcome.Nothing other case = absurd case

-- a copy is none, whatever its outcome
pub again_keeps : (F G : Flat) (w s b : ℕ) (o : Outcome) → PlaceCase F w s b Again o G → Keeps F G
again_keeps F G w s b (outcome.Placed r) case =
    let run = case.run in
    let before = keeps_more F run.0 run.2.0 (keeps_claimed F run.0 w s s run.1) (keeps_put run.0 run.2.0 Again w s b run.2.1) in
    let is = commit_keeps run.2.0 run.2.2.0 w s b r b _ _ _ (copy_waits run.0 run.2.0 w s b run.2.1) run.2.2.1 in
    keeps_more F run.2.0 G before (keeps_more run.2.0 run.2.2.0 G is (keeps_back run.2.2.0 G w case.old run.2.2.2))
again_keeps F G w s b (outcome.Refused k) case = refused_keeps F G w s b Again k case
again_keeps F G w s b outcome.NoRoom case = unplaced_keeps F G w s b Again outcome.NoRoom (λ r e. absurd (cc)) case
again_keeps F G w s b outcome.Nothing case = absurd case

-- what a write makes of the writes, by its outcome
abbrev pub Wrote : Outcome → Flat → Flat → ℕ → Content → Type 0
Wrote (outcome.Placed r) F G b x = Adds F G b x
Wrote _ F G b x = Keeps F G

pub wrote_drives : (o : Outcome) (F G : Flat) (b : ℕ) (x : Content) → Wrote o F G b x → KeepsDrives F G
wrote_drives (outcome.Placed r) F G b x is = is.drives
wrote_drives (outcome.Refused k) F G b x is = is.drives
wrote_drives outcome.NoRoom F G b x is = is.drives
wrote_drives outcome.Nothing F G b x is = is.drives

-- the state after it
pub kept_after : (F G : Flat) → Keeps F G → IsAfter F G
kept_after F G is = record { more = []; writes = is.writes ∙ sym (append-nil F.writes); records = is.records }

pub wrote_state : (o : Outcome) (F G : Flat) (b : ℕ) (x : Content) → Wrote o F G b x → IsAfter F G
wrote_state (outcome.Placed r) F G b x is = let w : Write = record { block = b; version = is.version; content = x } in record { more = w ∷ []; writes = is.writes; records = is.records }
wrote_state (outcome.Refused k) F G b x is = kept_after F G is
wrote_state outcome.NoRoom F G b x is = kept_after F G is
wrote_state outcome.Nothing F G b x is = kept_after F G is

wrote_after : (o : Outcome) (F M G : Flat) (b : ℕ) (x : Content) → Keeps F M → Wrote o M G b x → Wrote o F G b x
wrote_after (outcome.Placed r) F M G b x before is = adds_between F M G G b x before is (keeps_same G G refl)
wrote_after (outcome.Refused k) F M G b x before is = keeps_more F M G before is
wrote_after outcome.NoRoom F M G b x before is = keeps_more F M G before is
wrote_after outcome.Nothing F M G b x before is = keeps_more F M G before is

fresh_wrote : (F G : Flat) (w s b : ℕ) (x : Content) (o : Outcome) → PlaceCase F w s b (Fresh x) o G → Wrote o F G b x
fresh_wrote F G w s b x (outcome.Placed r) case = fresh_adds F G w s b x r case
fresh_wrote F G w s b x (outcome.Refused k) case = refused_keeps F G w s b (Fresh x) k case
fresh_wrote F G w s b x outcome.NoRoom case = unplaced_keeps F G w s b (Fresh x) outcome.NoRoom (λ r e. absurd (cc)) case
fresh_wrote F G w s b x outcome.Nothing case = absurd case

flat_same : (T U : Tiered) → U ≡ T → Keeps T.flat U.flat
flat_same T U same = keeps_same T.flat U.flat (ap (λ (z : Tiered). z.flat) same)

moves_keep : (T U : Tiered) (w b s : ℕ) (o : Outcome) → MovesTo T w b s o U → Keeps T.flat U.flat
moves_keep T U w b s o moves = keeps_more T.flat moves.0 U.flat (again_keeps T.flat moves.0 w s b o moves.1) (keeps_same moves.0 U.flat (ap (λ (z : Tiered). z.flat) moves.2))

appends_keep : (T U : Tiered) (w b s : ℕ) (o : Outcome) → AppendsAt T w b s o U → Keeps T.flat U.flat
appends_keep T U w b s o moves = keeps_more T.flat moves.0 U.flat (again_keeps T.flat moves.0 w s b o moves.1) (keeps_same moves.0 U.flat (ap (λ (z : Tiered). z.flat) moves.2))

writes_at : (T U : Tiered) (w b : ℕ) (x : Content) (s : ℕ) (o : Outcome) → WritesAt T w b x s o U → Wrote o T.flat U.flat b x
writes_at T U w b x s o writes =
    subst (λ F. Wrote o T.flat F b x) (sym (ap (λ (z : Tiered). z.flat) writes.2)) (fresh_wrote T.flat writes.0 w s b x o writes.1)

aside_keeps : (T U : Tiered) (w b : ℕ) (hole : Option ℕ) (o : Outcome) → GoesAside T w b hole o U → Keeps T.flat U.flat
aside_keeps T U w b None o stays = flat_same T U stays.same
aside_keeps T U w b (Some s) o moves = moves_keep T U w b s o moves

out_keeps : (T U : Tiered) (keys : ℕ → ℕ) (w : ℕ) (chosen : Option ℕ) (o : Outcome) → GoesOut T keys w chosen o U → Keeps T.flat U.flat
out_keeps T U keys w None o stays = flat_same T U stays.same
out_keeps T U keys w (Some b) o (inl on) = appends_keep T U w b on.slot o on.done
out_keeps T U keys w (Some b) o (inr aside) = aside_keeps T U w b aside.hole o aside.done

-- a block that makes room changes no write
room_keeps : (T U : Tiered) (w : ℕ) (o : Outcome) → RoomCase T w o U → Keeps T.flat U.flat
room_keeps T U w o case = out_keeps T U case.keys w case.chosen o case.done

stays_wrote : (is o : Outcome) (T U : Tiered) (b : ℕ) (x : Content) → ((r : Record) → is ≢ outcome.Placed r) → o ≡ is → U ≡ T → Wrote o T.flat U.flat b x
stays_wrote is (outcome.Placed r) T U b x other reported same = absurd (other r (sym reported))
stays_wrote is (outcome.Refused k) T U b x other reported same = flat_same T U same
stays_wrote is outcome.NoRoom T U b x other reported same = flat_same T U same
stays_wrote is outcome.Nothing T U b x other reported same = flat_same T U same

in_wrote : (T U : Tiered) (w b : ℕ) (x : Content) (slot : Option ℕ) (o : Outcome) → WritesIn T w b x slot o U → Wrote o T.flat U.flat b x
in_wrote T U w b x None o stays = stays_wrote outcome.NoRoom o T U b x (λ r e. absurd (cc)) stays.reported stays.same
in_wrote T U w b x (Some s) o writes = writes_at T U w b x s o writes

again_wrote : (V U : Tiered) (w b : ℕ) (x : Content) (o : Outcome) → WritesAgain V w b x o U → Wrote o V.flat U.flat b x
again_wrote V U w b x o again = in_wrote V U w b x again.slot o again.done

after_wrote : (V U : Tiered) (w b : ℕ) (x : Content) (moved o : Outcome) → AfterRoom V w b x moved o U → Wrote o V.flat U.flat b x
after_wrote V U w b x (outcome.Refused k) o stays = stays_wrote (outcome.Refused k) o V U b x (λ r e. absurd (cc)) stays.reported stays.same
after_wrote V U w b x (outcome.Placed r) o again = again_wrote V U w b x o again
after_wrote V U w b x outcome.NoRoom o again = again_wrote V U w b x o again
after_wrote V U w b x outcome.Nothing o again = again_wrote V U w b x o again

always_done : (T U : Tiered) (w b : ℕ) (x : Content) (slot : Option ℕ) (o : Outcome) → WritesAlways T w b x slot o U → Wrote o T.flat U.flat b x
always_done T U w b x None o after =
    wrote_after o T.flat after.between.flat U.flat b x (room_keeps T after.between w after.moved after.out) (after_wrote after.between U w b x after.moved o after.done)
always_done T U w b x (Some s) o writes = writes_at T U w b x s o writes

-- a write that is placed is one write more, and any other outcome leaves the writes
pub always_wrote : (T U : Tiered) (w b : ℕ) (x : Content) (o : Outcome) → AlwaysCase T w b x o U → Wrote o T.flat U.flat b x
always_wrote T U w b x o case = always_done T U w b x case.slot o case.done

put_stops_keep : (T U : Tiered) (w : ℕ) (what : Put) (b s : ℕ) → PutStops T w what b s U → Keeps T.flat U.flat
put_stops_keep T U w what b s stops =
    keeps_more T.flat stops.left U.flat (stops_keep T.flat stops.left w s b what stops.stops) (keeps_same stops.left U.flat (ap (λ (z : Tiered). z.flat) stops.same))

stop_keeps : (T U : Tiered) (w b : ℕ) (x : Content) (slot : Option ℕ) → AlwaysStop T w b x slot U → Keeps T.flat U.flat
stop_keeps T U w b x None (inl out) = put_stops_keep T U w Again out.block out.slot out.stops
stop_keeps T U w b x None (inr after) =
    keeps_more T.flat after.between.flat U.flat (room_keeps T after.between w after.moved after.out) (put_stops_keep after.between U w (Fresh x) b after.slot after.stops)
stop_keeps T U w b x (Some s) stops = put_stops_keep T U w (Fresh x) b s stops

-- a write that ran out of memory leaves the writes
pub always_stops_keep : (T U : Tiered) (w b : ℕ) (x : Content) → AlwaysStops T w b x U → Keeps T.flat U.flat
always_stops_keep T U w b x stops = stop_keeps T U w b x stops.slot stops.stops

-- nor does a spare slot change one
pub spare_keeps : (T U : Tiered) (w : ℕ) (o : Outcome) → SpareCase T w o U → Keeps T.flat U.flat
spare_keeps T U w o case = go case.slot case.done
  where
    go : (slot : Option ℕ) → Spares T w slot o U → Keeps T.flat U.flat
    go None room = room_keeps T U w o room
    go (Some s) stays = flat_same T U stays.same

pub spare_stops_keep : (T U : Tiered) (w : ℕ) → SpareStops T w U → Keeps T.flat U.flat
spare_stops_keep T U w stops = put_stops_keep T U w Again stops.stops.block stops.stops.slot stops.stops.stops
