use Rattle.std.proofs.Common.{length, [], rules, subst, sym, ap, ◌∙◌, refl, take, map, inl, inr, Some}
use Rattle.std.proofs.lemmas.Option.{slice_get-get_or}
use Rattle.flat_machine.specs.Flat.{HeldOnce}
use Rattle.slot_tables.specs.Views.{WorldView, IsWhole}
use Rattle.slot_tables.specs.Represents.{Represents}
use Rattle.step_core.specs.Headline.{TellingRun, StepsTo, OfEach, HasMaps, IsOneMissed, HasHeaders, ReadsLast, IsMemoryStop}
use Rattle.step_core.specs.Reported.{flat_step, flat_answer}
use Rattle.step_core.proofs.Standing.{matches, has_headers}
use Rattle.step_core.proofs.Runnings.{StandingRun, telling, fits_at, sizes_again, runs_step, take_past, some_steps, steps_step, steps_none, none_past}
use Rattle.step_core.proofs.run.run_by.Goals as goal

pub carry-requires-clause-fits : goal.carry-requires-clause-fits
carry-requires-clause-fits g c =
    fits_at c.args.steps.now c.loop-at.at c.index-steps-at.result c.loop-at-test.true c.index-steps-at.is _ _ c.loop-at.invariant.sizes c.requires.fits

pub loop-at-preserved : goal.loop-at-preserved
loop-at-preserved g c = record {
  runs = λ F rep.
      let x = c.loop-at.invariant.runs F rep in
      let y = c.in-Ok-carry.ensures.ok x.0 x.2 in (
        y.0,
        runs_step F x.0 y.0 c.args.steps.now c.loop-at.answers.items c.push_reserved.new.self.items c.loop-at.at c.index-steps-at.result c.in-Ok-carry.answer
            c.loop-at-test.true c.index-steps-at.is c.push_reserved.ensures.items x.1 y.1 y.2.array.history.groups.table,
        y.2,
      );
  worlds = steps_step c.args.world c.loop-at.world c.carry.new.world c.args.steps.now c.loop-at.answers.items c.push_reserved.new.self.items c.loop-at.at c.index-steps-at.result c.in-Ok-carry.answer
      c.loop-at-test.true c.index-steps-at.is c.push_reserved.ensures.items c.loop-at.invariant.worlds (record { ok = c.in-Ok-carry.ensures.ok; room = c.carry.ensures.room });
  sizes = sizes_again _ _ _ c.loop-at.invariant.sizes c.carry.ensures.room;
  count = search rules;
  room = search rules;
}

-- at the end
pub returns : goal.returns
returns g c = record {
  run = λ F rep. let x = c.loop-at.invariant.runs F rep in (
    x.0,
    telling F x.0 (map flat_step c.args.steps.now) (map flat_answer c.loop-at.answers.items)
        (subst (λ steps. StandingRun F (map flat_step steps) (map flat_answer c.loop-at.answers.items) x.0) (take_past c.args.steps.now c.loop-at.at c.loop-at-test.false) x.1),
    x.2,
    matches c.loop-at.world x.0 c.whole-2.ensures x.2,
  );
  worlds = subst (λ steps. StepsTo c.args.world steps c.loop-at.answers.items c.loop-at.world) (take_past c.args.steps.now c.loop-at.at c.loop-at-test.false) c.loop-at.invariant.worlds;
  answers = search rules;
  once = λ G rep. (matches c.loop-at.world G c.whole-2.ensures rep).once;
  maps = λ G rep. (matches c.loop-at.world G c.whole-2.ensures rep).every;
  headers = λ F rep. let x = c.loop-at.invariant.runs F rep in has_headers c.loop-at.world x.0 c.whole-2.ensures x.2;
  reads = λ G rep. (matches c.loop-at.world G c.whole-2.ensures rep).read;
  stopped = tt;
}

-- out of memory before the first step
pub returns-in-Err : goal.returns-in-Err
returns-in-Err g c = record {
  run = λ F rep. (
    F,
    subst (λ answers. TellingRun F (map flat_step (take 0 c.args.steps.now)) (map flat_answer answers) F) (sym c.new.ensures.items)
        (telling F F [] [] (refl, rep.array.history.groups.table)),
    rep,
    matches c.args.world F c.whole.ensures rep,
    some_steps (length c.args.steps.now) (λ none. let bad = c.in-Err.ensures.succeeds none in cc),
    inl refl,
  );
  worlds = subst (λ answers. StepsTo c.args.world (take 0 c.args.steps.now) answers c.args.world) (sym c.new.ensures.items)
      (subst (λ steps. StepsTo c.args.world steps [] c.args.world) (sym (none_past 0 refl c.args.steps.now)) refl);
  answers = (ap length c.new.ensures.items, some_steps (length c.args.steps.now) (λ none. let bad = c.in-Err.ensures.succeeds none in cc));
  once = λ G rep. (matches c.args.world G c.whole.ensures rep).once;
  maps = λ G rep. (matches c.args.world G c.whole.ensures rep).every;
  headers = λ F rep. has_headers c.args.world F c.whole.ensures rep;
  reads = λ G rep. (matches c.args.world G c.whole.ensures rep).read;
  stopped = ((λ first. refl), (λ G rep. inl refl));
}

-- out of memory in a step, which left the world as it was
pub returns-in-Err-carry : goal.returns-in-Err-carry
returns-in-Err-carry g c = record {
  run = λ F rep. let x = c.loop-at.invariant.runs F rep in
      let now : Represents c.carry.new.world x.0 = subst (λ (v : WorldView). Represents v x.0) (sym c.in-Err-carry.ensures.err) x.2 in (
        x.0,
        telling F x.0 (map flat_step (take c.loop-at.at c.args.steps.now)) (map flat_answer c.loop-at.answers.items) x.1,
        now,
        matches c.carry.new.world x.0 (subst (λ (v : WorldView). IsWhole v.array) (sym c.in-Err-carry.ensures.err) c.whole-in-loop-at.ensures) now,
        c.loop-at-test.true,
        inr (
          c.index-steps-at.result,
          slice_get-get_or c.args.steps.now c.loop-at.at c.index-steps-at.result c.loop-at-test.true ∙ ap (λ s. Some s) (sym c.index-steps-at.is),
          c.in-Err-carry.ensures.needs x.0 x.2,
        ),
      );
  worlds = subst (λ (v : WorldView). StepsTo c.args.world (take c.loop-at.at c.args.steps.now) c.loop-at.answers.items v) (sym c.in-Err-carry.ensures.err) c.loop-at.invariant.worlds;
  answers = (search rules, c.loop-at-test.true);
  once = subst (λ (v : WorldView). OfEach v HeldOnce) (sym c.in-Err-carry.ensures.err) (λ G rep. (matches c.loop-at.world G c.whole-in-loop-at.ensures rep).once);
  maps = subst (λ (v : WorldView). OfEach v (HasMaps v)) (sym c.in-Err-carry.ensures.err) (λ G rep. (matches c.loop-at.world G c.whole-in-loop-at.ensures rep).every);
  headers = λ F rep. let x = c.loop-at.invariant.runs F rep in
      subst (λ (v : WorldView). IsOneMissed v.array.parts → HasHeaders v) (sym c.in-Err-carry.ensures.err) (has_headers c.loop-at.world x.0 c.whole-in-loop-at.ensures x.2);
  reads = subst (λ (v : WorldView). OfEach v (ReadsLast v)) (sym c.in-Err-carry.ensures.err) (λ G rep. (matches c.loop-at.world G c.whole-in-loop-at.ensures rep).read);
  stopped = (
    (λ first. c.in-Err-carry.ensures.err
        ∙ sym (steps_none c.args.world c.loop-at.world (take c.loop-at.at c.args.steps.now) c.loop-at.answers.items (none_past c.loop-at.at first c.args.steps.now) c.loop-at.invariant.worlds)),
    subst (λ (v : WorldView). OfEach v (IsMemoryStop c.args.steps.now c.loop-at.at)) (sym c.in-Err-carry.ensures.err) (λ G rep. inr (
      c.index-steps-at.result,
      slice_get-get_or c.args.steps.now c.loop-at.at c.index-steps-at.result c.loop-at-test.true ∙ ap (λ s. Some s) (sym c.index-steps-at.is),
      c.in-Err-carry.ensures.needs G rep,
    )),
  );
}
