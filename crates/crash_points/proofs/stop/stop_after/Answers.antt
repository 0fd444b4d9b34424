use Rattle.std.proofs.Common.{sym, ◌∙◌, ap, subst}
use Rattle.slot_tables.specs.Views.{ArrayView, kept_at}
use Rattle.header_scan.specs.Restarts.{IsResumeFault}
use Rattle.slot_tables.specs.Claims.{claims_in, how_many}
use Rattle.crash_points.proofs.Stopping.{stopped, cut_short, failed, resumable, was_stopped}
use Rattle.crash_points.proofs.stop.stop_after.Goals as goal

pub run_micro-requires-clause-writes : goal.run_micro-requires-clause-writes
run_micro-requires-clause-writes g c = c.in-Ok.ensures.run c.in-Ok-into_parts.taken.0 c.in-Ok-into_parts.ensures.parts c.in-Ok-into_parts.ensures.fit

-- the parts couldn't be taken: out of memory, where the step's checks pass
pub returns-in-Err-into_parts-clause-why : goal.returns-in-Err-into_parts-clause-why
returns-in-Err-into_parts-clause-why g c F w shows may = (c.in-Ok.ensures.flat F w shows may).expected

pub returns-in-Ok-restart-clause-stopped : goal.returns-in-Ok-restart-clause-stopped
returns-in-Ok-restart-clause-stopped g c F w shows may =
    let d = g.D.Drive in
    let p = c.in-Ok-into_parts.taken.0 in
    let q = c.run_micro.new.parts in
    cut_short d.units d.lost d.failures c.plan_micro.new.array c.in-Ok-restart.restarted.0 p q c.in-Ok.list.items c.args.n F w c.args.intent.now (c.in-Ok.ensures.flat F w shows may)
    c.in-Ok-into_parts.ensures.parts c.in-Ok-into_parts.ensures.note c.in-Ok-into_parts.ensures.fit
    (stopped d.units d.lost d.failures p q c.in-Ok.list.items c.args.n c.run_micro.ensures.note c.run_micro.ensures.cells c.run_micro.ensures.touched c.run_micro.ensures.groups) c.in-Ok-restart.ensures.stopped

pub returns-in-Ok-restart-clause-resumed : goal.returns-in-Ok-restart-clause-resumed
returns-in-Ok-restart-clause-resumed g c F w shows may =
    let d = g.D.Drive in
    let q = c.run_micro.new.parts in
    let made = c.in-Ok-restart.ensures.finished in (
      q,
      was_stopped d.units d.lost d.failures c.args.array c.plan_micro.new.array c.in-Ok-into_parts.taken.0 q c.in-Ok.list.items c.args.n F w c.args.intent.now c.plan_micro.ensures.loses (c.in-Ok.ensures.flat F w shows may)
          c.in-Ok-into_parts.ensures.parts c.in-Ok-into_parts.ensures.note c.run_micro.ensures.note c.run_micro.ensures.cells c.run_micro.ensures.touched c.run_micro.ensures.groups,
      (made.0, (made.1.0, made.1.1, made.1.2.0)),
    )

pub returns-in-Ok-restart-clause-claims : goal.returns-in-Ok-restart-clause-claims
returns-in-Ok-restart-clause-claims g c = record {
  kept = c.in-Ok-into_parts.taken.1.items;
  of = λ slot. c.in-Ok-into_parts.ensures.claims slot ∙ ap (λ (v : ArrayView). claims_in (kept_at v slot)) c.plan_micro.ensures.loses.0;
  shared = c.in-Ok-restart.ensures.claims;
}

pub returns-in-Err-restart-clause-returned : goal.returns-in-Err-restart-clause-returned
returns-in-Err-restart-clause-returned g c = (
  c.in-Err-restart.ensures.fit,
  λ slot. ap (λ claims. how_many g.C.Hold.names claims slot) (ap (λ v. v.items) c.in-Err-restart.ensures.kept) ∙ c.in-Ok-into_parts.ensures.claims slot ∙ ap (λ (v : ArrayView). claims_in (kept_at v slot)) c.plan_micro.ensures.loses.0,
)

pub returns-in-Err-restart-clause-why : goal.returns-in-Err-restart-clause-why
returns-in-Err-restart-clause-why g c F w shows may =
    let d = g.D.Drive in
    let q = c.run_micro.new.parts in (
      q,
      was_stopped d.units d.lost d.failures c.args.array c.plan_micro.new.array c.in-Ok-into_parts.taken.0 q c.in-Ok.list.items c.args.n F w c.args.intent.now c.plan_micro.ensures.loses (c.in-Ok.ensures.flat F w shows may)
          c.in-Ok-into_parts.ensures.parts c.in-Ok-into_parts.ensures.note c.run_micro.ensures.note c.run_micro.ensures.cells c.run_micro.ensures.touched c.run_micro.ensures.groups,
      subst (λ claims. IsResumeFault d.units d.lost d.failures q c.in-Err-restart.parts g.C.Hold.names claims c.in-Err-restart.fault) (sym (ap (λ v. v.items) c.in-Err-restart.ensures.kept)) c.in-Err-restart.ensures.refused,
    )

pub returns-in-Err-restart-clause-again : goal.returns-in-Err-restart-clause-again
returns-in-Err-restart-clause-again g c F w shows may =
    let d = g.D.Drive in
    let p = c.in-Ok-into_parts.taken.0 in
    let q = c.run_micro.new.parts in
    resumable d.units d.lost d.failures c.args.array c.plan_micro.new.array p q c.in-Err-restart.parts c.in-Ok.list.items c.args.n F w c.args.intent.now c.plan_micro.ensures.loses
    (c.in-Ok.ensures.flat F w shows may) c.in-Ok-into_parts.ensures.parts c.in-Ok-into_parts.ensures.note c.in-Ok-into_parts.ensures.fit
    (stopped d.units d.lost d.failures p q c.in-Ok.list.items c.args.n c.run_micro.ensures.note c.run_micro.ensures.cells c.run_micro.ensures.touched c.run_micro.ensures.groups)
    c.in-Err-restart.ensures.again

pub returns-in-Err-restart-clause-fails : goal.returns-in-Err-restart-clause-fails
returns-in-Err-restart-clause-fails g c F w shows may =
    let d = g.D.Drive in
    let p = c.in-Ok-into_parts.taken.0 in
    let q = c.run_micro.new.parts in
    failed d.units d.lost d.failures c.args.array c.plan_micro.new.array p q c.in-Err-restart.parts c.in-Ok.list.items c.args.n F w c.args.intent.now g.C.Hold.names c.in-Ok-into_parts.taken.1.items
    c.in-Err-restart.fault shows (c.in-Ok.ensures.flat F w shows may) c.in-Ok-into_parts.ensures.parts c.in-Ok-into_parts.ensures.note c.in-Ok-into_parts.ensures.fit
    (stopped d.units d.lost d.failures p q c.in-Ok.list.items c.args.n c.run_micro.ensures.note c.run_micro.ensures.cells c.run_micro.ensures.touched c.run_micro.ensures.groups)
    (λ slot. c.in-Ok-into_parts.ensures.claims slot ∙ ap (λ (v : ArrayView). claims_in (kept_at v slot)) c.plan_micro.ensures.loses.0) c.in-Ok-into_parts.ensures.claims
    c.requires c.in-Err-restart.ensures.fails
