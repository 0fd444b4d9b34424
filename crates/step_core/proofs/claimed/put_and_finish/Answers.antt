use Rattle.std.proofs.Common.{rules, ◌≡◌, ◌∙◌, Ok, inr, true, sym, ap, subst}
use Rattle.flat_machine.specs.Flat.{Worker}
use Rattle.slot_tables.specs.Represents.{ShowsArray}
use Rattle.slot_tables.specs.Views.{SameSizes}
use Rattle.step_core.specs.Placing.{Commits, GivesUp, Puts, PutReports, block_for, put_for}
use Rattle.step_core.proofs.Placing.{either, put_of_block, puts_then}
use Rattle.step_core.proofs.claimed.put_and_finish.Goals as goal

pub returns-in-Ok-put-clause-flat : goal.returns-in-Ok-put-clause-flat
returns-in-Ok-put-clause-flat g c =
    let now = c.args.array.now in
    let mid = c.put.new.array in
    let end = c.finish.new.array in
    let s = g.C.Hold.names c.args.claim in
    let b = c.args.block in
    let what = put_for c.args.what in
    let same : c.place_open.new.array ≡ now = search rules in
    let slot : g.C.Hold.names c.in-Err-None-default.claim ≡ s = ap g.C.Hold.names c.in-Err-None-default.ensures.err.0 in
    let puts : Puts now mid what s b =
    λ H x shows held. put_of_block {C = g.row.C.Denot} c.args.what b (Ok c.in-Ok-put.ticket) H x s mid c.requires.of
    (subst (λ n. PutReports {C = g.row.C.Denot} (Ok c.in-Ok-put.ticket) H x what n (block_for c.args.what) mid) slot
    (c.in-Ok-put.ensures.flat H x (subst (λ a. ShowsArray a H) (sym same) shows) (subst (λ n. H.held n (Worker x) ≡ true) (sym slot) held)))
    in
    let named : c.in-Ok-put.ticket ≡ s = c.in-Ok-put.ensures.ticket ∙ slot in
    either c.finish.result
    (λ done commits. puts_then now mid end what s b done.emitted puts (subst (λ n. Commits mid end n b done.emitted) named commits))
    (λ e up. inr (record { between = mid; puts = puts; room = subst (λ a. SameSizes a mid) same c.put.ensures.room; up = subst (λ n. GivesUp mid end n b e.refusal) named up }))
    c.finish.ensures.flat
