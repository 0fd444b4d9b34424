use Rattle.std.proofs.Common.{◌∙◌, ap, length, take, refl, arith}
use Rattle.std.specs.Prelude.{slice_get}
use Rattle.std.proofs.lemmas.Option.{slice_get_read}
use Rattle.file_vault.specs.Folders.{Folder}
use Rattle.file_vault.specs.Calls.{folder_of, seen_from, none_past}
use Rattle.file_vault.proofs.Replayed.{seen_next}
use Rattle.file_vault.proofs.mem_files.end_of.Goals as goal

pub loop-call-preserved : goal.loop-call-preserved
loop-call-preserved c = λ k past.
    let index = c.loop-call.call-index in
    let calls = c.args.calls.now in
    let next = seen_next (folder_of c.args.first.now) calls index c.call-item.result (slice_get_read calls (length calls) index c.call-item.result refl c.loop-call-test.true c.call-item.is) in
    ap (λ (f : Folder). f c.args.file k) next ∙ c.in_ok-end.ensures (seen_from (folder_of c.args.first.now) (take index calls)) c.loop-call.invariant k past

pub loop-call-init : goal.loop-call-init
loop-call-init c = λ k past. none_past (slice_get c.args.first.now c.args.file) k (omega (arith, past, c.first_length-end.ensures))
