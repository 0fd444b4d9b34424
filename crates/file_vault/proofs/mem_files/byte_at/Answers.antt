use Rattle.std.proofs.Common.{◌∙◌, ap, sym, length, take, refl}
use Rattle.std.proofs.lemmas.Option.{slice_get_read}
use Rattle.file_vault.specs.Folders.{Folder}
use Rattle.file_vault.specs.Calls.{folder_of, seen_from}
use Rattle.file_vault.proofs.Replayed.{seen_next}
use Rattle.file_vault.proofs.mem_files.byte_at.Goals as goal

pub loop-call-preserved : goal.loop-call-preserved
loop-call-preserved c =
    let k = c.loop-call.call-index in
    let calls = c.args.calls.now in
    let next = seen_next (folder_of c.args.first.now) calls k c.call-item.result (slice_get_read calls (length calls) k c.call-item.result refl c.loop-call-test.true c.call-item.is) in
    c.byte_after-byte.ensures (seen_from (folder_of c.args.first.now) (take k calls)) c.loop-call.invariant ∙ ap (λ (f : Folder). f c.args.file c.args.at) (sym next)
