use Rattle.std.proofs.Common.{length}
use Rattle.std.proofs.lemmas.Result.{on_ok_weaker}
use Rattle.file_vault.proofs.Places.{reads_part}
use Rattle.file_vault.proofs.header.read_part.Goals as goal

pub returns-clause-bytes : goal.returns-clause-bytes
returns-clause-bytes g c = λ known.
    on_ok_weaker c.read_at.result (λ reads. reads_part (g.F.Files.seen c.args.files.now c.args.number) c.args.at (length c.args.out.now) c.read_at.new.out c.read_at.auto.out reads) (c.read_at.ensures.bytes known)
