use Rattle.std.proofs.Common.{subst, List, ℕ}
use Rattle.vault.specs.Moments.{Elapses}
use Rattle.file_vault.specs.Folders.{mixed_at}
use Rattle.file_vault.specs.Generations.{stamp_offset}
use Rattle.file_vault.proofs.stamp.write_generation.Goals as goal

pub returns-clause-time : goal.returns-clause-time
returns-clause-time g c = λ known stop.
    subst (λ (l : List ℕ). Elapses (g.F.Files.moment c.args.files.now) (g.F.Files.moment c.write_at.new.self) (g.F.Files.left_since c.args.files.now stop) (g.F.Files.left_since c.write_at.new.self stop)
    (mixed_at c.args.file (stamp_offset c.args.file) l (g.F.Files.may_leave c.args.files.now stop)) (g.F.Files.may_leave c.write_at.new.self stop)) c.code_of-code.ensures
    (subst (λ n. Elapses (g.F.Files.moment c.args.files.now) (g.F.Files.moment c.write_at.new.self) (g.F.Files.left_since c.args.files.now stop) (g.F.Files.left_since c.write_at.new.self stop)
    (mixed_at c.args.file n c.code_of-code.result (g.F.Files.may_leave c.args.files.now stop)) (g.F.Files.may_leave c.write_at.new.self stop)) c.stamp_offset.ensures (c.write_at.ensures.time known stop))
