use Rattle.std.proofs.Common.{◌∙◌, ap}
use Rattle.file_vault.specs.Folders.{mixed_at}
use Rattle.file_vault.specs.Generations.{stamp_bytes, stamp_offset, unstamped}
use Rattle.file_vault.proofs.Puts.{both_elapse}
use Rattle.file_vault.proofs.Stamps.{length_code}
use Rattle.file_vault.proofs.Unstamped.{unstamped_elapses, hidden_at, hidden_mixed}
use Rattle.file_vault.proofs.stamped_files.raise.Goals as goal

pub returns-in_err-write_generation-clause-seen : goal.returns-in_err-write_generation-clause-seen
returns-in_err-write_generation-clause-seen g c = λ known.
    hidden_mixed c.args.file (stamp_bytes 8 c.args.next) (g.F.Files.seen c.args.files.now) (g.F.Files.seen c.write_generation.new.files) c.requires (length_code 8 c.args.next) (c.write_generation.ensures.mixed known)

pub returns-in_err-write_generation-clause-leaves : goal.returns-in_err-write_generation-clause-leaves
returns-in_err-write_generation-clause-leaves g c = λ known stop. (c.write_generation.ensures.time known stop).ends

pub returns-in_err-write_generation-clause-time : goal.returns-in_err-write_generation-clause-time
returns-in_err-write_generation-clause-time g c = λ known stop.
    unstamped_elapses _ _ _ _ _ _ _ (c.write_generation.ensures.time known stop) (hidden_at c.args.file c.args.next (g.F.Files.may_leave c.args.files.now stop) c.requires)

pub returns-clause-seen : goal.returns-clause-seen
returns-clause-seen g c = λ known.
    ap unstamped (c.sync.ensures.seen (c.write_generation.ensures.stays known))
    ∙ hidden_mixed c.args.file (stamp_bytes 8 c.args.next) (g.F.Files.seen c.args.files.now) (g.F.Files.seen c.write_generation.new.files) c.requires (length_code 8 c.args.next) (c.write_generation.ensures.mixed known)

pub returns-clause-leaves : goal.returns-clause-leaves
returns-clause-leaves g c = λ known stop h now.
    (c.write_generation.ensures.time known stop).ends h ((c.sync.ensures.time (c.write_generation.ensures.stays known) stop).ends h now)

pub returns-clause-time : goal.returns-clause-time
returns-clause-time g c = λ known stop.
    let first = c.write_generation.ensures.time known stop in
    unstamped_elapses _ _ _ _ _ _ _
    (both_elapse _ _ _ _ _ _ _ _ _ _ (mixed_at c.args.file (stamp_offset c.args.file) (stamp_bytes 8 c.args.next) (g.F.Files.may_leave c.args.files.now stop)) first
    (c.sync.ensures.time (c.write_generation.ensures.stays known) stop) (λ h d. d) (λ h there. first.ends h there))
    (hidden_at c.args.file c.args.next (g.F.Files.may_leave c.args.files.now stop) c.requires)
