use Rattle.file_vault.proofs.TwinCalls.{kept_not}
use Rattle.file_vault.proofs.twin_files.TwinFiles.open.Goals as goal

pub returns-in_default : goal.returns-in_default
returns-in_default g c = record {
  known = λ known older. (c.join-found.ensures.stays known, c.join-found.ensures.held known older);
  seen = λ known. c.join-found.ensures.seen known (kept_not c.join-found.result.1 c.in_default.not-Neither);
  raised = λ known. c.join-found.ensures.raised known;
  newest = λ known both. c.join-found.ensures.newest known both;
  time = λ known older stop. c.join-found.ensures.time known older stop;
}
