use Rattle.std.proofs.Common.{sym, subst}
use Rattle.file_vault.specs.Folders.{Folder}
use Rattle.file_vault.specs.Recoveries.{HasChain}
use Rattle.file_vault.proofs.Chained.{both_read}
use Rattle.file_vault.proofs.chain.find_chain.Goals as goal

pub returns-in_err-take_next-clause-read : goal.returns-in_err-take_next-clause-read
returns-in_err-take_next-clause-read g c = λ known.
    let so_far = c.loop-chain.invariant.read known in
    both_read _ _ _ _ _ _ c.args.files.now c.loop-chain.files c.take_next.new.files so_far (c.take_next.ensures.read so_far.keeps)

pub returns-then-not-branch-clause-read : goal.returns-then-not-branch-clause-read
returns-then-not-branch-clause-read g c = λ known.
    let so_far = c.loop-chain.invariant.read known in
    both_read _ _ _ _ _ _ c.args.files.now c.loop-chain.files c.take_next.new.files so_far (c.take_next.ensures.read so_far.keeps)

pub loop-chain-preserved : goal.loop-chain-preserved
loop-chain-preserved g c = record {
  read = λ known.
      let so_far = c.loop-chain.invariant.read known in
      both_read _ _ _ _ _ _ c.args.files.now c.loop-chain.files c.take_next.new.files so_far (c.take_next.ensures.read so_far.keeps);
  chain = λ known.
      let so_far = c.loop-chain.invariant.read known in
      subst (λ (f : Folder). HasChain (f 17) c.take_next.new.chain.places.items c.take_next.new.chain.end) so_far.same
      (c.in_ok-take_next.ensures.more so_far.keeps
      (subst (λ (f : Folder). HasChain (f 17) c.loop-chain.chain.places.items c.loop-chain.chain.end) (sym so_far.same) (c.loop-chain.invariant.chain known)) c.if-not-branch.false);
  inside = (c.in_ok-take_next.ensures.grows c.if-not-branch.false).1;
}
