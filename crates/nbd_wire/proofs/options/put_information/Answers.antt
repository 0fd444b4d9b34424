use Rattle.nbd_wire.proofs.Chains.{pairs_put}
use Rattle.nbd_wire.proofs.options.put_information.Goals as goal

pub returns-clause-ok : goal.returns-clause-ok
returns-clause-ok c =
    pairs_put c.put_block_info.result c.args.out.now.items _ _ _ _ _ _ _ _ c.in_ok-put_option_head.ensures.ok
    c.in_ok-put_size_info.ensures.ok c.in_ok-put_option_head-2.ensures.ok c.put_block_info.ensures.ok
