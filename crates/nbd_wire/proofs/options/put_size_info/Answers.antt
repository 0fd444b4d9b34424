use Rattle.nbd_wire.proofs.Chains.{four_put}
use Rattle.nbd_wire.proofs.options.put_size_info.Goals as goal

pub returns-clause-ok : goal.returns-clause-ok
returns-clause-ok c =
    four_put c.put_u16-2.result c.args.out.now.items _ _ _ _ _ _ _ _ c.in_ok-put_u32.ensures.ok c.in_ok-put_u16.ensures.ok
    c.in_ok-put_u64.ensures.ok c.put_u16-2.ensures.ok
