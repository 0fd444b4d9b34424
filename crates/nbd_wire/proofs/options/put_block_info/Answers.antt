use Rattle.nbd_wire.proofs.Chains.{five_put}
use Rattle.nbd_wire.proofs.options.put_block_info.Goals as goal

pub returns-clause-ok : goal.returns-clause-ok
returns-clause-ok c =
    let preferred = rw c.preferred_of.ensures at c.in_ok-put_u32-3.ensures.ok in
    five_put c.put_u32-4.result c.args.out.now.items _ _ _ _ _ _ _ _ _ _ c.in_ok-put_u32.ensures.ok c.in_ok-put_u16.ensures.ok
    c.in_ok-put_u32-2.ensures.ok preferred c.put_u32-4.ensures.ok
