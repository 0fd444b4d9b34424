use Rattle.nbd_wire.proofs.Chains.{three_put}
use Rattle.nbd_wire.proofs.options.put_greeting.Goals as goal

pub returns-clause-ok : goal.returns-clause-ok
returns-clause-ok c =
    three_put c.put_u16.result c.args.out.now.items _ _ _ _ _ _ c.in_ok-put_u64.ensures.ok c.in_ok-put_u64-2.ensures.ok c.put_u16.ensures.ok
