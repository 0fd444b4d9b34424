use Rattle.nbd_wire.specs.Options.{option_head}
use Rattle.nbd_wire.proofs.Chains.{three_put}
use Rattle.nbd_wire.proofs.options.put_option_head.Goals as goal

pub returns-clause-ok : goal.returns-clause-ok
unfolding option_head
returns-clause-ok c =
    let kind = rw c.number_of_kind.ensures at c.put_u32-2.ensures.ok in
    three_put c.put_u32-2.result c.args.out.now.items _ _ _ _ _ _ c.in_ok-put_u64.ensures.ok c.in_ok-put_u32.ensures.ok kind
