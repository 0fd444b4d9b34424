use Rattle.std.proofs.lemmas.Result.{on_ok_weaker}
use Rattle.file_vault.proofs.Blocks.{block_is}
use Rattle.file_vault.proofs.header.write_header.Goals as goal

pub returns-clause-header : goal.returns-clause-header
returns-clause-header g c = λ known.
    let k1 = c.write_identity.ensures.stays known in
    let k2 = c.write_at.ensures.stays k1 in
    let k3 = c.write_number.ensures.stays k2 in
    let k4 = c.write_number-2.ensures.stays k3 in
    let k5 = c.sync.ensures.stays k4 in
    let k6 = c.write_at-2.ensures.stays k5 in
    on_ok_weaker c.sync-2.result (λ durable.
    block_is c.args.header.now.number c.args.header.now _ _ _ _ _ _ _ _ (c.in_ok-write_identity.ensures.wrote known) (c.in_ok-write_at.ensures.wrote k1) (c.in_ok-write_number.ensures.wrote k2) (c.in_ok-write_number-2.ensures.wrote k3)
    (c.sync.ensures.seen k4) (c.in_ok-write_at-2.ensures.wrote k5) (c.sync-2.ensures.seen k6) c.write_identity.ensures.long c.write_number.ensures.small c.write_number-2.ensures.small)
    (c.sync-2.ensures.durable k6)
