use Rattle.script_syntax.proofs.Payloads.{no_payload, payload_alone}
use Rattle.script_syntax.proofs.payload.put_payload.Goals as goal

pub returns-clause-put : goal.returns-clause-put
returns-clause-put c reported =
    rw c.in-Some.is (payload_alone c.in-Some.digits.now c.decode_hex.new.out _ c.decode_hex.result c.decode_hex.ensures reported)

pub returns-clause-none : goal.returns-clause-none
returns-clause-none c reported bytes long alone =
    no_payload c.in-Some.digits.now _ c.decode_hex.result _ c.decode_hex.ensures reported bytes long (rw c.in-Some.is at alone)
