use Rattle.std.proofs.Common.{◌≡◌, length, ap, sym, refl, ◌∙◌, arith}
use Rattle.script_syntax.specs.declared.verb.Tail.TheVariants as tail
use Rattle.script_syntax.proofs.Spellings.{found_as, no_numbers, payload_found}
use Rattle.script_syntax.proofs.parse.follow.Goals as goal

pub returns-in_default : goal.returns-in_default
returns-in_default c =
    no_numbers c.args.verb _ _ _ (ap length c.row-row.ensures.kinds) c.in_default.ensures.none

pub returns-in-Some-last_record : goal.returns-in-Some-last_record
returns-in-Some-last_record c =
    let row = c.row-row.ensures in
    let numbers = c.in-Some.ensures.some in
    let five : length c.next_numbers.new.numbers ≡ 5 = omega arith in
    found_as c.args.verb tail.Record _ _ c.next_numbers.new.numbers _ _ _ _ _ _ five (ap length row.kinds)
    (sym row.tail ∙ c.in-Record.is) numbers.0 numbers.1 c.in-Some-last_record.ensures.some tt

pub returns-in-Payload : goal.returns-in-Payload
returns-in-Payload c =
    let row = c.row-row.ensures in
    let numbers = c.in-Some.ensures.some in
    payload_found c.args.verb _ _ (record { numbers = _; «record» = _; verb = _; class = _; members = c.args.command.now.members }) _ _ _ c.put_payload.result (omega arith) row.few (ap length row.kinds)
    (sym row.tail ∙ c.in-Payload.is) refl numbers.0 numbers.1 c.put_payload.ensures.put c.put_payload.ensures.none c.put_payload.auto.payload

pub returns-in-Some-2 : goal.returns-in-Some-2
returns-in-Some-2 c =
    let row = c.row-row.ensures in
    let numbers = c.in-Some.ensures.some in
    let five : length c.next_numbers.new.numbers ≡ 5 = omega arith in
    found_as c.args.verb tail.Members _ _ c.next_numbers.new.numbers _ _ _ _ _ _ five (ap length row.kinds)
    (sym row.tail ∙ c.in-Members.is) numbers.0 numbers.1 (rw c.in-Some-2.is at c.in_ok-class-in-Members.ensures.some) tt
