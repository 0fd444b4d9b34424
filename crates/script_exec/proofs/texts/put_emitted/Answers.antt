use Rattle.std.proofs.Common.{◌≡◌, ◌++◌, [], take, ap, ◌∙◌, arith, append-nil}
use Rattle.hex.specs.Hex.{encode_lower}
use Rattle.script_exec.specs.Text.{record_text}
use Rattle.script_exec.proofs.Hexes.{front_digits}
use Rattle.script_exec.proofs.texts.put_emitted.Goals as goal

pub returns-clause-reported : goal.returns-clause-reported
returns-clause-reported c =
    let bytes = c.copy_from_slice.new.self in
    let cut : take 24 (c.encode_hex.new.out ++ []) ≡ record_text c.args.record.now
    = ap (take 24) (append-nil c.encode_hex.new.out) ∙ ap (take 24) c.encode_hex.ensures
    ∙ front_digits 24 bytes _ (omega (arith, c.copy_from_slice.ensures.len))
    ∙ ap encode_lower (c.copy_from_slice.ensures.after ∙ c.to_bytes.ensures.value) in
    rw cut at c.put.ensures.reported
