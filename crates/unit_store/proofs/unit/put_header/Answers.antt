use Rattle.std.proofs.Common.{length, ap, ◌∙◌, sym}
use Rattle.std.proofs.lemmas.List.{length-take-le}
use Rattle.extents.proofs.Headers.{length-header_bytes}
use Rattle.unit_store.proofs.unit.put_header.Goals as goal

pub copy_from_slice-requires : goal.copy_from_slice-requires
copy_from_slice-requires c = length-take-le 32 c.args.unit.now c.requires ∙ sym (ap length c.encode.ensures.bytes ∙ length-header_bytes c.args.header.now)
