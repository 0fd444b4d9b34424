use Rattle.std.proofs.Common.{rules, ◌≡◌, ◌∙◌, ap, Some, sym}
use Rattle.vault.specs.Replay.{seen_at, seen_after}
use Rattle.vault.specs.declared.memory.Call.{Call}
use Rattle.extent_groups.specs.Cells.{held}
use Rattle.vault.proofs.Replayed.{unit_there}
use Rattle.vault.proofs.memory.unit_after.Goals as goal

pub returns : goal.returns
returns c = λ calls was.
    let same : c.in-Unit.at ≡ c.args.place = search (rules, c.if-ne.false, c.ne.ensures) in
    ap (λ (x : Call). held (seen_after x (seen_at calls)).cells c.args.place) c.in-Unit.is
    ∙ unit_there calls c.in-Unit.at c.args.place c.in-Unit.unit.items same
    ∙ ap (λ u. Some u) (sym (c.copy_from_slice.ensures.after ∙ c.deref.ensures.value))
