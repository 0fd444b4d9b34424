use Rattle.map_join.specs.Maps.{IsSame, lone}
use Rattle.std.proofs.Common.{slice_index}
use Rattle.map_join.proofs.Lanes.{one_key, lone_page}
use Rattle.map_join.proofs.page.Page.of_key.Goals as goal

pub returns : goal.returns
returns c = rw c.in_ok-new.ensures.ok (one_key 64 c.args.lane c.args.key c.requires.lane)

pub invariant_of-result : goal.invariant_of-result
invariant_of-result c =
    let same : IsSame (slice_index c.in_ok-new.field-0.value) (lone c.args.lane c.args.key) = returns c in
    lone_page c.in_ok-new.field-0.value c.args.lane c.args.key c.requires.lane c.requires.key same
