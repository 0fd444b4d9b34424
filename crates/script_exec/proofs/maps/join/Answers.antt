use Rattle.script_exec.proofs.Benches.{joined_maps}
use Rattle.script_exec.proofs.maps.join.Goals as goal

pub returns : goal.returns
returns c =
    joined_maps c.merge-merged.result c.args.maps.now c.args.into c.args.from c.replace-joined.new.dest c.replace-joined.result
    c.merge-merged.new.self c.index-maps-into.result c.index-maps-from.result c.requires.four c.requires.into c.requires.from
    c.if-into-from.false c.replace-joined.ensures.value c.merge-merged.ensures.map_of
