use Rattle.cleaner.specs.Offered.{source_count}
use Rattle.cleaner.proofs.Counting.{some_live, full, few_slots}
use Rattle.cleaner.proofs.Planning.{no_target, no_source, plugged}
use Rattle.cleaner.proofs.Tabled.{none_holed, fullest, none_source, source}
use Rattle.cleaner.proofs.plug.plug_plan_counted.Goals as goal

pub returns-in_default : goal.returns-in_default
returns-in_default g c =
    let keys = g.L.Live.keys c.args.live.now in
    let t = c.parity_slots-slots in
    no_target c.args.groups.now keys c.args.write
    (none_holed c.args.groups.now keys c.args.counts.now t.result.now t.ensures.groups c.requires t.ensures.slots c.args.write c.in_default.ensures)

pub returns-in_default-greatest : goal.returns-in_default-greatest
returns-in_default-greatest g c =
    let keys = g.L.Live.keys c.args.live.now in
    let t = c.parity_slots-slots in
    let into = fullest c.args.groups.now keys c.args.counts.now t.result.now t.ensures.groups c.requires t.ensures.slots c.args.write c.in-Some.target c.in-Some.ensures in
    no_source c.args.groups.now keys c.args.write c.in-Some.target.group c.in-Some.target.rank into
    (none_source c.args.groups.now keys c.args.counts.now t.result.now t.ensures.groups c.requires t.ensures.slots c.args.write c.in-Some.target c.in-Some.ensures
    c.in_default-greatest.ensures)

pub lowest_live-requires-clause-made : goal.lowest_live-requires-clause-made
lowest_live-requires-clause-made g c =
    let keys = g.L.Live.keys c.args.live.now in
    let t = c.parity_slots-slots in
    let out = source c.args.groups.now keys c.args.counts.now t.result.now t.ensures.groups c.requires t.ensures.slots c.args.write c.in-Some.target
    c.in-Some-greatest.source c.in-Some.ensures c.in-Some-greatest.ensures in
    out.offered.has.made

pub returns-in_default-lowest_live : goal.returns-in_default-lowest_live
returns-in_default-lowest_live g c =
    let keys = g.L.Live.keys c.args.live.now in
    let t = c.parity_slots-slots in
    let out = source c.args.groups.now keys c.args.counts.now t.result.now t.ensures.groups c.requires t.ensures.slots c.args.write c.in-Some.target
    c.in-Some-greatest.source c.in-Some.ensures c.in-Some-greatest.ensures in
    absurd (some_live c.args.groups.now keys c.in-Some-greatest.source.group
    (source_count t.result.now c.args.counts.now c.in-Some.target.rank c.in-Some-greatest.source.group) out.offered.has out.offered.some c.in_default-lowest_live.ensures)

pub lowest_hole-requires-clause-made : goal.lowest_hole-requires-clause-made
lowest_hole-requires-clause-made g c =
    let keys = g.L.Live.keys c.args.live.now in
    let t = c.parity_slots-slots in
    let into = fullest c.args.groups.now keys c.args.counts.now t.result.now t.ensures.groups c.requires t.ensures.slots c.args.write c.in-Some.target c.in-Some.ensures in
    into.offered.has.made

pub returns-in_default-lowest_hole : goal.returns-in_default-lowest_hole
returns-in_default-lowest_hole g c =
    let keys = g.L.Live.keys c.args.live.now in
    let t = c.parity_slots-slots in
    let into = fullest c.args.groups.now keys c.args.counts.now t.result.now t.ensures.groups c.requires t.ensures.slots c.args.write c.in-Some.target c.in-Some.ensures in
    absurd (full c.args.groups.now keys c.in-Some.target.group c.in-Some.target.rank (few_slots c.args.groups.now c.in-Some.target.group t.ensures.groups)
    into.offered.has into.offered.hole c.in_default-lowest_hole.ensures)

pub returns : goal.returns
returns g c =
    let keys = g.L.Live.keys c.args.live.now in
    let t = c.parity_slots-slots in
    let into = fullest c.args.groups.now keys c.args.counts.now t.result.now t.ensures.groups c.requires t.ensures.slots c.args.write c.in-Some.target c.in-Some.ensures in
    let out = source c.args.groups.now keys c.args.counts.now t.result.now t.ensures.groups c.requires t.ensures.slots c.args.write c.in-Some.target
    c.in-Some-greatest.source c.in-Some.ensures c.in-Some-greatest.ensures in
    plugged c.args.groups.now keys c.args.write c.in-Some.target.group c.in-Some.target.rank c.in-Some-greatest.source.group
    (source_count t.result.now c.args.counts.now c.in-Some.target.rank c.in-Some-greatest.source.group)
    (record { block = c.in-Some-lowest_live.block; from = c.in-Some-lowest_live.from; to = c.in-Some-lowest_hole.to })
    into out c.in-Some-lowest_live.ensures.0 c.in-Some-lowest_live.ensures.1 c.in-Some-lowest_hole.ensures
