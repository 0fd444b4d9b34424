use Rattle.cleaner.specs.Offered.{holed_count}
use Rattle.cleaner.proofs.Counting.{some_live}
use Rattle.cleaner.proofs.Planning.{no_clean, no_append, clean_within, cleaned}
use Rattle.cleaner.proofs.Tabled.{none_left, emptiest}
use Rattle.cleaner.proofs.clean.clean_plan_unplugged.Goals as goal

pub returns-in_default : goal.returns-in_default
returns-in_default g c =
    let keys = g.L.Live.keys c.args.live.now in
    let t = c.parity_slots-slots in
    no_clean c.args.groups.now keys c.args.write c.args.append
    (none_left c.args.groups.now keys c.args.counts.now t.result.now t.ensures.groups c.requires.counts t.ensures.slots c.args.write c.in_default.ensures)

pub returns-in_default-append : goal.returns-in_default-append
returns-in_default-append g c = no_append c.args.groups.now (g.L.Live.keys c.args.live.now) c.args.write c.args.append c.in_default-append.is

pub returns-then-to-cleaned : goal.returns-then-to-cleaned
returns-then-to-cleaned g c =
    let keys = g.L.Live.keys c.args.live.now in
    let t = c.parity_slots-slots in
    let out = emptiest c.args.groups.now keys c.args.counts.now t.result.now t.ensures.groups c.requires.counts t.ensures.slots c.args.write c.in-Some.cleaned c.in-Some.ensures in
    clean_within c.args.groups.now keys c.args.write c.args.append c.in-Some.cleaned.group (holed_count t.result.now c.args.counts.now c.in-Some.cleaned.group)
    c.in-Some-append.to out c.in-Some-append.is c.if-to-cleaned.true

pub lowest_live-requires-clause-made : goal.lowest_live-requires-clause-made
lowest_live-requires-clause-made g c =
    let keys = g.L.Live.keys c.args.live.now in
    let t = c.parity_slots-slots in
    let out = emptiest c.args.groups.now keys c.args.counts.now t.result.now t.ensures.groups c.requires.counts t.ensures.slots c.args.write c.in-Some.cleaned c.in-Some.ensures in
    out.offered.has.made

pub returns-in_default-lowest_live : goal.returns-in_default-lowest_live
returns-in_default-lowest_live g c =
    let keys = g.L.Live.keys c.args.live.now in
    let t = c.parity_slots-slots in
    let out = emptiest c.args.groups.now keys c.args.counts.now t.result.now t.ensures.groups c.requires.counts t.ensures.slots c.args.write c.in-Some.cleaned c.in-Some.ensures in
    absurd (some_live c.args.groups.now keys c.in-Some.cleaned.group (holed_count t.result.now c.args.counts.now c.in-Some.cleaned.group)
    out.offered.has out.offered.some c.in_default-lowest_live.ensures)

pub returns : goal.returns
returns g c =
    let keys = g.L.Live.keys c.args.live.now in
    let t = c.parity_slots-slots in
    let out = emptiest c.args.groups.now keys c.args.counts.now t.result.now t.ensures.groups c.requires.counts t.ensures.slots c.args.write c.in-Some.cleaned c.in-Some.ensures in
    cleaned c.args.groups.now keys c.args.write c.args.append c.in-Some.cleaned.group (holed_count t.result.now c.args.counts.now c.in-Some.cleaned.group)
    (record { block = c.in-Some-lowest_live.block; from = c.in-Some-lowest_live.from; to = c.in-Some-append.to })
    c.requires.no_plug out c.in-Some-lowest_live.ensures.0 c.in-Some-lowest_live.ensures.1 c.in-Some-append.is c.if-to-cleaned.false
