use Rattle.std.proofs.Common.{◌*◌, arith}
use Rattle.map_join.specs.Maps.{at}
use Rattle.header_scan.specs.Found.{key_in}
use Rattle.header_scan.proofs.Ending.{scanned, noted_twice}
use Rattle.header_scan.proofs.Tables.{scanned_as}
use Rattle.header_scan.proofs.Groups.{first_twice, no_twins, same_blocks}
use Rattle.header_scan.proofs.pass.scan_groups.Goals as goal

pub returns-in-Some-clause-fault : goal.returns-in-Some-clause-fault
returns-in-Some-clause-fault g c = λ sound.
    first_twice (g.U.Units.groups c.args.units.now) (g.U.Units.cells c.args.units.now) (g.U.Units.cells c.note_groups.new.units) (128 * c.args.first) (128 * c.args.end) c.in-Some.block c.in-Some.one c.in-Some.other
    (key_in c.in_ok-found.found.newest) (at c.in_ok-found.found.twins) (c.in_ok-found.ensures.ok sound) c.in-Some.ensures

pub returns-clause-map : goal.returns-clause-map
returns-clause-map g c = λ sound.
    let under = c.in_ok-found.ensures.ok sound in
    let end = c.requires.end in
    scanned_as _ (key_in c.in_ok-found.found.newest) (at c.in_ok-to_map.field-0) c.in_ok-to_map.ensures
    (scanned (g.U.Units.groups c.args.units.now) (g.U.Units.cells c.args.units.now) (g.U.Units.cells c.note_groups.new.units) (128 * c.args.first) (128 * c.args.end) (key_in c.in_ok-found.found.newest) (at c.in_ok-found.found.twins)
    (omega (arith, end)) under
    (no_twins (g.U.Units.groups c.args.units.now) (g.U.Units.cells c.args.units.now) (g.U.Units.cells c.note_groups.new.units) (128 * c.args.first) (128 * c.args.end) c.shape-blocks.result.blocks
    (key_in c.in_ok-found.found.newest) (at c.in_ok-found.found.twins) under (same_blocks c.shape-blocks.result.blocks c.groups.result.now (g.U.Units.groups c.args.units.now) c.shape-blocks.ensures.of_blocks c.groups.ensures) c.in_default.ensures))

pub returns-clause-once : goal.returns-clause-once
returns-clause-once g c = λ sound b p q is.
    let under = c.in_ok-found.ensures.ok sound in
    no_twins (g.U.Units.groups c.args.units.now) (g.U.Units.cells c.args.units.now) (g.U.Units.cells c.note_groups.new.units) (128 * c.args.first) (128 * c.args.end) c.shape-blocks.result.blocks
    (key_in c.in_ok-found.found.newest) (at c.in_ok-found.found.twins) under (same_blocks c.shape-blocks.result.blocks c.groups.result.now (g.U.Units.groups c.args.units.now) c.shape-blocks.ensures.of_blocks c.groups.ensures) c.in_default.ensures b
    (noted_twice (g.U.Units.groups c.args.units.now) (g.U.Units.cells c.args.units.now) (g.U.Units.cells c.note_groups.new.units) (128 * c.args.first) (128 * c.args.end) b p q
    (key_in c.in_ok-found.found.newest) (at c.in_ok-found.found.twins) under is).0
