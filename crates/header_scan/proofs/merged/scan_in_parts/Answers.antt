use Rattle.std.proofs.Common.{◌*◌, arith}
use Rattle.map_join.specs.Maps.{at, join}
use Rattle.header_scan.proofs.Groups.{kept_after}
use Rattle.header_scan.proofs.Ranges.{later, later_fault}
use Rattle.header_scan.proofs.Tables.{scanned_as}
use Rattle.header_scan.proofs.merged.scan_in_parts.Goals as goal

pub returns-clause-map : goal.returns-clause-map
returns-clause-map g c = λ sound.
    let groups = g.U.Units.groups c.args.units.now in
    let start = g.U.Units.cells c.args.units.now in
    let now = g.U.Units.cells c.scan_groups.new.units in
    let keeps = c.in-Ok.ensures.keeps in
    let end = c.requires.middle in
    let second = later groups (g.U.Units.groups c.scan_groups.new.units) start now (128 * c.args.middle) 65536 (at c.in-Ok-scan_groups.rest) c.in-Ok.ensures.groups keeps
    c.in-Ok-scan_groups.ensures.map c.in-Ok-scan_groups.ensures.fine sound in
    scanned_as _ (join (at c.in-Ok.map) (at c.in-Ok-scan_groups.rest)) (at c.merge.new.self) c.in_ok-merge.ensures.ok
    (c.parts_laws.ensures.calls groups start 0 (128 * c.args.middle) 65536 (at c.in-Ok.map) (at c.in-Ok-scan_groups.rest) (omega arith) (omega (arith, end))
    (record { map = c.in-Ok.ensures.map sound; fine = c.in-Ok.ensures.fine sound })
    (c.parts_laws.ensures.earlier groups start now (128 * c.args.middle) 65536 (at c.in-Ok-scan_groups.rest) (keeps sound).0 second)).map

pub returns-clause-fine : goal.returns-clause-fine
returns-clause-fine g c = λ sound.
    let groups = g.U.Units.groups c.args.units.now in
    let start = g.U.Units.cells c.args.units.now in
    let now = g.U.Units.cells c.scan_groups.new.units in
    let keeps = c.in-Ok.ensures.keeps in
    let end = c.requires.middle in
    let second = later groups (g.U.Units.groups c.scan_groups.new.units) start now (128 * c.args.middle) 65536 (at c.in-Ok-scan_groups.rest) c.in-Ok.ensures.groups keeps
    c.in-Ok-scan_groups.ensures.map c.in-Ok-scan_groups.ensures.fine sound in
    (c.parts_laws.ensures.calls groups start 0 (128 * c.args.middle) 65536 (at c.in-Ok.map) (at c.in-Ok-scan_groups.rest) (omega arith) (omega (arith, end))
    (record { map = c.in-Ok.ensures.map sound; fine = c.in-Ok.ensures.fine sound })
    (c.parts_laws.ensures.earlier groups start now (128 * c.args.middle) 65536 (at c.in-Ok-scan_groups.rest) (keeps sound).0 second)).fine

pub returns-clause-keeps : goal.returns-clause-keeps
returns-clause-keeps g c =
    kept_after (g.U.Units.groups c.args.units.now) (g.U.Units.groups c.scan_groups.new.units) (g.U.Units.cells c.args.units.now) (g.U.Units.cells c.scan_groups.new.units) (g.U.Units.cells c.scan_groups-2.new.units)
    c.in-Ok.ensures.groups c.in-Ok.ensures.keeps c.in-Ok-scan_groups.ensures.keeps

pub returns-in_err-merge-clause-keeps : goal.returns-in_err-merge-clause-keeps
returns-in_err-merge-clause-keeps g c =
    kept_after (g.U.Units.groups c.args.units.now) (g.U.Units.groups c.scan_groups.new.units) (g.U.Units.cells c.args.units.now) (g.U.Units.cells c.scan_groups.new.units) (g.U.Units.cells c.scan_groups-2.new.units)
    c.in-Ok.ensures.groups c.in-Ok.ensures.keeps c.in-Ok-scan_groups.ensures.keeps

pub returns-in-Err-scan_groups-clause-keeps : goal.returns-in-Err-scan_groups-clause-keeps
returns-in-Err-scan_groups-clause-keeps g c =
    kept_after (g.U.Units.groups c.args.units.now) (g.U.Units.groups c.scan_groups.new.units) (g.U.Units.cells c.args.units.now) (g.U.Units.cells c.scan_groups.new.units) (g.U.Units.cells c.scan_groups-2.new.units)
    c.in-Ok.ensures.groups c.in-Ok.ensures.keeps c.in-Err-scan_groups.ensures.keeps

pub returns-in-Err-scan_groups-clause-fault : goal.returns-in-Err-scan_groups-clause-fault
returns-in-Err-scan_groups-clause-fault g c = λ sound.
    later_fault (g.U.Units.groups c.args.units.now) (g.U.Units.groups c.scan_groups.new.units) (g.U.Units.cells c.args.units.now) (g.U.Units.cells c.scan_groups.new.units) (g.U.Units.cells c.scan_groups-2.new.units)
    0 (128 * c.args.middle) 65536 c.in-Err-scan_groups.fault c.in-Ok.ensures.groups c.in-Ok.ensures.keeps c.in-Err-scan_groups.ensures.fault sound
