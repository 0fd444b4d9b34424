use Rattle.std.proofs.Common.{◌≡◌, ◌*◌, refl, ◌∙◌, subst, arith}
use Rattle.map_join.specs.Maps.{at}
use Rattle.header_scan.specs.Found.{key_in, IsUnderway, ArePlaced}
use Rattle.header_scan.proofs.Ending.{begun}
use Rattle.header_scan.proofs.Groups.{kept_after, passed, failed}
use Rattle.header_scan.proofs.Placing.{none_placed, placed_after}
use Rattle.header_scan.proofs.pass.note_groups.Goals as goal

pub loop-group-init : goal.loop-group-init
loop-group-init g c = record {
  ok = λ sound. begun (g.U.Units.groups c.args.units.now) (g.U.Units.cells c.args.units.now) (128 * c.args.first) (key_in c.in_ok-newest.newest) (at c.new-2.result) sound c.in_ok-newest.ensures.none c.new-2.ensures.empty;
  inside = none_placed (g.U.Units.groups c.args.units.now) (128 * c.args.first) (key_in c.in_ok-newest.newest) c.in_ok-newest.ensures.none;
  left = record { keeps = λ sound. ((λ slot v e. e), sound); groups = refl; fits = c.requires.fits; leaves = g.met.U.Units.none c.args.units.now };
  many = c.in_ok-newest.ensures.many;
}

pub loop-group-preserved : goal.loop-group-preserved
loop-group-preserved g c = record {
  ok = λ sound.
      let l = c.loop-group.auto.group in
      passed (g.U.Units.groups c.args.units.now) (g.U.Units.groups c.loop-group.units) (g.U.Units.cells c.args.units.now) (g.U.Units.cells c.loop-group.units) (g.U.Units.cells c.scan_group.new.units) (128 * c.args.first) c.loop-group.group
      (key_in c.loop-group.found.newest) (at c.loop-group.found.twins) (key_in c.scan_group.new.found.newest) (at c.scan_group.new.found.twins) c.loop-group.invariant.left.groups (omega (arith, l))
      c.in-Ok.ensures.ok (c.loop-group.invariant.ok sound);
  inside = placed_after (g.U.Units.groups c.args.units.now) (g.U.Units.groups c.loop-group.units) c.loop-group.group (key_in c.loop-group.found.newest) (key_in c.scan_group.new.found.newest)
      c.loop-group.invariant.left.groups c.in-Ok.ensures.inside c.loop-group.invariant.inside;
  left = record {
    keeps = kept_after (g.U.Units.groups c.args.units.now) (g.U.Units.groups c.loop-group.units) (g.U.Units.cells c.args.units.now) (g.U.Units.cells c.loop-group.units) (g.U.Units.cells c.scan_group.new.units)
        c.loop-group.invariant.left.groups c.loop-group.invariant.left.keeps c.in-Ok.ensures.left.keeps;
    groups = c.in-Ok.ensures.left.groups ∙ c.loop-group.invariant.left.groups;
    fits = c.in-Ok.ensures.left.fits;
    leaves = g.met.U.Units.more c.args.units.now c.loop-group.units c.scan_group.new.units c.loop-group.invariant.left.leaves c.in-Ok.ensures.left.leaves;
  };
  many = c.in-Ok.ensures.many;
}

pub returns-in-Err-clause-err : goal.returns-in-Err-clause-err
returns-in-Err-clause-err g c = λ sound.
    let l = c.loop-group.auto.group in
    let h = c.loop-group-test.true in
    failed (g.U.Units.groups c.args.units.now) (g.U.Units.groups c.loop-group.units) (g.U.Units.cells c.args.units.now) (g.U.Units.cells c.loop-group.units) (g.U.Units.cells c.scan_group.new.units) (128 * c.args.first) (128 * c.args.end) c.loop-group.group
    (key_in c.loop-group.found.newest) (at c.loop-group.found.twins) c.in-Err.fault c.loop-group.invariant.left.groups (omega (arith, l)) (omega (arith, h))
    c.in-Err.ensures.err (c.loop-group.invariant.ok sound)

pub returns-in-Err-clause-left : goal.returns-in-Err-clause-left
returns-in-Err-clause-left g c = record {
  keeps = kept_after (g.U.Units.groups c.args.units.now) (g.U.Units.groups c.loop-group.units) (g.U.Units.cells c.args.units.now) (g.U.Units.cells c.loop-group.units) (g.U.Units.cells c.scan_group.new.units)
      c.loop-group.invariant.left.groups c.loop-group.invariant.left.keeps c.in-Err.ensures.left.keeps;
  groups = c.in-Err.ensures.left.groups ∙ c.loop-group.invariant.left.groups;
  fits = c.in-Err.ensures.left.fits;
  leaves = g.met.U.Units.more c.args.units.now c.loop-group.units c.scan_group.new.units c.loop-group.invariant.left.leaves c.in-Err.ensures.left.leaves;
}

pub returns-clause-ok : goal.returns-clause-ok
returns-clause-ok g c = λ sound.
    let end : c.loop-group.group ≡ c.args.end = let a = c.loop-group.auto.group-end in let b = c.loop-group-test.false in let o = c.requires.order in omega (arith, a, b, o) in
    subst (λ n. IsUnderway (g.U.Units.groups c.args.units.now) (g.U.Units.cells c.args.units.now) (g.U.Units.cells c.loop-group.units) (128 * c.args.first) (128 * n) (key_in c.loop-group.found.newest) (at c.loop-group.found.twins)) end
    (c.loop-group.invariant.ok sound)

pub returns-clause-inside : goal.returns-clause-inside
returns-clause-inside g c =
    let end : c.loop-group.group ≡ c.args.end = let a = c.loop-group.auto.group-end in let b = c.loop-group-test.false in let o = c.requires.order in omega (arith, a, b, o) in
    subst (λ n. ArePlaced (g.U.Units.groups c.args.units.now) (128 * n) (key_in c.loop-group.found.newest)) end c.loop-group.invariant.inside
