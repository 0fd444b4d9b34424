use Rattle.unit_store.proofs.Views.{view_drives}
use Rattle.unit_store.specs.Views.{view_of}
use Rattle.disk_array.specs.Inside.{seen}
use Rattle.disk_array.proofs.Ready.{parts_ready}
use Rattle.disk_array.proofs.Regrouping.{grown_whole, grown_groups}
use Rattle.disk_array.proofs.array.Array.attach.Goals as goal

pub invariant_of-self : goal.invariant_of-self
invariant_of-self g c =
    let d = g.D.Drive in
    let now = seen d.units d.lost d.failures c.self.inside in
    let b = view_of d.units d.lost d.failures c.add.new.self in (
      grown_whole now b (d.lost c.args.drive) (d.failures c.args.drive) c.add.result c.self.invariant.0 c.add.ensures.ok c.add.ensures.same
          (view_drives d.units d.lost d.failures c.add.new.self c.add.ensures.fit.drives),
      c.self.invariant.1,
      parts_ready d.units c.self.inside c.add.new.self
          (grown_groups now.parts b (d.lost c.args.drive) (d.failures c.args.drive) c.add.result c.add.ensures.ok c.add.ensures.same) c.add.ensures.fit c.self.invariant.2,
    )
