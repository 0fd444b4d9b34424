use Rattle.unit_store.specs.Views.{view_of}
use Rattle.disk_array.proofs.Ready.{either_way, Keeps, still_matches, loses_keeps, gone_keeps}
use Rattle.disk_array.proofs.array.Array.look.Goals as goal

pub invariant_of-self : goal.invariant_of-self
invariant_of-self g c =
    let d = g.D.Drive in
    let a = view_of d.units d.lost d.failures c.self.inside.parts in
    let b = view_of d.units d.lost d.failures c.see.new.self in
    let same : Keeps a b = either_way {P = Keeps a b} c.see.result (λ x w. loses_keeps a b w.loses) (λ q e. gone_keeps a b _ q e) c.see.ensures.ok c.see.ensures.err in
    still_matches d.units d.lost d.failures c.self.inside c.see.new.self _ _ same c.see.ensures.fit c.self.invariant
