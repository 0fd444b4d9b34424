use Rattle.unit_store.specs.Views.{view_of}
use Rattle.disk_array.proofs.Ready.{either_way, Keeps, still_matches, loses_keeps, gone_keeps}
use Rattle.disk_array.proofs.array.Array.payload_at.Goals as goal

pub invariant_of-self : goal.invariant_of-self
invariant_of-self g c =
    let d = g.D.Drive in
    let a = view_of d.units d.lost d.failures c.self.inside.parts in
    let b = view_of d.units d.lost d.failures c.payload.new.self in
    let same : Keeps a b = either_way {P = Keeps a b} c.payload.result (λ x w. loses_keeps a b w.loses) (λ q e. gone_keeps a b _ q e) c.payload.ensures.ok c.payload.ensures.err in
    still_matches d.units d.lost d.failures c.self.inside c.payload.new.self _ _ same c.payload.ensures.fit c.self.invariant
