use Rattle.std.proofs.Common.{ℕ, Bool, sym, subst}
use Rattle.std.specs.Prelude.{◌↔◌, IsTrue}
use Rattle.extent_groups.specs.Missing.{IsGone}
use Rattle.unit_store.specs.Views.{IsLost}
use Rattle.unit_store.proofs.Views.{view_lost}
use Rattle.slot_tables.specs.Views.{ArrayView}
use Rattle.disk_array.proofs.array.Array.is_gone.Goals as goal

pub returns : goal.returns
returns g c =
    let d = g.D.Drive in
    let p = c.self.inside.parts in
    subst (λ (v : ArrayView). IsTrue c.is_gone.result ↔ IsLost v.parts c.args.slot) c.self.view_is
    (subst (λ (missing : ℕ → Bool). IsTrue c.is_gone.result ↔ IsGone p.groups missing c.args.slot) (sym (view_lost d.units d.lost d.failures p)) c.is_gone.ensures)
