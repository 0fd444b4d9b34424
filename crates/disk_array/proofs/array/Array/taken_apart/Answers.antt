use Rattle.std.proofs.Common.{refl, ap, subst}
use Rattle.slot_tables.specs.Views.{ArrayView}
use Rattle.slot_tables.specs.Claims.{AreClaimsOf}
use Rattle.disk_array.proofs.array.Array.taken_apart.Goals as goal

pub returns-clause-parts : goal.returns-clause-parts
returns-clause-parts g c = let f = c.self.invariant.2.fit in record {
  parts_are = ap (λ (a : ArrayView). a.parts) c.self.view_is;
  fit = record { shape = f.shape; least = f.least; most = f.most; groups = f.groups; drives = f.drives; agree = f.agree; rows = f.rows; wide = f.wide };
  note = refl;
  claims_are = subst (λ (a : ArrayView). AreClaimsOf g.C.Hold.names a c.unseat_all.new.claims.items) c.self.view_is c.unseat_all.ensures;
  buffers_are = record { unit = c.self.invariant.2.unit; scratch = c.self.invariant.2.scratch };
}
