use Rattle.std.proofs.Common.{inl, inr}
use Rattle.extent_groups.proofs.DriveCalls.{keeps_trans, keeps_more}
use Rattle.parity_store.proofs.carry.write_way.Goals as goal

pub returns-then-not-write_place-clause-touched : goal.returns-then-not-write_place-clause-touched
returns-then-not-write_place-clause-touched g c = keeps_more (λ x e. inl e) c.write_place.ensures.drives

pub returns-else-not-write_place-clause-touched : goal.returns-else-not-write_place-clause-touched
returns-else-not-write_place-clause-touched g c = keeps_trans (keeps_more (λ x e. inl e) c.write_place.ensures.drives) (keeps_more (λ x e. inr e) c.write_place-kept.ensures.drives)

pub returns-in-Alone-clause-touched : goal.returns-in-Alone-clause-touched
returns-in-Alone-clause-touched g c = keeps_more (λ x e. inl e) c.write_place-in-Alone.ensures.drives

pub returns-in-Parity-clause-touched : goal.returns-in-Parity-clause-touched
returns-in-Parity-clause-touched g c = keeps_more (λ x e. inr e) c.write_place-in-Parity.ensures.drives
