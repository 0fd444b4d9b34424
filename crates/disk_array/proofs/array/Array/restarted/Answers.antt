use Rattle.std.proofs.Common.{◌+◌, subst, sym}
use Rattle.map_join.specs.Maps.{at}
use Rattle.extents.specs.declared.shape.TheConstants.{HEADER_BYTES}
use Rattle.unit_store.specs.Views.{PartsView}
use Rattle.flat_machine.specs.Restarted.{HasDistinctSlots}
use Rattle.slot_tables.specs.Adopted.{HasParts, IsAdopted}
use Rattle.disk_array.specs.Inside.{AreBuffers}
use Rattle.disk_array.proofs.Adopters.{not_restarted}
use Rattle.disk_array.proofs.array.Array.restarted.Goals as goal

pub adopt_with-requires-clause-buffers : goal.adopt_with-requires-clause-buffers
adopt_with-requires-clause-buffers g c = subst (λ n. AreBuffers (HEADER_BYTES + n) c.in-Ok.buffers) (sym c.in-Ok.ensures.parts.fit.shape.of_payload) c.in-Ok.ensures.parts.buffers_are

pub adopt_with-requires-clause-places : goal.adopt_with-requires-clause-places
adopt_with-requires-clause-places g c = subst (λ (v : PartsView). HasDistinctSlots v.groups (at c.args.map)) (sym c.in-Ok.ensures.parts.parts_are) c.requires

pub returns-in-Ok-adopt_with-clause-ok : goal.returns-in-Ok-adopt_with-clause-ok
returns-in-Ok-adopt_with-clause-ok g c = subst (λ (v : PartsView). IsAdopted v (at c.args.map) c.in-Ok-adopt_with.made.0) c.in-Ok.ensures.parts.parts_are c.in-Ok-adopt_with.ensures.ok

pub returns-in-Ok-adopt_with-clause-claims : goal.returns-in-Ok-adopt_with-clause-claims
returns-in-Ok-adopt_with-clause-claims g c = (c.in-Ok.claims.items, c.in-Ok.ensures.parts.claims_are, c.in-Ok-adopt_with.ensures.claims)

pub returns-in-Ok-adopt_with-clause-flat : goal.returns-in-Ok-adopt_with-clause-flat
returns-in-Ok-adopt_with-clause-flat g c F has reports = c.in-Ok-adopt_with.ensures.flat F (subst (λ (v : PartsView). HasParts v F) (sym c.in-Ok.ensures.parts.parts_are) has) reports

pub returns-in-Err-clause-err : goal.returns-in-Err-clause-err
returns-in-Err-clause-err g c = not_restarted g.C.Hold.names c.args.self c.in-Ok.claims.items (at c.args.map) c.in-Err.why c.in-Ok.ensures.parts.claims_are c.in-Err.ensures.err.0
