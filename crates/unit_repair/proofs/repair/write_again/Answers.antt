use Rattle.std.proofs.Common.{◌∙◌, List, sym, ap, subst}
use Rattle.std.proofs.lemmas.Result.{err_from_is_err_and}
use Rattle.extents.specs.Condition.{Held}
use Rattle.extent_groups.specs.Cells.{cells, held}
use Rattle.unit_store.specs.Memory.{held_lost, held_units}
use Rattle.unit_store.specs.Slots.{cells_in}
use Rattle.vault.specs.Images.{Image}
use Rattle.vault.specs.Marks.{Has}
use Rattle.rotten_units.specs.Written.{WroteFrom}
use Rattle.rotten_units.proofs.Once.{has_or_not}
use Rattle.rotten_units.proofs.Writing.{from_both, from_none, from_read, unless_of, wrote_both, wrote_none, wrote_read}
use Rattle.unit_repair.specs.Computed.{WroteRight}
use Rattle.unit_repair.proofs.Mending.{none_absent}
use Rattle.unit_repair.proofs.Touched.{wrote_right}
use Rattle.unit_repair.proofs.repair.write_again.Goals as goal

pub returns-in_err-compute-clause-groups : goal.returns-in_err-compute-clause-groups
returns-in_err-compute-clause-groups g c = c.compute.ensures.tables.groups

pub returns-in_err-unit-clause-groups : goal.returns-in_err-unit-clause-groups
returns-in_err-unit-clause-groups g c = c.compute.ensures.tables.groups

pub returns-in_err-count-clause-groups : goal.returns-in_err-count-clause-groups
returns-in_err-count-clause-groups g c = c.compute.ensures.tables.groups

pub returns-in_err-sync_units-clause-groups : goal.returns-in_err-sync_units-clause-groups
returns-in_err-sync_units-clause-groups g c = c.compute.ensures.tables.groups

pub returns-clause-groups : goal.returns-clause-groups
returns-clause-groups g c = c.compute.ensures.tables.groups

pub returns-clause-once : goal.returns-clause-once
returns-clause-once g c = c.in_ok-compute.ensures.computed.once

pub returns-in_err-compute-clause-wrote : goal.returns-in_err-compute-clause-wrote
returns-in_err-compute-clause-wrote g c = λ known. wrote_none (Has c.args.rotten.now.marks.items) g.V.Vault.seen g.V.Vault.may_leave g.V.Vault.moment g.V.Vault.left_since c.args.vault.now (λ stop i left. g.met.V.Vault.only_now c.args.vault.now known stop i left)

pub returns-in_err-unit-clause-wrote : goal.returns-in_err-unit-clause-wrote
returns-in_err-unit-clause-wrote g c = λ known. wrote_none (Has c.args.rotten.now.marks.items) g.V.Vault.seen g.V.Vault.may_leave g.V.Vault.moment g.V.Vault.left_since c.args.vault.now (λ stop i left. g.met.V.Vault.only_now c.args.vault.now known stop i left)

pub returns-in_err-sync_units-clause-wrote : goal.returns-in_err-sync_units-clause-wrote
returns-in_err-sync_units-clause-wrote g c = λ known.
    let now = c.write_rotten.ensures.stays known in
    wrote_both (Has c.args.rotten.now.marks.items) g.V.Vault.seen g.V.Vault.may_leave g.V.Vault.moment g.V.Vault.left_since c.args.vault.now c.write_rotten.new.vault c.sync_units.new.self
    (c.write_rotten.ensures.wrote known)
    (wrote_read (Has c.args.rotten.now.marks.items) g.V.Vault.seen g.V.Vault.may_leave g.V.Vault.moment g.V.Vault.left_since c.write_rotten.new.vault c.sync_units.new.self
    (λ stop i left. g.met.V.Vault.only_now c.write_rotten.new.vault now stop i left) (record { finds = c.sync_units.ensures.seen now; time = c.sync_units.ensures.time now }))

pub returns-clause-wrote : goal.returns-clause-wrote
returns-clause-wrote g c = λ known.
    let now = c.write_rotten.ensures.stays known in
    wrote_both (Has c.args.rotten.now.marks.items) g.V.Vault.seen g.V.Vault.may_leave g.V.Vault.moment g.V.Vault.left_since c.args.vault.now c.write_rotten.new.vault c.sync_units.new.self
    (c.write_rotten.ensures.wrote known)
    (wrote_read (Has c.args.rotten.now.marks.items) g.V.Vault.seen g.V.Vault.may_leave g.V.Vault.moment g.V.Vault.left_since c.write_rotten.new.vault c.sync_units.new.self
    (λ stop i left. g.met.V.Vault.only_now c.write_rotten.new.vault now stop i left) (record { finds = c.sync_units.ensures.seen now; time = c.sync_units.ensures.time now }))

pub returns-in_err-compute-clause-units : goal.returns-in_err-compute-clause-units
returns-in_err-compute-clause-units g c = λ known written whole same.
    let none : WroteRight g.V.Vault.seen g.V.Vault.attested (Has c.args.rotten.now.marks.items) c.args.parts.now.groups written c.args.vault.now c.args.vault.now = λ x used a. from_none g.V.Vault.seen g.V.Vault.attested (Has c.args.rotten.now.marks.items) written c.args.vault.now x a in
    unless_of _ _ none

pub returns-in_err-unit-clause-units : goal.returns-in_err-unit-clause-units
returns-in_err-unit-clause-units g c = λ known written whole same.
    let none : WroteRight g.V.Vault.seen g.V.Vault.attested (Has c.args.rotten.now.marks.items) c.args.parts.now.groups written c.args.vault.now c.args.vault.now = λ x used a. from_none g.V.Vault.seen g.V.Vault.attested (Has c.args.rotten.now.marks.items) written c.args.vault.now x a in
    unless_of _ _ none

pub returns-in_err-count-clause-units : goal.returns-in_err-count-clause-units
returns-in_err-count-clause-units g c = λ known written whole same.
    let p = err_from_is_err_and c.from_residual-in_err-count.result c.from_residual-in_err-count.ensures.1 in
    rw (p.1, p.2)
    (λ other. wrote_right (Has c.args.rotten.now.marks.items) (has_or_not c.args.rotten.now.marks.items) c.args.parts.now c.compute.new.parts c.in_ok-compute.ensures.computed c.requires written whole same g.V.Vault.seen g.V.Vault.attested c.args.vault.now c.write_rotten.new.vault
    (subst (λ (ds : List Held). WroteFrom g.V.Vault.seen g.V.Vault.attested (Has c.args.rotten.now.marks.items) (cells held_units held_lost ds) c.args.vault.now c.write_rotten.new.vault) c.deref_mut-caches.ensures.value
    (c.in_err-count.ensures.units known other)))

pub returns-in_err-sync_units-clause-units : goal.returns-in_err-sync_units-clause-units
returns-in_err-sync_units-clause-units g c = λ known written whole same.
    let now = c.write_rotten.ensures.stays known in
    unless_of _ _ (wrote_right (Has c.args.rotten.now.marks.items) (has_or_not c.args.rotten.now.marks.items) c.args.parts.now c.compute.new.parts c.in_ok-compute.ensures.computed c.requires written whole same g.V.Vault.seen g.V.Vault.attested c.args.vault.now c.sync_units.new.self
    (from_both g.V.Vault.seen g.V.Vault.attested (Has c.args.rotten.now.marks.items) (cells_in held_units held_lost c.compute.new.parts) c.args.vault.now c.write_rotten.new.vault c.sync_units.new.self
    (subst (λ (ds : List Held). WroteFrom g.V.Vault.seen g.V.Vault.attested (Has c.args.rotten.now.marks.items) (cells held_units held_lost ds) c.args.vault.now c.write_rotten.new.vault) c.deref_mut-caches.ensures.value
    (c.in_ok-count.ensures.units known))
    (from_read g.V.Vault.seen g.V.Vault.attested (Has c.args.rotten.now.marks.items) (cells_in held_units held_lost c.compute.new.parts) c.write_rotten.new.vault c.sync_units.new.self (c.sync_units.ensures.seen now) (c.sync_units.ensures.attests now))))

pub returns-clause-units : goal.returns-clause-units
returns-clause-units g c = λ known written whole same.
    let now = c.write_rotten.ensures.stays known in
    wrote_right (Has c.args.rotten.now.marks.items) (has_or_not c.args.rotten.now.marks.items) c.args.parts.now c.compute.new.parts c.in_ok-compute.ensures.computed c.requires written whole same g.V.Vault.seen g.V.Vault.attested c.args.vault.now c.sync_units.new.self
    (from_both g.V.Vault.seen g.V.Vault.attested (Has c.args.rotten.now.marks.items) (cells_in held_units held_lost c.compute.new.parts) c.args.vault.now c.write_rotten.new.vault c.sync_units.new.self
    (subst (λ (ds : List Held). WroteFrom g.V.Vault.seen g.V.Vault.attested (Has c.args.rotten.now.marks.items) (cells held_units held_lost ds) c.args.vault.now c.write_rotten.new.vault) c.deref_mut-caches.ensures.value
    (c.in_ok-count.ensures.units known))
    (from_read g.V.Vault.seen g.V.Vault.attested (Has c.args.rotten.now.marks.items) (cells_in held_units held_lost c.compute.new.parts) c.write_rotten.new.vault c.sync_units.new.self (c.sync_units.ensures.seen now) (c.sync_units.ensures.attests now)))

pub returns-clause-durable : goal.returns-clause-durable
returns-clause-durable g c = λ known.
    let now = c.write_rotten.ensures.stays known in
    λ stop i x left. c.in_ok-sync_units.ensures.durable now stop i left x (none_absent 16 x.drive) ∙ ap (λ (s : Image). held s.cells x) (sym (c.sync_units.ensures.seen now))
