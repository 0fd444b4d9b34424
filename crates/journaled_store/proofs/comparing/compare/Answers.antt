use Rattle.std.proofs.Common.{refl, ◌∙◌}
use Rattle.journaled_store.specs.Keeping.{OnlyReadKnown}
use Rattle.journaled_store.proofs.Reading.{read_more}
use Rattle.journaled_store.proofs.comparing.compare.Goals as goal

pub returns-in_err-batches-clause-reads : goal.returns-in_err-batches-clause-reads
returns-in_err-batches-clause-reads g c known =
    let one = c.batches.ensures in
    record { stays = one.stays known; finds = one.seen known; time = one.time known }

pub returns-in_err-read_unit-clause-reads : goal.returns-in_err-read_unit-clause-reads
returns-in_err-read_unit-clause-reads g c known =
    let v = g.V.Vault in
    let one = c.batches.ensures in
    let two = c.read_unit.ensures in
    read_more v.known v.seen v.may_leave v.moment v.left_since c.args.vault.now c.batches.new.self c.read_unit.new.self
    (record { stays = one.stays known; finds = one.seen known; time = one.time known })
    (record { stays = two.stays (one.stays known); finds = two.seen (one.stays known); time = two.time (one.stays known) })

pub returns-after-batches-gt0-clause-reads : goal.returns-after-batches-gt0-clause-reads
returns-after-batches-gt0-clause-reads g c known =
    let v = g.V.Vault in
    let one = c.batches.ensures in
    let two = c.read_unit.ensures in
    read_more v.known v.seen v.may_leave v.moment v.left_since c.args.vault.now c.batches.new.self c.read_unit.new.self
    (record { stays = one.stays known; finds = one.seen known; time = one.time known })
    (record { stays = two.stays (one.stays known); finds = two.seen (one.stays known); time = two.time (one.stays known) })

pub returns-in-Absent-clause-reads : goal.returns-in-Absent-clause-reads
returns-in-Absent-clause-reads g c known =
    let v = g.V.Vault in
    let one = c.batches.ensures in
    let two = c.read_unit.ensures in
    read_more v.known v.seen v.may_leave v.moment v.left_since c.args.vault.now c.batches.new.self c.read_unit.new.self
    (record { stays = one.stays known; finds = one.seen known; time = one.time known })
    (record { stays = two.stays (one.stays known); finds = two.seen (one.stays known); time = two.time (one.stays known) })

pub returns-in-Rotten-clause-reads : goal.returns-in-Rotten-clause-reads
returns-in-Rotten-clause-reads g c known =
    let v = g.V.Vault in
    let one = c.batches.ensures in
    let two = c.read_unit.ensures in
    read_more v.known v.seen v.may_leave v.moment v.left_since c.args.vault.now c.batches.new.self c.read_unit.new.self
    (record { stays = one.stays known; finds = one.seen known; time = one.time known })
    (record { stays = two.stays (one.stays known); finds = two.seen (one.stays known); time = two.time (one.stays known) })
