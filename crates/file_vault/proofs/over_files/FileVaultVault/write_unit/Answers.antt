use Rattle.std.proofs.Common.{sym, ◌∙◌}
use Rattle.vault.specs.declared.store.Stop.TheVariants.{Killed}
use Rattle.file_vault.specs.Vaults.{plan_of}
use Rattle.file_vault.proofs.Units.{misfit}
use Rattle.file_vault.proofs.Lifts.{lifted, at_once, known_on}
use Rattle.file_vault.proofs.UnitCalls.{other_file, mixed_torn, mixed_attests, wrote_attests, wrote_alike, torn_to, written_to, none_to, torn_not}
use Rattle.file_vault.proofs.over_files.FileVaultVault.write_unit.Goals as goal

pub returns-in_default-clause-killed : goal.returns-in_default-clause-killed
returns-in_default-clause-killed g c = λ known.
    none_to (plan_of c.args.self.now.layout) c.args.place c.args.unit.now c.in_default.ensures.none (g.F.Files.may_leave c.args.self.now.files Killed)

pub returns-in_default-clause-time : goal.returns-in_default-clause-time
returns-in_default-clause-time g c = λ known stop. at_once _ _ _ _ (λ i now. (i, now, torn_not c.args.place i))

pub returns-then-size-unit-clause-misfit : goal.returns-then-size-unit-clause-misfit
returns-then-size-unit-clause-misfit g c = λ known is.
    misfit (plan_of c.args.self.now.layout) (g.F.Files.seen c.args.self.now.files) c.args.place c.args.unit.now (λ e. c.if-size-unit.true (c.in-Some.ensures.size ∙ sym e))

pub returns-then-size-unit-clause-time : goal.returns-then-size-unit-clause-time
returns-then-size-unit-clause-time g c = λ known stop. at_once _ _ _ _ (λ i now. (i, now, torn_not c.args.place i))

pub returns-in-Ok-clause-stays : goal.returns-in-Ok-clause-stays
returns-in-Ok-clause-stays g c = λ known.
    let is = known.files_known in
    let ne = other_file c.args.place.drive c.in-Some.ensures.there.0 in
    known_on _ _ _ _ c.args.self.now.files c.write_at.new.self _ _ _ _ known (c.write_at.ensures.stays is) ((c.write_at.ensures.cause is).later)
    ((c.write_at.ensures.mixed is).others 17 (λ e. ne (sym e)))
    (λ stop h now. let from = (c.write_at.ensures.time is stop).ends h now in (from.0, from.1, from.2.others 17 (λ e. ne (sym e))))

pub returns-in-Ok-clause-written : goal.returns-in-Ok-clause-written
returns-in-Ok-clause-written g c = λ known.
    wrote_alike (plan_of c.args.self.now.layout) c.args.place c.args.unit.now _ c.in_ok-offset.offset c.in_ok-offset.ensures.at (c.deref.ensures.value ∙ c.in_ok-offset.ensures.sealed) (sym c.if-size-unit.false ∙ c.in-Some.ensures.size) c.in-Some.ensures.there.0
    (g.F.Files.seen c.args.self.now.files) (g.F.Files.seen c.write_at.new.self) (c.in-Ok.ensures.wrote known.files_known)

pub returns-in-Ok-clause-torn : goal.returns-in-Ok-clause-torn
returns-in-Ok-clause-torn g c = λ known.
    mixed_torn (plan_of c.args.self.now.layout) c.args.place c.args.unit.now _ c.in_ok-offset.offset c.in_ok-offset.ensures.at (c.deref.ensures.value ∙ c.in_ok-offset.ensures.sealed) (sym c.if-size-unit.false ∙ c.in-Some.ensures.size) c.in-Some.ensures.there.0
    (g.F.Files.seen c.args.self.now.files) (g.F.Files.seen c.write_at.new.self) (c.write_at.ensures.mixed known.files_known)

pub returns-in-Ok-clause-killed : goal.returns-in-Ok-clause-killed
returns-in-Ok-clause-killed g c = λ known.
    written_to (plan_of c.args.self.now.layout) c.args.place c.args.unit.now _ c.in_ok-offset.offset c.in_ok-offset.ensures.at (c.deref.ensures.value ∙ c.in_ok-offset.ensures.sealed) (sym c.if-size-unit.false ∙ c.in-Some.ensures.size) c.in-Some.ensures.there.0
    (g.F.Files.may_leave c.args.self.now.files Killed) (g.F.Files.may_leave c.write_at.new.self Killed) (c.in-Ok.ensures.killed known.files_known)

pub returns-in-Ok-clause-time : goal.returns-in-Ok-clause-time
returns-in-Ok-clause-time g c = λ known stop.
    lifted (plan_of c.args.self.now.layout) _ _ _ _ _ _ _ (c.write_at.ensures.time known.files_known stop)
    (torn_to (plan_of c.args.self.now.layout) c.args.place c.args.unit.now _ c.in_ok-offset.offset c.in_ok-offset.ensures.at (c.deref.ensures.value ∙ c.in_ok-offset.ensures.sealed) (sym c.if-size-unit.false ∙ c.in-Some.ensures.size) c.in-Some.ensures.there.0
    (g.F.Files.may_leave c.args.self.now.files stop))

pub returns-in-Err-clause-stays : goal.returns-in-Err-clause-stays
returns-in-Err-clause-stays g c = λ known.
    let is = known.files_known in
    let ne = other_file c.args.place.drive c.in-Some.ensures.there.0 in
    known_on _ _ _ _ c.args.self.now.files c.write_at.new.self _ _ _ _ known (c.write_at.ensures.stays is) ((c.write_at.ensures.cause is).later)
    ((c.write_at.ensures.mixed is).others 17 (λ e. ne (sym e)))
    (λ stop h now. let from = (c.write_at.ensures.time is stop).ends h now in (from.0, from.1, from.2.others 17 (λ e. ne (sym e))))

pub returns-in-Err-clause-torn : goal.returns-in-Err-clause-torn
returns-in-Err-clause-torn g c = λ known.
    mixed_torn (plan_of c.args.self.now.layout) c.args.place c.args.unit.now _ c.in_ok-offset.offset c.in_ok-offset.ensures.at (c.deref.ensures.value ∙ c.in_ok-offset.ensures.sealed) (sym c.if-size-unit.false ∙ c.in-Some.ensures.size) c.in-Some.ensures.there.0
    (g.F.Files.seen c.args.self.now.files) (g.F.Files.seen c.write_at.new.self) (c.write_at.ensures.mixed known.files_known)

pub returns-in-Err-clause-time : goal.returns-in-Err-clause-time
returns-in-Err-clause-time g c = λ known stop.
    lifted (plan_of c.args.self.now.layout) _ _ _ _ _ _ _ (c.write_at.ensures.time known.files_known stop)
    (torn_to (plan_of c.args.self.now.layout) c.args.place c.args.unit.now _ c.in_ok-offset.offset c.in_ok-offset.ensures.at (c.deref.ensures.value ∙ c.in_ok-offset.ensures.sealed) (sym c.if-size-unit.false ∙ c.in-Some.ensures.size) c.in-Some.ensures.there.0
    (g.F.Files.may_leave c.args.self.now.files stop))

pub returns-in_err-offset-clause-time : goal.returns-in_err-offset-clause-time
returns-in_err-offset-clause-time g c = λ known stop. at_once _ _ _ _ (λ i now. (i, now, torn_not c.args.place i))

pub returns-in-Ok-clause-attests : goal.returns-in-Ok-clause-attests
returns-in-Ok-clause-attests g c = λ known.
    wrote_attests (plan_of c.args.self.now.layout) c.args.place c.args.unit.now _ c.in_ok-offset.offset c.in_ok-offset.ensures.at (c.deref.ensures.value ∙ c.in_ok-offset.ensures.sealed) (sym c.if-size-unit.false ∙ c.in-Some.ensures.size) c.in-Some.ensures.there.0
    (g.F.Files.seen c.args.self.now.files) (g.F.Files.seen c.write_at.new.self) (c.in-Ok.ensures.wrote known.files_known)

pub returns-in-Ok-clause-others : goal.returns-in-Ok-clause-others
returns-in-Ok-clause-others g c = λ known.
    mixed_attests (plan_of c.args.self.now.layout) c.args.place c.args.unit.now _ c.in_ok-offset.offset c.in_ok-offset.ensures.at (c.deref.ensures.value ∙ c.in_ok-offset.ensures.sealed) (sym c.if-size-unit.false ∙ c.in-Some.ensures.size) c.in-Some.ensures.there.0
    (g.F.Files.seen c.args.self.now.files) (g.F.Files.seen c.write_at.new.self) (c.write_at.ensures.mixed known.files_known)

pub returns-in-Err-clause-others : goal.returns-in-Err-clause-others
returns-in-Err-clause-others g c = λ known.
    mixed_attests (plan_of c.args.self.now.layout) c.args.place c.args.unit.now _ c.in_ok-offset.offset c.in_ok-offset.ensures.at (c.deref.ensures.value ∙ c.in_ok-offset.ensures.sealed) (sym c.if-size-unit.false ∙ c.in-Some.ensures.size) c.in-Some.ensures.there.0
    (g.F.Files.seen c.args.self.now.files) (g.F.Files.seen c.write_at.new.self) (c.write_at.ensures.mixed known.files_known)
