use Rattle.std.proofs.Common.{◌≡◌, ◌⊎◌, List, subst, sym, rules, None}
use Rattle.extent_groups.specs.declared.class.Member.{Member}
use Rattle.extent_groups.specs.Groups.{AreThere}
use Rattle.flat_machine.specs.Groups.{IsLowestFree, IsTableFull}
use Rattle.flat_machine.specs.declared.refusal.Refusal.TheVariants.{Memory}
use Rattle.flat_machine.specs.Steps.{MadeGroup}
use Rattle.flat_machine.specs.Cases.{MakeCase}
use Rattle.unit_store.specs.Views.{Entered, FoundLost}
use Rattle.slot_tables.specs.Making.{IsMakeReason}
use Rattle.slot_tables.specs.Views.{ArrayView}
use Rattle.slot_tables.proofs.Fills.{as_shown}
use Rattle.slot_tables.proofs.Makings.{make_refused, make_full, make_case, make_passes}
use Rattle.disk_array.proofs.Entering.{not_made}
use Rattle.disk_array.proofs.array.Array.make_group.Goals as goal

pub returns-in-Some-clause-flat : goal.returns-in-Some-clause-flat
returns-in-Some-clause-flat g c F shows =
    make_refused c.args.self.now F c.args.class c.args.members.now c.in-Some.refusal (subst (IsMakeReason c.args.self.now c.args.members.now) c.in-Some.is c.make_fault.ensures.reason) shows

pub returns-in_default-lowest_free-clause-flat : goal.returns-in_default-lowest_free-clause-flat
returns-in_default-lowest_free-clause-flat g c F shows =
    make_full c.args.self.now F c.args.class c.args.members.now (subst (IsMakeReason c.args.self.now c.args.members.now) c.in_default.is c.make_fault.ensures.reason)
    (subst (λ (v : ArrayView). IsTableFull v.parts.groups) c.self.view_is (c.lowest_free.ensures.none (search rules))) shows

pub returns-in-Err-clause-flat : goal.returns-in-Err-clause-flat
returns-in-Err-clause-flat g c F shows =
    let number = c.in-Some-lowest_free.number in (
      number,
      make_passes c.args.self.now F c.args.members.now number
          (subst (IsMakeReason c.args.self.now c.args.members.now) c.in_default.is c.make_fault.ensures.reason)
          (subst (λ (v : ArrayView). IsLowestFree v.parts.groups number) c.self.view_is c.in-Some-lowest_free.ensures.some) shows,
    )

pub returns-in-Err-with_capacity-clause-flat : goal.returns-in-Err-with_capacity-clause-flat
returns-in-Err-with_capacity-clause-flat g c F shows =
    let number = c.in-Some-lowest_free.number in (
      number,
      make_passes c.args.self.now F c.args.members.now number
          (subst (IsMakeReason c.args.self.now c.args.members.now) c.in_default.is c.make_fault.ensures.reason)
          (subst (λ (v : ArrayView). IsLowestFree v.parts.groups number) c.self.view_is c.in-Some-lowest_free.ensures.some) shows,
    )

pub enter-requires-clause-there : goal.enter-requires-clause-there
enter-requires-clause-there g c =
    let items : c.in-Ok.members.items ≡ c.args.members.now = search rules in
    subst (λ (ms : List Member). AreThere c.args.self.now.parts.owners ms) (sym items) (c.make_fault.ensures.fits c.in_default.is).0

pub enter-requires-clause-reason : goal.enter-requires-clause-reason
enter-requires-clause-reason g c =
    let items : c.in-Ok.members.items ≡ c.args.members.now = search rules in
    subst (λ (ms : List Member). IsMakeReason c.args.self.now ms None) (sym items) (subst (IsMakeReason c.args.self.now c.args.members.now) c.in_default.is c.make_fault.ensures.reason)

pub returns-in-Ok-enter-clause-flat : goal.returns-in-Ok-enter-clause-flat
returns-in-Ok-enter-clause-flat g c F shows =
    let number = c.in-Some-lowest_free.number in
    let class = c.args.class in
    let old = c.args.self.now in
    let items : c.in-Ok.members.items ≡ c.args.members.now = search rules in
    as_shown (λ G. MakeCase F class c.args.members.now (MadeGroup number) G) c.enter.new.self _ c.in-Ok-enter.ensures.opened.0
    (make_case old c.enter.new.self.parts c.enter.new.self.kept F class c.args.members.now number (subst (IsMakeReason old c.args.members.now) c.in_default.is c.make_fault.ensures.reason)
    (subst (λ (v : ArrayView). IsLowestFree v.parts.groups number) c.self.view_is c.in-Some-lowest_free.ensures.some)
    (subst (λ (ms : List Member). Entered old.parts number class ms c.enter.new.self.parts) items c.in-Ok-enter.ensures.ok) c.in-Ok-enter.ensures.opened.1 shows)

pub returns-in-Err-enter-clause-flat : goal.returns-in-Err-enter-clause-flat
returns-in-Err-enter-clause-flat g c F shows =
    let number = c.in-Some-lowest_free.number in
    let class = c.args.class in
    let old = c.args.self.now in
    let q = c.in-Err-enter.refusal in
    let items : c.in-Ok.members.items ≡ c.args.members.now = search rules in
    not_made old c.enter.new.self F class c.args.members.now number q (subst (IsMakeReason old c.args.members.now) c.in_default.is c.make_fault.ensures.reason)
    (subst (λ (v : ArrayView). IsLowestFree v.parts.groups number) c.self.view_is c.in-Some-lowest_free.ensures.some) c.in-Err-enter.ensures.rest.0
    (subst (λ (ms : List Member). ((q ≡ Memory) × (c.enter.new.self.parts ≡ old.parts)) ⊎ (FoundLost old.parts ms c.enter.new.self.parts q)) items c.in-Err-enter.ensures.err) shows
