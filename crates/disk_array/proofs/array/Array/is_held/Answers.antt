use Rattle.std.proofs.Common.{◌≡◌, false, rules, subst, true, IsTrue, ◌↔◌}
use Rattle.flat_machine.specs.Flat.{IsArrayHeld}
use Rattle.slot_tables.specs.Views.{is_kept, kept_at}
use Rattle.slot_tables.proofs.Kepts.{kept_iff}
use Rattle.disk_array.proofs.array.Array.is_held.Goals as goal

pub returns-in-Some-Free-clause-flat : goal.returns-in-Some-Free-clause-flat
returns-in-Some-Free-clause-flat g c F shows =
    let is : is_kept (kept_at c.args.self.now c.args.slot) ≡ false = search rules in
    subst (λ b. IsTrue b ↔ IsArrayHeld F c.args.slot) is (kept_iff c.args.self.now F c.args.slot shows)

pub returns-in-Some-Pending-clause-flat : goal.returns-in-Some-Pending-clause-flat
returns-in-Some-Pending-clause-flat g c F shows =
    let is : is_kept (kept_at c.args.self.now c.args.slot) ≡ true = search rules in
    subst (λ b. IsTrue b ↔ IsArrayHeld F c.args.slot) is (kept_iff c.args.self.now F c.args.slot shows)

pub returns-in-Some-Moving-clause-flat : goal.returns-in-Some-Moving-clause-flat
returns-in-Some-Moving-clause-flat g c F shows =
    let is : is_kept (kept_at c.args.self.now c.args.slot) ≡ true = search rules in
    subst (λ b. IsTrue b ↔ IsArrayHeld F c.args.slot) is (kept_iff c.args.self.now F c.args.slot shows)

pub returns-in-Some-Newest-clause-flat : goal.returns-in-Some-Newest-clause-flat
returns-in-Some-Newest-clause-flat g c F shows =
    let is : is_kept (kept_at c.args.self.now c.args.slot) ≡ true = search rules in
    subst (λ b. IsTrue b ↔ IsArrayHeld F c.args.slot) is (kept_iff c.args.self.now F c.args.slot shows)

pub returns-in-Some-Unmade-clause-flat : goal.returns-in-Some-Unmade-clause-flat
returns-in-Some-Unmade-clause-flat g c F shows =
    let is : is_kept (kept_at c.args.self.now c.args.slot) ≡ true = search rules in
    subst (λ b. IsTrue b ↔ IsArrayHeld F c.args.slot) is (kept_iff c.args.self.now F c.args.slot shows)

pub returns-in-None-clause-flat : goal.returns-in-None-clause-flat
returns-in-None-clause-flat g c F shows =
    let is : is_kept (kept_at c.args.self.now c.args.slot) ≡ false = search rules in
    subst (λ b. IsTrue b ↔ IsArrayHeld F c.args.slot) is (kept_iff c.args.self.now F c.args.slot shows)
