use Rattle.std.proofs.Common.{◌≡◌, ◌<◌, length, rules, ap, subst}
use Rattle.flat_machine.specs.Steps.{LostDrive}
use Rattle.flat_machine.specs.Cases.{LoseCase}
use Rattle.slot_tables.specs.Views.{ArrayView, WorldView, with_parts}
use Rattle.slot_tables.proofs.Hands.{as_world}
use Rattle.disk_array.specs.Losing.{WasLost}
use Rattle.step_core.proofs.Worlds.{lose_world}
use Rattle.step_core.proofs.world.World.lose.Goals as goal

pub returns-clause-flat : goal.returns-clause-flat
returns-clause-flat g c F rep =
    let d = c.args.drive in
    let v = c.args.self.now in
    let p = c.lose.new.self.parts in
    let array : c.self.inside.array ≡ v.array = ap (λ (w : WorldView). w.array) c.self.view_is in
    let inside : d < length v.array.parts.drives = subst (λ (a : ArrayView). d < length a.parts.drives) array (subst (λ n. d < n) c.drive_count.ensures.count c.if-drive-drive_count.false) in
    as_world (λ G. LoseCase F d (LostDrive d) G) _ (record { array = with_parts v.array p; hands = v.hands }) (search rules)
    (lose_world v F d p inside rep (subst (λ (a : ArrayView). WasLost a.parts p d) array c.lose.ensures.lost))
