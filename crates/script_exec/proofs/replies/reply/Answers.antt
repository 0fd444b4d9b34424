use Rattle.std.proofs.Common.{◌≤◌, length, arith, ap, sym, ◌∙◌, refl, rules, Some}
use Rattle.extent_groups.specs.Groups.{Groups}
use Rattle.step_core.specs.Views.{ArrayView, WorldView}
use Rattle.script_syntax.specs.Order.{command_order}
use Rattle.script_exec.specs.Replies.{IsReplied, IsUnsaid}
use Rattle.script_exec.proofs.Said.{at_position, buffer_size, unsaid, replied}
use Rattle.script_exec.proofs.replies.reply.Goals as goal

pub returns-then-not-branch-clause-replied : goal.returns-then-not-branch-clause-replied
returns-then-not-branch-clause-replied c state matches =
    at_position _ (λ s. IsUnsaid s c.args.line.now c.args.out.now.items c.args.out.now.items)
    (λ P stand.
    (let groups = stand.tiers.world.array.tables.groups ∙ ap (λ (w : WorldView). w.array.parts.groups) (sym c.world.ensures) ∙ ap (λ (a : ArrayView). a.parts.groups) (sym c.array.ensures) in
    let size = ap (λ (z : Groups). z.payload) groups ∙ sym c.shape-shape.ensures.of_payload in
    let room : c.shape-shape.result.payload ≤ length c.args.payload.now = omega arith in
    unsaid P _ c.args.line.now c.args.out.now.items
    (buffer_size P c.shape-shape.result.payload c.args.payload.now size room)
    (rw c.if-not-branch.true at c.in_ok-read_command.ensures)))
    state (rw c.in-Some.is at matches)

pub returns-clause-replied : goal.returns-clause-replied
returns-clause-replied c state matches =
    at_position _ (λ s. IsReplied s (Some c.carry_out.new.bench) c.args.line.now c.args.out.now.items c.carry_out.new.out.items)
    (λ P stand.
    (let groups = stand.tiers.world.array.tables.groups ∙ ap (λ (w : WorldView). w.array.parts.groups) (sym c.world.ensures) ∙ ap (λ (a : ArrayView). a.parts.groups) (sym c.array.ensures) in
    let size = ap (λ (z : Groups). z.payload) groups ∙ sym c.shape-shape.ensures.of_payload in
    let room : c.shape-shape.result.payload ≤ length c.args.payload.now = omega arith in
    let bytes = c.read_command.new.payload in
    replied P (Some c.carry_out.new.bench) _ _ c.args.line.now c.args.out.now.items c.carry_out.new.out.items (command_order c.read_command.new.command bytes)
    (buffer_size P c.shape-shape.result.payload c.args.payload.now size room)
    (ap (λ (z : Groups). z.blocks) groups ∙ sym c.shape-shape.ensures.of_blocks)
    (rw c.if-not-branch.false at c.in_ok-read_command.ensures) (search rules) ((c.if-not-is_in_range.ensures bytes).0 refl) (c.in_ok-carry_out.ensures.carried P stand)))
    state (rw c.in-Some.is at matches)
