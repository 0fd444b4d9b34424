use Rattle.std.proofs.Common.{◌∙◌, ◌%◌, ◌<◌, Some, slice_index, ap, arith, sym, subst}
use Rattle.extent_groups.proofs.ParitySlots.{some_slots, parity_made}
use Rattle.migrator.proofs.Blanks.{none_above, lane_of, all_lanes}
use Rattle.migrator.proofs.rows.may_have.Goals as goal

pub returns-in-Parity-clause-none : goal.returns-in-Parity-clause-none
returns-in-Parity-clause-none c = λ none group own made.
    let blank = sym (lane_of c.parity_slots.result.now c.row_of.result c.args.row group c.row_of.ensures own) ∙ c.has_any.ensures.0 none (group % 16) (omega arith) in
    let some = some_slots c.args.groups.now group c.parity_slots.ensures.groups (made ∙ ap (λ k. Some k) c.in-Parity.is) in
    omega (arith, blank, ap (λ l. slice_index l group) c.parity_slots.ensures.slots, some)

pub returns-in-Parity-clause-exact : goal.returns-in-Parity-clause-exact
returns-in-Parity-clause-exact c = λ class none.
    c.has_any.ensures.1 (all_lanes c.row_of.result c.args.row (λ at own.
    lane_of c.parity_slots.result.now c.row_of.result c.args.row at c.row_of.ensures own
    ∙ none_above (slice_index c.parity_slots.result.now at) (λ some.
    none at own (parity_made c.args.groups.now at (subst (λ l. 0 < slice_index l at) c.parity_slots.ensures.slots some) ∙ ap (λ k. Some k) (sym c.in-Parity.is)))))
