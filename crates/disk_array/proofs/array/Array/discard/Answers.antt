use Rattle.std.proofs.Common.{refl, rules, subst}
use Rattle.flat_machine.specs.Steps.{Discarded}
use Rattle.flat_machine.specs.Cases.{DiscardCase}
use Rattle.slot_tables.specs.Changes.{discard_view}
use Rattle.slot_tables.specs.Views.{IsWhole, Nothing}
use Rattle.slot_tables.proofs.Fills.{as_whole, as_shown}
use Rattle.slot_tables.proofs.Discards.{discard_case, discard_whole}
use Rattle.slot_tables.proofs.Kepts.{ticket_held}
use Rattle.disk_array.proofs.Ready.{slot_ready}
use Rattle.disk_array.proofs.array.Array.discard.Goals as goal

pub invariant_of-self : goal.invariant_of-self
invariant_of-self g c = (
  as_whole _ (discard_view c.args.self.now c.slot-slot.result) (search rules)
      (discard_whole c.args.self.now c.slot-slot.result (search rules) (search rules) (subst IsWhole c.self.view_is c.self.invariant.0)),
  c.take_waiting.ensures.claims,
  slot_ready g.D.Drive.units c.self.inside c.take_waiting.new.places c.slot-slot.result Nothing c.take_waiting.ensures.room (search rules) c.self.invariant.0.room.kept (search rules) (search rules) refl c.self.invariant.2,
)

pub returns-clause-flat : goal.returns-clause-flat
returns-clause-flat g c F w shows mine =
    as_shown (λ G. DiscardCase F w c.args.ticket (Discarded c.args.ticket) G) _ (discard_view c.args.self.now c.args.ticket) (search rules)
    (discard_case c.args.self.now F w c.args.ticket (search rules) (search rules) (subst IsWhole c.self.view_is c.self.invariant.0) shows
    (ticket_held c.args.self.now F w c.args.ticket (search rules) shows mine))
