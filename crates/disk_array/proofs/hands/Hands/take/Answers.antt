use Rattle.std.proofs.Common.{◌≡◌, ◌+◌, ◌<◌, ap, get_or, length, refl, sym, ◌∙◌}
use Rattle.disk_array.proofs.InHand.{other_word, ticket_word, word_read}
use Rattle.disk_array.proofs.hands.Hands.take.Goals as goal

pub returns-then-index-from : goal.returns-then-index-from
returns-then-index-from c =
    let words = c.self.inside.hands.items in
    let inside : c.args.slot < length words = rw c.self.invariant c.ranges.slot.fits in
    let read : get_or words c.args.slot 0 ≡ c.index.result.now = word_read words c.from.result c.args.slot c.index.result.now c.index.ensures c.from.ensures inside in
    (ticket_word words c.args.self.now c.args.slot c.args.worker c.self.view_is c.ranges.worker.fits (read ∙ c.if-index-from.true ∙ ap (λ w. 512 + w) c.from-2.ensures), c.of.ensures, c.clear.ensures)

pub returns-else-index-from : goal.returns-else-index-from
returns-else-index-from c =
    let words = c.self.inside.hands.items in
    let inside : c.args.slot < length words = rw c.self.invariant c.ranges.slot.fits in
    let read : get_or words c.args.slot 0 ≡ c.index.result.now = word_read words c.from.result c.args.slot c.index.result.now c.index.ensures c.from.ensures inside in
    (other_word words c.args.self.now c.args.slot c.args.worker c.self.view_is (λ same. c.if-index-from.false (sym read ∙ same ∙ ap (λ w. 512 + w) (sym c.from-2.ensures))), refl)
