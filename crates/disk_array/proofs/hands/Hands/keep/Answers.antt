use Rattle.std.proofs.Common.{◌+◌, ap, ◌∙◌}
use Rattle.slot_tables.specs.declared.hand.Hand.TheVariants.{Waits}
use Rattle.disk_array.specs.InHand.{hand_of}
use Rattle.disk_array.proofs.InHand.{waits_word, word_put}
use Rattle.disk_array.proofs.hands.Hands.keep.Goals as goal

pub returns : goal.returns
returns c = word_put c.self.inside.hands.items c.args.self.now c.from-2.result c.args.ticket (512 + c.from.result) (Waits c.args.worker) c.self.view_is (c.from-2.ensures ∙ c.slot.ensures)
    (ap (λ w. hand_of (512 + w)) c.from.ensures ∙ waits_word c.args.worker c.ranges.worker.fits)
