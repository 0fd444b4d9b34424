use Rattle.std.proofs.Common.{◌+◌, ap, ◌∙◌}
use Rattle.slot_tables.specs.declared.hand.Hand.TheVariants.{Holds}
use Rattle.disk_array.specs.InHand.{hand_of}
use Rattle.disk_array.proofs.InHand.{holds_word, word_put}
use Rattle.disk_array.proofs.hands.Hands.hold.Goals as goal

pub returns : goal.returns
returns c = word_put c.self.inside.hands.items c.args.self.now c.from-2.result c.args.slot (256 + c.from.result) (Holds c.args.worker) c.self.view_is c.from-2.ensures
    (ap (λ w. hand_of (256 + w)) c.from.ensures ∙ holds_word c.args.worker c.ranges.worker.fits)
