use Rattle.std.proofs.Common.{refl}
use Rattle.slot_tables.specs.declared.hand.Hand.TheVariants.{Empty}
use Rattle.disk_array.proofs.InHand.{word_put}
use Rattle.disk_array.proofs.hands.Hands.clear.Goals as goal

pub returns : goal.returns
returns c = word_put c.self.inside.hands.items c.args.self.now c.from.result c.args.slot 0 Empty c.self.view_is c.from.ensures refl
