use Rattle.disk_array.proofs.InHand.{none_in_hand}
use Rattle.disk_array.proofs.hands.Hands.new.Goals as goal

pub returns-clause-empty : goal.returns-clause-empty
returns-clause-empty c s = none_in_hand c.in_ok-hands.hands.items 65536 s c.in_ok-hands.ensures.zero
