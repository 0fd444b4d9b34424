use Rattle.disk_array.proofs.InHand.{none_in_hand}
use Rattle.disk_array.proofs.hands.Hands.clear_all.Goals as goal

pub returns-clause-empty : goal.returns-clause-empty
returns-clause-empty c s = none_in_hand c.fill.new.self.items _ s (c.fill.ensures.items (λ y same. same))
