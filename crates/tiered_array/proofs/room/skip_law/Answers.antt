use Rattle.tiered_array.proofs.Skips.{due_skips, next_skips, hole_skips, mirror_skips}
use Rattle.tiered_array.proofs.room.skip_law.Goals as goal

pub returns-clause-due : goal.returns-clause-due
returns-clause-due c = λ T keys block whole due. due_skips T whole keys block due

pub returns-clause-next : goal.returns-clause-next
returns-clause-next c = λ T keys slot whole next. next_skips T whole keys slot next

pub returns-clause-hole : goal.returns-clause-hole
returns-clause-hole c = λ T slot whole first. hole_skips T whole slot first

pub returns-clause-mirror : goal.returns-clause-mirror
returns-clause-mirror c = λ T slot whole first. mirror_skips T whole slot first
