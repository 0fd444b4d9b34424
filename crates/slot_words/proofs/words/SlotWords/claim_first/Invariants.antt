use Rattle.std.proofs.Common.{◌≡◌, ◌↔◌, None}
use Rattle.slot_words.specs.Refused.{WereRefused}
use Rattle.slot_words.proofs.words.SlotWords.claim_first.Given as goal

-- the slots so far were each tried and refused, in order, and the last refusal is kept
abbrev pub invariant-loop-slot : goal.invariant-loop-slot
invariant-loop-slot g l = (l.last ≡ None ↔ l.slot-index ≡ 0) × WereRefused l.slots l.slot-index l.initial.pass l.pass l.last × (l.pass.shares ≡ l.initial.pass.shares)
