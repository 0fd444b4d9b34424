use Rattle.std.proofs.Common.{◌≡◌, [], length, map}
use Rattle.std.specs.List.{All}
use Rattle.storm.specs.Rounds.{AreHired}
use Rattle.storm.proofs.crew.hire.Given as goal

-- the first hand stays, the hands that are left made no entry, and so many workers were hired
abbrev pub invariant-loop-number : goal.invariant-loop-number
invariant-loop-number g l = record {
  first : l.hands.hand ≡ l.initial.hands.hand;
  parts : All (λ hand. hand.mine ≡ []) l.parts.items;
  many : l.number ≡ length l.hired.items;
  hired : AreHired 0 (map (λ w. w.number) l.hired.items) (map (λ w. w.hand) l.hired.items);
}
