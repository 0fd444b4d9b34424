-- A worker has one claim more, and the array represents the state after it as it represented the one before.
use Rattle.std.proofs.Common.{◌≡◌, ℕ, Bool, true, false, ◌==◌, ◌||◌, refl, ◌∙◌}
use Rattle.flat_machine.specs.Flat.{Flat, Worker, with_pair}
use Rattle.flat_machine.proofs.Claims.{claim_keeps, with_worker}
use Rattle.flat_machine.proofs.Pairs.{equal, with_here}
use Rattle.slot_tables.specs.Views.{ArrayView, key_at}
use Rattle.slot_tables.specs.Represents.{ShowsArray}
use Rattle.slot_tables.proofs.Hands.{hands_move}

-- with any other holders of the slot
pub shows_one_more : (a : ArrayView) (F : Flat) (s w : ℕ) → ShowsArray a F → ShowsArray a (record F { held = with_pair F.held s (Worker w) })
shows_one_more a F s w is = record {
  history = claim_keeps F (key_at a) w s is.history;
  units = is.units;
  tables = hands_move a F (with_pair F.held s (Worker w)) (with_worker F w s) is.tables;
}

-- and holds it
pub holds_one_more : (F : Flat) (s w : ℕ) → with_pair F.held s (Worker w) s (Worker w) ≡ true
holds_one_more F s w = with_here F.held s (Worker w) (Worker w) ∙ or_last (F.held s (Worker w)) (w == w) (equal w w refl)
  where
    or_last : (b c : Bool) → c ≡ true → (b || c) ≡ true
    or_last true c is = refl
    or_last false c is = is
