-- The state with a shorter log: of each block the newest record alone.
use Rattle.std.specs.Prelude.{◌≡◌, ℕ}
use Rattle.map_join.specs.Maps.{IsMapOf, IsListOf}
use Rattle.flat_machine.specs.Flat.{Flat}

-- G is the state F, but that its log is the list of the log's map: one record for each block that was written, in the order of
-- blocks
pub record IsShortened (F G : Flat) : Type 0 where
  pub keys : ℕ → ℕ
  pub map_of : IsMapOf F.emitted keys
  pub log : IsListOf keys G.emitted
  pub is : G ≡ record F { emitted = G.emitted }
