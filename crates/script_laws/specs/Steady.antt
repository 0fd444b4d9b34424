-- Flat states all of whose drives are steady.
use Rattle.std.specs.Prelude.{◌≡◌, ℕ, true}
use Rattle.extent_groups.specs.Groups.{Groups}
use Rattle.flat_machine.specs.Flat.{Flat}
use Rattle.flat_machine.specs.History.{IsHistory}

-- all drives are steady
abbrev pub AreSteady : Flat → Type 0
AreSteady F = (d : ℕ) → (F.failures d).steady ≡ true

-- all drives are steady, and the numbers of blocks and of a payload's bytes are these groups'
pub record IsSteady (z : Groups) (F : Flat) : Type 0 where
  pub steady : AreSteady F
  pub blocks : F.groups.blocks ≡ z.blocks
  pub payload : F.groups.payload ≡ z.payload

-- the state is steady, and what holds after any steps holds of it
pub record IsReached (z : Groups) (F : Flat) : Type 0 where
  pub calm : IsSteady z F
  pub keys : ℕ → ℕ
  pub history : IsHistory F keys
