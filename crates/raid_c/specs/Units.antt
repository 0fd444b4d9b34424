-- What the call for the exclusive or of two byte slices returns.
use Rattle.std.specs.Prelude.{◌≡◌, ◌≢◌, ℕ, List, length}
use Rattle.extent_groups.specs.Units.{plus}
use Rattle.raid_c.specs.declared.status.Status.{Status}
use Rattle.raid_c.specs.declared.status.Status.TheVariants as is

abbrev pub Adds : Status → List ℕ → List ℕ → List ℕ → Type 0
Adds is.Done from old new = (length old ≡ length from) × (new ≡ plus old from)
Adds is.Length from old new = (length old ≢ length from) × (new ≡ old)
Adds _ from old new = ⊥
