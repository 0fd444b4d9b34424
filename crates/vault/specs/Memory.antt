-- The calls that a vault in memory keeps.
use Rattle.std.specs.Prelude.{List}
use Rattle.vault.specs.declared.memory.Call.{Call}
use Rattle.vault.specs.declared.memory.MemVault.{MemVault}

abbrev pub calls_of : MemVault → List Call
calls_of m = m.calls.items
