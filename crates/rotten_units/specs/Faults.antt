-- When a call of the vault failed.
use Rattle.std.specs.Prelude.{Result, Ok, Err}
use Rattle.rotten_units.specs.declared.fault.MendFault.{MendFault}
use Rattle.rotten_units.specs.declared.fault.MendFault.TheVariants.{Vault}

-- not a call of the vault failed
abbrev pub NotVault : MendFault → Type 0
NotVault (Vault error) = ⊥
NotVault _ = Unit {0}

-- this holds after Ok, and after each fault but that of a call of the vault
abbrev pub UnlessVault : {T : Type 0} → Result T MendFault → Type 0 → Type 0
UnlessVault (Ok _) P = P
UnlessVault (Err fault) P = NotVault fault → P
