use Rattle.std.proofs.Common.{◌≡◌, List, Bool, true}
use Rattle.vault.specs.Images.{is_lost}
use Rattle.drive_rebuild.specs.Written.{WroteLost}
use Rattle.drive_rebuild.proofs.write.write_drive.Given as goal

abbrev pub invariant-loop-address : goal.invariant-loop-address
invariant-loop-address g l = record {
  stays : g.V.Vault.known l.fn.vault → g.V.Vault.known l.vault;
  wrote : g.V.Vault.known l.fn.vault → (lost : List Bool) → is_lost lost l.number ≡ true
      → WroteLost g.V.Vault.seen g.V.Vault.may_leave g.V.Vault.moment g.V.Vault.left_since lost l.fn.vault l.vault;
}
