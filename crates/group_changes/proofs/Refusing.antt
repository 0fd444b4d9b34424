-- What a stop leaves after a fault.
use Rattle.std.proofs.Common.{◌≡◌, ℕ, Result, Ok, Err, sym, subst}
use Rattle.std.specs.Prelude.{IfErr}
use Rattle.vault.specs.Images.{Image}
use Rattle.vault.specs.Moments.{LeavesOnly}
use Rattle.vault.specs.declared.store.Stop.{Stop}
use Rattle.vault.specs.declared.store.VaultError.{VaultError}
use Rattle.group_changes.specs.Refused.{IsRefusal}
use Rattle.group_changes.specs.declared.fault.GroupChangeFault.{GroupChangeFault}
use Rattle.group_changes.specs.declared.fault.GroupChangeFault.TheVariants.{Vault}

module _ {V : Type 0} (moment : V → ℕ) (left_since : V → Stop → ℕ → Image → Type 0) (old new : V) (P : Image → Type 0) where
  abbrev LeavesOnRefusal : Result (Unit {0}) GroupChangeFault → Type 0
  LeavesOnRefusal r = IfErr r (λ fault. IsRefusal fault → (stop : Stop) → LeavesOnly moment left_since stop old new P)

  pub on_refusal : (r : Result (Unit {0}) GroupChangeFault) → ((stop : Stop) → LeavesOnly moment left_since stop old new P) → LeavesOnRefusal r
  on_refusal (Ok done) leaves = tt
  on_refusal (Err fault) leaves = λ refusal. leaves

  -- a call of the vault that failed is no refusal
  pub no_refusal : (r : Result (Unit {0}) GroupChangeFault) (fault : GroupChangeFault) (error : VaultError) → r ≡ Err fault → fault ≡ Vault error → LeavesOnRefusal r
  no_refusal r fault error is vault = subst LeavesOnRefusal (sym is) (λ refusal. absurd (subst IsRefusal vault refusal))
