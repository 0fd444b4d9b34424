use Rattle.array_store.specs.Blocks.{Holds}
use Rattle.journaled_store.specs.Left.{HasBoth, HasKeys}
use Rattle.drive_rebuild.proofs.Mended.{mended_left, rest_logged}
use Rattle.drive_rebuild.proofs.Restated.{both_keep, holds_keep, keys_keep}
use Rattle.drive_rebuild.proofs.laws.mended_law.Goals as goal

pub returns-clause-bytes : goal.returns-clause-bytes
returns-clause-bytes g c = λ old vault bytes groups drives units written left free was is differs table ends.
    mended_left g.V.Vault.seen g.V.Vault.may_leave g.V.Vault.moment g.V.Vault.left_since Holds holds_keep g.V.Vault.attested old vault bytes groups drives units written left free was is differs table ends

pub returns-clause-map : goal.returns-clause-map
returns-clause-map g c = λ old vault keys groups drives units written left free was is differs table ends.
    mended_left g.V.Vault.seen g.V.Vault.may_leave g.V.Vault.moment g.V.Vault.left_since HasKeys keys_keep g.V.Vault.attested old vault keys groups drives units written left free was is differs table ends

pub returns-clause-both : goal.returns-clause-both
returns-clause-both g c = λ old vault what groups drives units written left free was is differs table ends.
    mended_left g.V.Vault.seen g.V.Vault.may_leave g.V.Vault.moment g.V.Vault.left_since HasBoth both_keep g.V.Vault.attested old vault what groups drives units written left free was is differs table ends

pub returns-clause-logged : goal.returns-clause-logged
returns-clause-logged g c = λ vault groups drives units written lost is. rest_logged g.V.Vault.seen g.V.Vault.may_leave g.V.Vault.moment g.V.Vault.left_since lost vault is.rest
