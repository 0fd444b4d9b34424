use Rattle.std.proofs.lemmas.Result.{on_ok_weaker}
use Rattle.vault.proofs.Carried.{on_ok_both}
use Rattle.unit_repair.proofs.Verified.{are_verified}
use Rattle.unit_repair.proofs.verify.confirm.Goals as goal

pub returns-clause-verified : goal.returns-clause-verified
returns-clause-verified c =
    on_ok_weaker c.test_parts.result (λ both cells drives units size lost many formed alive have. are_verified _ drives units size lost cells many formed have alive both.0 both.1)
    (on_ok_both _ _ c.test_parts.result c.test_parts.ensures.fit c.test_parts.ensures.sound)
