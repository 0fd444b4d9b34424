use Rattle.std.proofs.Common.{◌+◌, ◌*◌}
use Rattle.std.proofs.lemmas.Result.{on_ok_weaker}
use Rattle.extents.specs.Sizes.{extent_units}
use Rattle.extents.specs.declared.shape.TheConstants.{HEADER_BYTES}
use Rattle.vault.specs.Images.{Image}
use Rattle.vault.proofs.Carried.{on_ok_both}
use Rattle.drive_rebuild.proofs.Verified.{are_verified}
use Rattle.drive_rebuild.proofs.verify.verify.Goals as goal

pub returns-clause-verified : goal.returns-clause-verified
returns-clause-verified g c = λ known alive.
    on_ok_weaker c.test_parts.result (λ both. are_verified _ c.args.drives (c.args.shape.now.extents * extent_units c.args.shape.now.segments) (HEADER_BYTES + c.args.shape.now.payload) c.args.lost.now
    (Image.cells (g.V.Vault.seen c.args.vault.now)) c.in_ok-caches.ensures.many c.in_ok-caches.ensures.formed (c.in_ok-caches.ensures.units known) alive both.0 both.1)
    (on_ok_both _ _ c.test_parts.result c.test_parts.ensures.fit c.test_parts.ensures.sound)
