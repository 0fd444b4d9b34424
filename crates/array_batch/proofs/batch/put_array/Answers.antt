use Rattle.std.proofs.Common.{◌≢◌, ◌∙◌, inl, inr, refl, arith}
use Rattle.std.proofs.lemmas.Option.{slice_get_within}
use Rattle.vault.specs.Images.{Image}
use Rattle.array_batch.proofs.Batching.{at}
use Rattle.array_batch.proofs.batch.put_array.Goals as goal

pub returns-clause-units : goal.returns-clause-units
returns-clause-units g c = λ known d m is a low.
    let within = slice_get_within c.args.drives.now d m is in
    let few = c.requires.few in
    let apart : d ≢ 16 = λ e. omega (arith, within, few, e) in
    c.write_groups.ensures.others (Image.cells (g.V.Vault.seen c.args.vault.now)) (at d a) (inl apart) ∙ c.in_ok-put_drives.ensures.put known d m is a low

pub returns-clause-marks : goal.returns-clause-marks
returns-clause-marks g c = λ d. c.write_groups.ensures.others d (at 16 0) (inr refl) ∙ c.put_drives.ensures.others d (at 16 0) c.requires.few
