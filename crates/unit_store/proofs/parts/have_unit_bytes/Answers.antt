use Rattle.std.proofs.Common.{rules, tests}
use Rattle.std.specs.Prelude.{◌≡◌, length}
use Rattle.extents.specs.Units.{AreUnitsSized}
use Rattle.std.proofs.lemmas.Bool.{MatchBool-at_true}
use Rattle.std.proofs.lemmas.Iterator.{cases_from_all, YieldsList-from_slice}
use Rattle.unit_store.proofs.Fitting.{sized_within, sized_where, sized_twice}
use Rattle.unit_store.proofs.parts.have_unit_bytes.Goals as goal

pub returns : goal.returns
returns g c =
    let r = cases_from_all _ _ _ (λ x. AreUnitsSized c.args.bytes (g.D.Drive.units x)) (λ x. AreUnitsSized c.args.bytes (g.D.Drive.units x) → length (g.D.Drive.units x) ≡ 0)
    c.all.ensures.ran (YieldsList-from_slice c.args.drives.now c.iter.ensures.rest) (λ x q k. search (rules, tests)) (λ x q k. search (rules, tests, sized_twice)) in (
      λ t. sized_within g.D.Drive.units c.args.bytes c.args.drives.now (MatchBool-at_true _ _ t r),
      λ sized. sized_where g.D.Drive.units c.args.bytes c.args.drives.now _ r sized c.requires,
    )
