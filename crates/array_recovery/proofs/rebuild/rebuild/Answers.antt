use Rattle.std.proofs.Common.{◌≡◌, ◌∙◌, ap, refl, sym, subst}
use Rattle.std.specs.Prelude.{false}
use Rattle.unit_store.specs.Views.{view_of}
use Rattle.slot_tables.specs.Views.{key_at}
use Rattle.tiered_array.specs.Views.{TiersView}
use Rattle.journaled_store.specs.Outlasting.{parts_of}
use Rattle.array_recovery.specs.Reopened.{LosesMore}
use Rattle.array_recovery.proofs.rebuild.rebuild.Goals as goal

pub returns-clause-bytes : goal.returns-clause-bytes
returns-clause-bytes g c = λ was bytes holds long outlives. c.in_ok-new.ensures.ok (record { bytes = bytes; unsynced = false }) (c.in_ok-tiers.ensures.bytes was bytes holds outlives) long refl

pub returns-clause-same : goal.returns-clause-same
returns-clause-same g c =
    let kept : c.in_ok-new.field-0.tiers ≡ c.in_ok-tiers.tiers = c.in_ok-new.ensures.same in
    subst (λ (t : TiersView). LosesMore (view_of g.D.Drive.units g.D.Drive.lost g.D.Drive.failures c.args.parts) (parts_of t)) (sym kept) c.in_ok-tiers.ensures.same

pub returns-clause-map : goal.returns-clause-map
returns-clause-map g c = λ was keys has outlives block.
    let kept : c.in_ok-new.field-0.tiers ≡ c.in_ok-tiers.tiers = c.in_ok-new.ensures.same in
    ap (λ (t : TiersView). key_at t.world.array block) kept ∙ c.in_ok-tiers.ensures.map was keys has outlives block
