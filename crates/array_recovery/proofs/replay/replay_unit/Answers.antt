use Rattle.std.proofs.Common.{◌≡◌, ◌<◌, Some, length, sym, ◌∙◌, ap, subst, refl, arith}
use Rattle.std.specs.Prelude.{slice_get, slice_set}
use Rattle.std.proofs.lemmas.Option.{slice_get_read}
use Rattle.extents.specs.Condition.{Held}
use Rattle.extents.specs.Units.{AreUnitsSized}
use Rattle.extents.specs.declared.mem_drive.Condition.TheVariants.{Present}
use Rattle.rotten_units.proofs.Loading.{get_is, unit_size}
use Rattle.array_recovery.proofs.Loading.{formed_set, units_set}
use Rattle.array_recovery.proofs.replay.replay_unit.Goals as goal

pub returns-clause-formed : goal.returns-clause-formed
returns-clause-formed c = λ count size formed.
    let caches = c.args.caches.now in
    let number = c.args.place.drive in
    let was = c.index-caches-number.result in
    let at : slice_get caches number ≡ Some was = slice_get_read caches (length caches) number was refl (omega (arith, c.if-number-caches.false)) c.index-caches-number.is in
    let inside : c.args.place.address < length was.units = (let units = c.units.ensures ∙ ap (λ (h : Held). length h.units) (get_is caches number _ was at) in omega (arith, c.if-address-units.false, units)) in
    let long : length c.args.unit.now ≡ size =
    c.if-unit-unit_bytes.false ∙ unit_size size c.unit_bytes.result c.args.place.address was.units inside (formed.sized number was at)
    (subst (λ (h : Held). AreUnitsSized c.unit_bytes.result h.units) (get_is caches number _ was at) c.unit_bytes.ensures) in
    let third = get_is caches number c.index-caches-number-3.result was at in
    let present = subst (λ (h : Held). h.condition ≡ Present) (sym third) (formed.present number was at) in
    let written = c.put.ensures.written present ∙ ap (λ (h : Held). slice_set h.units c.args.place.address c.args.unit.now) third in
    formed_set count size caches formed number c.args.place.address was c.put.new.cache c.args.unit.now at inside long (c.put.ensures.present present) written

pub returns-clause-units : goal.returns-clause-units
returns-clause-units c = λ count size d formed have.
    let caches = c.args.caches.now in
    let number = c.args.place.drive in
    let was = c.index-caches-number.result in
    let at : slice_get caches number ≡ Some was = slice_get_read caches (length caches) number was refl (omega (arith, c.if-number-caches.false)) c.index-caches-number.is in
    let inside : c.args.place.address < length was.units = (let units = c.units.ensures ∙ ap (λ (h : Held). length h.units) (get_is caches number _ was at) in omega (arith, c.if-address-units.false, units)) in
    let long : length c.args.unit.now ≡ size =
    c.if-unit-unit_bytes.false ∙ unit_size size c.unit_bytes.result c.args.place.address was.units inside (formed.sized number was at)
    (subst (λ (h : Held). AreUnitsSized c.unit_bytes.result h.units) (get_is caches number _ was at) c.unit_bytes.ensures) in
    let third = get_is caches number c.index-caches-number-3.result was at in
    let present = subst (λ (h : Held). h.condition ≡ Present) (sym third) (formed.present number was at) in
    let written = c.put.ensures.written present ∙ ap (λ (h : Held). slice_set h.units c.args.place.address c.args.unit.now) third in
    units_set count size caches formed number c.args.place.address was c.put.new.cache c.args.unit.now at inside long (c.put.ensures.present present) written
    c.args.lost.now d (sym c.is_lost.ensures ∙ c.if-is_lost.false) have
