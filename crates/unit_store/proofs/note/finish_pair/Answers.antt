use Rattle.std.proofs.Common.{inl, inr, refl, sym, ◌∙◌, ap, subst}
use Rattle.std.proofs.lemmas.Option.{same_Some}
use Rattle.extent_groups.specs.declared.place.Place.{Place}
use Rattle.extent_groups.specs.Stores.{IsOwn}
use Rattle.extent_groups.proofs.DriveCalls.{keeps_place, keeps_trans}
use Rattle.extent_groups.proofs.Sites.{site_places}
use Rattle.extent_groups.proofs.StoreCalls.{site_whole}
use Rattle.unit_store.proofs.Finished.{finished_two}
use Rattle.unit_store.proofs.note.finish_pair.Goals as goal

pub write_own-first-requires-clause-place : goal.write_own-first-requires-clause-place
write_own-first-requires-clause-place g c = site_places _ _ _ c.args.slot _ c.pair_of.ensures.groups c.requires.drives c.pair_of.ensures.site _ (inl refl)

pub write_own-first-requires-clause-own : goal.write_own-first-requires-clause-own
write_own-first-requires-clause-own g c = (_, c.pair_of.ensures.site, inl refl)

pub write_own-second-requires-clause-place : goal.write_own-second-requires-clause-place
write_own-second-requires-clause-place g c =
    keeps_place c.write_own-first.ensures.touched (site_places _ _ _ c.args.slot _ c.pair_of.ensures.groups c.requires.drives c.pair_of.ensures.site _ (inr refl))

pub write_own-second-requires-clause-own : goal.write_own-second-requires-clause-own
write_own-second-requires-clause-own g c = (_, c.pair_of.ensures.site, inr refl)

pub returns-clause-finished : goal.returns-clause-finished
returns-clause-finished g c =
    finished_two _ _ _ _ c.args.slot c.pair_of.result.0 c.pair_of.result.1 c.args.unit.now c.args.unit.now (λ x. c.args.unit.now) _ _
    (λ x own. subst (λ s. IsOwn s x) (same_Some _ _ (sym own.1 ∙ c.pair_of.ensures.site)) own.2)
    (_, c.pair_of.ensures.site, inl refl) (_, c.pair_of.ensures.site, inr refl)
    (λ same. site_whole _ c.args.slot _ c.pair_of.ensures.groups c.pair_of.ensures.site (ap (λ (x : Place). x.drive) same))
    refl refl c.write_own-first.ensures.written c.write_own-second.ensures.written

pub returns-clause-touched : goal.returns-clause-touched
returns-clause-touched g c = keeps_trans c.write_own-first.ensures.touched c.write_own-second.ensures.touched

pub returns-clause-site : goal.returns-clause-site
returns-clause-site g c = (c.pair_of.result.0, c.pair_of.result.1, c.pair_of.ensures.site)
