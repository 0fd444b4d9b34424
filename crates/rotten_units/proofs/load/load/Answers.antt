use Rattle.std.proofs.Common.{◌≡◌, ◌+◌, ◌*◌, ◌<◌, ◌∙◌, inl, inr, length, ap, subst}
use Rattle.std.proofs.lemmas.List.{length-replicate}
use Rattle.extents.specs.Sizes.{extent_units}
use Rattle.rotten_units.proofs.load.load.Goals as goal

pub returns-clause-inside : goal.returns-clause-inside
returns-clause-inside g c = λ x n.
    let count = c.args.shape.now.extents * extent_units c.args.shape.now.segments in
    let long : length c.in_ok-cache.cache.units ≡ count = ap length c.in_ok-cache.ensures.units ∙ length-replicate count _ in
    elim (c.in_ok-fill.ensures.inside x n) [ inl was ↦ inl was | inr is ↦ inr (is.0, subst (λ k. x.address < k) long is.1) ]
