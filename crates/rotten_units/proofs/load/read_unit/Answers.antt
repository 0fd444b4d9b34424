use Rattle.std.proofs.Common.{◌≡◌, ◌∙◌, ℕ, inl, inr, is_some, List, length, refl, sym, ap, subst}
use Rattle.std.specs.Prelude.{slice_get}
use Rattle.std.proofs.lemmas.Result.{on_ok_weaker}
use Rattle.extents.specs.Units.{AreUnitsSized}
use Rattle.extent_groups.specs.declared.place.Place.{Place}
use Rattle.extent_groups.proofs.Places.{get-set_other, get-set_same}
use Rattle.vault.specs.Images.{Image}
use Rattle.vault.specs.declared.store.UnitRead.TheVariants.{Rotten, Whole}
use Rattle.rotten_units.proofs.Loading.{long_set, rotten_there, says, sized_set, whole_found}
use Rattle.rotten_units.proofs.load.read_unit.Goals as goal

pub returns-in_err-read_unit-clause-read : goal.returns-in_err-read_unit-clause-read
returns-in_err-read_unit-clause-read g c = λ known. record { finds = c.read_unit.ensures.seen known; time = c.read_unit.ensures.time known }

pub returns-in-Whole-clause-read : goal.returns-in-Whole-clause-read
returns-in-Whole-clause-read g c = λ known. record { finds = c.read_unit.ensures.seen known; time = c.read_unit.ensures.time known }

pub returns-in-Whole-clause-form : goal.returns-in-Whole-clause-form
returns-in-Whole-clause-form g c =
    let written = c.put.ensures.written c.requires.present in
    record {
      present = c.put.ensures.present c.requires.present;
      many = ap length written ∙ long_set c.args.cache.now.units c.args.place.address c.read_unit.new.out;
      sized = subst (λ (u : List (List ℕ)). AreUnitsSized (length c.args.unit.now) u) (sym written)
          (sized_set (length c.args.unit.now) c.args.cache.now.units c.args.place.address c.read_unit.new.out c.requires.inside c.requires.size c.read_unit.auto.out);
    }

pub returns-in_err-read_unit-clause-form : goal.returns-in_err-read_unit-clause-form
returns-in_err-read_unit-clause-form g c = record { present = c.requires.present; many = refl; sized = c.requires.size }

pub returns-in-Rotten-clause-form : goal.returns-in-Rotten-clause-form
returns-in-Rotten-clause-form g c = record { present = c.requires.present; many = refl; sized = c.requires.size }

pub returns-in-Absent-clause-form : goal.returns-in-Absent-clause-form
returns-in-Absent-clause-form g c = record { present = c.requires.present; many = refl; sized = c.requires.size }

pub returns-in-Whole-clause-others : goal.returns-in-Whole-clause-others
returns-in-Whole-clause-others g c = λ k ne.
    ap (λ (u : List (List ℕ)). slice_get u k) (c.put.ensures.written c.requires.present) ∙ get-set_other c.args.cache.now.units c.args.place.address k c.read_unit.new.out ne

pub returns-in-Whole-clause-found : goal.returns-in-Whole-clause-found
returns-in-Whole-clause-found g c = λ known.
    let found = whole_found (Image.cells (g.V.Vault.seen c.args.vault.now)) c.args.place c.read_unit.new.out c.in_ok-read_unit.field-0 c.in-Whole.is (c.in_ok-read_unit.ensures.found known) in
    record {
      there = ap (λ o. is_some o) found;
      found = λ out. found
          ∙ sym (ap (λ (u : List (List ℕ)). slice_get u c.args.place.address) (c.put.ensures.written c.requires.present) ∙ get-set_same c.args.cache.now.units c.args.place.address c.read_unit.new.out c.requires.inside);
      digest = λ out. says (g.V.Vault.attested c.args.vault.now c.args.place) c.in_ok-read_unit.field-0 Whole c.in-Whole.is (c.in_ok-read_unit.ensures.attested known);
    }

pub returns-in-Rotten-clause-read : goal.returns-in-Rotten-clause-read
returns-in-Rotten-clause-read g c = λ known. record { finds = c.read_unit.ensures.seen known; time = c.read_unit.ensures.time known }

pub returns-in-Rotten-clause-rotten : goal.returns-in-Rotten-clause-rotten
returns-in-Rotten-clause-rotten g c = λ known.
    let never = says (g.V.Vault.attested c.args.vault.now c.args.place) c.in_ok-read_unit.field-0 Rotten c.in-Rotten.is (c.in_ok-read_unit.ensures.attested known) in
    on_ok_weaker c.note.result
    (λ only x n. elim (only x n) [ inl was ↦ inl was | inr is ↦ inr (subst (λ (y : Place). g.V.Vault.attested c.args.vault.now y → ⊥) is never) ]) c.note.ensures.only

pub returns-in-Rotten-clause-found : goal.returns-in-Rotten-clause-found
returns-in-Rotten-clause-found g c = λ known.
    on_ok_weaker c.note.result
    (λ has. record {
      there = rotten_there (Image.cells (g.V.Vault.seen c.args.vault.now)) c.args.place c.read_unit.new.out c.in_ok-read_unit.field-0 c.in-Rotten.is (c.in_ok-read_unit.ensures.found known);
      found = λ out. absurd (out has);
      digest = λ out. absurd (out has);
    })
    c.note.ensures.noted

pub returns-in-Absent-clause-read : goal.returns-in-Absent-clause-read
returns-in-Absent-clause-read g c = λ known. record { finds = c.read_unit.ensures.seen known; time = c.read_unit.ensures.time known }

pub returns-in-Whole-clause-only : goal.returns-in-Whole-clause-only
returns-in-Whole-clause-only g c = λ x n. inl n

pub returns-in-Rotten-clause-only : goal.returns-in-Rotten-clause-only
returns-in-Rotten-clause-only g c = c.note.ensures.only
