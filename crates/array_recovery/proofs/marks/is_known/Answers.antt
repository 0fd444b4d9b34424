use Rattle.std.proofs.Common.{◌≡◌, ◌∙◌, false, true, sym}
use Rattle.vault.specs.declared.store.UnitRead.TheVariants.{Absent, Rotten, Whole}
use Rattle.array_recovery.proofs.marks.is_known.Goals as goal

pub returns-in-Whole : goal.returns-in-Whole
returns-in-Whole c = (λ known. c.in-Whole.is, λ none. (let never : Whole ≡ Absent = sym c.in-Whole.is ∙ none in cc))

pub returns-in-Rotten : goal.returns-in-Rotten
returns-in-Rotten c = (λ known. absurd (let never : false ≡ true = known in cc), λ none. (let never : Rotten ≡ Absent = sym c.in-Rotten.is ∙ none in cc))
