use Rattle.std.proofs.Common.{subst}
use Rattle.array_book.specs.Kept.{KeptView, Agrees}
use Rattle.array_book.proofs.Shown.{agrees_with}
use Rattle.array_book.proofs.kept.Kept.matches.Goals as goal

pub returns-clause-agrees : goal.returns-clause-agrees
returns-clause-agrees g c =
    subst (λ (k : KeptView). Agrees k.array) c.self.view_is (agrees_with c.self.inside.array c.self.invariant.0.flat c.whole.ensures c.self.invariant.0.shows)
