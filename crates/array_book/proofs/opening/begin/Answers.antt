use Rattle.std.proofs.Common.{◌≡◌, [], ◌∷◌, rules, sym, subst}
use Rattle.history.specs.Entries.{entry}
use Rattle.array_book.specs.Acts.{Opens, IsEndOf}
use Rattle.array_book.proofs.Idled.{opened}
use Rattle.array_book.proofs.opening.begin.Goals as goal

pub returns-clause-course : goal.returns-clause-course
returns-clause-course g c =
    let log : c.note.new.self.log ≡ entry 0 (Opens c.args.array.now) ∷ [] = search rules in
    subst (λ l. IsEndOf l c.args.array.now) (sym log) (opened 0 c.args.array.now c.requires.shows)
