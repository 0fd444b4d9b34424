-- A run that is one call longer.
use Rattle.std.proofs.Common.{◌≡◌, ℕ, List, [], ◌∷◌, ◌++◌, length, ap, ◌∙◌}
use Rattle.history.specs.declared.view.Entry.{Entry}
use Rattle.tests_history.specs.Calls.{Appended, AppendsAll}

pub runs_more : (bytes after : List ℕ) (es : List (Entry Appended)) (e : Entry Appended) → AppendsAll bytes es after → e.what.place ≡ length after
    → AppendsAll bytes (es ++ e ∷ []) (after ++ e.what.item)
runs_more bytes after [] e r p = (p ∙ ap length r, ap (λ l. l ++ e.what.item) r)
runs_more bytes after (x ∷ es) e r p = (r.0, runs_more (bytes ++ x.what.item) after es e r.1 p)
