-- A history that is one call longer.
use Rattle.std.proofs.Common.{◌≡◌, ◌≢◌, ℕ, List, [], ◌∷◌, ◌++◌, Bool, true, false, eq-eqb, ne_eqb, refl, ap, sym, ◌∙◌, append_assoc}
use Rattle.std.specs.Prelude.{◌==◌}
use Rattle.history.specs.declared.view.Entry.{Entry}
use Rattle.history.specs.Entries.{entry, cons_if, entries_by, StartsWith, Carried, Extends}

module _ {E : Type 0} where
  cons_snoc : (b : Bool) (e : Entry E) (es fs : List (Entry E)) → cons_if b e (es ++ fs) ≡ cons_if b e es ++ fs
  cons_snoc true e es fs = refl
  cons_snoc false e es fs = refl

  pub entries_more : (n : ℕ) (es : List (Entry E)) (e : Entry E) → entries_by n (es ++ e ∷ []) ≡ entries_by n es ++ cons_if (e.by == n) e []
  entries_more n [] e = refl
  entries_more n (x ∷ es) e = ap (cons_if (x.by == n) x) (entries_more n es e) ∙ cons_snoc (x.by == n) x (entries_by n es) (cons_if (e.by == n) e [])

  append_none : (es : List (Entry E)) → es ++ [] ≡ es
  append_none [] = refl
  append_none (e ∷ es) = ap (λ l. e ∷ l) (append_none es)

  pub entries_own : (n : ℕ) (es : List (Entry E)) (e : Entry E) → e.by ≡ n → entries_by n (es ++ e ∷ []) ≡ entries_by n es ++ e ∷ []
  entries_own n es e is = entries_more n es e ∙ ap (λ b. entries_by n es ++ cons_if b e []) (eq-eqb e.by n is)

  pub entries_other : (n : ℕ) (es : List (Entry E)) (e : Entry E) → e.by ≢ n → entries_by n (es ++ e ∷ []) ≡ entries_by n es
  entries_other n es e ne = entries_more n es e ∙ (ap (λ b. entries_by n es ++ cons_if b e []) (ne_eqb e.by n ne) ∙ append_none (entries_by n es))

  pub starts_more : (log seen more : List (Entry E)) → StartsWith log seen → StartsWith (log ++ more) seen
  starts_more log seen more s = (s.0 ++ more, ap (λ l. l ++ more) s.1 ∙ append_assoc seen s.0 more)

  pub starts_self : (log : List (Entry E)) → StartsWith log log
  starts_self log = ([], sym (append_none log))

  pub extends : (v w : Carried E) (log : List (Entry E)) (what : E) → StartsWith log v.seen → w.seen ≡ log ++ entry v.number what ∷ []
      → w.mine ≡ v.mine ++ entry v.number what ∷ [] → w.number ≡ v.number → Extends v what w
  extends v w log what starts seen mine number = record {
    between = starts.0;
    seen = seen ∙ ap (λ l. l ++ entry v.number what ∷ []) starts.1;
    mine = mine;
    number = number;
  }
